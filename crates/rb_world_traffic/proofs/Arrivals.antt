-- A lane with more arrivals.
use Rattle.std.proofs.{Common.{◌≡◌, ℕ, zero, suc, ◌+◌, ◌<◌, ◌≤◌, Bool, true, false, cond, Some, List, [], ◌∷◌, ◌++◌, All, filter, get_or, length, map, slice_get, take, refl, sym, ap, ◌∙◌, subst, arith, append_assoc, length-append}, lemmas.List.{append-nil, take_more}, lemmas.List.Elements.{All-append, All-cons, All-nil, filter_map-append}, lemmas.Option.slice_get_past}
use Rattle.std.specs.{Prelude.{unwrap_or, slice_set}, List.{cons_option, flat_map, range_with_len}}
use Rattle.rb_base.specs.{Nodes.{Side, other}, Sizes.Sizes, declared.node.NodeName.NodeName}
use Rattle.rb_rules.specs.{declared.say.Say.Say, Behavior.Said, Book.Each, Clock.Timeline, Entries.IsListed, Goodness.{Scenario, clock_of, is_good}, Hearing.{Coming, Span, is_heard, said_by}, Lawful.{IsLawful, IsNodeOf, kind_of}, Links.name_of, Slots.count_of, WorldStep.{Site, at_node, says_in}}
use Rattle.rb_queue.specs.Waiting.{HasLane, Held, empty_lane, lane_of, spare_of, with_arrival, with_lane}
use Rattle.rb_world_agenda.specs.Holding.{HoldsSite, HoldsSites}
use Rattle.rb_world_agenda.proofs.{Changes.holds-at, Keeping.{has-with, lane-with}}
use Rattle.rb_world_traffic.specs.{Arriving.number_of, Saying.{AreFor, Brings, KeptSayings, SaysTo, all_brought, brought, entries_at, entries_to, hears, is_said_in, kept_of, senders_to, with_arrivals}}
use Rattle.rb_world_traffic.proofs.{Heard.as_coming, Says.{brought-append, says-are}}
use Rattle.rb_base.specs.declared.node.NodeName.TheVariants as node

-- Lanes.
set-same : (xs : List Held) (i : ℕ) (x : Held) → i < length xs → x ≡ unwrap_or (slice_get xs i) (empty_lane 0) → slice_set xs i x ≡ xs
set-same [] i x h is = absurd (omega arith)
set-same (y ∷ xs) zero x h is = ap (λ z. z ∷ xs) is
set-same (y ∷ xs) (suc i) x h is = ap (λ l. y ∷ l) (set-same xs i x (omega arith) is)

set-set : (xs : List Held) (i : ℕ) (x y : Held) → slice_set (slice_set xs i x) i y ≡ slice_set xs i y
set-set [] i x y = refl
set-set (z ∷ xs) zero x y = refl
set-set (z ∷ xs) (suc i) x y = ap (λ l. z ∷ l) (set-set xs i x y)

lane-same : (lanes : Each Held) (to : NodeName) (lane : Held) → HasLane lanes to → lane ≡ lane_of lanes to → with_lane to lane lanes ≡ lanes
lane-same lanes (node.Biu i) lane h is = ap (λ ls. record lanes { bius = ls }) (set-same lanes.bius i lane h is)
lane-same lanes (node.Rmu i) lane h is = ap (λ ls. record lanes { rmus = ls }) (set-same lanes.rmus i lane h is)

pub lane-again : (lanes : Each Held) (to : NodeName) (x y : Held) → with_lane to y (with_lane to x lanes) ≡ with_lane to y lanes
lane-again lanes (node.Biu i) x y = ap (λ ls. record lanes { bius = ls }) (set-set lanes.bius i x y)
lane-again lanes (node.Rmu i) x y = ap (λ ls. record lanes { rmus = ls }) (set-set lanes.rmus i x y)

-- to add no arrivals leaves the lane as it is
pub with-nothing : (lanes : Each Held) (to : NodeName) → HasLane lanes to → with_lane to (with_arrivals [] (lane_of lanes to)) lanes ≡ lanes
with-nothing lanes to h = lane-same lanes to (with_arrivals [] (lane_of lanes to)) h (ap (λ e. record (lane_of lanes to) { arrivals = e }) (append-nil (lane_of lanes to).arrivals))

-- to add arrivals and then more adds both
pub with-both : (lanes now : Each Held) (to : NodeName) (xs ys : List Coming) → HasLane lanes to → now ≡ with_lane to (with_arrivals xs (lane_of lanes to)) lanes
    → with_lane to (with_arrivals ys (lane_of now to)) now ≡ with_lane to (with_arrivals (xs ++ ys) (lane_of lanes to)) lanes
with-both lanes now to xs ys h is =
    let l : Held = lane_of lanes to in
    let first : Held = with_arrivals xs l in
    let lane : lane_of now to ≡ first = ap (λ x. lane_of x to) is ∙ lane-with lanes to first h in
    let all : (l.arrivals ++ xs) ++ ys ≡ l.arrivals ++ (xs ++ ys) = append_assoc l.arrivals xs ys in
    ap (λ x. with_lane to (with_arrivals ys x) now) lane ∙ ap (with_lane to (with_arrivals ys first)) is ∙ lane-again lanes to first (with_arrivals ys first)
    ∙ ap (λ e. with_lane to (record l { arrivals = e }) lanes) all

-- one arrival more takes one place
pub one-place : (lanes new : Each Held) (to : NodeName) (p : Coming) → HasLane lanes to → new ≡ with_lane to (with_arrival p (lane_of lanes to)) lanes
    → HasLane new to × (spare_of (lane_of lanes to) ≤ spare_of (lane_of new to) + 1)
one-place lanes new to p h is =
    let l : Held = lane_of lanes to in
    let lane : lane_of new to ≡ with_arrival p l = ap (λ x. lane_of x to) is ∙ lane-with lanes to (with_arrival p l) h in
    let long : length (l.arrivals ++ p ∷ []) ≡ length l.arrivals + 1 = length-append l.arrivals (p ∷ []) in
    let less : spare_of l ≤ spare_of (with_arrival p l) + 1 = omega arith in
    (subst (λ x. HasLane x to) (sym is) (has-with lanes to to (with_arrival p l) h), subst (λ x. spare_of l ≤ spare_of x + 1) (sym lane) less)

-- Entries.

-- an entry brings its message if it is said in the span
pub one-brought : (sc : Scenario) (clock : Timeline) (span : Span) (s : Say) (b : Bool) → is_said_in sc span s ≡ b
    → all_brought sc clock span (s ∷ []) ≡ cond b (brought sc.plan.version clock span s ∷ []) []
one-brought sc clock span s b e =
    ap (λ b. map (brought sc.plan.version clock span) (cond b (s ∷ []) [])) e ∙ go b
  where
    go : (b : Bool) → map (brought sc.plan.version clock span) (cond b (s ∷ []) []) ≡ cond b (brought sc.plan.version clock span s ∷ []) []
    go true = refl
    go false = refl

-- The world.
holds-arrivals : (sizes : Sizes) (me : Side) (lane : Held) (s : Site) (cs : List Coming) → HoldsSite sizes me lane s → All (λ c. c.from < count_of (other me) sizes) cs
    → HoldsSite sizes me (with_arrivals cs lane) (record s { coming = s.coming ++ cs })
holds-arrivals sizes me lane s cs holds small = record {
  coming = ap (λ l. l ++ cs) holds.coming;
  ahead = holds.ahead;
  senders = All-append (λ c. c.from < count_of (other me) sizes) s.coming cs holds.senders small;
}

-- all that is said comes from nodes of the bus
small-of : (top j : ℕ) (says : List Said) → j < top → All (λ c. c.from < top) (map (as_coming j) says)
small-of top j [] h = All-nil (λ c. c.from < top)
small-of top j (s ∷ says) h =
    All-cons (λ c. c.from < top) (as_coming j s) (map (as_coming j) says) h (small-of top j says h)

small-from : (top : ℕ) (sc : Scenario) (me : Side) (i a n : ℕ) (span : Span) → a + n ≤ top
    → All (λ c. c.from < top)
    (flat_map (λ j. elim (is_good sc (other me) j span.place.frame span.place.slot) as (λ _. List Coming) [ true ↦ [] | false ↦ said_by sc me i span j ]) (range_with_len a n))
small-from top sc me i a zero span h = All-nil (λ c. c.from < top)
small-from top sc me i a (suc n) span h =
    let one : (g : Bool) → All (λ c. c.from < top) (elim g as (λ _. List Coming) [ true ↦ [] | false ↦ said_by sc me i span a ]) =
    λ g. elim g as (λ g. All (λ c. c.from < top) (elim g as (λ _. List Coming) [ true ↦ [] | false ↦ said_by sc me i span a ])) [
      | true ↦ All-nil (λ c. c.from < top)
      | false ↦ small-of top a (filter (is_heard sc me i span a) (sc.behavior me i span a)) (omega arith)
    ] in
    All-append (λ c. c.from < top) (elim (is_good sc (other me) a span.place.frame span.place.slot) as (λ _. List Coming) [ true ↦ [] | false ↦ said_by sc me i span a ])
    (flat_map (λ j. elim (is_good sc (other me) j span.place.frame span.place.slot) as (λ _. List Coming) [ true ↦ [] | false ↦ said_by sc me i span j ]) (range_with_len (a + 1) n))
    (one (is_good sc (other me) a span.place.frame span.place.slot)) (small-from top sc me i (a + 1) n span (omega arith))

says-small : (sc : Scenario) (me : Side) (i : ℕ) (span : Span) → All (λ c. c.from < count_of (other me) sc.sizes) (says_in sc me i span)
unfolding says_in
says-small sc me i span = small-from (count_of (other me) sc.sizes) sc me i 0 (count_of (other me) sc.sizes) span (omega arith)

named : (to : NodeName) → to ≡ name_of (kind_of to) (number_of to)
named (node.Biu i) = refl
named (node.Rmu i) = refl

-- after what is said is pushed the lanes hold the sites of the world
pub said-holds : (sc : Scenario) (lanes new : Each Held) (sites : Each Site) (to : NodeName) (span : Span) → HoldsSites sc.sizes lanes sites → HasLane lanes to
    → new ≡ with_lane to (with_arrivals (says_in sc (kind_of to) (number_of to) span) (lane_of lanes to)) lanes
    → HoldsSites sc.sizes new (at_node (kind_of to) (number_of to) (hears sc to span) sites)
said-holds sc lanes new sites to span holds h is =
    let me : Side = kind_of to in
    let i : ℕ = number_of to in
    let cs : List Coming = says_in sc me i span in
    let n : to ≡ name_of me i = named to in
    let lane : lane_of lanes (name_of me i) ≡ lane_of lanes to = ap (lane_of lanes) (sym n) in
    subst (λ x. HoldsSites sc.sizes x (at_node me i (hears sc to span) sites)) (sym (is ∙ ap (λ m. with_lane m (with_arrivals cs (lane_of lanes to)) lanes) n))
    (holds-at sc.sizes lanes sites me i (with_arrivals cs (lane_of lanes to)) (hears sc to span) holds (subst (HasLane lanes) n h)
    (λ s at its. holds-arrivals sc.sizes me (lane_of lanes to) s cs (subst (λ x. HoldsSite sc.sizes me x s) lane its) (says-small sc me i span)))

-- one more number adds its entry, if there is one
pub entries-more : (says : List Say) (places : List ℕ) (i n : ℕ) → i < length places → n ≡ get_or places i 0
    → entries_at says (take (i + 1) places) ≡ entries_at says (take i places) ++ cons_option (slice_get says n) []
entries-more says places i n h is =
    ap (entries_at says) (take_more places i 0 h) ∙ filter_map-append (slice_get says) (take i places) (get_or places i 0 ∷ [])
    ∙ ap (λ m. entries_at says (take i places) ++ cons_option (slice_get says m) []) (sym is)

-- one more entry was gone through
pub so-far-said : (kept : KeptSayings) (clock : Timeline) (span : Span) (lanes now new : Each Held) (to : NodeName) (places : List ℕ) (i n : ℕ) (s : Say) → HasLane lanes to
    → i < length places → n ≡ get_or places i 0 → slice_get kept.says n ≡ Some s → Brings kept (entries_at kept.says (take i places)) clock to span lanes now
    → Brings kept (s ∷ []) clock to span now new → Brings kept (entries_at kept.says (take (i + 1) places)) clock to span lanes new
so-far-said kept clock span lanes now new to places i n s h within is at so_far more = λ sc kept_is.
    let before : List Say = entries_at kept.says (take i places) in
    let next : entries_at kept.says (take (i + 1) places) ≡ before ++ s ∷ [] = entries-more kept.says places i n within is ∙ ap (λ o. before ++ cons_option o []) at in
    more sc kept_is ∙ with-both lanes now to (all_brought sc clock span before) (all_brought sc clock span (s ∷ [])) h (so_far sc kept_is)
    ∙ ap (λ cs. with_lane to (with_arrivals cs (lane_of lanes to)) lanes) (sym (brought-append sc clock span before (s ∷ [])) ∙ ap (all_brought sc clock span) (sym next))

-- a number without an entry brings nothing
pub so-far-none : (kept : KeptSayings) (clock : Timeline) (span : Span) (lanes now : Each Held) (to : NodeName) (places : List ℕ) (i n : ℕ)
    → i < length places → n ≡ get_or places i 0 → length kept.says ≤ n → Brings kept (entries_at kept.says (take i places)) clock to span lanes now
    → Brings kept (entries_at kept.says (take (i + 1) places)) clock to span lanes now
so-far-none kept clock span lanes now to places i n within is past so_far = λ sc kept_is.
    let before : List Say = entries_at kept.says (take i places) in
    let next : entries_at kept.says (take (i + 1) places) ≡ before =
    entries-more kept.says places i n within is ∙ ap (λ o. before ++ cons_option o []) (slice_get_past kept.says n past) ∙ append-nil before in
    so_far sc kept_is ∙ ap (λ es. with_lane to (with_arrivals (all_brought sc clock span es) (lane_of lanes to)) lanes) (sym next)

-- what the entries for the node bring is what is said to it
pub says-to : (inside kept : KeptSayings) (clock : Timeline) (to : NodeName) (span : Span) (places : List ℕ) (before after : Each Held) → inside ≡ kept → HasLane before to
    → IsNodeOf kept.faults.sizes to → AreFor kept.says to (senders_to kept.faults.sizes to) places → Brings inside (entries_at inside.says places) clock to span before after → SaysTo kept clock to span before after
says-to inside kept clock to span places before after same h its are brings = record {
  lanes = lanes;
  world = λ sc sites lawful listed is clock_is holds. said-holds sc before after sites to span holds h (lanes sc lawful listed is clock_is);
}
  where
    lanes : (sc : Scenario) → IsLawful sc → IsListed sc → kept ≡ kept_of sc → clock ≡ clock_of sc (kind_of to) (number_of to)
        → after ≡ with_lane to (with_arrivals (says_in sc (kind_of to) (number_of to) span) (lane_of before to)) before
    lanes sc lawful listed is clock_is =
        let entries : entries_at inside.says places ≡ entries_to to (senders_to sc.sizes to) sc.says =
        ap (λ (k : KeptSayings). entries_at k.says places) same ∙ are.entries ∙ ap (λ (k : KeptSayings). entries_to to (senders_to k.faults.sizes to) k.says) is in
        let all : all_brought sc clock span (entries_at inside.says places) ≡ says_in sc (kind_of to) (number_of to) span =
        ap (all_brought sc clock span) entries ∙ ap (λ t. all_brought sc t span (entries_to to (senders_to sc.sizes to) sc.says)) clock_is ∙ sym (says-are sc lawful listed to (subst (λ (k : KeptSayings). IsNodeOf k.faults.sizes to) is its) span) in
        brings sc (same ∙ is) ∙ ap (λ cs. with_lane to (with_arrivals cs (lane_of before to)) before) all
