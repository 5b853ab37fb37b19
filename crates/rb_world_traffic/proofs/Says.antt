-- What the entries for a node bring in a window is what is said to it.
use Rattle.std.proofs.{Common.{◌≡◌, ℕ, zero, suc, ◌+◌, ◌-◌, ◌<◌, ◌&&◌, ◌||◌, not, nat_le, Bool, true, false, cond, List, [], ◌∷◌, ◌++◌, drop, filter, get_or, length, map, slice_get, take, refl, sym, ap, ◌∙◌, arith}, lemmas.Bool.{or_from, or_parts}, lemmas.Bool.Decides.nat_tests, lemmas.List.{map-append, take_more}, lemmas.List.Elements.{filter-append, filter_map-append}, lemmas.List.Sums.fold-append}
use Rattle.std.specs.{Prelude.{max, min}, List.{flat_map, fold, list_any, range_with_len}}
use Rattle.rb_base.specs.{Nodes.{Side, other}, Nodes.Side.{Biu, Rmu}, declared.node.NodeName.NodeName, declared.values.Place.Place}
use Rattle.rb_base.proofs.Plain.{and-false, and-true, and_first}
use Rattle.rb_rules.specs.{declared.say.Say.Say, Clock.{Timeline, time_of}, Entries.{IsListed, bytes_of, is_said}, Goodness.{Scenario, clock_of, is_good}, Hearing.{Coming, Span, said_by}, Lawful.{IsLawful, IsNodeOf, is_node_good, kind_of}, Links.{covers, is_in_range, name_of, same_node, stands_for}, Slots.count_of, WorldStep.says_in}
use Rattle.rb_rules.proofs.Slots.{same_node-is}
use Rattle.rb_world_traffic.specs.{Arriving.number_of, Saying.{all_brought, brought, entries_at, entries_to, first_frame, is_between, is_for, is_said_in, last_frame, later_frame, senders_to, sooner_frame}}
use Rattle.rb_world_traffic.proofs.Heard.{coming_said, listed-said}
use Rattle.rb_base.specs.declared.node.NodeName.TheVariants as node

pub brought-append : (sc : Scenario) (clock : Timeline) (span : Span) (xs ys : List Say) → all_brought sc clock span (xs ++ ys) ≡ all_brought sc clock span xs ++ all_brought sc clock span ys
brought-append sc clock span xs ys =
    ap (map (brought sc.plan.version clock span)) (filter-append (is_said_in sc span) xs ys)
    ∙ map-append (brought sc.plan.version clock span) (filter (is_said_in sc span) xs) (filter (is_said_in sc span) ys)

-- One sender.
pub good-of : (sc : Scenario) (side : Side) (j frame slot : ℕ) → is_node_good sc (name_of side j) frame slot ≡ is_good sc side j frame slot
good-of sc Biu j frame slot = refl
good-of sc Rmu j frame slot = refl

pub number-of : (side : Side) (j : ℕ) → number_of (name_of side j) ≡ j
number-of Biu j = refl
number-of Rmu j = refl

map-cond : (f : Say → Coming) (b : Bool) (x : Say) (xs : List Say) → map f (cond b (x ∷ xs) xs) ≡ cond b (f x ∷ map f xs) (map f xs)
map-cond f true x xs = refl
map-cond f false x xs = refl

-- if the sender is not good, the entries between the two nodes bring what it says
one-said : (sc : Scenario) (me : Side) (i j : ℕ) (span : Span) (says : List Say) → is_good sc (other me) j span.place.frame span.place.slot ≡ false
    → map (coming_said sc.plan.version (clock_of sc me i) j span) (filter (is_said me i j span) says)
    ≡ all_brought sc (clock_of sc me i) span (filter (is_between (name_of (other me) j) (name_of me i)) says)
one-said sc me i j span [] bad = refl
one-said sc me i j span (s ∷ says) bad =
    map-cond (coming_said sc.plan.version clock j span) (is_said me i j span s) s (filter (is_said me i j span) says)
    ∙ ap (λ l. cond (is_said me i j span s) (coming_said sc.plan.version clock j span s ∷ l) l) (one-said sc me i j span says bad)
    ∙ go (is_between (name_of (other me) j) (name_of me i) s) refl
  where
    clock : Timeline
    clock = clock_of sc me i

    inside : Bool
    inside = covers s.frames s.slots s.stages span.place

    by_end : Bool
    by_end = nat_le (span.first + s.offset) span.last

    rest : List Say
    rest = filter (is_between (name_of (other me) j) (name_of me i)) says

    go : (b : Bool) → is_between (name_of (other me) j) (name_of me i) s ≡ b
        → cond (b && inside && by_end) (coming_said sc.plan.version clock j span s ∷ all_brought sc clock span rest) (all_brought sc clock span rest)
        ≡ all_brought sc clock span (cond b (s ∷ rest) rest)
    go false e = refl
    go true e =
        let from : s.from ≡ name_of (other me) j = same_node-is s.from (name_of (other me) j) (and_first (same_node s.from (name_of (other me) j)) (stands_for s.to (name_of me i)) e) in
        let number : number_of s.from ≡ j = ap number_of from ∙ number-of (other me) j in
        let good : is_node_good sc s.from span.place.frame span.place.slot ≡ false =
        ap (λ n. is_node_good sc n span.place.frame span.place.slot) from ∙ good-of sc (other me) j span.place.frame span.place.slot ∙ bad in
        let said : is_said_in sc span s ≡ (inside && by_end) = ap (λ g. inside && by_end && not g) good ∙ and-true (inside && by_end) in
        let what : coming_said sc.plan.version clock j span s ≡ brought sc.plan.version clock span s =
        ap (λ k. record { time = time_of clock (span.first + s.offset) - s.early; from = k; bytes = bytes_of sc.plan.version span.place s.content }) (sym number) in
        ap (λ c. cond (inside && by_end) (c ∷ all_brought sc clock span rest) (all_brought sc clock span rest)) what
        ∙ ap (λ b. cond b (brought sc.plan.version clock span s ∷ all_brought sc clock span rest) (all_brought sc clock span rest)) (sym said)
        ∙ sym (map-cond (brought sc.plan.version clock span) (is_said_in sc span s) s (filter (is_said_in sc span) rest))

none-said : (sc : Scenario) (me : Side) (i j : ℕ) (clock : Timeline) (span : Span) (says : List Say) → is_good sc (other me) j span.place.frame span.place.slot ≡ true
    → all_brought sc clock span (filter (is_between (name_of (other me) j) (name_of me i)) says) ≡ []
none-said sc me i j clock span [] good = refl
none-said sc me i j clock span (s ∷ says) good = go (is_between (name_of (other me) j) (name_of me i) s) refl (none-said sc me i j clock span says good)
  where
    rest : List Say
    rest = filter (is_between (name_of (other me) j) (name_of me i)) says

    go : (b : Bool) → is_between (name_of (other me) j) (name_of me i) s ≡ b → all_brought sc clock span rest ≡ [] → all_brought sc clock span (cond b (s ∷ rest) rest) ≡ []
    go false e more = more
    go true e more =
        let from : s.from ≡ name_of (other me) j = same_node-is s.from (name_of (other me) j) (and_first (same_node s.from (name_of (other me) j)) (stands_for s.to (name_of me i)) e) in
        let its : is_node_good sc s.from span.place.frame span.place.slot ≡ true =
        ap (λ n. is_node_good sc n span.place.frame span.place.slot) from ∙ good-of sc (other me) j span.place.frame span.place.slot ∙ good in
        let inside : Bool = covers s.frames s.slots s.stages span.place && nat_le (span.first + s.offset) span.last in
        let said : is_said_in sc span s ≡ false = ap (λ g. inside && not g) its ∙ and-false inside in
        ap (λ b. map (brought sc.plan.version clock span) (cond b (s ∷ filter (is_said_in sc span) rest) (filter (is_said_in sc span) rest))) said ∙ more

by-sender : (sc : Scenario) → IsLawful sc → IsListed sc → (me : Side) (i j : ℕ) → i < count_of me sc.sizes → (span : Span) (g : Bool) → is_good sc (other me) j span.place.frame span.place.slot ≡ g
    → elim g as (λ _. List Coming) [ true ↦ [] | false ↦ said_by sc me i span j ]
    ≡ all_brought sc (clock_of sc me i) span (filter (is_between (name_of (other me) j) (name_of me i)) sc.says)
by-sender sc lawful listed me i j counted span true e = sym (none-said sc me i j (clock_of sc me i) span sc.says e)
by-sender sc lawful listed me i j counted span false e = listed-said sc lawful listed me i counted span j ∙ one-said sc me i j span sc.says e

-- All senders.
by-senders : (sc : Scenario) → IsLawful sc → IsListed sc → (me : Side) (i a n : ℕ) → i < count_of me sc.sizes → (span : Span)
    → flat_map (λ j. elim (is_good sc (other me) j span.place.frame span.place.slot) as (λ _. List Coming) [ true ↦ [] | false ↦ said_by sc me i span j ]) (range_with_len a n)
    ≡ all_brought sc (clock_of sc me i) span (flat_map (λ j. filter (is_between (name_of (other me) j) (name_of me i)) sc.says) (range_with_len a n))
by-senders sc lawful listed me i a zero counted span = refl
by-senders sc lawful listed me i a (suc n) counted span =
    let f : ℕ → List Say = λ j. filter (is_between (name_of (other me) j) (name_of me i)) sc.says in
    let more : List Coming = flat_map (λ j. elim (is_good sc (other me) j span.place.frame span.place.slot) as (λ _. List Coming) [ true ↦ [] | false ↦ said_by sc me i span j ]) (range_with_len (a + 1) n) in
    ap (λ l. l ++ more) (by-sender sc lawful listed me i a counted span (is_good sc (other me) a span.place.frame span.place.slot) refl)
    ∙ ap (λ l. all_brought sc (clock_of sc me i) span (f a) ++ l) (by-senders sc lawful listed me i (a + 1) n counted span)
    ∙ sym (brought-append sc (clock_of sc me i) span (f a) (flat_map f (range_with_len (a + 1) n)))

-- what is said to a node in a window
pub says-are : (sc : Scenario) → IsLawful sc → IsListed sc → (to : NodeName) → IsNodeOf sc.sizes to → (span : Span)
    → says_in sc (kind_of to) (number_of to) span ≡ all_brought sc (clock_of sc (kind_of to) (number_of to)) span (entries_to to (senders_to sc.sizes to) sc.says)
unfolding says_in entries_to
says-are sc lawful listed (node.Biu i) counted span = by-senders sc lawful listed Biu i 0 sc.sizes.rmus counted span
says-are sc lawful listed (node.Rmu i) counted span = by-senders sc lawful listed Rmu i 0 sc.sizes.bius counted span

-- If none of the entries is for the window's place, none is said in it.
pub none-for : (sc : Scenario) (clock : Timeline) (span : Span) (says : List Say) → list_any (is_for span.place) says ≡ false → all_brought sc clock span says ≡ []
none-for sc clock span [] none = refl
none-for sc clock span (s ∷ says) none =
    let parts = or_parts (is_for span.place s) (list_any (is_for span.place) says) none in
    let not_said : is_said_in sc span s ≡ false = ap (λ b. b && nat_le (span.first + s.offset) span.last && not (is_node_good sc s.from span.place.frame span.place.slot)) parts.0 in
    ap (λ b. map (brought sc.plan.version clock span) (cond b (s ∷ filter (is_said_in sc span) says) (filter (is_said_in sc span) says))) not_said
    ∙ none-for sc clock span says parts.1

-- One number more is looked at.
entries-one-more : (says : List Say) (places : List ℕ) (i : ℕ) → i < length places
    → entries_at says (take (i + 1) places) ≡ entries_at says (take i places) ++ entries_at says (get_or places i 0 ∷ [])
entries-one-more says places i within =
    ap (entries_at says) (take_more places i 0 within) ∙ filter_map-append (slice_get says) (take i places) (get_or places i 0 ∷ [])

-- what is gathered goes on with the entry of the next place
pub fold-more : (f : ℕ → Say → ℕ) (a : ℕ) (says : List Say) (places : List ℕ) (i : ℕ) → i < length places
    → fold f a (entries_at says (take (i + 1) places)) ≡ fold f (fold f a (entries_at says (take i places))) (entries_at says (get_or places i 0 ∷ []))
fold-more f a says places i within =
    ap (fold f a) (entries-one-more says places i within) ∙ fold-append f a (entries_at says (take i places)) (entries_at says (get_or places i 0 ∷ []))

-- No entry speaks of a frame before the first, or after the last.
not-for : (s : Say) (place : Place) → is_in_range s.frames place.frame ≡ false → is_for place s ≡ false
not-for s place out = ap (λ b. b && is_in_range s.slots place.slot && is_in_range s.stages place.stage) out

none-before-from : (says : List Say) (a : ℕ) (place : Place) → place.frame < fold sooner_frame a says → (place.frame < a) × (list_any (is_for place) says ≡ false)
none-before-from [] a place before = (before, refl)
none-before-from (s ∷ says) a place before =
    let rest = none-before-from says (min a s.frames.0) place before in
    let small : place.frame < min a s.frames.0 = rest.0 in
    let first : place.frame < a = omega (arith, small) in
    let below : nat_le s.frames.0 place.frame ≡ false = grind (arith, nat_tests, small) in
    (first, or_from (is_for place s) (list_any (is_for place) says) (not-for s place (ap (λ b. b && nat_le place.frame s.frames.1) below)) rest.1)

none-after-from : (says : List Say) (a : ℕ) (place : Place) → fold later_frame a says < place.frame → (a < place.frame) × (list_any (is_for place) says ≡ false)
none-after-from [] a place after = (after, refl)
none-after-from (s ∷ says) a place after =
    let rest = none-after-from says (max a s.frames.1) place after in
    let great : max a s.frames.1 < place.frame = rest.0 in
    let last : a < place.frame = omega (arith, great) in
    let above : nat_le place.frame s.frames.1 ≡ false = grind (arith, nat_tests, great) in
    (last, or_from (is_for place s) (list_any (is_for place) says) (not-for s place (ap (λ b. nat_le s.frames.0 place.frame && b) above ∙ and-false (nat_le s.frames.0 place.frame))) rest.1)

pub none-before : (says : List Say) (place : Place) → place.frame < first_frame says → list_any (is_for place) says ≡ false
none-before says place before = (none-before-from says 4294967296 place before).1

pub none-after : (says : List Say) (place : Place) → last_frame says < place.frame → list_any (is_for place) says ≡ false
none-after says place after = (none-after-from says 0 place after).1
