-- For the law that events are rounds: what a tick of one node does at the nodes that hear of it.
use Rattle.std.proofs.{Common.{◌≡◌, ℕ, suc, ◌+◌, ◌-◌, ◌<◌, ◌≤◌, ◌==◌, ◌⊎◌, nat_lt, Bool, true, false, All, List, [], ◌∷◌, ◌++◌, refl, ap, sym, ◌∙◌, subst, arith, inl, inr, if◌then◌else◌}, lemmas.Bool.eqb-true, lemmas.Bool.Decides.nat_tests, lemmas.List.Elements.{All-head, All-tail}, Math.Path.fun_ext}
use Rattle.rb_base.specs.{Nodes.{Side, other}, Sizes.Sizes, declared.node.NodeName.NodeName, declared.values.Place.Place}
use Rattle.rb_base.proofs.Plain.{differs-turned, eq_self}
use Rattle.rb_rules.specs.{declared.link.Rule.Rule, Clock.time_of, Goodness.{Scenario, clock_of}, Hearing.{Coming, Sending, coming_of, said_by, span_of}, Lawful.{IsLawful, IsRuleOf}, Links.{applies, delay_after, delay_of, name_of}, NodeState.NodeState, Ports.HandIn, Rounds.{Moment, moment, window_in, windows_in}, Slots.count_of, WorldStep.{Timed, Site}}
use Rattle.rb_laws_events.specs.Closing.{stages_in}
use Rattle.rb_laws_events.proofs.{Invariant.{NodeStands, ahead_so_far, entry_of, heard_so_far, is_good_at, last_tick, next_stage}, PendingLists.Hears, Receiving.Receives, SameHeard.Every, SendingLists.{say-next, say-now, say-other}, WorldNodes.known-append}

-- Delays.

delay-least : (sc : Scenario) (delay : ℕ) (rules : List Rule) (from to : NodeName) (place : Place) → sc.plan.dmin ≤ delay → All (IsRuleOf sc) rules
    → sc.plan.dmin ≤ delay_after delay rules from to place
delay-least sc delay [] from to place low all = low
delay-least sc delay (r ∷ rs) from to place low all =
    delay-least sc (if applies r from to place then r.delay else delay) rs from to place (by (applies r from to place)) (All-tail (IsRuleOf sc) r rs all)
  where
    by : (b : Bool) → sc.plan.dmin ≤ (if b then r.delay else delay)
    by true = let its : IsRuleOf sc r = All-head (IsRuleOf sc) r rs all in its.delay.least
    by false = low

-- a message is some time on its way
on-its-way : {sc : _} → IsLawful sc → (from to : NodeName) (place : Place) → 1 ≤ delay_of sc.delays from to place
unfolding delay_of
on-its-way {sc} lawful from to place =
    let some : 1 ≤ sc.plan.dmin = lawful.plan.dmin.0 in
    let low : sc.plan.dmin ≤ delay_after sc.delays.base sc.delays.rules from to place =
    delay-least sc sc.delays.base sc.delays.rules from to place lawful.base_delay.least lawful.rules in
    omega arith

pub way-least : {sc : _} → IsLawful sc → (from to : NodeName) (place : Place) → sc.plan.dmin ≤ delay_of sc.delays from to place
unfolding delay_of
way-least {sc} lawful from to place = delay-least sc sc.delays.base sc.delays.rules from to place lawful.base_delay.least lawful.rules

delay-most : (sc : Scenario) (delay : ℕ) (rules : List Rule) (from to : NodeName) (place : Place) → delay ≤ sc.plan.dmax → All (IsRuleOf sc) rules
    → delay_after delay rules from to place ≤ sc.plan.dmax
delay-most sc delay [] from to place high all = high
delay-most sc delay (r ∷ rs) from to place high all =
    delay-most sc (if applies r from to place then r.delay else delay) rs from to place (by (applies r from to place)) (All-tail (IsRuleOf sc) r rs all)
  where
    by : (b : Bool) → (if b then r.delay else delay) ≤ sc.plan.dmax
    by true = let its : IsRuleOf sc r = All-head (IsRuleOf sc) r rs all in its.delay.greatest
    by false = high

pub way-most : {sc : _} → IsLawful sc → (from to : NodeName) (place : Place) → delay_of sc.delays from to place ≤ sc.plan.dmax
unfolding delay_of
way-most {sc} lawful from to place = delay-most sc sc.delays.base sc.delays.rules from to place lawful.base_delay.greatest lawful.rules

pub comes-after : {sc : _} → IsLawful sc → (me : Side) (i j frame : ℕ) (x : Sending) → time_of (clock_of sc (other me) j) x.tick < (coming_of sc me i j frame x).time
comes-after {sc} lawful me i j frame x =
    let place : Place = record { frame = frame; slot = x.message.slot; stage = x.message.stage } in
    let some : 1 ≤ delay_of sc.delays (name_of (other me) j) (name_of me i) place = on-its-way lawful (name_of (other me) j) (name_of me i) place in
    omega arith

-- What is known of who has sent what.

-- if what was sent stays the same for all sources, the node stands as before
pub stands-same : {sc : Scenario} {hands : List HandIn} {sent : Side → ℕ → ℕ → Bool} (sent2 : Side → ℕ → ℕ → Bool) {now : ℕ} {me : Side} {i p : ℕ} {s : Site} {st : NodeState} {a : Timed}
    → ((j p : ℕ) → sent2 (other me) j p ≡ sent (other me) j p) → NodeStands sc hands sent now me i p s st a → NodeStands sc hands sent2 now me i p s st a
stands-same {sc} {hands} {sent} sent2 {now} {me} {i} {p} {s} {st} {a} same h =
    let m : Moment = moment sc hands p in
    let z : ℕ = next_stage sc.sizes m p in
    let here : (λ j. sent (other me) j p) ≡ (λ j. sent2 (other me) j p) = fun_ext (λ j. sym (same j p)) in
    let next : (λ j. sent (other me) j z) ≡ (λ j. sent2 (other me) j z) = fun_ext (λ j. sym (same j z)) in
    record {
      state = h.state;
      good = h.good;
      stands = h.stands;
      from = h.from;
      receives = subst (λ f. Receives sc me i (last_tick sc m me st) (heard_so_far sc m me i (span_of st (window_in sc m me st)) f)
          (ahead_so_far sc (moment sc hands z) me i (λ j. sent2 (other me) j z)) now s a) here
          (subst (λ g. Receives sc me i (last_tick sc m me st) (heard_so_far sc m me i (span_of st (window_in sc m me st)) (λ j. sent (other me) j p))
          (ahead_so_far sc (moment sc hands z) me i g) now s a) next h.receives);
    }

-- A message goes out.

-- source j0 has sent for moment q, and nothing else has changed
pub record SendsFor (sent sent2 : ℕ → ℕ → Bool) (j0 q : ℕ) : Type 0 where
  pub others : (j p : ℕ) → ((j == j0) ≡ false) → sent2 j p ≡ sent j p
  pub elsewhere : (p : ℕ) → ((p == q) ≡ false) → sent2 j0 p ≡ sent j0 p
  pub before : sent j0 q ≡ false
  pub after : sent2 j0 q ≡ true

differs : (a b : ℕ) → a < b → (b == a) ≡ false
differs a b h = grind (arith, nat_tests)

-- the lists of the source for its moment
heard-before : (sc : Scenario) (m : Moment) (me : Side) (i j : ℕ) (st : NodeState) (sent : ℕ → Bool) → is_good_at sc m (other me) j ≡ true → {b : _} → sent j ≡ b
    → heard_so_far sc m me i (span_of st (window_in sc m me st)) sent j ≡ (elim b as (λ _. List Coming) [ true ↦ entry_of sc m me i j | false ↦ [] ])
heard-before sc m me i j st sent good e =
    ap (λ (g : Bool). elim g as (λ _. List Coming) [ true ↦ elim (sent j) as (λ _. List Coming) [ true ↦ entry_of sc m me i j | false ↦ [] ] | false ↦ said_by sc me i (span_of st (window_in sc m me st)) j ]) good
    ∙ ap (λ (c : Bool). elim c as (λ _. List Coming) [ true ↦ entry_of sc m me i j | false ↦ [] ]) e

ahead-before : (sc : Scenario) (m : Moment) (me : Side) (i j : ℕ) (sent : ℕ → Bool) → is_good_at sc m (other me) j ≡ true → {b : _} → sent j ≡ b
    → ahead_so_far sc m me i sent j ≡ (elim b as (λ _. List Coming) [ true ↦ entry_of sc m me i j | false ↦ [] ])
ahead-before sc m me i j sent good e =
    ap (λ (g : Bool). elim g as (λ _. List Coming) [ true ↦ elim (sent j) as (λ _. List Coming) [ true ↦ entry_of sc m me i j | false ↦ [] ] | false ↦ [] ]) good
    ∙ ap (λ (c : Bool). elim c as (λ _. List Coming) [ true ↦ entry_of sc m me i j | false ↦ [] ]) e

heard-same : (sc : Scenario) (m : Moment) (me : Side) (i j : ℕ) (st : NodeState) (sent sent2 : ℕ → Bool) → sent j ≡ sent2 j
    → heard_so_far sc m me i (span_of st (window_in sc m me st)) sent j ≡ heard_so_far sc m me i (span_of st (window_in sc m me st)) sent2 j
heard-same sc m me i j st sent sent2 e =
    ap (λ (c : Bool). elim (is_good_at sc m (other me) j) as (λ _. List Coming) [ true ↦ elim c as (λ _. List Coming) [ true ↦ entry_of sc m me i j | false ↦ [] ] | false ↦ said_by sc me i (span_of st (window_in sc m me st)) j ]) e

ahead-same : (sc : Scenario) (m : Moment) (me : Side) (i j : ℕ) (sent sent2 : ℕ → Bool) → sent j ≡ sent2 j → ahead_so_far sc m me i sent j ≡ ahead_so_far sc m me i sent2 j
ahead-same sc m me i j sent sent2 e =
    ap (λ (c : Bool). elim (is_good_at sc m (other me) j) as (λ _. List Coming) [ true ↦ elim c as (λ _. List Coming) [ true ↦ entry_of sc m me i j | false ↦ [] ] | false ↦ [] ]) e

-- the message lands in the receiver's window, or it is for its next stage
abbrev pub Lands : Scenario → List HandIn → Side → ℕ → ℕ → ℕ → NodeState → Coming → Type 0
Lands sc hands me i p q st e =
    ((q ≡ p) × (e.time ≤ time_of (clock_of sc me i) (last_tick sc (moment sc hands p) me st)))
    ⊎ ((q ≡ next_stage sc.sizes (moment sc hands p) p) × (time_of (clock_of sc me i) (last_tick sc (moment sc hands p) me st) < e.time))

-- what has been sent to the node of each source for its window and for its next stage
abbrev pub heard_for : Scenario → List HandIn → (Side → ℕ → ℕ → Bool) → Side → ℕ → ℕ → NodeState → ℕ → List Coming
heard_for sc hands sent me i p st j =
    heard_so_far sc (moment sc hands p) me i (span_of st (window_in sc (moment sc hands p) me st)) (λ j. sent (other me) j p) j

abbrev pub ahead_for : Scenario → List HandIn → (Side → ℕ → ℕ → Bool) → Side → ℕ → ℕ → ℕ → List Coming
ahead_for sc hands sent me i p j =
    ahead_so_far sc (moment sc hands (next_stage sc.sizes (moment sc hands p) p)) me i (λ j. sent (other me) j (next_stage sc.sizes (moment sc hands p) p)) j

own-lands : (sc : Scenario) (hands : List HandIn) (sent sent2 : Side → ℕ → ℕ → Bool) (me : Side) (i : ℕ) {p j0 q t : ℕ} (st : NodeState) {e : Coming} {got coming : List Coming}
    → t ≡ time_of (clock_of sc me i) (last_tick sc (moment sc hands p) me st)
    → SendsFor (sent (other me)) (sent2 (other me)) j0 q → e.from ≡ j0 → entry_of sc (moment sc hands q) me i j0 ≡ e ∷ [] → is_good_at sc (moment sc hands q) (other me) j0 ≡ true
    → p < next_stage sc.sizes (moment sc hands p) p → {j : ℕ} → j ≡ j0 → Lands sc hands me i p q st e
    → Hears j t got coming (heard_for sc hands sent me i p st j) (ahead_for sc hands sent me i p j)
    → Hears j t got (coming ++ e ∷ []) (heard_for sc hands sent2 me i p st j) (ahead_for sc hands sent2 me i p j)
own-lands sc hands sent sent2 me i {p} {j0} {q} {t} st {e} {got} {coming} at sends from entry good rise {j} same (inl now) h =
    let its : (e.from == j) ≡ true = ap (λ k. k == j) (from ∙ sym same) ∙ eq_self j in
    let entry_p : entry_of sc (moment sc hands p) me i j ≡ e ∷ [] =
    ap (entry_of sc (moment sc hands p) me i) same ∙ ap (λ q. entry_of sc (moment sc hands q) me i j0) (sym now.0) ∙ entry in
    let good_p : is_good_at sc (moment sc hands p) (other me) j ≡ true =
    ap (is_good_at sc (moment sc hands p) (other me)) same ∙ ap (λ q. is_good_at sc (moment sc hands q) (other me) j0) (sym now.0) ∙ good in
    let was : sent (other me) j p ≡ false = ap (λ j. sent (other me) j p) same ∙ ap (sent (other me) j0) (sym now.0) ∙ sends.before in
    let is : sent2 (other me) j p ≡ true = ap (λ j. sent2 (other me) j p) same ∙ ap (sent2 (other me) j0) (sym now.0) ∙ sends.after in
    let none : heard_so_far sc (moment sc hands p) me i (span_of st (window_in sc (moment sc hands p) me st)) (λ j. sent (other me) j p) j ≡ [] =
    heard-before sc (moment sc hands p) me i j st (λ j. sent (other me) j p) good_p was in
    let one : heard_so_far sc (moment sc hands p) me i (span_of st (window_in sc (moment sc hands p) me st)) (λ j. sent2 (other me) j p) j ≡ e ∷ [] =
    heard-before sc (moment sc hands p) me i j st (λ j. sent2 (other me) j p) good_p is ∙ entry_p in
    let z : ℕ = next_stage sc.sizes (moment sc hands p) p in
    let far : sent (other me) j z ≡ sent2 (other me) j z =
    ap (λ j. sent (other me) j z) same ∙ sym (sends.elsewhere z (differs q z (omega arith))) ∙ sym (ap (λ j. sent2 (other me) j z) same) in
    let ahead : ahead_so_far sc (moment sc hands z) me i (λ j. sent (other me) j z) j ≡ ahead_so_far sc (moment sc hands z) me i (λ j. sent2 (other me) j z) j =
    ahead-same sc (moment sc hands z) me i j (λ j. sent (other me) j z) (λ j. sent2 (other me) j z) far in
    subst (λ l. Hears j t got (coming ++ e ∷ []) l (ahead_so_far sc (moment sc hands z) me i (λ j. sent2 (other me) j z) j)) (sym one)
    (say-now e its (subst (λ t. e.time ≤ t) (sym at) now.1)
    (subst (λ l. Hears j t got coming [] l) ahead
    (subst (λ l. Hears j t got coming l (ahead_so_far sc (moment sc hands z) me i (λ j. sent (other me) j z) j)) none h)))
own-lands sc hands sent sent2 me i {p} {j0} {q} {t} st {e} {got} {coming} at sends from entry good rise {j} same (inr next) h =
    let its : (e.from == j) ≡ true = ap (λ k. k == j) (from ∙ sym same) ∙ eq_self j in
    let z : ℕ = next_stage sc.sizes (moment sc hands p) p in
    let entry_z : entry_of sc (moment sc hands z) me i j ≡ e ∷ [] =
    ap (entry_of sc (moment sc hands z) me i) same ∙ ap (λ q. entry_of sc (moment sc hands q) me i j0) (sym next.0) ∙ entry in
    let good_z : is_good_at sc (moment sc hands z) (other me) j ≡ true =
    ap (is_good_at sc (moment sc hands z) (other me)) same ∙ ap (λ q. is_good_at sc (moment sc hands q) (other me) j0) (sym next.0) ∙ good in
    let was : sent (other me) j z ≡ false = ap (λ j. sent (other me) j z) same ∙ ap (sent (other me) j0) (sym next.0) ∙ sends.before in
    let is : sent2 (other me) j z ≡ true = ap (λ j. sent2 (other me) j z) same ∙ ap (sent2 (other me) j0) (sym next.0) ∙ sends.after in
    let none : ahead_so_far sc (moment sc hands z) me i (λ j. sent (other me) j z) j ≡ [] =
    ahead-before sc (moment sc hands z) me i j (λ j. sent (other me) j z) good_z was in
    let one : ahead_so_far sc (moment sc hands z) me i (λ j. sent2 (other me) j z) j ≡ e ∷ [] =
    ahead-before sc (moment sc hands z) me i j (λ j. sent2 (other me) j z) good_z is ∙ entry_z in
    let near : sent (other me) j p ≡ sent2 (other me) j p =
    ap (λ j. sent (other me) j p) same ∙ sym (sends.elsewhere p (differs-turned q p (differs p q (omega arith)))) ∙ sym (ap (λ j. sent2 (other me) j p) same) in
    let heard = heard-same sc (moment sc hands p) me i j st (λ j. sent (other me) j p) (λ j. sent2 (other me) j p) near in
    subst (λ l. Hears j t got (coming ++ e ∷ []) (heard_so_far sc (moment sc hands p) me i (span_of st (window_in sc (moment sc hands p) me st)) (λ j. sent2 (other me) j p) j) l) (sym one)
    (say-next e its (subst (λ t. t < e.time) (sym at) next.1)
    (subst (λ l. Hears j t got coming (heard_so_far sc (moment sc hands p) me i (span_of st (window_in sc (moment sc hands p) me st)) (λ j. sent2 (other me) j p) j) l) none
    (subst (λ l. Hears j t got coming l (ahead_so_far sc (moment sc hands z) me i (λ j. sent (other me) j z) j)) heard h)))

other-lands : (sc : Scenario) (hands : List HandIn) (sent sent2 : Side → ℕ → ℕ → Bool) (me : Side) (i p : ℕ) {j0 q t : ℕ} (st : NodeState) (e : Coming) {got coming : _}
    → SendsFor (sent (other me)) (sent2 (other me)) j0 q → e.from ≡ j0 → {j : ℕ} → (j == j0) ≡ false
    → Hears j t got coming (heard_for sc hands sent me i p st j) (ahead_for sc hands sent me i p j)
    → Hears j t got (coming ++ e ∷ []) (heard_for sc hands sent2 me i p st j) (ahead_for sc hands sent2 me i p j)
other-lands sc hands sent sent2 me i p {j0} {t} st e {got} {coming} sends from {j} f h =
    let z : ℕ = next_stage sc.sizes (moment sc hands p) p in
    let its : (e.from == j) ≡ false = ap (λ k. k == j) from ∙ differs-turned j j0 f in
    let heard = heard-same sc (moment sc hands p) me i j st (λ j. sent (other me) j p) (λ j. sent2 (other me) j p) (sym (sends.others j p f)) in
    let ahead = ahead-same sc (moment sc hands z) me i j (λ j. sent (other me) j z) (λ j. sent2 (other me) j z) (sym (sends.others j z f)) in
    say-other e its
    (subst (λ l. Hears j t got coming (heard_so_far sc (moment sc hands p) me i (span_of st (window_in sc (moment sc hands p) me st)) (λ j. sent2 (other me) j p) j) l) ahead
    (subst (λ l. Hears j t got coming l (ahead_so_far sc (moment sc hands z) me i (λ j. sent (other me) j z) j)) heard h))

hears-more : (sc : Scenario) (hands : List HandIn) (sent sent2 : Side → ℕ → ℕ → Bool) (me : Side) (i : ℕ) {p j0 q t : ℕ} (st : NodeState) {e : Coming} {got coming : List Coming}
    → t ≡ time_of (clock_of sc me i) (last_tick sc (moment sc hands p) me st)
    → SendsFor (sent (other me)) (sent2 (other me)) j0 q → e.from ≡ j0 → entry_of sc (moment sc hands q) me i j0 ≡ e ∷ [] → is_good_at sc (moment sc hands q) (other me) j0 ≡ true
    → p < next_stage sc.sizes (moment sc hands p) p → Lands sc hands me i p q st e → {j : ℕ}
    → Hears j t got coming (heard_for sc hands sent me i p st j) (ahead_for sc hands sent me i p j)
    → Hears j t got (coming ++ e ∷ []) (heard_for sc hands sent2 me i p st j) (ahead_for sc hands sent2 me i p j)
hears-more sc hands sent sent2 me i {p} {j0} {t} st {e} {got} {coming} at sends from entry good rise lands {j} h =
    let go : (b : Bool) → (j == j0) ≡ b → Hears j t got (coming ++ e ∷ []) (heard_for sc hands sent2 me i p st j) (ahead_for sc hands sent2 me i p j) =
    λ b. elim b as (λ b. (j == j0) ≡ b → Hears j t got (coming ++ e ∷ []) (heard_for sc hands sent2 me i p st j) (ahead_for sc hands sent2 me i p j)) [
      | true ↦ λ f. own-lands sc hands sent sent2 me i st at sends from entry good rise (eqb-true j j0 f) lands h
      | false ↦ λ f. other-lands sc hands sent sent2 me i p st e sends from f h
    ] in
    go (j == j0) refl

every-join : (P : Coming → Type 0) (xs : List Coming) (x : Coming) → Every P xs → P x → Every P (xs ++ x ∷ [])
every-join P [] x a b = (b, tt)
every-join P (y ∷ ys) x a b = (a.0, every-join P ys x a.1 b)

next-later : (sizes : Sizes) (m : Moment) (p : ℕ) → m.window ≤ stages_in sizes → p < next_stage sizes m p
next-later sizes m p h = by (nat_lt (m.window + 1) (stages_in sizes))
  where
    by : (b : Bool) → p < p + (if b then 1 else windows_in sizes + 1 - m.window)
    by true = omega arith
    by false = omega arith

-- the receiver of a message stands where it stood
pub stands-more : {sc : Scenario} {hands : List HandIn} {sent : Side → ℕ → ℕ → Bool} (sent2 : Side → ℕ → ℕ → Bool) {now : ℕ} {me : Side} {i p j0 q : ℕ} {s : Site} {st : NodeState} {a : Timed} {e : Coming}
    → SendsFor (sent (other me)) (sent2 (other me)) j0 q → e.from ≡ j0 → j0 < count_of (other me) sc.sizes → now < e.time
    → entry_of sc (moment sc hands q) me i j0 ≡ e ∷ [] → is_good_at sc (moment sc hands q) (other me) j0 ≡ true
    → Lands sc hands me i p q st e → NodeStands sc hands sent now me i p s st a
    → NodeStands sc hands sent2 now me i p (record s { coming = s.coming ++ e ∷ [] }) st a
stands-more {sc} {hands} {sent} sent2 {now} {me} {i} {p} {s} {st} {a} {e} sends from there after entry good lands h =
    let m : Moment = moment sc hands p in
    let t : ℕ = time_of (clock_of sc me i) (last_tick sc m me st) in
    let r : Receives sc me i (last_tick sc m me st) (heard_for sc hands sent me i p st) (ahead_for sc hands sent me i p) now s a = h.receives in
    record {
      state = h.state;
      good = h.good;
      stands = h.stands;
      from = h.from;
      receives = record {
        hears = λ j. hears-more sc hands sent sent2 me i st refl sends from entry good (next-later sc.sizes m p h.stands.window) lands (r.hears j);
        known = known-append sc.sizes me s.coming (e ∷ []) r.known (subst (λ k. k < count_of (other me) sc.sizes) (sym from) there, tt);
        inbox = r.inbox;
        pends = r.pends;
        at_time = r.at_time;
        is_next = r.is_next;
        in_window = r.in_window;
        behind = every-join (λ c. (k : ℕ) → s.core.had ≡ suc k → time_of (clock_of sc me i) k < c.time) s.coming e r.behind
            (λ k f. let before : time_of (clock_of sc me i) k ≤ now = r.passed k f in omega arith);
        passed = r.passed;
        coming_after = every-join (λ c. now ≤ c.time) s.coming e r.coming_after (omega arith);
        tick_after = r.tick_after;
      };
    }
