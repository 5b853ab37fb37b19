-- What a node hears in a sweep.
use Rattle.std.proofs.{Common.{◌≡◌, ℕ, zero, suc, ◌+◌, ◌<◌, ◌≤◌, ◌&&◌, Bool, true, false, List, [], ◌∷◌, ◌++◌, length, remove, refl, ap, sym, ◌∙◌, arith, Option, Some, None}, lemmas.Bool.{lt-ltb, le-ltb}}
use Rattle.rb_base.specs.Nodes.{Side, other}
use Rattle.rb_rules.specs.{Clock.time_of, Goodness.{Scenario, clock_of}, Hearing.{Coming, Sending, coming_of}, Lawful.IsLawful, Slots.same_side, WorldStep.{Site, Timed, after_arrival, sent_to}, WorldStep.Pending.Arrival}
use Rattle.rb_laws_events.proofs.{SameHeard.Every, Receiving.every-stands, DueEvents.{every-append, every-weaker}}
use Rattle.rb_laws_sweeps.specs.{Laws.{HearingComposes, HearingTakesTheFirst, NothingIsHeard, with_more}, Sweeping.{Placed, after_first, first_of, swept}, Told.{Told, heard, heard_by, heard_first, telling}}
use Rattle.rb_laws_sweeps.proofs.{Firsts.{first-append, first-stands, length-without}, SentLater.{message-later, sent_where}, Sweeps.{all-every, arrival-more, step-stays, step-takes, sweep-of, sweep-stays, sweep-takes}}

-- One arrival.

first-silent : (sc : Scenario) (me : Side) (i until : ℕ) (s : Site) → Every (λ c. until ≤ c.time) s.coming → heard_first sc me i until (first_of s.coming) s ≡ []
first-silent sc me i until s late = by (first_of s.coming) refl
  where
    by : (o : Option Placed) → first_of s.coming ≡ o → heard_first sc me i until o s ≡ []
    by None h = refl
    by (Some p) h = ap (λ b. elim b as (λ _. List Told) [ true ↦ telling sc [] me i s (Arrival p.place p.coming) ∷ [] | false ↦ [] ])
        (le-ltb p.coming.time until (every-stands (λ c. until ≤ c.time) p.place s.coming (first-stands s.coming p h) late))

first-heard : (sc : Scenario) (me : Side) (i until : ℕ) (s : Site) {p : _} → first_of s.coming ≡ Some p → p.coming.time < until
    → heard_first sc me i until (first_of s.coming) s ≡ telling sc [] me i s (Arrival p.place p.coming) ∷ []
first-heard sc me i until s {p} e lt =
    ap (λ o. heard_first sc me i until o s) e
    ∙ ap (λ b. elim b as (λ _. List Told) [ true ↦ telling sc [] me i s (Arrival p.place p.coming) ∷ [] | false ↦ [] ]) (lt-ltb p.coming.time until lt)

by-silent : (sc : Scenario) (me : Side) (i until n : ℕ) (s : Site) → Every (λ c. until ≤ c.time) s.coming → heard_by sc me i until n s ≡ []
unfolding heard_by
by-silent sc me i until zero s late = refl
by-silent sc me i until (suc n) s late =
    ap (λ z. heard_first sc me i until (first_of s.coming) s ++ heard_by sc me i until n z) (step-stays sc me i until s late)
    ∙ ap (λ l. l ++ heard_by sc me i until n s) (first-silent sc me i until s late) ∙ by-silent sc me i until n s late

-- if nothing comes before the time, nothing is heard
pub hears-none : (sc : Scenario) (me : Side) (i until : ℕ) (s : Site) → Every (λ c. until ≤ c.time) s.coming → heard sc me i until s ≡ []
unfolding heard
hears-none sc me i until s late = by-silent sc me i until (length s.coming) s late

-- the first arrival is heard first
pub hears-first : (sc : Scenario) (me : Side) (i until : ℕ) (s : Site) (p : Placed) → first_of s.coming ≡ Some p → p.coming.time < until
    → heard sc me i until s ≡ telling sc [] me i s (Arrival p.place p.coming) ∷ heard sc me i until (after_arrival sc me i p.place p.coming s)
unfolding heard heard_by after_arrival
hears-first sc me i until s p e lt =
    ap (λ n. heard_by sc me i until n s) (length-without p.place p.coming s.coming (first-stands s.coming p e))
    ∙ ap (λ l. l ++ heard_by sc me i until (length (remove s.coming p.place)) (after_first sc me i until (first_of s.coming) s)) (first-heard sc me i until s e lt)
    ∙ ap (λ z. telling sc [] me i s (Arrival p.place p.coming) ∷ heard_by sc me i until (length (remove s.coming p.place)) z) (step-takes sc me i until s e lt)

-- The laws.

pub nothing-is-heard : NothingIsHeard
nothing-is-heard sc me i until s late = hears-none sc me i until s (all-every (λ c. until ≤ c.time) s.coming late)

pub hearing-takes : HearingTakesTheFirst
hearing-takes = hears-first

pub hearing-composes : HearingComposes
hearing-composes sc me i s until later le =
    sweep-of sc me i until (λ s. heard sc me i later s ≡ heard sc me i until s ++ heard sc me i later (swept sc me i until s))
    (λ s late.
    ap (λ z. heard sc me i later z) (sym (sweep-stays sc me i until s late))
    ∙ ap (λ l. l ++ heard sc me i later (swept sc me i until s)) (sym (hears-none sc me i until s late)))
    (λ s p e lt rest.
    let after : Site = after_arrival sc me i p.place p.coming s in
    let t : Told = telling sc [] me i s (Arrival p.place p.coming) in
    hears-first sc me i later s p e (omega (arith, lt, le)) ∙ ap (λ l. t ∷ l) rest
    ∙ ap (λ z. t ∷ heard sc me i until after ++ heard sc me i later z) (sym (sweep-takes sc me i until s p e lt))
    ∙ ap (λ l. l ++ heard sc me i later (swept sc me i until s)) (sym (hears-first sc me i until s p e lt))) s

-- What is pushed later.

-- what is added for later is not heard
pub push-unheard : (sc : Scenario) (me : Side) (i until : ℕ) (ahead : Option Timed) (more : List Coming) (s : Site) → Every (λ c. until ≤ c.time) more
    → heard sc me i until (with_more ahead more s) ≡ heard sc me i until s
push-unheard sc me i until ahead more s later =
    sweep-of sc me i until (λ s. heard sc me i until (with_more ahead more s) ≡ heard sc me i until s)
    (λ s late. hears-none sc me i until (with_more ahead more s) (every-append (λ c. until ≤ c.time) s.coming more late later) ∙ sym (hears-none sc me i until s late))
    (λ s p e lt rest.
    let t : Told = telling sc [] me i s (Arrival p.place p.coming) in
    hears-first sc me i until (with_more ahead more s) p
    (first-append s.coming more p e (every-weaker (λ c. until ≤ c.time) (λ c. p.coming.time < c.time) (λ c le. omega (arith, lt, le)) more later)) lt
    ∙ ap (λ z. t ∷ heard sc me i until z) (arrival-more sc me i p.place p.coming ahead more s (first-stands s.coming p e)) ∙ ap (λ l. t ∷ l) rest
    ∙ sym (hears-first sc me i until s p e lt)) s

pub sent-unheard : {sc : _} → IsLawful sc → (me side : Side) (j i frame until : ℕ) (x : Sending) (s : Site) → until ≤ time_of (clock_of sc me j) x.tick + 1
    → heard sc side i until (sent_to sc me j frame x side i s) ≡ heard sc side i until s
sent-unheard {sc} lawful me side j i frame until x s le = by (same_side side (other me)) s.runs refl refl
  where
    by : (kind r : Bool) → same_side side (other me) ≡ kind → s.runs ≡ r
        → heard sc side i until (sent_where sc me j frame x side i s (same_side side (other me) && s.runs)) ≡ heard sc side i until s
    by true true e f =
        let c : Coming = coming_of sc side i j frame x in
        let later : until ≤ c.time = let low = message-later lawful me side j i frame x e in omega (arith, le, low) in
        let pass : (same_side side (other me) && s.runs) ≡ true = ap (λ k. k && s.runs) e ∙ f in
        ap (λ b. heard sc side i until (sent_where sc me j frame x side i s b)) pass ∙ push-unheard sc side i until s.ahead (c ∷ []) s (later, tt)
    by true false e f =
        let none : (same_side side (other me) && s.runs) ≡ false = ap (λ k. k && s.runs) e ∙ f in
        ap (λ b. heard sc side i until (sent_where sc me j frame x side i s b)) none
    by false r e f =
        let none : (same_side side (other me) && s.runs) ≡ false = ap (λ k. k && s.runs) e in
        ap (λ b. heard sc side i until (sent_where sc me j frame x side i s b)) none
