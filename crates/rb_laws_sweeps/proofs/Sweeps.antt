-- Sweeps of one node.
use Rattle.std.proofs.{Common.{◌≡◌, ℕ, zero, suc, ◌<◌, ◌≤◌, true, false, All, List, [], ◌∷◌, length, remove, refl, ap, sym, ◌∙◌, subst, arith, Option, Some, None, inl, inr}, lemmas.Bool.{lt-ltb, le-ltb}, lemmas.List.Elements.{All-nil, All-cons}}
use Rattle.rb_base.specs.Nodes.{Side}
use Rattle.rb_rules.specs.{Clock.stamp_of, Core.{Core, pass_to}, Goodness.{Scenario, clock_of}, Hearing.Coming, WorldStep.{Site, Timed, after_arrival}}
use Rattle.rb_rules.proofs.QuietTicks.{arrive-same}
use Rattle.rb_laws_events.proofs.{PendingLists.StandsAt, Receiving.every-stands, SameHeard.Every, DueEvents.{every-append, every-weaker}}
use Rattle.rb_laws_sweeps.specs.{Laws.{NothingIsSwept, PushesPassASweep, SweepsCompose, SweepsFrom, SweepsKeepTheRest, SweepsTakeTheFirst, with_more}, Sweeping.{Placed, after_first, first_of, swept, swept_by}}
use Rattle.rb_laws_sweeps.proofs.Firsts.{first-append, first-stands, length-without, which-first, without-append}
pub use Rattle.rb_laws_events.proofs.SameHeard.{all-every}

pub every-all : {X : Type 0} (P : X → Type 0) (xs : List X) → Every P xs → All P xs
every-all P [] a = All-nil P
every-all P (x ∷ xs) a = All-cons P x xs a.0 (every-all P xs a.1)

-- One arrival.

pub step-stays : (sc : Scenario) (me : Side) (i until : ℕ) (s : Site) → Every (λ c. until ≤ c.time) s.coming → after_first sc me i until (first_of s.coming) s ≡ s
step-stays sc me i until s late = by (first_of s.coming) refl
  where
    by : (o : Option Placed) → first_of s.coming ≡ o → after_first sc me i until o s ≡ s
    by None h = refl
    by (Some p) h = ap (λ b. elim b as (λ _. Site) [ true ↦ after_arrival sc me i p.place p.coming s | false ↦ s ])
        (le-ltb p.coming.time until (every-stands (λ c. until ≤ c.time) p.place s.coming (first-stands s.coming p h) late))

pub step-takes : (sc : Scenario) (me : Side) (i until : ℕ) (s : Site) {p : _} → first_of s.coming ≡ Some p → p.coming.time < until
    → after_first sc me i until (first_of s.coming) s ≡ after_arrival sc me i p.place p.coming s
step-takes sc me i until s {p} e lt =
    ap (λ o. after_first sc me i until o s) e
    ∙ ap (λ b. elim b as (λ _. Site) [ true ↦ after_arrival sc me i p.place p.coming s | false ↦ s ]) (lt-ltb p.coming.time until lt)

by-stays : (sc : Scenario) (me : Side) (i until n : ℕ) (s : Site) → Every (λ c. until ≤ c.time) s.coming → swept_by sc me i until n s ≡ s
unfolding swept_by
by-stays sc me i until zero s late = refl
by-stays sc me i until (suc n) s late = ap (swept_by sc me i until n) (step-stays sc me i until s late) ∙ by-stays sc me i until n s late

-- if nothing comes before the time, the node stays as it is
pub sweep-stays : (sc : Scenario) (me : Side) (i until : ℕ) (s : Site) → Every (λ c. until ≤ c.time) s.coming → swept sc me i until s ≡ s
unfolding swept
sweep-stays sc me i until s late = by-stays sc me i until (length s.coming) s late

-- the first arrival is taken first
pub sweep-takes : (sc : Scenario) (me : Side) (i until : ℕ) (s : Site) (p : Placed) → first_of s.coming ≡ Some p → p.coming.time < until
    → swept sc me i until s ≡ swept sc me i until (after_arrival sc me i p.place p.coming s)
unfolding swept swept_by after_arrival
sweep-takes sc me i until s p e lt =
    ap (λ n. swept_by sc me i until n s) (length-without p.place p.coming s.coming (first-stands s.coming p e))
    ∙ ap (swept_by sc me i until (length (remove s.coming p.place))) (step-takes sc me i until s e lt)

arrival-length : (sc : Scenario) (me : Side) (i : ℕ) (s : Site) {p : _} → first_of s.coming ≡ Some p
    → length s.coming ≡ suc (length (after_arrival sc me i p.place p.coming s).coming)
unfolding after_arrival
arrival-length sc me i s {p} e = length-without p.place p.coming s.coming (first-stands s.coming p e)

-- `P` holds for each site if it holds when nothing comes before the time, and before an arrival
-- whenever it holds after it
pub sweep-by : (sc : Scenario) (me : Side) (i until : ℕ) (P : Site → Type 0) → ((s : Site) → Every (λ c. until ≤ c.time) s.coming → P s)
    → ((s : Site) (p : Placed) → first_of s.coming ≡ Some p → p.coming.time < until → P (after_arrival sc me i p.place p.coming s) → P s)
    → (n : ℕ) (s : Site) → length s.coming ≤ n → P s
sweep-by sc me i until P stays takes zero s few = elim (which-first until s.coming) [
  | inr late ↦ stays s late
  | inl one ↦ let long = arrival-length sc me i s one.1.0 in absurd (omega (arith, few, long))
]
sweep-by sc me i until P stays takes (suc n) s few = elim (which-first until s.coming) [
  | inr late ↦ stays s late
  | inl one ↦
      let long = arrival-length sc me i s one.1.0 in
      takes s one.0 one.1.0 one.1.1
      (sweep-by sc me i until P stays takes n (after_arrival sc me i one.0.place one.0.coming s) (omega (arith, few, long)))
]

pub sweep-of : (sc : Scenario) (me : Side) (i until : ℕ) (P : Site → Type 0) → ((s : Site) → Every (λ c. until ≤ c.time) s.coming → P s)
    → ((s : Site) (p : Placed) → first_of s.coming ≡ Some p → p.coming.time < until → P (after_arrival sc me i p.place p.coming s) → P s) → (s : Site) → P s
sweep-of sc me i until P stays takes s = sweep-by sc me i until P stays takes (length s.coming) s (omega arith)

-- The laws.

pub nothing-is-swept : NothingIsSwept
nothing-is-swept sc me i until s late = sweep-stays sc me i until s (all-every (λ c. until ≤ c.time) s.coming late)

pub sweeps-take : SweepsTakeTheFirst
sweeps-take = sweep-takes

pub sweeps-compose : SweepsCompose
sweeps-compose sc me i s until later le =
    sweep-of sc me i until (λ s. swept sc me i later (swept sc me i until s) ≡ swept sc me i later s)
    (λ s late. ap (swept sc me i later) (sweep-stays sc me i until s late))
    (λ s p e lt rest. ap (swept sc me i later) (sweep-takes sc me i until s p e lt) ∙ rest ∙ sym (sweep-takes sc me i later s p e (omega (arith, lt, le)))) s

arrival-from : {sc me i until : _} (place : ℕ) (c : Coming) (s : Site) {z : _} → SweepsFrom sc me i until (after_arrival sc me i place c s) z → SweepsFrom sc me i until s z
unfolding after_arrival
arrival-from {sc} {me} {i} place c s h =
    let passed : Core = pass_to (stamp_of (clock_of sc me i) c.time) s.core in
    record { is = h.is; state = h.state ∙ (arrive-same sc.sizes me passed c.from c.bytes).0; left = h.left }

pub sweeps-keep : SweepsKeepTheRest
sweeps-keep sc me i until s =
    sweep-of sc me i until (λ s. SweepsFrom sc me i until s (swept sc me i until s))
    (λ s late. subst (SweepsFrom sc me i until s) (sym (sweep-stays sc me i until s late)) (record { is = refl; state = refl; left = every-all (λ c. until ≤ c.time) s.coming late }))
    (λ s p e lt rest. subst (SweepsFrom sc me i until s) (sym (sweep-takes sc me i until s p e lt))
    (arrival-from p.place p.coming s rest)) s

-- what comes later may be added before an arrival or after it
pub arrival-more : (sc : Scenario) (me : Side) (i place : ℕ) (c : Coming) (ahead : Option Timed) (more : List Coming) (s : Site) → StandsAt place c s.coming
    → after_arrival sc me i place c (with_more ahead more s) ≡ with_more ahead more (after_arrival sc me i place c s)
unfolding after_arrival
arrival-more sc me i place c ahead more s stands =
    ap (λ l. record (with_more ahead more (after_arrival sc me i place c s)) { coming = l }) (without-append place c s.coming more stands)

pub push-passes : (sc : Scenario) (me : Side) (i until : ℕ) (ahead : Option Timed) (more : List Coming) (s : Site) → Every (λ c. until ≤ c.time) more
    → swept sc me i until (with_more ahead more s) ≡ with_more ahead more (swept sc me i until s)
push-passes sc me i until ahead more s later =
    sweep-of sc me i until (λ s. swept sc me i until (with_more ahead more s) ≡ with_more ahead more (swept sc me i until s))
    (λ s late. sweep-stays sc me i until (with_more ahead more s) (every-append (λ c. until ≤ c.time) s.coming more late later)
    ∙ ap (with_more ahead more) (sym (sweep-stays sc me i until s late)))
    (λ s p e lt rest.
    sweep-takes sc me i until (with_more ahead more s) p
    (first-append s.coming more p e (every-weaker (λ c. until ≤ c.time) (λ c. p.coming.time < c.time) (λ c le. omega (arith, lt, le)) more later)) lt
    ∙ ap (swept sc me i until) (arrival-more sc me i p.place p.coming ahead more s (first-stands s.coming p e)) ∙ rest
    ∙ ap (with_more ahead more) (sym (sweep-takes sc me i until s p e lt))) s

pub pushes-pass : PushesPassASweep
pushes-pass sc me i until ahead more s later = push-passes sc me i until ahead more s (all-every (λ c. until ≤ c.time) more later)
