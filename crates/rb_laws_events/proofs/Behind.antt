-- For the law that events are rounds: while the book waits for a milestone, some node that runs has
-- not passed it, so none closes what comes after it.
use Rattle.std.proofs.{Common.{◌≡◌, ℕ, suc, ◌+◌, ◌*◌, ◌-◌, ◌%◌, ◌<◌, ◌≤◌, ◌==◌, ◌⊎◌, Bool, true, false, List, refl, ap, sym, ◌∙◌, subst, arith, inl, inr, Option, Some, None, is_some, slice_get, if◌then◌else◌}, lemmas.Bool.{cases_lt, eq-eqb, le-ltb, lt-ltb, true≢false}, lemmas.Nat.mul-le, lemmas.Option.same_Some}
use Rattle.rb_base.specs.{Nodes.Side, declared.values.Place.Place}
use Rattle.rb_base.proofs.Plain.{times-more}
use Rattle.rb_rules.specs.{Book.{Begun, Book, Each, Milestone, Row, after_stage, of_kind}, Book.Milestone.{Begin, Stage, End}, Clock.time_of, Goodness.{Scenario, clock_of, is_good}, Lawful.IsLawful, Moments.IsRunning, NodeState.NodeState, Plan.{f0_of, shortest_of}, Ports.HandIn, Rounds.{Moment, moment, windows_in}, WorldStep.{Site, Timed, begun_for, is_complete, needs_no_event, row_for, same_place, times_of}}
use Rattle.rb_rules.proofs.Drift.{times_rise_to}
use Rattle.rb_laws_synchrony.proofs.{PlanNumbers.drift_of, StageCalls.clock_now, Times.{Steady, lawful_fits, plan_fits}}
use Rattle.rb_laws_agreement.proofs.ExactAgrees.{has_ticks}
use Rattle.rb_laws_events.specs.Closing.{stages_in}
use Rattle.rb_laws_events.proofs.{FrameTimes.{BegunWell, good-node}, Invariant.{InTime, is_good_at, last_tick, next_stage}, MomentBooks.{next_of, number-of, place_at, settles-next, stage-next, SettlesNext}, MomentSteps.{NextIsStage, good-back, good-state, next-inner, next-is-stage, next-outer}, NodeEvents.tick-after, Pace.{IsWithin, Paced, number_of}, RoundNodes.slot_numbered, SameHeard.Every, SettlingFrames.IsOfMoment, StageOrder.{last_of, last-same}, TimelyMoments.good-in, Timing.HavePassed, ToldSoFar.{AllHaveTold, HasTold, PendsFirst}, Untold.{HasNotTold, not-told}, WorldStands.{AllPend, IsDown, IsUp, SitesStand, sent_by}}

-- a node that runs has not passed moment `n`: it is in an earlier one, or in this one before the
-- frame's first tick
pub record IsBehind (sc : Scenario) (hands : List HandIn) (at : Side → ℕ → ℕ) (sites : Each Site) (n : ℕ) : Type 0 where
  pub me : Side
  pub i : ℕ
  pub s : Site
  pub there : slice_get (of_kind me sites) i ≡ Some s
  pub runs : s.runs ≡ true
  pub place : (at me i < n) ⊎ ((at me i ≡ n) × ((moment sc hands n).window ≡ 0) × PendsFirst sc hands me i (at me i) s)

-- the book waits at moment `n`: all nodes are in moments up to `n`, and one has not passed it
pub record WaitsAt (sc : Scenario) (hands : List HandIn) (at : Side → ℕ → ℕ) (sites : Each Site) (b : Book) (n : ℕ) : Type 0 where
  pub stage : (moment sc hands n).window < stages_in sc.sizes
  pub bound : (me : Side) (i : ℕ) (s : Site) → slice_get (of_kind me sites) i ≡ Some s → at me i ≤ n
  pub within : (p : ℕ) → p ≤ n → IsWithin sc.sizes b.upcoming p
  pub behind : IsBehind sc hands at sites n
  pub from : (n ≡ 0) ⊎ ((g : ℕ) × (IsRunning (moment sc hands g) × ((n ≡ next_stage sc.sizes (moment sc hands g) g) × (b ≡ (moment sc hands g).book))))

-- a node that is good where it stands runs
pub runs-there : {sc : Scenario} {hands : List HandIn} {now : ℕ} {at : Side → ℕ → ℕ} {sites : Each Site} → SitesStand sc hands now at sites → (me : Side) (i : ℕ) {s : Site}
    → slice_get (of_kind me sites) i ≡ Some s → is_good_at sc (moment sc hands (at me i)) me i ≡ true → s.runs ≡ true
runs-there {sc} {hands} {at} h me i {s} there good = by s.runs refl
  where
    by : (b : Bool) → s.runs ≡ b → b ≡ true
    by true e = refl
    by false e = let down : IsDown sc hands me i (at me i) s = h.down me i s there e in absurd (true≢false (sym good ∙ down.not_good))

-- Begins.

begin-waits : {sc : Scenario} {hands : List HandIn} {now : ℕ} {at : Side → ℕ → ℕ} {sites : Each Site} {frame : ℕ} (n : ℕ) → SitesStand sc hands now at sites → AllHaveTold sc hands at sites
    → (moment sc hands n).frame ≡ frame → (moment sc hands n).window ≡ 0 → ((me : Side) (i : ℕ) (s : Site) → slice_get (of_kind me sites) i ≡ Some s → at me i ≤ n)
    → is_complete sc sites (Begin frame) ≡ false → IsBehind sc hands at sites n
begin-waits {sc} {hands} {at} {sites} {frame} n stand told in_frame first bound open_still =
    let found : HasNotTold sc frame 0 (λ s. begun_for frame s.begun) sites = not-told sc frame 0 (λ (s : Site). begun_for frame s.begun) sites open_still in
    let me : Side = found.me in
    let i : ℕ = found.i in
    let s : Site = found.s in
    let zero_slot : slot_numbered sc.sizes 0 ≡ 0 = omega arith in
    let good : is_good_at sc (moment sc hands n) me i ≡ true =
    ap (λ f. is_good sc me i f (slot_numbered sc.sizes (moment sc hands n).window)) in_frame
    ∙ ap (λ w. is_good sc me i frame (slot_numbered sc.sizes w)) first ∙ ap (is_good sc me i frame) zero_slot ∙ found.good in
    let le : at me i ≤ n = bound me i s found.there in
    let runs : s.runs ≡ true = runs-there stand me i found.there (good-back sc hands (at me i) n me i le good) in
    elim (cases_lt (at me i) n) [
      | inl lt ↦ record { me = me; i = i; s = s; there = found.there; runs = runs; place = inl lt }
      | inr ge ↦
          let same : at me i ≡ n = omega arith in
          let its : HasTold sc hands me i (at me i) s = told me i s found.there in
          elim (its.begun (ap (λ p. (moment sc hands p).window) same ∙ first) runs) [
            | inl b ↦
                let frame_is : b.0.frame ≡ frame = b.1.1 ∙ ap (λ p. (moment sc hands p).frame) same ∙ in_frame in
                let some : is_some (begun_for frame s.begun) ≡ true =
                ap (λ o. is_some (begun_for frame o)) b.1.0 ∙ ap (λ t. is_some (elim t as (λ _. Option Begun) [ true ↦ Some b.0 | false ↦ None ])) (eq-eqb b.0.frame frame frame_is) in
                absurd (true≢false (sym some ∙ found.untold))
            | inr pends ↦ record { me = me; i = i; s = s; there = found.there; runs = runs; place = inr (same, first, pends) }
          ]
    ]

-- the moment with which a frame begins
pub begins-at : (sc : Scenario) (hands : List HandIn) {n : ℕ} (frame : ℕ) → n ≡ frame * (windows_in sc.sizes + 1) → ((moment sc hands n).frame ≡ frame) × ((moment sc hands n).window ≡ 0)
begins-at sc hands {n} frame e =
    let number = number-of sc hands n in
    let sum : (moment sc hands n).frame * (windows_in sc.sizes + 1) + (moment sc hands n).window ≡ frame * (windows_in sc.sizes + 1) + 0 = omega (arith, number.0, e) in
    one-begin (windows_in sc.sizes + 1) (moment sc hands n).frame (moment sc hands n).window frame sum (omega (arith, number.1)) (omega arith)
  where
    one-begin : (size f w g : ℕ) → f * size + w ≡ g * size + 0 → w < size → 1 ≤ size → (f ≡ g) × (w ≡ 0)
    one-begin size f w g e small some =
        elim (cases_lt f g) [
          | inl lt ↦
              let up : (f + 1) * size ≤ g * size = mul-le (f + 1) size g size (omega arith) (omega arith) in
              let more : (f + 1) * size ≡ f * size + size = omega arith in
              absurd (omega (arith, e, up, more, small))
          | inr ge ↦ elim (cases_lt g f) [
            | inl lt ↦
                let up : (g + 1) * size ≤ f * size = mul-le (g + 1) size f size (omega arith) (omega arith) in
                let more : (g + 1) * size ≡ g * size + size = omega arith in
                absurd (omega (arith, e, up, more, some))
            | inr le ↦
                let same : f ≡ g = omega arith in
                let p : f * size ≡ g * size = ap (λ x. x * size) same in
                (same, omega (arith, e, p))
          ]
        ]

-- Stages.

pub place-same : (p : Place) → same_place p p ≡ true
place-same p = rw (eq-eqb p.frame p.frame refl, eq-eqb p.slot p.slot refl, eq-eqb p.stage p.stage refl) refl

stage-waits : {sc : Scenario} {hands : List HandIn} {now : ℕ} {at : Side → ℕ → ℕ} {sites : Each Site} (g : ℕ) → SitesStand sc hands now at sites → AllHaveTold sc hands at sites
    → (moment sc hands g).window < stages_in sc.sizes
    → ((me : Side) (i : ℕ) (s : Site) → slice_get (of_kind me sites) i ≡ Some s → at me i ≤ next_stage sc.sizes (moment sc hands g) g)
    → is_complete sc sites (Stage (place_at sc.sizes (moment sc hands g))) ≡ false → IsBehind sc hands at sites (next_stage sc.sizes (moment sc hands g) g)
stage-waits {sc} {hands} {at} {sites} g stand told stage bound open_still =
    let m : Moment = moment sc hands g in
    let place : Place = place_at sc.sizes m in
    let next : NextIsStage sc hands g = next-is-stage sc hands g (omega arith) in
    let later : g < next_stage sc.sizes m g = next.later in
    let found : HasNotTold sc place.frame place.slot (λ s. row_for place s.row) sites = not-told sc place.frame place.slot (λ (s : Site). row_for place s.row) sites open_still in
    let me : Side = found.me in
    let i : ℕ = found.i in
    let s : Site = found.s in
    let le : at me i ≤ g = elim (cases_lt g (at me i)) [
      | inr ge ↦ ge
      | inl lt ↦
          let row = (told me i s found.there).row g stage lt (bound me i s found.there) in
          let some : is_some (row_for place s.row) ≡ true =
          ap (λ o. is_some (row_for place o)) row.1.0
          ∙ ap (λ p. is_some (elim (same_place p place) as (λ _. Option Row) [ true ↦ Some row.0 | false ↦ None ])) row.1.1
          ∙ ap (λ t. is_some (elim t as (λ _. Option Row) [ true ↦ Some row.0 | false ↦ None ])) (place-same place) in
          absurd (true≢false (sym some ∙ found.untold))
    ] in
    let runs : s.runs ≡ true = runs-there stand me i found.there (good-back sc hands (at me i) g me i le found.good) in
    record { me = me; i = i; s = s; there = found.there; runs = runs; place = inl (omega arith) }

-- what comes after a moment's stage has the number of the next stage
after-number : (sc : Scenario) (hands : List HandIn) (g : ℕ) → (moment sc hands g).window < stages_in sc.sizes → ((moment sc hands g).frame == sc.frames) ≡ false
    → number_of sc.sizes (after_stage sc.sizes (place_at sc.sizes (moment sc hands g))) ≡ next_stage sc.sizes (moment sc hands g) g
after-number sc hands g stage not_last =
    let m : Moment = moment sc hands g in
    let number = number-of sc hands g in
    let is : after_stage sc.sizes (place_at sc.sizes m) ≡ next_of sc m.frame (m.window + 1) = stage-next sc m.frame m.window stage not_last in
    ap (number_of sc.sizes) is
    ∙ elim (cases_lt (m.window + 1) (stages_in sc.sizes)) [
      | inl lt ↦
          let window : 3 * slot_numbered sc.sizes (m.window + 1) + ((m.window + 1) % 3 + 1) - 1 ≡ m.window + 1 = omega arith in
          let inner : next_of sc m.frame (m.window + 1) ≡ Stage (record { frame = m.frame; slot = slot_numbered sc.sizes (m.window + 1); stage = (m.window + 1) % 3 + 1 }) =
          ap (λ b. if b then (if m.frame == sc.frames then End else Stage (record { frame = m.frame; slot = slot_numbered sc.sizes (m.window + 1); stage = (m.window + 1) % 3 + 1 })) else Begin (m.frame + 1)) (lt-ltb (m.window + 1) (stages_in sc.sizes) lt)
          ∙ ap (λ b. if b then End else Stage (record { frame = m.frame; slot = slot_numbered sc.sizes (m.window + 1); stage = (m.window + 1) % 3 + 1 })) not_last in
          let is_next : next_stage sc.sizes m g ≡ suc g = next-inner sc.sizes m g lt in
          ap (number_of sc.sizes) inner ∙ omega (arith, window, is_next, number.0)
      | inr ge ↦
          let outer : next_of sc m.frame (m.window + 1) ≡ Begin (m.frame + 1) =
          ap (λ b. if b then (if m.frame == sc.frames then End else Stage (record { frame = m.frame; slot = slot_numbered sc.sizes (m.window + 1); stage = (m.window + 1) % 3 + 1 })) else Begin (m.frame + 1)) (le-ltb (m.window + 1) (stages_in sc.sizes) ge) in
          let is_next : next_stage sc.sizes m g ≡ g + (windows_in sc.sizes + 1 - m.window) = next-outer sc.sizes m g ge in
          let more : (m.frame + 1) * (windows_in sc.sizes + 1) ≡ m.frame * (windows_in sc.sizes + 1) + (windows_in sc.sizes + 1) = times-more m.frame (windows_in sc.sizes + 1) in
          ap (number_of sc.sizes) outer ∙ omega (arith, is_next, number.0, number.1, more)
    ]

-- The world.

pub settled-next : (sc : Scenario) (hands : List HandIn) (g : ℕ) → IsRunning (moment sc hands g)
    → (moment sc hands g).book.upcoming ≡ next_of sc (moment sc hands g).frame (moment sc hands g).window
unfolding SettlesNext
settled-next sc hands g running = settles-next sc hands g running

of-moment : {sc hands now at sites b : _} (g : ℕ) → SitesStand sc hands now at sites → AllHaveTold sc hands at sites
    → Paced sc at sites b → b.ended ≡ false → needs_no_event sc b.upcoming ≡ false → b ≡ (moment sc hands g).book → (n : ℕ) × WaitsAt sc hands at sites b n
of-moment {sc} {hands} {at} {sites} {b} g stand told paced going needs is =
    let m : Moment = moment sc hands g in
    let number = number-of sc hands g in
    let running : IsRunning m = sym (ap (λ (b : Book). b.ended) is) ∙ going in
    let up : b.upcoming ≡ next_of sc m.frame m.window = ap (λ (b : Book). b.upcoming) is ∙ settled-next sc hands g running in
    let n : ℕ = next_stage sc.sizes m g in
    elim (cases_lt m.window (stages_in sc.sizes)) [
      | inl stage ↦
          let inner : Milestone = if m.frame == sc.frames then End else Stage (place_at sc.sizes m) in
          let next : NextIsStage sc hands g = next-is-stage sc hands g (omega arith) in
          let is_in : b.upcoming ≡ inner = up ∙ ap (λ b. if b then inner else Begin (m.frame + 1)) (lt-ltb m.window (stages_in sc.sizes) stage) in
          let by : (t : Bool) → (m.frame == sc.frames) ≡ t → (n : ℕ) × WaitsAt sc hands at sites b n =
          λ t. elim t as (λ t. (m.frame == sc.frames) ≡ t → (n : ℕ) × WaitsAt sc hands at sites b n) [
            | true ↦ λ e.
                let end : b.upcoming ≡ End = is_in ∙ ap (λ t. if t then End else Stage (place_at sc.sizes m)) e in
                absurd (true≢false (ap (needs_no_event sc) (sym end) ∙ needs))
            | false ↦ λ e.
                let at_stage : b.upcoming ≡ Stage (place_at sc.sizes m) = is_in ∙ ap (λ t. if t then End else Stage (place_at sc.sizes m)) e in
                let bound : (me : Side) (i : ℕ) (s : Site) → slice_get (of_kind me sites) i ≡ Some s → at me i ≤ n =
                λ me i s there.
                subst (λ k. at me i ≤ k) (after-number sc hands g stage e) (subst (λ m. IsWithin sc.sizes m (at me i)) at_stage (paced.bound going me i s there)) in
                let open_still : is_complete sc sites (Stage (place_at sc.sizes m)) ≡ false = subst (λ m. is_complete sc sites m ≡ false) at_stage (paced.waits going needs) in
                (n, record { stage = next.window; bound = bound; within = λ p le. subst (λ m. IsWithin sc.sizes m p) (sym at_stage) (subst (λ k. p ≤ k) (sym (after-number sc hands g stage e)) le); behind = stage-waits g stand told stage bound open_still; from = inr (g, (running, (refl, is))) })
          ] in
          by (m.frame == sc.frames) refl
      | inr over ↦
          let is_next : n ≡ g + (windows_in sc.sizes + 1 - m.window) = next-outer sc.sizes m g (omega arith) in
          let more : (m.frame + 1) * (windows_in sc.sizes + 1) ≡ m.frame * (windows_in sc.sizes + 1) + (windows_in sc.sizes + 1) = times-more m.frame (windows_in sc.sizes + 1) in
          let n_is : n ≡ (m.frame + 1) * (windows_in sc.sizes + 1) = omega (arith, is_next, number.0, number.1, more) in
          let begin : b.upcoming ≡ Begin (m.frame + 1) =
          up ∙ ap (λ b. if b then (if m.frame == sc.frames then End else Stage (place_at sc.sizes m)) else Begin (m.frame + 1)) (le-ltb m.window (stages_in sc.sizes) over) in
          let places = begins-at sc hands (m.frame + 1) n_is in
          let bound : (me : Side) (i : ℕ) (s : Site) → slice_get (of_kind me sites) i ≡ Some s → at me i ≤ n =
          λ me i s there. subst (λ k. at me i ≤ k) (sym n_is) (subst (λ m. IsWithin sc.sizes m (at me i)) begin (paced.bound going me i s there)) in
          let open_still : is_complete sc sites (Begin (m.frame + 1)) ≡ false = subst (λ m. is_complete sc sites m ≡ false) begin (paced.waits going needs) in
          let first : (moment sc hands n).window ≡ 0 = places.1 in
          (n, record { stage = omega arith; bound = bound; within = λ p le. subst (λ m. IsWithin sc.sizes m p) (sym begin) (subst (λ k. p ≤ k) n_is le); behind = begin-waits n stand told places.0 places.1 bound open_still; from = inr (g, (running, (refl, is))) })
    ]

pub waits-at : {sc hands now at sites b : _} → SitesStand sc hands now at sites → AllHaveTold sc hands at sites
    → Paced sc at sites b → b.ended ≡ false → needs_no_event sc b.upcoming ≡ false → IsOfMoment sc hands b → (n : ℕ) × WaitsAt sc hands at sites b n
waits-at stand told paced going needs (inr of) = of-moment of.0 stand told paced going needs of.1
waits-at {sc} {hands} {at} {sites} {b} stand told paced going needs (inl fresh) =
    let begin : b.upcoming ≡ Begin 0 = ap (λ (b : Book). b.upcoming) fresh in
    let none : 0 ≡ 0 * (windows_in sc.sizes + 1) = omega arith in
    let places = begins-at sc hands 0 none in
    let bound : (me : Side) (i : ℕ) (s : Site) → slice_get (of_kind me sites) i ≡ Some s → at me i ≤ 0 =
    λ me i s there. subst (λ k. at me i ≤ k) (sym none) (subst (λ m. IsWithin sc.sizes m (at me i)) begin (paced.bound going me i s there)) in
    let first : (moment sc hands 0).window ≡ 0 = places.1 in
    let open_still : is_complete sc sites (Begin 0) ≡ false = subst (λ m. is_complete sc sites m ≡ false) begin (paced.waits going needs) in
    (0, record { stage = omega arith; bound = bound; within = λ p le. subst (λ m. IsWithin sc.sizes m p) (sym begin) (subst (λ k. p ≤ k) none le); behind = begin-waits 0 stand told places.0 places.1 bound open_still; from = inl refl })

-- A close.

-- the first tick of a frame comes before any node closes its first window
begins-first : (p f h k u d dmax mine yours end : ℕ) → p + d * (f + h) + dmax + (1 + h) * u ≤ (k + 1) * u → 1 ≤ dmax → mine ≤ yours + p → yours + k * u ≤ end → mine < end
begins-first p f h k u d dmax mine yours end room some near on = omega (arith, room, some, near, on)

first-ends : {sc : _} (hands : List HandIn) → IsLawful sc → (n : ℕ) → BegunWell sc (moment sc hands n) → (moment sc hands n).window ≡ 0 → (me you : Side) (i j : ℕ) {mine yours : _}
    → slice_get (of_kind me (moment sc hands n).nodes) i ≡ Some mine → is_good_at sc (moment sc hands n) me i ≡ true
    → slice_get (of_kind you (moment sc hands n).nodes) j ≡ Some yours → is_good_at sc (moment sc hands n) you j ≡ true
    → time_of (clock_of sc me i) mine.epoch < time_of (clock_of sc you j) (last_tick sc (moment sc hands n) you yours)
first-ends {sc} hands lawful n well first me you i j {mine} {yours} there good other_there other_good =
    let m : Moment = moment sc hands n in
    let near : time_of (clock_of sc me i) mine.epoch ≤ time_of (clock_of sc you j) yours.epoch + sc.plan.p =
    well.together me you i j mine yours (good-in sc m me i there good) (good-in sc m you j other_there other_good) in
    let steady : Steady (shortest_of sc.plan) (drift_of sc.plan) (clock_of sc you j) = clock_now lawful (good-node sc m you j other_there other_good) in
    let fit : plan_fits sc = lawful_fits lawful in
    let some : 1 ≤ sc.plan.l = lawful.plan.l.0 in
    let last : last_of sc.sizes sc.plan you yours m.window ≡ m.window * sc.plan.l + sc.plan.l - 1 = last-same sc.sizes sc.plan you yours m.window (omega arith) in
    let none : m.window * sc.plan.l ≡ 0 * sc.plan.l = ap (λ n. n * sc.plan.l) first in
    let is : yours.epoch + (sc.plan.l - 1) ≡ last_tick sc m you yours = omega (arith, last, none) in
    let on : time_of (clock_of sc you j) yours.epoch + (sc.plan.l - 1) * shortest_of sc.plan ≤ time_of (clock_of sc you j) (last_tick sc m you yours) =
    subst (λ k. time_of (clock_of sc you j) yours.epoch + (sc.plan.l - 1) * shortest_of sc.plan ≤ time_of (clock_of sc you j) k) is (steady.not_early yours.epoch (sc.plan.l - 1)) in
    let l_is : sc.plan.l ≡ sc.plan.l - 1 + 1 = omega arith in
    let room : sc.plan.p + drift_of sc.plan * (f0_of sc.sizes sc.plan + sc.plan.h) + sc.plan.dmax + (1 + sc.plan.h) * shortest_of sc.plan ≤ (sc.plan.l - 1 + 1) * shortest_of sc.plan =
    subst (λ l. sc.plan.p + drift_of sc.plan * (f0_of sc.sizes sc.plan + sc.plan.h) + sc.plan.dmax + (1 + sc.plan.h) * shortest_of sc.plan ≤ l * shortest_of sc.plan) l_is fit.after_1 in
    let delay : 1 ≤ sc.plan.dmax = omega (arith, lawful.plan.dmin) in
    begins-first sc.plan.p (f0_of sc.sizes sc.plan) sc.plan.h (sc.plan.l - 1) (shortest_of sc.plan) (drift_of sc.plan) sc.plan.dmax (time_of (clock_of sc me i) mine.epoch)
    (time_of (clock_of sc you j) yours.epoch) (time_of (clock_of sc you j) (last_tick sc m you yours)) room delay near on

pub pend-of : (t : ℕ) (sites : Each Site) → AllPend t sites → (me : Side) (i : ℕ) (s : Site) → slice_get (of_kind me sites) i ≡ Some s → Every (λ u. t ≤ u) (times_of s)
unfolding AllPend
pend-of t sites all = all

-- a close that is due: of the window of the moment in which the node stands
pub record ClosesNow (sc : Scenario) (hands : List HandIn) (t : ℕ) (me : Side) (i p : ℕ) : Type 0 where
  pub st : NodeState
  pub state : slice_get (of_kind me (moment sc hands p).nodes) i ≡ Some st
  pub good : is_good_at sc (moment sc hands p) me i ≡ true
  pub time : t ≡ time_of (clock_of sc me i) (last_tick sc (moment sc hands p) me st)

-- a node closes a window only if another has not passed it
pub closes-before : {sc hands now t at sites n : _} → IsLawful sc → now ≤ t → SitesStand sc hands now at sites
    → HavePassed sc hands now at → AllPend t sites → (moment sc hands n).window < stages_in sc.sizes → IsBehind sc hands at sites n
    → ((q : ℕ) → q < n → (moment sc hands q).window ≤ stages_in sc.sizes → InTime sc (moment sc hands q) (moment sc hands (next_stage sc.sizes (moment sc hands q) q)))
    → BegunWell sc (moment sc hands n) → {me i p : _} → p ≡ at me i → ClosesNow sc hands t me i p → p ≤ n → p < n
closes-before {sc} {hands} {now} {t} {at} {sites} {n} lawful le stand passed pend stage behind times well {me} {i} {p} is close within =
    let k : Side = behind.me in
    let j : ℕ = behind.i in
    let z : Site = behind.s in
    let up : IsUp sc hands (sent_by sc hands at sites) now k j (at k j) z = stand.up k j z behind.there behind.runs in
    let q : ℕ = at k j in
    let after : t ≤ up.a.time = tick-after t z.ahead z.coming up.stands.receives.pends (pend-of t sites pend k j z behind.there) in
    let at_time : up.a.time ≡ time_of (clock_of sc k j) up.a.tick = up.stands.receives.at_time in
    elim (cases_lt p n) [
      | inl lt ↦ lt
      | inr ge ↦
          let same : p ≡ n = omega arith in
          elim behind.place [
            | inl lt ↦
                let here : InTime sc (moment sc hands q) (moment sc hands (next_stage sc.sizes (moment sc hands q) q)) = times q lt up.stands.stands.window in
                let next : NextIsStage sc hands q = next-is-stage sc hands q up.stands.stands.window in
                let y : ℕ = next_stage sc.sizes (moment sc hands q) q in
                let y_le : y ≤ p = elim (cases_lt n y) [
                  | inr ge_y ↦ omega arith
                  | inl lt_y ↦ let tail = next.between n lt lt_y in absurd (omega (arith, tail.0, stage))
                ] in
                let good_y : is_good_at sc (moment sc hands y) me i ≡ true = good-back sc hands y p me i y_le close.good in
                let state = good-state sc hands y me i (has_ticks lawful) good_y in
                let order : time_of (clock_of sc k j) (last_tick sc (moment sc hands q) k up.st) < time_of (clock_of sc me i) (last_tick sc (moment sc hands y) me state.0) =
                here.order k me j i up.st state.0 up.stands.state up.stands.good state.1 good_y in
                let ends : time_of (clock_of sc me i) (last_tick sc (moment sc hands y) me state.0) ≤ t = elim (cases_lt y p) [
                  | inl earlier ↦
                      let gone : time_of (clock_of sc me i) (last_tick sc (moment sc hands y) me state.0) ≤ now = passed.passed me i y state.0 (omega (arith, is, earlier)) next.window state.1 good_y in
                      omega arith
                  | inr not_earlier ↦
                      let y_is : y ≡ p = omega arith in
                      let st_is : state.0 ≡ close.st = same_Some state.0 close.st (sym state.1 ∙ ap (λ y. slice_get (of_kind me (moment sc hands y).nodes) i) y_is ∙ close.state) in
                      let e : time_of (clock_of sc me i) (last_tick sc (moment sc hands y) me state.0) ≡ t =
                      ap (λ y. time_of (clock_of sc me i) (last_tick sc (moment sc hands y) me state.0)) y_is
                      ∙ ap (λ z. time_of (clock_of sc me i) (last_tick sc (moment sc hands p) me z)) st_is ∙ sym close.time in
                      omega (arith, e)
                ] in
                let rise : time_of (clock_of sc k j) up.a.tick ≤ time_of (clock_of sc k j) (last_tick sc (moment sc hands q) k up.st) =
                times_rise_to (clock_of sc k j) up.a.tick (last_tick sc (moment sc hands q) k up.st) up.stands.receives.in_window in
                absurd (omega (arith, order, ends, rise, after, at_time))
            | inr first ↦
                let a_is : up.a ≡ first.2.a = same_Some up.a first.2.a (sym up.stands.receives.pends ∙ first.2.ahead) in
                let st_is : up.st ≡ first.2.st = same_Some up.st first.2.st (sym up.stands.state ∙ first.2.state) in
                let tick : up.a.tick ≡ up.st.epoch = ap (λ (a : Timed). a.tick) a_is ∙ first.2.first ∙ sym (ap (λ (z : NodeState). z.epoch) st_is) in
                let ends : time_of (clock_of sc k j) up.st.epoch < time_of (clock_of sc me i) (last_tick sc (moment sc hands n) me close.st) =
                first-ends hands lawful n well first.1 k me j i (ap (λ q. slice_get (of_kind k (moment sc hands q).nodes) j) (sym first.0) ∙ up.stands.state)
                (ap (λ q. is_good_at sc (moment sc hands q) k j) (sym first.0) ∙ up.stands.good)
                (ap (λ q. slice_get (of_kind me (moment sc hands q).nodes) i) (sym same) ∙ close.state) (ap (λ q. is_good_at sc (moment sc hands q) me i) (sym same) ∙ close.good) in
                let own : time_of (clock_of sc me i) (last_tick sc (moment sc hands n) me close.st) ≡ t =
                ap (λ q. time_of (clock_of sc me i) (last_tick sc (moment sc hands q) me close.st)) (sym same) ∙ sym close.time in
                let time : time_of (clock_of sc k j) up.a.tick ≡ time_of (clock_of sc k j) up.st.epoch = ap (time_of (clock_of sc k j)) tick in
                absurd (omega (arith, ends, own, time, after, at_time))
          ]
    ]
