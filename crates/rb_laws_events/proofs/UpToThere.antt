-- For the law that events are rounds: all nodes are in time in each moment up to where the book
-- waits.
use Rattle.std.proofs.{Common.{◌≡◌, ℕ, suc, ◌+◌, ◌*◌, ◌-◌, ◌<◌, ◌≤◌, ◌==◌, ◌⊎◌, nat_lt, Bool, true, false, List, refl, ap, sym, ◌∙◌, subst, arith, inl, inr}, lemmas.Bool.{cases_lt, eqb-true, le-ltb}}
use Rattle.rb_base.specs.Sizes.{sync_slot_of}
use Rattle.rb_base.proofs.Plain.{true-false}
use Rattle.rb_rules.specs.{Goodness.Scenario, Lawful.IsLawful, Moments.IsRunning, Ports.HandIn, Rounds.{Moment, begin_frame, moment, step, windows_in}}
use Rattle.rb_rules.proofs.Books.{begun-open, stepped}
use Rattle.rb_laws_agreement.proofs.{Places.running_earlier, FrameBegins.reached}
use Rattle.rb_laws_events.specs.Closing.{stages_in}
use Rattle.rb_laws_events.proofs.{BreachWindows.in-reached, BreakNodes.BreaksAt, CloseOrder.{IsWindowLater, window-later}, FrameTimes.{BegunWell, begun-well, well-on}, Invariant.{InTime, next_stage}, MomentBooks.number-of, MomentSteps.{NextIsStage, next-inner, next-is-stage, next-outer}, NodeClosing.NextInTime, SettlingFrames.{RunsIn, runs-in}, RunTimes.{AllLater, Running, exact-later, first-running, in-exact, in-running}}

-- the run goes on from the tail to the next frame

turn-number : (s frame : ℕ) {n w : ℕ} → n ≡ frame * (3 * s + 4 + 1) + w → w ≡ 3 * s + 3 → n ≡ frame * (3 * s + 4 + 1) + 3 * s + 4 - 1
turn-number s frame e f = omega arith

then-number : (s frame : ℕ) {n w : ℕ} → n ≡ frame * (3 * s + 4 + 1) + w → w ≡ 3 * s + 3 → suc (suc n) ≡ suc frame * (3 * s + 4 + 1) + 3 * 0 + 1 - 1
then-number s frame e f =
    let more : suc frame * (3 * s + 4 + 1) ≡ (3 * s + 4 + 1) + frame * (3 * s + 4 + 1) = omega arith in
    omega (arith, more)

pub runs-on : {sc : _} (hands : List HandIn) → IsLawful sc → (t : ℕ) → (moment sc hands t).window ≡ stages_in sc.sizes → IsRunning (moment sc hands t)
    → IsRunning (moment sc hands (suc (suc t)))
runs-on {sc} hands lawful t at running =
    let s : ℕ = sync_slot_of sc.sizes in
    let frame : ℕ = (moment sc hands t).frame in
    let number = number-of sc hands t in
    let is : t ≡ frame * (windows_in sc.sizes + 1) + 3 * s + 4 - 1 = turn-number s frame number.0 at in
    let then_is : suc (suc t) ≡ suc frame * (windows_in sc.sizes + 1) + 3 * 0 + 1 - 1 = then-number s frame number.0 at in
    let then_runs : IsRunning (moment sc hands (suc frame * (windows_in sc.sizes + 1) + 3 * 0 + 1 - 1)) =
    reached hands lawful (suc frame) (ap (λ n. (moment sc hands n).book.ended) (sym is) ∙ running) in
    ap (λ n. (moment sc hands n).book.ended) then_is ∙ then_runs

last-on : {sc : _} (hands : List HandIn) → IsLawful sc → (g : ℕ) → (moment sc hands g).window + 1 ≡ stages_in sc.sizes → IsRunning (moment sc hands (suc g))
    → IsRunning (moment sc hands (suc (suc (suc g))))
last-on {sc} hands lawful g last running =
    let w : IsWindowLater sc (moment sc hands g) (moment sc hands (suc g)) = window-later sc hands (moment sc hands g) (omega arith) in
    let e : (moment sc hands (suc g)).window ≡ (moment sc hands g).window + 1 = w.window in
    runs-on hands lawful (suc g) (omega arith) running

turned-open : (sc : Scenario) (hands : List HandIn) (m : Moment) (over in_frame : Bool) → over ≡ false → in_frame ≡ false → IsRunning m → IsRunning (stepped sc hands m over in_frame)
unfolding begin_frame
turned-open sc hands m true in_frame e f h = cc
turned-open sc hands m false true e f h = cc
turned-open sc hands m false false e f h = begun-open sc (m.frame + 1) _ m.book h

end-on : (sc : Scenario) (hands : List HandIn) (g : ℕ) → IsRunning (moment sc hands g) → windows_in sc.sizes ≤ (moment sc hands g).window → IsRunning (moment sc hands (suc g))
unfolding step
end-on sc hands g running at_end =
    let m : Moment = moment sc hands g in
    let runs : RunsIn sc m = runs-in sc hands g running in
    turned-open sc hands m (m.frame == sc.frames) (nat_lt m.window (windows_in sc.sizes))
    (differs (m.frame == sc.frames) (λ e. let first : m.window ≡ 0 = runs.at_first (eqb-true m.frame sc.frames e) in omega arith)) (le-ltb m.window (windows_in sc.sizes) at_end) running
  where
    differs : (b : Bool) → (b ≡ true → ⊥) → b ≡ false
    differs true h = absurd (h refl)
    differs false h = refl

-- in a moment of the run nodes are in time
in-here : {sc : _} (hands : List HandIn) → IsLawful sc → (p : ℕ) → IsRunning (moment sc hands p) → (moment sc hands p).window ≤ stages_in sc.sizes
    → InTime sc (moment sc hands p) (moment sc hands (next_stage sc.sizes (moment sc hands p) p))
in-here {sc} hands lawful p running within =
    elim (cases_lt (moment sc hands p).window (stages_in sc.sizes)) [
      | inl stage ↦ in-reached hands lawful p running stage
      | inr tail ↦
          let is : next_stage sc.sizes (moment sc hands p) p ≡ suc (suc p) = next-outer sc.sizes (moment sc hands p) p (omega arith) ∙ omega arith in
          let on : Running sc hands p =
          in-running hands lawful p within (subst (λ q. IsRunning (moment sc hands q)) (sym is) (runs-on hands lawful p (omega arith) running)) in
          on.times
    ]

-- in each moment up to n all nodes are in time, and before it what is sent in the next stage comes
-- later
pub record UpTo (sc : Scenario) (hands : List HandIn) (n : ℕ) : Type 0 where
  pub times : (p : ℕ) → p ≤ n → (moment sc hands p).window ≤ stages_in sc.sizes → InTime sc (moment sc hands p) (moment sc hands (next_stage sc.sizes (moment sc hands p) p))
  pub later : (p : ℕ) → p < n → (moment sc hands p).window ≤ stages_in sc.sizes → AllLater sc hands p
  pub well : BegunWell sc (moment sc hands n)

-- a stage after a moment does not come before its next stage
pub next-le : (sc : Scenario) (hands : List HandIn) (p n : ℕ) → (moment sc hands p).window ≤ stages_in sc.sizes → (moment sc hands n).window < stages_in sc.sizes → p < n
    → next_stage sc.sizes (moment sc hands p) p ≤ n
next-le sc hands p n within stage lt =
    elim (cases_lt n (next_stage sc.sizes (moment sc hands p) p)) [
      | inr ge ↦ ge
      | inl past ↦ let tail = (next-is-stage sc hands p within).between n lt past in absurd (omega (arith, tail.0, stage))
    ]

pub from-running : {sc : _} (hands : List HandIn) → IsLawful sc → (n : ℕ) → (moment sc hands n).window < stages_in sc.sizes → IsRunning (moment sc hands n) → UpTo sc hands n
from-running {sc} hands lawful n stage running = record {
  times = λ p le within. in-here hands lawful p (running_earlier sc hands p n le running) within;
  later = λ p lt within.
      let on : Running sc hands p =
      in-running hands lawful p within (running_earlier sc hands (next_stage sc.sizes (moment sc hands p) p) n (next-le sc hands p n within stage lt) running) in
      on.later;
  well = begun-well hands lawful n running;
}

-- a run breaks off in no moment before one that runs
pub breaks-later : {sc hands b q : _} (n : ℕ) → BreaksAt sc hands b q → IsRunning (moment sc hands n) → n ≤ b
breaks-later {sc} {hands} {b} n off running = elim (cases_lt b n) [
  | inr ge ↦ ge
  | inl lt ↦
      let on : IsRunning (moment sc hands (suc b)) = running_earlier sc hands (suc b) n (omega arith) running in
      absurd (true-false (sym off.ends ∙ on))
]

-- up to a stage after one at which the run has not ended nodes are in time, and no sync slot before
-- it breaks the run off
pub record Reaches (sc : Scenario) (hands : List HandIn) (n : ℕ) : Type 0 where
  pub up_to : UpTo sc hands n
  pub not_past : (b q : ℕ) → BreaksAt sc hands b q → n ≤ b

reaches-running : {sc : _} (hands : List HandIn) → IsLawful sc → (n : ℕ) → (moment sc hands n).window < stages_in sc.sizes → IsRunning (moment sc hands n) → Reaches sc hands n
reaches-running hands lawful n stage running =
    record { up_to = from-running hands lawful n stage running; not_past = λ b q off. breaks-later n off running }

-- the first stage is reached
pub reaches-first : {sc : _} (hands : List HandIn) → IsLawful sc → {n : ℕ} → (moment sc hands n).window < stages_in sc.sizes → n ≡ 0 → Reaches sc hands n
reaches-first {sc} hands lawful {n} stage first = reaches-running hands lawful n stage (subst (λ n. IsRunning (moment sc hands n)) (sym first) (first-running sc hands))

pub reach : {sc : _} (hands : List HandIn) → IsLawful sc → {n : ℕ} → (moment sc hands n).window < stages_in sc.sizes → (g : ℕ) → IsRunning (moment sc hands g)
    → n ≡ next_stage sc.sizes (moment sc hands g) g → Reaches sc hands n ⊎ ((q : ℕ) × BreaksAt sc hands g q)
reach {sc} hands lawful {n} stage g running next =
    let number = number-of sc hands g in
    elim (cases_lt m.window (3 * sync_slot_of sc.sizes)) [
      | inl exact ↦ inl (in-exact-slot exact)
      | inr late ↦ elim (cases_lt (stages_in sc.sizes) m.window) [
        | inr within ↦ elim (cases_lt m.window (stages_in sc.sizes)) [
          | inr tail ↦
              let is : n ≡ suc (suc g) = next ∙ next-outer sc.sizes m g (omega arith) ∙ omega arith in
              inl (reaches-running hands lawful n stage (subst (λ n. IsRunning (moment sc hands n)) (sym is) (runs-on hands lawful g (omega arith) running)))
          | inl below ↦ by (moment sc hands (suc g)).book.ended refl late below
        ]
        | inl at_end ↦
            let is : n ≡ suc g = next ∙ next-outer sc.sizes m g (omega arith) ∙ omega (arith, number.1) in
            inl (reaches-running hands lawful n stage (subst (λ n. IsRunning (moment sc hands n)) (sym is) (end-on sc hands g running (omega arith))))
      ]
    ]
  where
    m : Moment
    m = moment sc hands g

    in-exact-slot : m.window < 3 * sync_slot_of sc.sizes → Reaches sc hands n
    in-exact-slot exact =
        let is : n ≡ suc g = next ∙ next-inner sc.sizes m g (omega arith) in
        let later : IsWindowLater sc m (moment sc hands (suc g)) = window-later sc hands m (omega arith) in
        let w : (moment sc hands (suc g)).window ≡ m.window + 1 = later.window in
        let well : BegunWell sc m = begun-well hands lawful g running in
        let well_then : BegunWell sc (moment sc hands (suc g)) = well-on hands lawful g (omega arith) well in
        let up_to : UpTo sc hands n = record {
          times = λ p le within. elim (cases_lt g p) [
            | inl after ↦
                let same : suc g ≡ p = omega (arith, is, le, after) in
                subst (λ p. InTime sc (moment sc hands p) (moment sc hands (next_stage sc.sizes (moment sc hands p) p))) same (in-exact hands lawful (suc g) well_then (omega arith))
            | inr not_after ↦ in-here hands lawful p (running_earlier sc hands p g not_after running) within
          ];
          later = λ p lt within. elim (cases_lt p g) [
            | inl before ↦
                let on : Running sc hands p =
                in-running hands lawful p within (running_earlier sc hands (next_stage sc.sizes (moment sc hands p) p) g (next-le sc hands p g within (omega arith) before) running) in
                on.later
            | inr not_before ↦
                let same : g ≡ p = omega (arith, is, lt, not_before) in
                subst (AllLater sc hands) same (exact-later hands lawful g well (omega arith))
          ];
          well = subst (λ n. BegunWell sc (moment sc hands n)) (sym is) well_then;
        } in
        record {
          up_to = up_to;
          not_past = λ b q off.
              let le : g ≤ b = breaks-later g off running in
              elim (cases_lt g b) [
                | inl lt ↦ omega (arith, is, lt)
                | inr ge ↦
                    let same : b ≡ g = omega arith in
                    let there : (moment sc hands g).window ≡ 3 * sync_slot_of sc.sizes + q = subst (λ n. (moment sc hands n).window ≡ 3 * sync_slot_of sc.sizes + q) same off.window in
                    absurd (omega (arith, exact, there))
              ];
        }

    by : (t : Bool) → (moment sc hands (suc g)).book.ended ≡ t → 3 * sync_slot_of sc.sizes ≤ m.window → m.window < stages_in sc.sizes
        → Reaches sc hands n ⊎ ((q : ℕ) × BreaksAt sc hands g q)
    by true e late below =
        let small : m.window - 3 * sync_slot_of sc.sizes < 3 = omega (arith, late, below) in
        inr (m.window - 3 * sync_slot_of sc.sizes, record { running = running; ends = e; small = small; window = omega (arith, late) })
    by false e late below =
        elim (cases_lt (m.window + 1) (stages_in sc.sizes)) [
          | inl inner ↦
              inl (reaches-running hands lawful n stage (subst (λ n. IsRunning (moment sc hands n)) (sym (next ∙ next-inner sc.sizes m g inner)) e))
          | inr outer ↦
              let is : n ≡ suc (suc (suc g)) = next ∙ next-outer sc.sizes m g outer ∙ omega arith in
              inl (reaches-running hands lawful n stage (subst (λ n. IsRunning (moment sc hands n)) (sym is) (last-on hands lawful g (omega arith) e)))
        ]

pub next-up-to : {sc hands n : _} (p : ℕ) → UpTo sc hands n → (moment sc hands n).window < stages_in sc.sizes → p < n → (moment sc hands p).window ≤ stages_in sc.sizes
    → NextInTime sc hands p
next-up-to {sc} {hands} {n} p up stage lt within =
    let m : Moment = moment sc hands p in
    let next : NextIsStage sc hands p = next-is-stage sc hands p within in
    record {
      tail = λ below.
          let later : IsWindowLater sc m (moment sc hands (suc p)) = window-later sc hands m (omega arith) in
          let w : (moment sc hands (suc p)).window ≡ m.window + 1 = later.window in
          up.times (suc p) (omega arith) (omega arith);
      stage = λ q e.
          let le : q ≤ n = elim (cases_lt n q) [
            | inr ge ↦ ge
            | inl past ↦ let tail = next.between n lt (omega (arith, past, e)) in absurd (omega (arith, tail.0, stage))
          ] in
          let w : (moment sc hands q).window < stages_in sc.sizes = subst (λ q. (moment sc hands q).window < stages_in sc.sizes) (sym e) next.window in
          up.times q le (omega arith);
      later = λ last.
          let later : IsWindowLater sc m (moment sc hands (suc p)) = window-later sc hands m (omega arith) in
          let w : (moment sc hands (suc p)).window ≡ m.window + 1 = later.window in
          let before : suc p < n = elim (cases_lt (suc p) n) [
            | inl less ↦ less
            | inr ge ↦
                let same : suc p ≡ n = omega arith in
                let tail : (moment sc hands (suc p)).window < stages_in sc.sizes = subst (λ n. (moment sc hands n).window < stages_in sc.sizes) (sym same) stage in
                absurd (omega (arith, tail, w, last))
          ] in
          up.later (suc p) before (omega arith);
    }
