-- For the law of record and replay: a run without a breach goes on up to the start of the frame
-- after the last, and there it ends. So in each of its worlds all nodes stand in the rounds.
use Rattle.std.proofs.{Common.{◌≡◌, ℕ, zero, suc, ◌+◌, ◌*◌, ◌<◌, ◌≤◌, ◌==◌, ◌||◌, nat_lt, Bool, true, false, List, [], ◌∷◌, ◌++◌, refl, ap, sym, ◌∙◌, subst, arith, inl, inr, Option, Some, None}, lemmas.Bool.cases_lt, lemmas.Bool.Decides.nat_tests, lemmas.List.Folds.list_any-append, lemmas.Nat.mul-le}
use Rattle.std.specs.List.{list_any}
use Rattle.rb_base.specs.declared.values.Place.{Place}
use Rattle.rb_base.proofs.Plain.{times-more, true-false}
use Rattle.rb_rules.specs.{declared.cause.Cause.Cause, declared.plan.Window.Window, Book.{Book, Each, Row, after_verdict, fresh_book, judged_of, with_end, with_stage}, Book.Record.{Ended, Breach}, Goodness.Scenario, Judging.{JudgedStage, verdict_of}, Lawful.IsLawful, Rounds.{Moment, after_window, begin_frame, book_after, moment, records_of, step, steps_of, windows_in}, WorldStep.{Choice, Due, World, IsPrefix, choose, due_of, world_after}, WorldStep.Choice.{Take, GoOn}}
use Rattle.rb_rules.proofs.Books.{begun-open, given-are, stepped}
use Rattle.rb_laws_events.proofs.{BreakNodes.BreaksAt, EveryWorld.after-more, MomentBooks.number-of, SettlingFrames.{RunsIn, runs-in}}
use Rattle.rb_laws_logs.specs.{Given.{first_run, first_step, step_with}, Laws.{EndsWithoutBreach, is_breach}}

-- Numbers.

-- the number of the moment with which the frame after the last begins
abbrev pub last_moment : Scenario → ℕ
last_moment sc = sc.frames * (windows_in sc.sizes + 1)

-- a moment before the last one is in a frame of the scenario
pub frame-below : (sc : Scenario) (p : ℕ) → p < last_moment sc → (moment sc [] p).frame < sc.frames
frame-below sc p h =
    let m : Moment = moment sc [] p in
    let n : ℕ = windows_in sc.sizes + 1 in
    let at = number-of sc [] p in
    elim (cases_lt m.frame sc.frames) [
      | inl lt ↦ lt
      | inr ge ↦ let up : sc.frames * n ≤ m.frame * n = mul-le sc.frames n m.frame n ge (omega arith) in absurd (omega (arith, at.0, up, h))
    ]

pub number-below : (sc : Scenario) (p : ℕ) → (moment sc [] p).frame < sc.frames → p < last_moment sc
number-below sc p h =
    let m : Moment = moment sc [] p in
    let n : ℕ = windows_in sc.sizes + 1 in
    let at = number-of sc [] p in
    let up : (m.frame + 1) * n ≤ sc.frames * n = mul-le (m.frame + 1) n sc.frames n (omega arith) (omega arith) in
    let more : (m.frame + 1) * n ≡ m.frame * n + n = times-more m.frame n in
    omega (arith, at.0, at.1, up, more)

-- moment `p` is the start of the frame after the last
pub record IsLastBegin (sc : Scenario) (p : ℕ) : Type 0 where
  pub frame : (moment sc [] p).frame ≡ sc.frames
  pub window : (moment sc [] p).window ≡ 0

pub last-begin : (sc : Scenario) → IsLastBegin sc (last_moment sc)
last-begin sc =
    let p : ℕ = last_moment sc in
    let m : Moment = moment sc [] p in
    let n : ℕ = windows_in sc.sizes + 1 in
    let at = number-of sc [] p in
    let frame : m.frame ≡ sc.frames = elim (cases_lt m.frame sc.frames) [
      | inl lt ↦ let below : p < last_moment sc = number-below sc p lt in absurd (omega arith)
      | inr ge ↦ elim (cases_lt sc.frames m.frame) [
        | inr le ↦ omega (arith, ge, le)
        | inl gt ↦
            let up : (sc.frames + 1) * n ≤ m.frame * n = mul-le (sc.frames + 1) n m.frame n (omega arith) (omega arith) in
            let more : (sc.frames + 1) * n ≡ sc.frames * n + n = times-more sc.frames n in
            absurd (omega (arith, at.0, up, more))
      ]
    ] in
    let same : m.frame * n ≡ sc.frames * n = ap (λ f. f * n) frame in
    record { frame = frame; window = omega (arith, at.0, same) }

pub steps-are : (sc : Scenario) → steps_of sc ≡ suc (last_moment sc)
steps-are sc = omega arith

-- The rounds.

-- no breach is among the records of a moment
none-before : (sc : Scenario) (p : ℕ) → EndsWithoutBreach sc → p ≤ steps_of sc → list_any is_breach (moment sc [] p).book.given ≡ false
none-before sc p none le =
    let prefix : IsPrefix (moment sc [] p).book.given (records_of sc []) = given-are sc [] p (moment sc [] p).book refl le in
    left (list_any is_breach (moment sc [] p).book.given) (list_any is_breach prefix.0)
    (sym (list_any-append is_breach (moment sc [] p).book.given prefix.0) ∙ ap (list_any is_breach) (sym prefix.1) ∙ none)
  where
    left : (a b : Bool) → (a || b) ≡ false → a ≡ false
    left true b h = cc
    left false b h = refl

-- a stage that is settled without a breach leaves the book open
stage-open : (sc : Scenario) (place : Place) (rows : Each (Option Row)) (b : Book) → b.ended ≡ false → list_any is_breach (with_stage sc place rows b).given ≡ false
    → (with_stage sc place rows b).ended ≡ false
unfolding with_stage
stage-open sc place rows b going none = subst Open (sym going) (by (verdict_of stages)) none
  where
    stages : List JudgedStage
    stages = judged_of sc place rows ∷ b.stages

    Open : Bool → Type 0
    Open e = list_any is_breach (elim e as (λ _. Book) [ true ↦ b | false ↦ after_verdict sc.sizes place rows stages b (verdict_of stages) ]).given ≡ false
        → (elim e as (λ _. Book) [ true ↦ b | false ↦ after_verdict sc.sizes place rows stages b (verdict_of stages) ]).ended ≡ false

    or-true : (a : Bool) → (a || true) ≡ true
    or-true true = refl
    or-true false = refl

    by : (v : Option Cause) → list_any is_breach (after_verdict sc.sizes place rows stages b v).given ≡ false → (after_verdict sc.sizes place rows stages b v).ended ≡ false
    by None h = refl
    by (Some cause) h = true-false (sym (list_any-append is_breach b.given (Breach place cause ∷ []) ∙ or-true (list_any is_breach b.given)) ∙ h)

window-open : (sc : Scenario) (frame : ℕ) (o : Option Window) (rows : Each (Option Row)) (b : Book) → b.ended ≡ false → list_any is_breach (book_after sc frame o rows b).given ≡ false
    → (book_after sc frame o rows b).ended ≡ false
window-open sc frame None rows b going none = going
window-open sc frame (Some w) rows b going none = stage-open sc _ rows b going none

stepped-open : (sc : Scenario) (m : Moment) (over in_frame : Bool) → over ≡ false → m.book.ended ≡ false → list_any is_breach (stepped sc [] m over in_frame).book.given ≡ false
    → (stepped sc [] m over in_frame).book.ended ≡ false
unfolding after_window begin_frame
stepped-open sc m true in_frame e going none = cc
stepped-open sc m false true e going none = window-open sc m.frame _ _ m.book going none
stepped-open sc m false false e going none = begun-open sc (m.frame + 1) _ m.book going

-- the run goes on
pub goes-on : (sc : Scenario) → EndsWithoutBreach sc → (p : ℕ) → p ≤ last_moment sc → (moment sc [] p).book.ended ≡ false
unfolding step begin_frame
goes-on sc none zero le = begun-open sc 0 _ fresh_book refl
goes-on sc none (suc p) le =
    let m : Moment = moment sc [] p in
    let below : m.frame < sc.frames = frame-below sc p (omega (arith, le)) in
    let steps : steps_of sc ≡ suc (last_moment sc) = steps-are sc in
    stepped-open sc m (m.frame == sc.frames) (nat_lt m.window (windows_in sc.sizes)) (differs m.frame sc.frames below) (goes-on sc none p (omega (arith, le)))
    (none-before sc (suc p) none (omega (arith, le, steps)))
  where
    differs : (a b : ℕ) → a < b → (a == b) ≡ false
    differs a b h = grind (arith, nat_tests)

end-open : (b : Book) → b.ended ≡ false → with_end b ≡ record b { given = b.given ++ Ended ∷ []; ended = true }
end-open b h = ap (λ e. elim e as (λ _. Book) [ true ↦ b | false ↦ record b { given = b.given ++ Ended ∷ []; ended = true } ]) h

pub last-book : (sc : Scenario) → EndsWithoutBreach sc → (moment sc [] (suc (last_moment sc))).book
    ≡ record (moment sc [] (last_moment sc)).book { given = (moment sc [] (last_moment sc)).book.given ++ Ended ∷ []; ended = true }
unfolding step
last-book sc none =
    let m : Moment = moment sc [] (last_moment sc) in
    let begin : IsLastBegin sc (last_moment sc) = last-begin sc in
    ap (λ b. (stepped sc [] m b (nat_lt m.window (windows_in sc.sizes))).book) (same-is m.frame sc.frames begin.frame)
    ∙ end-open m.book (goes-on sc none (last_moment sc) (omega arith))
  where
    same-is : (a b : ℕ) → a ≡ b → (a == b) ≡ true
    same-is a b h = grind (arith, nat_tests)

pub breaks-not : {sc : _} → IsLawful sc → EndsWithoutBreach sc → {b q : ℕ} → BreaksAt sc [] b q → ⊥
breaks-not {sc} lawful none {b} off =
    let m : Moment = moment sc [] b in
    let runs : RunsIn sc m = runs-in sc [] b off.running in
    let bound : m.frame ≤ sc.frames = runs.bound in
    let some : 1 ≤ sc.sizes.bius = lawful.sizes.some_biu in
    let window = off.window in
    let below : m.frame < sc.frames = elim (cases_lt m.frame sc.frames) [
      | inl lt ↦ lt
      | inr ge ↦ let first : m.window ≡ 0 = runs.at_first (omega (arith, bound, ge)) in absurd (omega (arith, first, window, some))
    ] in
    let early : b < last_moment sc = number-below sc b below in
    true-false (sym off.ends ∙ goes-on sc none (suc b) (omega (arith, early)))

-- The worlds.

-- the choice in a step: the first due event, or to go on without one
abbrev pub choice_with : List Due → Choice
choice_with [] = GoOn
choice_with (d ∷ ds) = Take 0

abbrev pub choices_in : Scenario → ℕ → List Choice
choices_in sc zero = []
choices_in sc (suc n) = choices_in sc n ++ choice_with (due_of sc (first_run sc n)) ∷ []

chosen : (sc : Scenario) (w : World) (ds : List Due) → step_with sc w ds ≡ choose sc w (choice_with ds)
chosen sc w [] = refl
chosen sc w (d ∷ ds) = refl

pub run-is : (sc : Scenario) (n : ℕ) → first_run sc n ≡ world_after sc (choices_in sc n)
unfolding first_step
run-is sc zero = refl
run-is sc (suc n) =
    chosen sc (first_run sc n) (due_of sc (first_run sc n))
    ∙ ap (λ w. choose sc w (choice_with (due_of sc (first_run sc n)))) (run-is sc n)
    ∙ sym (after-more sc (choices_in sc n) (choice_with (due_of sc (first_run sc n))))
