-- A run in which always the first due event is taken ends, and nothing is given after its end.
use Rattle.std.proofs.{Common.{◌≡◌, ℕ, zero, suc, ◌+◌, ◌-◌, ◌≤◌, ◌||◌, Bool, true, false, List, [], ◌∷◌, ◌++◌, flat_map, length, length-append, refl, ap, sym, ◌∙◌, subst, arith, inl, inr, Some, None, slice_get}, lemmas.Bool.cases_lt, lemmas.List.append-nil}
use Rattle.rb_base.specs.declared.node.NodeName.{NodeName}
use Rattle.rb_base.proofs.Plain.{true-false}
use Rattle.rb_rules.specs.{Book.{Record, in_order}, Entries.IsListed, Goodness.Scenario, Lawful.IsLawful, Rounds.records_of, WorldStep.{Choice, Due, IsPrefix, World, choose, due_at, due_of, first_world, go_on, least, needs_no_event, settle, take, times_of, world_after}, WorldStep.Choice.{Take, GoOn}, WorldStep.Way.ByItself}
use Rattle.rb_laws_events.specs.Laws.{EveryRunEnds, most_takes, taken_by, takes_from}
use Rattle.rb_laws_events.proofs.{GivenAlone.given-alone, WorldBooks.choose-on, EventsHold.{due-holds, ends-hold, events-hold}, RunsEnd.takes-append}
use Rattle.rb_laws_logs.specs.{Given.{AreGiven, first_run, first_step, given_in, step_with}, Laws.OneListIsGiven}
use Rattle.rb_laws_logs.proofs.{NoBreach.{choice_with, choices_in, run-is}, NodeRun.given-none, Worlds.no-hands}

-- After the end.

due-ended : (sc : Scenario) (w : World) → w.book.ended ≡ true → due_of sc w ≡ []
unfolding due_of
due-ended sc w h = ap (λ b. elim (b || needs_no_event sc w.book.upcoming) as (λ _. List Due) [ true ↦ [] | false ↦ due_at sc w (least (flat_map times_of (in_order w.sites))) ]) h

step-ended : (sc : Scenario) (w : World) → w.book.ended ≡ true → first_step sc w ≡ w
unfolding first_step go_on
step-ended sc w h = ap (step_with sc w) (due-ended sc w h) ∙ ap (λ b. elim b as (λ _. World) [ true ↦ w | false ↦ settle sc ByItself 2 w ]) h

-- from step `m` to step `n` the world stays, and nothing is given
pub record Stays (sc : Scenario) (name : NodeName) (m n : ℕ) : Type 0 where
  pub world : first_run sc n ≡ first_run sc m
  pub given : given_in sc name n ≡ given_in sc name m

stays : (sc : Scenario) (name : NodeName) (k m n : ℕ) → n ≡ k + m → (first_run sc m).book.ended ≡ true → Stays sc name m n
stays sc name zero m n e h = let same : n ≡ m = omega (arith, e) in record { world = ap (first_run sc) same; given = ap (given_in sc name) same }
stays sc name (suc k) m zero e h = absurd (omega (arith, e))
stays sc name (suc k) m (suc n) e h =
    let before : Stays sc name m n = stays sc name k m n (omega (arith, e)) h in
    let ended : (first_run sc n).book.ended ≡ true = ap (λ (w : World). w.book.ended) before.world ∙ h in
    record {
      world = step-ended sc (first_run sc n) ended ∙ before.world;
      given = ap (λ l. given_in sc name n ++ l) (given-none sc name (first_run sc n) (ap (λ ds. slice_get ds 0) (due-ended sc (first_run sc n) ended)))
          ∙ append-nil (given_in sc name n) ∙ before.given;
    }

pub same-given : (sc : Scenario) (name : NodeName) (m n : ℕ) → m ≤ n → (first_run sc m).book.ended ≡ true → given_in sc name n ≡ given_in sc name m
same-given sc name m n le h = (stays sc name (n - m) m n (omega (arith, le)) h).given

pub one-only : {sc name events others : _} → AreGiven sc name events → AreGiven sc name others → others ≡ events
one-only {sc} {name} a b = b.all ∙ elim (cases_lt a.steps b.steps) [
  | inl lt ↦ same-given sc name a.steps b.steps (omega (arith, lt)) a.over
  | inr ge ↦ sym (same-given sc name b.steps a.steps ge b.over)
] ∙ sym a.all

-- Up to the end.

prefix-length : (xs : List Record) {ys : _} → IsPrefix xs ys → length xs ≤ length ys
prefix-length xs {ys} p = let e : length ys ≡ length xs + length p.0 = ap length p.1 ∙ length-append xs p.0 in omega (arith, e)

-- each step takes an event or gives a record
abbrev steps_by : Scenario → ℕ → ℕ
steps_by sc n = takes_from sc (first_world sc) (choices_in sc n) + length (first_run sc n).book.given

-- if an event is due, the first choice takes one
taken-more : (sc : Scenario) (w : World) (d : Due) (ds : List Due) → due_of sc w ≡ d ∷ ds → taken_by sc w (Take 0) ≡ 1
taken-more sc w d ds e = ap (λ (ds : List Due). elim (slice_get ds 0) as (λ _. ℕ) [ None ↦ 0 | Some d ↦ 1 ]) e

given-more : (sc : Scenario) (w : World) (c : Choice) → length w.book.given ≤ length (choose sc w c).book.given
given-more sc w c = prefix-length w.book.given (choose-on sc w c).more

step-more : {sc : _} → IsLawful sc → (n : ℕ) → (first_run sc n).book.ended ≡ false → steps_by sc n + 1 ≤ steps_by sc (suc n)
unfolding first_step
step-more {sc} lawful n going = by (due_of sc w) refl
  where
    w : World
    w = first_run sc n

    before : List Choice
    before = choices_in sc n

    reached : w ≡ world_after sc before
    reached = run-is sc n

    takes : (c : Choice) → takes_from sc (first_world sc) (before ++ c ∷ []) ≡ takes_from sc (first_world sc) before + taken_by sc w c
    takes c = takes-append sc (first_world sc) before c ∙ ap (λ w. takes_from sc (first_world sc) before + taken_by sc w c) (sym reached)

    With : List Due → Type 0
    With ds = steps_by sc n + 1 ≤ takes_from sc (first_world sc) (before ++ choice_with ds ∷ []) + length (step_with sc w ds).book.given

    alone : due_of sc w ≡ [] → (b : Bool) → needs_no_event sc w.book.upcoming ≡ b → length w.book.given + 1 ≤ length (go_on sc w).book.given
    alone none false needs =
        let some : 1 ≤ length (due_of sc w) =
        subst (λ w. 1 ≤ length (due_of sc w)) (sym reached)
        (due-holds sc lawful before (ap (λ (w : World). w.book.ended) (sym reached) ∙ going) (ap (λ (w : World). needs_no_event sc w.book.upcoming) (sym reached) ∙ needs)) in
        let few : length (due_of sc w) ≡ 0 = ap length none in
        absurd (omega (arith, some, few))
    alone none true needs =
        let r = given-alone sc lawful.sizes w going needs in
        let e : length (go_on sc w).book.given ≡ length w.book.given + 1 = ap length r.1.1 ∙ length-append w.book.given (r.0 ∷ []) in
        omega (arith, e)

    by : (ds : List Due) → due_of sc w ≡ ds → steps_by sc n + 1 ≤ steps_by sc (suc n)
    by [] e =
        let more : length w.book.given + 1 ≤ length (go_on sc w).book.given = alone e (needs_no_event sc w.book.upcoming) refl in
        let same = takes GoOn in
        subst With (sym e) (omega (arith, more, same))
    by (d ∷ ds) e =
        let more : length w.book.given ≤ length (take sc w 0).book.given = given-more sc w (Take 0) in
        let one : taken_by sc w (Take 0) ≡ 1 = taken-more sc w d ds e in
        let same = takes (Take 0) in
        subst With (sym e) (omega (arith, more, one, same))

-- a run that goes on has made few steps
steps-count : {sc : _} → IsLawful sc → (n : ℕ) → (first_run sc n).book.ended ≡ false → n ≤ steps_by sc n
steps-count lawful zero going = omega arith
steps-count {sc} lawful (suc n) going =
    let more : steps_by sc n + 1 ≤ steps_by sc (suc n) = step-more lawful n (before (first_run sc n).book.ended refl) in
    let rest : n ≤ steps_by sc n = steps-count lawful n (before (first_run sc n).book.ended refl) in
    omega (arith, more, rest)
  where
    before : (b : Bool) → (first_run sc n).book.ended ≡ b → (first_run sc n).book.ended ≡ false
    before false e = e
    before true e = true-false (sym (ap (λ (w : World). w.book.ended) (step-ended sc (first_run sc n) e) ∙ e) ∙ going)

pub few-steps : {sc : _} → IsListed sc → IsLawful sc → (n : ℕ) → (first_run sc n).book.ended ≡ false → n ≤ most_takes sc + length (records_of sc [])
few-steps {sc} listed lawful n going =
    let runs : EveryRunEnds sc = ends-hold sc lawful listed in
    let choices : List Choice = choices_in sc n in
    let steps : n ≤ steps_by sc n = steps-count lawful n going in
    let few : takes_from sc (first_world sc) choices ≤ most_takes sc = runs.few choices in
    let hands : (world_after sc choices).hands ≡ [] = ap (λ (w : World). w.hands) (sym (run-is sc n)) ∙ no-hands sc n in
    let given : length (world_after sc choices).book.given ≤ length (records_of sc []) =
    subst (λ hs. length (world_after sc choices).book.given ≤ length (records_of sc hs)) hands
    (prefix-length (world_after sc choices).book.given ((events-hold sc lawful).first choices)) in
    let same : length (first_run sc n).book.given ≡ length (world_after sc choices).book.given = ap (λ (w : World). length w.book.given) (run-is sc n) in
    omega (arith, steps, few, given, same)

pub run-ends : {sc : _} → IsListed sc → IsLawful sc → (first_run sc (most_takes sc + length (records_of sc []) + 1)).book.ended ≡ true
run-ends {sc} listed lawful = by (first_run sc n).book.ended refl
  where
    n : ℕ
    n = most_takes sc + length (records_of sc []) + 1

    by : (b : Bool) → (first_run sc n).book.ended ≡ b → b ≡ true
    by true e = refl
    by false e = let few : n ≤ most_takes sc + length (records_of sc []) = few-steps listed lawful n e in absurd (omega (arith, few))

pub one-list-is-given : OneListIsGiven
one-list-is-given sc lawful listed name =
    let n : ℕ = most_takes sc + length (records_of sc []) + 1 in
    let are : AreGiven sc name (given_in sc name n) = record { steps = n; over = run-ends listed lawful; all = refl } in
    (given_in sc name n, (are, λ others its. one-only are its))
