-- A run in which each step takes the first due event.
use Rattle.std.proofs.Common.{◌≡◌, ℕ, zero, suc, ◌+◌, ◌^◌, ◌<◌, ◌≤◌, Some, None, List, [], ◌∷◌, ◌++◌, length, slice_get, refl, sym, ap, ◌∙◌, subst, arith}
use Rattle.rb_rules.specs.{Entries.IsListed, Goodness.Scenario, Lawful.IsLawful, WorldStep.{Choice, Due, World, choose, due_of, first_world, go_on, take, world_after}, WorldStep.Choice.{Take, GoOn}}
use Rattle.rb_laws_logs.specs.Given.{first_run, first_step, step_with}
use Rattle.rb_laws_events.proofs.{EventsHold.ends-hold, EveryWorld.after-more, RunsEnd.takes-append}
use Rattle.rb_laws_events.specs.Laws.{taken_by, takes_from}
use Rattle.rb_world.specs.{declared.ties.Ties.TheVariants.First, Nexts.{Standing, after_steps, step, step_among}, Worlds.IsReached}
use Rattle.rb_world.proofs.Steps.{few-takes}

-- One step.

pub run-busy : (sc : Scenario) (w : World) → 1 ≤ length (due_of sc w) → first_step sc w ≡ take sc w 0
unfolding first_step
run-busy sc w = by (due_of sc w)
  where
    by : (ds : List Due) → 1 ≤ length ds → step_with sc w ds ≡ take sc w 0
    by [] some = absurd (omega (arith, some))
    by (d ∷ ds) some = refl

pub run-idle : (sc : Scenario) (w : World) → length (due_of sc w) ≡ 0 → first_step sc w ≡ go_on sc w
unfolding first_step
run-idle sc w = by (due_of sc w)
  where
    by : (ds : List Due) → length ds ≡ 0 → step_with sc w ds ≡ go_on sc w
    by [] none = refl
    by (d ∷ ds) none = absurd (omega (arith, none))

-- Steps to the next record.

among-first : (sc : Scenario) (due : ℕ) (s : Standing) → length (due_of sc s.world) ≡ due → (step_among sc First due s).world ≡ first_step sc s.world
among-first sc zero s e = sym (run-idle sc s.world e)
among-first sc (suc k) s e = sym (run-busy sc s.world (omega (arith, e)))

step-first : (sc : Scenario) (s : Standing) → (step sc First s).world ≡ first_step sc s.world
unfolding step
step-first sc s = among-first sc (length (due_of sc s.world)) s refl

-- k steps by first choices, whatever the draws
pub after-first : (sc : Scenario) (n k draws : ℕ) → (after_steps sc First k (record { world = first_run sc n; draws = draws })).world ≡ first_run sc (n + k)
unfolding after_steps
after-first sc n zero draws = let same : n ≡ n + 0 = omega arith in ap (first_run sc) same
after-first sc n (suc k) draws =
    let same : suc (n + k) ≡ n + suc k = omega arith in
    step-first sc (after_steps sc First k (record { world = first_run sc n; draws = draws })) ∙ ap (first_step sc) (after-first sc n k draws) ∙ ap (first_run sc) same

-- Choices.

abbrev choice_in : List Due → Choice
choice_in [] = GoOn
choice_in (d ∷ ds) = Take 0

step-chosen : (sc : Scenario) (w : World) → first_step sc w ≡ choose sc w (choice_in (due_of sc w))
unfolding first_step
step-chosen sc w = by (due_of sc w)
  where
    by : (ds : List Due) → step_with sc w ds ≡ choose sc w (choice_in ds)
    by [] = refl
    by (d ∷ ds) = refl

-- the choices of the first n steps
abbrev pub choices_of : Scenario → ℕ → List Choice
choices_of sc zero = []
choices_of sc (suc n) = choices_of sc n ++ choice_in (due_of sc (first_run sc n)) ∷ []

pub run-is : (sc : Scenario) (n : ℕ) → first_run sc n ≡ world_after sc (choices_of sc n)
run-is sc zero = refl
run-is sc (suc n) =
    step-chosen sc (first_run sc n) ∙ ap (λ w. choose sc w (choice_in (due_of sc (first_run sc n)))) (run-is sc n)
    ∙ sym (after-more sc (choices_of sc n) (choice_in (due_of sc (first_run sc n))))

pub run-reached : (sc : Scenario) (n : ℕ) → IsReached sc (first_run sc n)
run-reached sc n = record { choices = choices_of sc n; is = run-is sc n }

-- How many.

one-take : (sc : Scenario) (w : World) → 1 ≤ length (due_of sc w) → taken_by sc w (choice_in (due_of sc w)) ≡ 1
one-take sc w some = by (due_of sc w) refl some
  where
    by : (ds : List Due) → due_of sc w ≡ ds → 1 ≤ length ds → taken_by sc w (choice_in ds) ≡ 1
    by [] e some = absurd (omega (arith, some))
    by (d ∷ ds) e some = ap (λ (xs : List Due). elim (slice_get xs 0) as (λ _. ℕ) [ None ↦ 0 | Some d ↦ 1 ]) e

-- as long as some event was due, each step took one
all-taken : (sc : Scenario) (n : ℕ) → ((m : ℕ) → m < n → 1 ≤ length (due_of sc (first_run sc m))) → n ≤ takes_from sc (first_world sc) (choices_of sc n)
all-taken sc zero some = omega arith
all-taken sc (suc n) some =
    let rest = all-taken sc n (λ m lt. some m (omega (arith, lt))) in
    let c : Choice = choice_in (due_of sc (first_run sc n)) in
    let sum = takes-append sc (first_world sc) (choices_of sc n) c in
    let one : taken_by sc (world_after sc (choices_of sc n)) c ≡ 1 = subst (λ w. taken_by sc w c ≡ 1) (run-is sc n) (one-take sc (first_run sc n) (some n (omega arith))) in
    omega (arith, rest, sum, one)

pub few-steps : (sc : Scenario) (n : ℕ) → IsLawful sc → IsListed sc → ((m : ℕ) → m < n → 1 ≤ length (due_of sc (first_run sc m))) → n < 2 ^ 63
few-steps sc n lawful listed some =
    let many = all-taken sc n some in
    let few = (ends-hold sc lawful listed).few (choices_of sc n) in
    let most = few-takes sc lawful listed in
    omega (arith, many, few, most)
