-- What the fields keep holds of the value that they show.
use Rattle.std.proofs.Common.{◌≡◌, subst}
use Rattle.rb_rules.specs.Plan.{IsFeasible}
use Rattle.rb_plan.specs.Timetable.{Timetable}
use Rattle.rb_plan.proofs.Feasible.plan.Goals as goal

shown : (fields value : Timetable) → fields ≡ value → IsFeasible fields.sizes fields.plan → IsFeasible value.sizes value.plan
shown fields value is feasible = subst (λ (t : Timetable). IsFeasible t.sizes t.plan) is feasible

pub returns-clause-feasible : goal.returns-clause-feasible
returns-clause-feasible c = shown _ _ c.self.view_is c.self.invariant.1
