use Rattle.std.proofs.Common.{subst}
use Rattle.rb_rules.specs.Plan.{IsFeasible}
use Rattle.rb_plan.specs.Timetable.{Timetable}
use Rattle.rb_node.proofs.ahead.bounds.Goals as goal

pub returns-clause-feasible : goal.returns-clause-feasible
returns-clause-feasible g c = subst (λ (t : Timetable). IsFeasible t.sizes t.plan) c.plan.ensures c.plan-plan.ensures.feasible
