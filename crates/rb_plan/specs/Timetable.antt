-- The numbers by which a bus runs.
use Rattle.rb_base.specs.Sizes.{Sizes}
use Rattle.rb_rules.specs.declared.plan.Plan.{Plan}

pub record Timetable : Type 0 where
  pub sizes : Sizes
  pub plan : Plan
