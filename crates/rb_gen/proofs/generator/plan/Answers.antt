use Rattle.std.proofs.Common.{ap, ◌∙◌}
use Rattle.rb_base.specs.Sizes.{Sizes}
use Rattle.rb_plan.specs.Timetable.{Timetable}
use Rattle.rb_gen.specs.Generated.{plan}
use Rattle.rb_gen.proofs.generator.plan.Goals as goal

with_sizes : Sizes → Timetable
with_sizes sizes = record { sizes = sizes; plan = plan }

pub returns : goal.returns
unfolding plan with_sizes
returns c = c.in-Ok.ensures.value ∙ ap with_sizes c.in-Some.ensures.value
