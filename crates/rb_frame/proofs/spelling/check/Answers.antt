use Rattle.std.proofs.Common.{◌∙◌}
use Rattle.rb_frame.proofs.Checks.{check_twelve}
use Rattle.rb_frame.proofs.spelling.check.Goals as goal

pub returns : goal.returns
returns c = c.check_of_four.ensures ∙ check_twelve c.args.low c.args.high
