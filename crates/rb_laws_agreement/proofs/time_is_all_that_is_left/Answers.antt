use Rattle.rb_laws_agreement.proofs.Skews.{rounds_stand}
use Rattle.rb_laws_agreement.proofs.time_is_all_that_is_left.Goals as goal

pub returns : goal.returns
returns c = rounds_stand
