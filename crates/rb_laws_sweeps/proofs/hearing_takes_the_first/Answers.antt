use Rattle.rb_laws_sweeps.proofs.Hearing.{hearing-takes}
use Rattle.rb_laws_sweeps.proofs.hearing_takes_the_first.Goals as goal

pub returns : goal.returns
returns c = hearing-takes
