use Rattle.rb_laws_sweeps.proofs.Hearing.{hearing-composes}
use Rattle.rb_laws_sweeps.proofs.hearing_composes.Goals as goal

pub returns : goal.returns
returns c = hearing-composes
