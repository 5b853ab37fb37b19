use Rattle.rb_laws_sweeps.proofs.Stopped.{stopped-stay-empty}
use Rattle.rb_laws_sweeps.proofs.stopped_stay_empty.Goals as goal

pub returns : goal.returns
returns c = stopped-stay-empty
