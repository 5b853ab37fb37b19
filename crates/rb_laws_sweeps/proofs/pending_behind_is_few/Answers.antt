use Rattle.rb_laws_sweeps.proofs.BehindFew.{behind-few}
use Rattle.rb_laws_sweeps.proofs.pending_behind_is_few.Goals as goal

pub returns : goal.returns
returns c = behind-few
