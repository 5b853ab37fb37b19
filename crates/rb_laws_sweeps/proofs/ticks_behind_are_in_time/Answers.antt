use Rattle.rb_laws_sweeps.proofs.InTime.{ticks-behind-in-time}
use Rattle.rb_laws_sweeps.proofs.ticks_behind_are_in_time.Goals as goal

pub returns : goal.returns
returns c = ticks-behind-in-time
