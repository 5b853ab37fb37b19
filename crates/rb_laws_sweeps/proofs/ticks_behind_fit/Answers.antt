use Rattle.rb_laws_sweeps.proofs.TickFits.{ticks-behind-fit}
use Rattle.rb_laws_sweeps.proofs.ticks_behind_fit.Goals as goal

pub returns : goal.returns
returns c = ticks-behind-fit
