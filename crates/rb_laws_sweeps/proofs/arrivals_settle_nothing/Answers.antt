use Rattle.rb_laws_sweeps.proofs.OpenWorlds.{arrivals-settle-nothing}
use Rattle.rb_laws_sweeps.proofs.arrivals_settle_nothing.Goals as goal

pub returns : goal.returns
returns c = arrivals-settle-nothing
