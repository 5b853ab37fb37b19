use Rattle.rb_laws_sweeps.proofs.Sweeps.{sweeps-take}
use Rattle.rb_laws_sweeps.proofs.sweeps_take_the_first.Goals as goal

pub returns : goal.returns
returns c = sweeps-take
