use Rattle.rb_laws_sweeps.proofs.Sweeps.{sweeps-keep}
use Rattle.rb_laws_sweeps.proofs.sweeps_keep_the_rest.Goals as goal

pub returns : goal.returns
returns c = sweeps-keep
