use Rattle.rb_laws_sweeps.proofs.Sweeps.{sweeps-compose}
use Rattle.rb_laws_sweeps.proofs.sweeps_compose.Goals as goal

pub returns : goal.returns
returns c = sweeps-compose
