use Rattle.rb_laws_sweeps.proofs.Bringing.{sweeps-bring}
use Rattle.rb_laws_sweeps.proofs.sweeps_bring.Goals as goal

pub returns : goal.returns
returns c = sweeps-bring
