use Rattle.rb_laws_sweeps.proofs.Sweeps.{pushes-pass}
use Rattle.rb_laws_sweeps.proofs.pushes_pass_a_sweep.Goals as goal

pub returns : goal.returns
returns c = pushes-pass
