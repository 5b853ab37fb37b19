use Rattle.rb_laws_sweeps.proofs.Sweeps.{nothing-is-swept}
use Rattle.rb_laws_sweeps.proofs.nothing_is_swept.Goals as goal

pub returns : goal.returns
returns c = nothing-is-swept
