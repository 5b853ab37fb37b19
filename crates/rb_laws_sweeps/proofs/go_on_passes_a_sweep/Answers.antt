use Rattle.rb_laws_sweeps.proofs.Calls.{go-on-passes}
use Rattle.rb_laws_sweeps.proofs.go_on_passes_a_sweep.Goals as goal

pub returns : goal.returns
returns c = go-on-passes
