use Rattle.rb_laws_sweeps.proofs.GoesOn.{worlds-go-on}
use Rattle.rb_laws_sweeps.proofs.worlds_go_on_ahead.Goals as goal

pub returns : goal.returns
returns c = worlds-go-on
