use Rattle.rb_laws_bridge.proofs.Told.{others-tell-nothing}
use Rattle.rb_laws_bridge.proofs.other_bius_tell_nothing.Goals as goal

pub returns : goal.returns
returns c = others-tell-nothing
