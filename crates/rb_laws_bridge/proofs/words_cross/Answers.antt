use Rattle.rb_laws_bridge.proofs.Crossed.{words-cross}
use Rattle.rb_laws_bridge.proofs.words_cross.Goals as goal

pub returns : goal.returns
returns c = words-cross
