use Rattle.rb_laws_bridge.proofs.Handed.{hand-ins-are-carried}
use Rattle.rb_laws_bridge.proofs.hand_ins_are_carried.Goals as goal

pub returns : goal.returns
returns c = hand-ins-are-carried
