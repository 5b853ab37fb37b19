use Rattle.rb_laws_bridge.proofs.Breaks.{later-tell-nothing}
use Rattle.rb_laws_bridge.proofs.later_hand_ins_tell_nothing.Goals as goal

pub returns : goal.returns
returns c = later-tell-nothing
