use Rattle.rb_laws_bridge.proofs.Beginnings.{begins-or-ends}
use Rattle.rb_laws_bridge.proofs.frames_begin_in_order.Goals as goal

pub returns : goal.returns
returns c = begins-or-ends
