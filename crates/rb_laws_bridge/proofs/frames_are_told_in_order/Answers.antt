use Rattle.rb_laws_bridge.proofs.Ordered.{told-in-order}
use Rattle.rb_laws_bridge.proofs.frames_are_told_in_order.Goals as goal

pub returns : goal.returns
returns c = told-in-order
