use Rattle.std.proofs.Common.{arith}
use Rattle.rb_base.proofs.Sets.{remove_is}
use Rattle.rb_base.proofs.node_set.NodeSet.remove.Goals as goal

pub returns : goal.returns
returns g c = rw (← c.self.view_is, ← c.index.ensures.value) (remove_is _ _ (omega arith) c.index.ensures.range)
