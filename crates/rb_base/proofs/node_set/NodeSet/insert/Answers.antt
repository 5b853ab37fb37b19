use Rattle.std.proofs.Common.{arith}
use Rattle.rb_base.proofs.Sets.{insert_is}
use Rattle.rb_base.proofs.node_set.NodeSet.insert.Goals as goal

pub returns : goal.returns
returns g c = rw (← c.self.view_is, ← c.index.ensures.value) (insert_is _ _ (omega arith) c.index.ensures.range)
