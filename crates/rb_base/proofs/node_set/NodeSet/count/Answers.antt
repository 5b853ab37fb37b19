use Rattle.std.proofs.Common.{arith}
use Rattle.rb_base.proofs.SetSizes.{size-ones}
use Rattle.rb_base.proofs.node_set.NodeSet.count.Goals as goal

pub returns-clause-value : goal.returns-clause-value
returns-clause-value g c = rw (← c.self.view_is) (size-ones _ (omega arith))
