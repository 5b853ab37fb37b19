use Rattle.std.proofs.Common.{arith}
use Rattle.rb_base.proofs.Sets.{takes_first}
use Rattle.rb_base.proofs.node_set.NodeSet.pop_first.Goals as goal

pub returns-clause-first : goal.returns-clause-first
returns-clause-first g c = rw (← c.self.view_is) (takes_first c.self.inside.bits c.of-first.result (omega arith) (omega arith) c.of-first.ensures)
