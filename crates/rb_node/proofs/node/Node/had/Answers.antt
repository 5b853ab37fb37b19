use Rattle.rb_node.proofs.Cores.{stands}
use Rattle.rb_node.proofs.node.Node.had.Goals as goal

pub returns-clause-stands : goal.returns-clause-stands
returns-clause-stands g c = rw (← c.self.view_is) (stands _ c.came-came.ensures.stands.0 c.came-came.ensures.stands.1)
