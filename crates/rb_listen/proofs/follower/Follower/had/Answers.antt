use Rattle.rb_node.proofs.Cores.{stands}
use Rattle.rb_listen.proofs.follower.Follower.had.Goals as goal

pub returns-clause-stands : goal.returns-clause-stands
returns-clause-stands c = rw (← c.self.view_is) (stands _ c.came-came.ensures.stands.0 c.came-came.ensures.stands.1)
