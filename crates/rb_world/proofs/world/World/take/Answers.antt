use Rattle.rb_world.proofs.NodesKept.{nodes-keep}
use Rattle.rb_world.proofs.world.World.take.Goals as goal

pub returns-clause-nodes : goal.returns-clause-nodes
returns-clause-nodes g c = λ w is. nodes-keep _ w is
