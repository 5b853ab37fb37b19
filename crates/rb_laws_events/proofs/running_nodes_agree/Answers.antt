use Rattle.rb_laws_events.proofs.NodesAlike.{nodes-agree}
use Rattle.rb_laws_events.proofs.running_nodes_agree.Goals as goal

pub returns : goal.returns
returns c = nodes-agree
