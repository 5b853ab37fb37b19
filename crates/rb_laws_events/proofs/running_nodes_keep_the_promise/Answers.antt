use Rattle.rb_laws_events.proofs.NodesPromise.{keep-the-promise}
use Rattle.rb_laws_events.proofs.running_nodes_keep_the_promise.Goals as goal

pub returns : goal.returns
returns c = keep-the-promise
