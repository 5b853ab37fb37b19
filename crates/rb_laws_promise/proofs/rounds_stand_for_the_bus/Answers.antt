use Rattle.rb_laws_events.proofs.NodesAreTheBus.{stands-for}
use Rattle.rb_laws_promise.proofs.rounds_stand_for_the_bus.Goals as goal

pub returns : goal.returns
returns c = stands-for
