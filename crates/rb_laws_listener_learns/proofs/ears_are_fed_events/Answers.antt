use Rattle.rb_laws_listener_learns.proofs.Fed.{fed-events}
use Rattle.rb_laws_listener_learns.proofs.ears_are_fed_events.Goals as goal

pub returns : goal.returns
returns c = fed-events
