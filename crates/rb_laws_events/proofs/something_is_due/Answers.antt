use Rattle.rb_laws_events.proofs.EventsHold.{due-holds}
use Rattle.rb_laws_events.proofs.something_is_due.Goals as goal

pub returns : goal.returns
returns c = due-holds
