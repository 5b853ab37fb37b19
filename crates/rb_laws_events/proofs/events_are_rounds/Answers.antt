use Rattle.rb_laws_events.proofs.EventsHold.{events-hold}
use Rattle.rb_laws_events.proofs.events_are_rounds.Goals as goal

pub returns : goal.returns
returns c = events-hold
