use Rattle.rb_laws_events.proofs.EventsHold.{turns-hold}
use Rattle.rb_laws_events.proofs.one_turn_a_record.Goals as goal

pub returns : goal.returns
returns c = turns-hold
