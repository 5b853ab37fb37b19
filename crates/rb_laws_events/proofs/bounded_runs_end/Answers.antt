use Rattle.rb_laws_events.proofs.EventsHold.{bounded-end}
use Rattle.rb_laws_events.proofs.bounded_runs_end.Goals as goal

pub returns : goal.returns
returns c = bounded-end
