use Rattle.rb_laws_events.proofs.EventsHold.{ends-hold}
use Rattle.rb_laws_events.proofs.every_run_ends.Goals as goal

pub returns : goal.returns
returns c = ends-hold
