use Rattle.rb_laws_events.proofs.FewPending.{pending-few}
use Rattle.rb_laws_events.proofs.pending_events_are_few.Goals as goal

pub returns : goal.returns
returns c = pending-few
