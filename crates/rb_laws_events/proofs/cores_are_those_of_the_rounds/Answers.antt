use Rattle.rb_laws_events.proofs.CoresHold.{cores-hold}
use Rattle.rb_laws_events.proofs.cores_are_those_of_the_rounds.Goals as goal

pub returns : goal.returns
returns c = cores-hold
