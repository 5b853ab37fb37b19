use Rattle.rb_laws_events.proofs.GivenAlone.{given-alone}
use Rattle.rb_laws_events.proofs.what_needs_no_event_is_given.Goals as goal

pub returns : goal.returns
returns c = λ sc lawful w going needs. given-alone sc lawful.sizes w going needs
