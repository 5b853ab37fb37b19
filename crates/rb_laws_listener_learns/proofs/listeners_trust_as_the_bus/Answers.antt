use Rattle.rb_laws_listener_learns.proofs.TrustedSets.{trusts-as-the-bus}
use Rattle.rb_laws_listener_learns.proofs.listeners_trust_as_the_bus.Goals as goal

pub returns : goal.returns
returns c = trusts-as-the-bus
