use Rattle.rb_laws_listener_learns.proofs.Trusting.{trusts-the-trusted}
use Rattle.rb_laws_listener_learns.proofs.listeners_trust_the_trusted.Goals as goal

pub returns : goal.returns
returns c = trusts-the-trusted
