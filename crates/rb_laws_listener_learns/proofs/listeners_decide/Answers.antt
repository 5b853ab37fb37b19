use Rattle.rb_laws_listener_learns.proofs.DecidesSoon.{listeners-decide}
use Rattle.rb_laws_listener_learns.proofs.listeners_decide.Goals as goal

pub returns : goal.returns
returns c = listeners-decide
