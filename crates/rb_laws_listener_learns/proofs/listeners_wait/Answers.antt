use Rattle.rb_laws_listener_learns.proofs.Waits.{waits-for}
use Rattle.rb_laws_listener_learns.proofs.listeners_wait.Goals as goal

pub returns : goal.returns
returns c = waits-for
