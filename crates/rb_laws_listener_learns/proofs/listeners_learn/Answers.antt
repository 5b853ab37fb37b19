use Rattle.rb_laws_listener_learns.proofs.Learns.{learns}
use Rattle.rb_laws_listener_learns.proofs.listeners_learn.Goals as goal

pub returns : goal.returns
returns c = learns
