use Rattle.rb_laws_listener_learns.proofs.Together.{come-together}
use Rattle.rb_laws_listener_learns.proofs.good_calls_come_together.Goals as goal

pub returns : goal.returns
returns c = come-together
