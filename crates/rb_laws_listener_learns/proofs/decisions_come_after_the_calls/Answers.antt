use Rattle.rb_laws_listener_learns.proofs.Deciding.{decides-after}
use Rattle.rb_laws_listener_learns.proofs.decisions_come_after_the_calls.Goals as goal

pub returns : goal.returns
returns c = decides-after
