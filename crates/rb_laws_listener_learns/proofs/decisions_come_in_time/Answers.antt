use Rattle.rb_laws_listener_learns.proofs.Ahead.{decides-in-time}
use Rattle.rb_laws_listener_learns.proofs.decisions_come_in_time.Goals as goal

pub returns : goal.returns
returns c = decides-in-time
