use Rattle.rb_laws_listener_follows.proofs.FramesInTime.{heard_in_time}
use Rattle.rb_laws_listener_follows.proofs.rmus_are_heard_in_time.Goals as goal

pub returns : goal.returns
returns c = heard_in_time
