use Rattle.rb_laws_listener_learns.proofs.Apart.{come-apart}
use Rattle.rb_laws_listener_learns.proofs.frames_come_apart.Goals as goal

pub returns : goal.returns
returns c = come-apart
