use Rattle.rb_laws_listener_learns.proofs.Seeks.{seeks-a-frame}
use Rattle.rb_laws_listener_learns.proofs.the_frame_sought_is_real.Goals as goal

pub returns : goal.returns
returns c = seeks-a-frame
