use Rattle.rb_laws_listener_follows.proofs.FirstNear.{first_frames}
use Rattle.rb_laws_listener_follows.proofs.first_frames_begin_near.Goals as goal

pub returns : goal.returns
returns c = first_frames
