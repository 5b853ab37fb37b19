use Rattle.rb_laws_listener_near.proofs.FramesNear.{frames_near}
use Rattle.rb_laws_listener_near.proofs.frames_begin_near.Goals as goal

pub returns : goal.returns
returns c = frames_near
