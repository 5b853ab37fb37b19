use Rattle.rb_laws_synchrony.proofs.OneFrames.{keeps-time}
use Rattle.rb_laws_synchrony.proofs.one_frame_keeps_time.Goals as goal

pub returns : goal.returns
returns c = keeps-time
