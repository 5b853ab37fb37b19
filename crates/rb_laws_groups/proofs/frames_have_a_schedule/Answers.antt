use Rattle.rb_laws_groups.proofs.Frames.{frames-have-a-schedule}
use Rattle.rb_laws_groups.proofs.frames_have_a_schedule.Goals as goal

pub returns : goal.returns
returns c = frames-have-a-schedule
