use Rattle.rb_laws_bridge.proofs.Handed.{frames-go-by-the-earlier}
use Rattle.rb_laws_bridge.proofs.frames_go_by_the_earlier.Goals as goal

pub returns : goal.returns
returns c = frames-go-by-the-earlier
