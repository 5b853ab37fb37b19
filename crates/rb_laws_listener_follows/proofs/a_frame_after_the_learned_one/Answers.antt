use Rattle.rb_laws_listener_learns.proofs.Beside.{complete, holds-on}
use Rattle.rb_laws_listener_follows.proofs.a_frame_after_the_learned_one.Goals as goal

pub returns : goal.returns
returns c = record { reached = complete; holds = holds-on }
