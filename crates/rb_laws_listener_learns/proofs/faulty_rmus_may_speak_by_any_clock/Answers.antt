use Rattle.rb_laws_listener_learns.proofs.Allowed.{may-speak}
use Rattle.rb_laws_listener_learns.proofs.faulty_rmus_may_speak_by_any_clock.Goals as goal

pub returns : goal.returns
returns c = may-speak
