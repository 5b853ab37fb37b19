use Rattle.rb_laws_listener_learns.proofs.Calling.{heard-to-call}
use Rattle.rb_laws_listener_learns.proofs.good_rmus_are_heard_to_call.Goals as goal

pub returns : goal.returns
returns c = heard-to-call
