use Rattle.rb_laws_listener_learns.proofs.Throughout.{each-slot}
use Rattle.rb_laws_listener_learns.proofs.always_good_is_good_in_each_slot.Goals as goal

pub returns : goal.returns
returns c = each-slot
