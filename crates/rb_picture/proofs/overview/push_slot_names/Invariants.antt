use Rattle.std.proofs.Common.{◌≡◌}
use Rattle.rb_picture.specs.{Markup.each_below, Overview.with_slot_name}
use Rattle.rb_picture.proofs.overview.push_slot_names.Given as goal

abbrev pub invariant-loop-slot : goal.invariant-loop-slot
invariant-loop-slot l = l.out.items ≡ each_below (with_slot_name l.extent l.frame) l.slot l.initial.out.items
