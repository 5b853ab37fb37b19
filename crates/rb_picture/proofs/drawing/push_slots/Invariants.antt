use Rattle.std.proofs.Common.{◌≡◌}
use Rattle.rb_picture.specs.{Markup.each_below, Drawing.with_slot_number}
use Rattle.rb_picture.proofs.drawing.push_slots.Given as goal

abbrev pub invariant-loop-slot : goal.invariant-loop-slot
invariant-loop-slot l = l.out.items ≡ each_below (with_slot_number l.extent l.frame) l.slot l.initial.out.items
