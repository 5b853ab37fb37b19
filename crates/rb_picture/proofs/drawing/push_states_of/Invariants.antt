use Rattle.std.proofs.Common.{◌≡◌}
use Rattle.rb_picture.specs.{Markup.each_below, Drawing.with_state}
use Rattle.rb_picture.proofs.drawing.push_states_of.Given as goal

abbrev pub invariant-loop-number : goal.invariant-loop-number
invariant-loop-number l = l.out.items ≡ each_below (with_state l.extent l.frame l.rows) l.number l.initial.out.items
