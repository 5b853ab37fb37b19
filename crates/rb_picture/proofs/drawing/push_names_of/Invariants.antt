use Rattle.std.proofs.Common.{◌≡◌, ◌+◌}
use Rattle.rb_picture.specs.{Markup.each_below, Drawing.with_name}
use Rattle.rb_picture.proofs.drawing.push_names_of.Given as goal

abbrev pub invariant-loop-number : goal.invariant-loop-number
invariant-loop-number l =
    l.out.items ≡ each_below (λ t i. with_name l.extent l.frame t l.letter (l.above + i) i) l.number l.initial.out.items
