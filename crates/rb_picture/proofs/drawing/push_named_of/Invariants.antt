use Rattle.std.proofs.Common.{◌≡◌}
use Rattle.rb_picture.specs.{Markup.each_below, Drawing.with_named}
use Rattle.rb_picture.proofs.drawing.push_named_of.Given as goal

abbrev pub invariant-loop-number : goal.invariant-loop-number
invariant-loop-number l =
    l.out.items ≡ each_below (with_named l.names.x l.names.y l.letter l.names.before l.names.set) l.number l.initial.out.items
