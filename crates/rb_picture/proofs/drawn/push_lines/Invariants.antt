-- what the lines that are left show, behind what is drawn, is what all show
use Rattle.std.proofs.Common.{◌≡◌, drop}
use Rattle.rb_picture.specs.Picture.{pieces_from, pieces_of, with_pieces}
use Rattle.rb_picture.proofs.drawn.push_lines.Given as goal

abbrev pub invariant-loop-index : goal.invariant-loop-index
invariant-loop-index l =
    with_pieces l.sheet l.out.items (pieces_from l.stand (drop l.index l.lines)) ≡ with_pieces l.sheet l.initial.out.items (pieces_of l.lines)
