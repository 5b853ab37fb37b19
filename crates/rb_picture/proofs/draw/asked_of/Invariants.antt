use Rattle.std.proofs.Common.{◌≡◌, take}
use Rattle.rb_picture.specs.Picture.{asked_of}
use Rattle.rb_picture.proofs.draw.asked_of.Given as goal

abbrev pub invariant-loop-line : goal.invariant-loop-line
invariant-loop-line l = l.asked.items ≡ asked_of l.first l.last (take l.line-index l.lines)
