-- the lines that are left make of what is spanned so far what all make
use Rattle.std.proofs.Common.{◌≡◌, drop}
use Rattle.rb_picture.specs.Extents.{extent_from, extent_of}
use Rattle.rb_picture.proofs.extent.extent_of.Given as goal

abbrev pub invariant-loop-line : goal.invariant-loop-line
invariant-loop-line l = extent_from l.extent l.newest (drop l.line-index l.lines) ≡ extent_of l.lines
