use Rattle.std.proofs.Common.{◌≡◌}
use Rattle.rb_picture.specs.Extents.{top_below}
use Rattle.rb_picture.proofs.extent.top_of.Given as goal

abbrev pub invariant-loop-number : goal.invariant-loop-number
invariant-loop-number l = (l.top ≡ top_below l.number l.set) × (l.nodes ≡ l.set)
