use Rattle.std.proofs.Common.{◌≡◌, drop}
use Rattle.rb_bridge_document.specs.Documents.{are_apart}
use Rattle.rb_bridge_document.proofs.ranges.are_apart.Given as goal

abbrev pub invariant-loop-i : goal.invariant-loop-i
invariant-loop-i l = are_apart l.bank (drop l.i l.pairs) ≡ are_apart l.bank l.pairs
