use Rattle.std.proofs.Common.{◌≡◌, drop}
use Rattle.rb_rules.specs.Clock.{are_within}
use Rattle.rb_clock.proofs.are_within.Given as goal

abbrev pub invariant-loop-length : goal.invariant-loop-length
invariant-loop-length l = are_within l.shortest l.longest (drop l.length-index l.segments) ≡ are_within l.shortest l.longest l.segments
