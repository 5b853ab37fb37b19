use Rattle.std.proofs.Common.{◌≡◌, drop}
use Rattle.rb_rules.specs.Clock.{are_rising, rise_above}
use Rattle.rb_clock.proofs.are_rising.Given as goal

abbrev pub invariant-loop-tick : goal.invariant-loop-tick
invariant-loop-tick l = rise_above l.before (drop l.tick-index l.rest) ≡ are_rising l.segments
