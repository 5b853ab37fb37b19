use Rattle.std.proofs.Common.{◌-◌}
use Rattle.rb_queue.proofs.Sources.{IsLeft}
use Rattle.rb_queue.proofs.scan.place_of.Given as goal

abbrev pub invariant-sources : goal.invariant-sources
invariant-sources l = IsLeft l.time l.arrivals l.i l.first l.left

abbrev pub decreases-sources : goal.decreases-sources
decreases-sources l = 257 - l.first
