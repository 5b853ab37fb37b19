use Rattle.std.proofs.Common.{◌≡◌, ◌+◌, drop}
use Rattle.rb_rules.specs.Lawful.{segments_of_all}
use Rattle.rb_scenario.proofs.rules.are_segments_few.Given as goal

abbrev pub invariant-loop-clock : goal.invariant-loop-clock
invariant-loop-clock l = l.left + segments_of_all l.clocks ≡ 4096 + segments_of_all (drop l.clock-index l.clocks)
