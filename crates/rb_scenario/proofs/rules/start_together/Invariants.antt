use Rattle.std.proofs.Common.{◌≡◌, ◌-◌, nat_le, drop}
use Rattle.std.specs.List.{list_all}
use Rattle.rb_scenario.proofs.rules.start_together.Given as goal

abbrev pub invariant-loop-clock : goal.invariant-loop-clock
invariant-loop-clock l = list_all (λ a. list_all (λ b. nat_le (a.start - b.start) l.bound) l.clocks) (drop l.clock-index l.clocks) ≡ list_all (λ a. list_all (λ b. nat_le (a.start - b.start) l.bound) l.clocks) l.clocks
