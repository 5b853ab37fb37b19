use Rattle.std.proofs.Common.{◌≡◌, ◌-◌, nat_le, drop}
use Rattle.std.specs.List.{list_all}
use Rattle.rb_scenario.proofs.rules.starts_with.Given as goal

abbrev pub invariant-loop-other : goal.invariant-loop-other
invariant-loop-other l =
    list_all (λ b. nat_le (l.clock.start - b.start) l.bound) (drop l.other-index l.others) ≡ list_all (λ b. nat_le (l.clock.start - b.start) l.bound) l.others
