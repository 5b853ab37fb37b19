use Rattle.std.proofs.Common.{◌≡◌, ◌≤◌, All, take}
use Rattle.rb_world_agenda.specs.Agenda.{keys_of, least_key}
use Rattle.rb_world_agenda.proofs.scan.least_of.Given as goal

abbrev pub invariant-loop-position : goal.invariant-loop-position
invariant-loop-position l = record {
  least : l.least ≡ least_key (take l.position (keys_of l.lanes));
  times : All (λ k. k ≤ 18446744073709551615) (take l.position (keys_of l.lanes));
}
