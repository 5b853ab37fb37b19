use Rattle.std.proofs.Common.{◌≡◌, ◌≤◌, ◌*◌, take}
use Rattle.rb_rules.specs.Book.{in_order}
use Rattle.rb_world_agenda.specs.Agenda.{due_count}
use Rattle.rb_world_agenda.proofs.scan.due_count.Given as goal

abbrev pub invariant-loop-position : goal.invariant-loop-position
invariant-loop-position l = record {
  so_far : l.count ≡ due_count l.time (take l.position (in_order l.lanes));
  few : l.count ≤ 65537 * l.position;
  some : l.position ≤ 32;
}
