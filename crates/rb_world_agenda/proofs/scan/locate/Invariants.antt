use Rattle.std.proofs.Common.{◌≡◌, ◌+◌, take}
use Rattle.rb_rules.specs.Book.{in_order}
use Rattle.rb_world_agenda.specs.Agenda.{due_count}
use Rattle.rb_world_agenda.proofs.scan.locate.Given as goal

abbrev pub invariant-loop-position : goal.invariant-loop-position
invariant-loop-position l = l.i ≡ due_count l.time (take l.position (in_order l.lanes)) + l.left
