use Rattle.std.proofs.Common.{◌<◌}
use Rattle.rb_world_agenda.specs.Agenda.{tick_times}
use Rattle.rb_world_agenda.proofs.Fronts.{IsFrontOf}
use Rattle.rb_world_agenda.proofs.scan.late_front.Given as goal

abbrev pub invariant-loop-position : goal.invariant-loop-position
invariant-loop-position l = record { front : IsFrontOf (tick_times l.lanes) l.position l.front; few : l.front.first < 32 }
