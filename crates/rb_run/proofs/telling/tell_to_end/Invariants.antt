-- The turns so far were given and told, and the run goes on.
use Rattle.std.proofs.Common.{◌≡◌, ◌≤◌}
use Rattle.rb_run.specs.Seen.{drive_over}
use Rattle.rb_run.proofs.Told.{IsTelling}
use Rattle.rb_run.proofs.telling.tell_to_end.Given as goal

abbrev pub invariant-loop-passed : goal.invariant-loop-passed
invariant-loop-passed g l = record {
  telling : IsTelling g.D.Drive.gives g.D.Drive.keeps (g.T.Teller.says l.fn.teller l.fn.world.bus) (g.T.Teller.has_told l.teller l.fn.world.bus) l.fn.world.bus
      (drive_over g.D.Drive.is_plain g.D.Drive.told l.fn.drive l.drive) l.fn.drive l.drive l.world (g.K.Sink.held l.fn.output) (g.K.Sink.held l.output) l.passed;
  same : g.T.Teller.says l.teller ≡ g.T.Teller.says l.fn.teller;
  later : g.K.Sink.faults l.fn.output ≤ g.K.Sink.faults l.output;
  bus : l.world.bus ≡ l.fn.world.bus;
  stays : g.D.Drive.is_plain l.drive ≡ g.D.Drive.is_plain l.fn.drive;
}
