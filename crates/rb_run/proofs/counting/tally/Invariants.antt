-- The turns so far were given and counted, and the run goes on.
use Rattle.std.proofs.Common.{◌≡◌, ◌≤◌, ◌*◌}
use Rattle.rb_run.specs.Seen.{drive_over}
use Rattle.rb_run.proofs.Counted.{IsCounted}
use Rattle.rb_run.proofs.counting.tally.Given as goal

abbrev pub invariant-loop-passed : goal.invariant-loop-passed
invariant-loop-passed g l = record {
  counted : IsCounted g.D.Drive.gives g.D.Drive.keeps l.fn.world.bus (drive_over g.D.Drive.is_plain g.D.Drive.told l.fn.drive l.drive)
      l.fn.drive l.drive l.world l.totals l.passed;
  few : l.totals.deliveries ≤ 16 * l.passed;
  bus : l.world.bus ≡ l.fn.world.bus;
  stays : g.D.Drive.is_plain l.drive ≡ g.D.Drive.is_plain l.fn.drive;
}
