-- What was said of the frames before this one is written, and both sides go into it.
use Rattle.std.proofs.Common.{◌≡◌, ◌≤◌, Bool}
use Rattle.rb_bridge.specs.Crossing.{ArePlain, Drives, MayBegin, drives_over, run_of}
use Rattle.rb_bridge.proofs.Crossed.{IsCrossing}
use Rattle.rb_bridge.proofs.crossing.cross.Given as goal

abbrev pub invariant-loop-frame : goal.invariant-loop-frame
invariant-loop-frame g l =
    let d : Drives = drives_over g.D.Drive.is_plain g.D.Drive.told l.fn.left_drive l.left_drive l.fn.right_drive l.right_drive in
    record {
      crossing : (x : MayBegin l.pairs l.frames l.fn.left l.fn.right) (both : Bool) → ArePlain both d.left.is_plain d.right.is_plain
          → IsCrossing (run_of x.b both d.left d.right) l.frame l.left l.right (g.K.Sink.held l.fn.output) (g.K.Sink.held l.output);
      later : g.K.Sink.faults l.fn.output ≤ g.K.Sink.faults l.output;
      left_stays : g.D.Drive.is_plain l.left_drive ≡ g.D.Drive.is_plain l.fn.left_drive;
      right_stays : g.D.Drive.is_plain l.right_drive ≡ g.D.Drive.is_plain l.fn.right_drive;
    }
