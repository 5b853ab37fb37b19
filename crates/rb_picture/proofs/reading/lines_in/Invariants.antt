-- the bytes so far are the text of the lines so far, each in its place
use Rattle.std.proofs.Common.{◌-◌, ◌≤◌, length}
use Rattle.rb_picture.specs.Lines.{SoFar}
use Rattle.rb_picture.proofs.Whole.{GoesOnAs}
use Rattle.rb_picture.proofs.reading.lines_in.Given as goal

abbrev pub invariant-loop-at : goal.invariant-loop-at
invariant-loop-at l = record {
  so_far : SoFar l.bytes l.at l.lines.items l.newest;
  few : length l.lines.items ≤ l.at;
  goes : GoesOnAs l.bytes l.at l.newest;
}

abbrev pub decreases-loop-at : goal.decreases-loop-at
decreases-loop-at l = length l.bytes - l.at
