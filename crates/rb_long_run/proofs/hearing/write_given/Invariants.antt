-- The lines before this one are heard, and what they give is written.
use Rattle.std.proofs.Common.{◌≡◌, ◌≤◌, take}
use Rattle.std.specs.Io.KnownBytes.{Appends}
use Rattle.rb_long_run.specs.Hearing.{lines_text, with_lines}
use Rattle.rb_long_run.proofs.hearing.write_given.Given as goal

abbrev pub invariant-loop-line : goal.invariant-loop-line
invariant-loop-line g l = record {
  written : Appends (g.K.Sink.held l.initial.output) (g.K.Sink.held l.output) (lines_text l.frame l.slot l.initial.all (take l.line-index l.lines));
  heard : l.all ≡ with_lines l.initial.all (take l.line-index l.lines);
  later : g.K.Sink.faults l.initial.output ≤ g.K.Sink.faults l.output;
}
