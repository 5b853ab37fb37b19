-- The words so far are written, and the others wait.
use Rattle.std.proofs.Common.{◌≡◌, ◌≤◌, take}
use Rattle.std.specs.{Io.KnownBytes.Appends, List.flat_map}
use Rattle.rb_long.specs.Spelling.{spelling_of}
use Rattle.rb_report.specs.Report.{word_text}
use Rattle.rb_long_run.proofs.Words.{left_of}
use Rattle.rb_long_run.proofs.spelling.write_spelling.Given as goal

abbrev pub invariant-loop-sent : goal.invariant-loop-sent
invariant-loop-sent g l = record {
  written : Appends (g.K.Sink.held l.initial.output) (g.K.Sink.held l.output) (flat_map word_text (take l.sent (spelling_of l.letter)));
  waiting : l.sender ≡ left_of l.sent (spelling_of l.letter);
  later : g.K.Sink.faults l.initial.output ≤ g.K.Sink.faults l.output;
}
