-- The lines before this one are written.
use Rattle.std.proofs.Common.{◌≤◌, take}
use Rattle.std.specs.Io.KnownBytes.{Appends}
use Rattle.rb_report.specs.Texts.{deliveries_text}
use Rattle.rb_run.proofs.report.write_deliveries.Given as goal

abbrev pub invariant-loop-line : goal.invariant-loop-line
invariant-loop-line g l = record {
  written : Appends (g.K.Sink.held l.initial.output) (g.K.Sink.held l.output) (deliveries_text l.slot.frame l.slot.slot (take l.line-index l.line-items));
  later : g.K.Sink.faults l.initial.output ≤ g.K.Sink.faults l.output;
}
