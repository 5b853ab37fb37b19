-- The lines before this one are written.
use Rattle.std.proofs.Common.{◌≤◌, take}
use Rattle.std.specs.Io.KnownBytes.{Appends}
use Rattle.rb_run.specs.Reports.{epochs_text}
use Rattle.rb_run.proofs.report.write_epochs.Given as goal

abbrev pub invariant-loop-node : goal.invariant-loop-node
invariant-loop-node g l = record {
  written : Appends (g.K.Sink.held l.initial.output) (g.K.Sink.held l.output) (epochs_text l.frame (take l.node-index l.nodes));
  later : g.K.Sink.faults l.initial.output ≤ g.K.Sink.faults l.output;
}
