-- The lines before this one are written.
use Rattle.std.proofs.Common.{◌≤◌, take}
use Rattle.std.specs.Io.KnownBytes.{Appends}
use Rattle.rb_run.specs.Reports.{ports_text}
use Rattle.rb_run.proofs.report.write_ports.Given as goal

abbrev pub invariant-loop-port : goal.invariant-loop-port
invariant-loop-port g l = record {
  written : Appends (g.K.Sink.held l.initial.output) (g.K.Sink.held l.output) (ports_text l.frame (take l.port-index l.ports));
  later : g.K.Sink.faults l.initial.output ≤ g.K.Sink.faults l.output;
}
