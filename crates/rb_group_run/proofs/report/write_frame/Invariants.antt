-- The lines of the BIUs before this one are written.
use Rattle.std.proofs.Common.{ℕ, ◌≤◌, List}
use Rattle.std.specs.{Io.KnownBytes.Appends, List.flat_map}
use Rattle.rb_base.specs.{Counting.numbers, declared.values.Delivery.Delivery}
use Rattle.rb_rules.specs.Goodness.{Scenario}
use Rattle.rb_group_run.specs.{Holding.{HoldPortions, IsScopeOf}, Replies.{port_text, value_found}}
use Rattle.rb_group_run.proofs.report.write_frame.Given as goal

abbrev pub invariant-loop-port : goal.invariant-loop-port
invariant-loop-port g l = record {
  written : (sc : Scenario) (told : ℕ → List Delivery) → IsScopeOf sc l.query.scope.now → HoldPortions l.query.asked.now.members told l.ports.groups
      → Appends (g.K.Sink.held l.initial.output) (g.K.Sink.held l.output) (flat_map (port_text sc l.ports.frame (value_found l.query.asked.now told)) (numbers l.port));
  later : g.K.Sink.faults l.initial.output ≤ g.K.Sink.faults l.output;
}
