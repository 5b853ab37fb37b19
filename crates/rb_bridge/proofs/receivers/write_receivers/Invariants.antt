-- The lines of the BIUs before this one are written.
use Rattle.std.proofs.Common.{ℕ, ◌≤◌, List}
use Rattle.std.specs.{Io.KnownBytes.Appends, List.flat_map}
use Rattle.rb_base.specs.{Counting.numbers, declared.values.Delivery.Delivery}
use Rattle.rb_rules.specs.Goodness.{Scenario}
use Rattle.rb_group_run.specs.Holding.{HoldPortions, IsScopeOf}
use Rattle.rb_bridge.specs.{Receivers.{most_found, receiver_by}, Refusals.bank_of}
use Rattle.rb_bridge.proofs.receivers.write_receivers.Given as goal

abbrev pub invariant-loop-port : goal.invariant-loop-port
invariant-loop-port g l = record {
  written : (sc : Scenario) (members : ℕ) (told : ℕ → List Delivery) → IsScopeOf sc l.scope → HoldPortions members told l.ports.groups
      → Appends (g.K.Sink.held l.initial.output) (g.K.Sink.held l.output) (flat_map (receiver_by sc l.ports.frame (bank_of l.right) (most_found members told)) (numbers l.port));
  later : g.K.Sink.faults l.initial.output ≤ g.K.Sink.faults l.output;
}
