use Rattle.std.proofs.Common.{◌-◌, ◌≤◌}
use Rattle.std.specs.List.{flat_map}
use Rattle.rb_scenario.specs.Acceptance.{as_scenario}
use Rattle.rb_gen.specs.Text.{lines_of}
use Rattle.rb_top.proofs.{Rest.rest_of, Writing.Owes}
use Rattle.rb_top.proofs.generating.write_generated.Given as goal

abbrev pub invariant-loop-text : goal.invariant-loop-text
invariant-loop-text g l = record {
  within : l.next ≤ 414;
  owes : Owes (g.K.Sink.held l.initial.output) (g.K.Sink.held l.output) (flat_map (λ text. text) (lines_of (as_scenario l.scenario))) (rest_of (lines_of (as_scenario l.scenario)) l.next);
  later : g.K.Sink.faults l.initial.output ≤ g.K.Sink.faults l.output;
}

abbrev pub decreases-loop-text : goal.decreases-loop-text
decreases-loop-text g l = 414 - l.next
