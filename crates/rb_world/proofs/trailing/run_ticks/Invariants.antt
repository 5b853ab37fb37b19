-- At least this number of steps gave no record.
use Rattle.std.proofs.Common.{◌≡◌, ℕ, ◌<◌, Some}
use Rattle.std.specs.Prelude.{IfSome}
use Rattle.rb_rules.specs.{WorldStep.World as RunWorld, Lawful.IsNodeOf}
use Rattle.rb_base.specs.declared.node.NodeName.{NodeName}
use Rattle.rb_world.specs.{Observing.AlongTold, Runs.nodes_of, Trailing.{Along, MayRun, until_from}, Buses.scenario_of}
use Rattle.rb_world_book.specs.declared.turn.Turn.TheVariants as shown
use Rattle.rb_world.proofs.trailing.run_ticks.Given as goal

abbrev pub invariant-loop-passed : goal.invariant-loop-passed
invariant-loop-passed g l = record {
  is_quiet : l.turn ≡ shown.Quiet;
  small : IfSome l.tick (λ t. t.1 < 18446744073709551615);
  goes : (w : RunWorld) (d : ℕ) → MayRun (scenario_of l.setup.bus.now) (nodes_of l.fn.run) l.fn.run.scene w
      → Along (scenario_of l.setup.bus.now) (nodes_of l.run) l.run.scene (until_from l.tick) l.passed w d;
  told : (name : NodeName) → l.setup.observed ≡ Some name → IsNodeOf l.setup.bus.now.sizes name → (w : RunWorld) (d : ℕ) → MayRun (scenario_of l.setup.bus.now) (nodes_of l.fn.run) l.fn.run.scene w
      → AlongTold _ g.T.Observer.observes name l.fn.observer l.observer (scenario_of l.setup.bus.now) (nodes_of l.run) l.run.scene (until_from l.tick) l.passed w d;
}
