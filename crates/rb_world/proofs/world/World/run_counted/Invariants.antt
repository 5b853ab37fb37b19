-- The steps so far gave no record.
use Rattle.std.proofs.Common.{◌≡◌}
use Rattle.rb_rules.specs.WorldStep.{World as RunWorld}
use Rattle.rb_world.specs.{Nexts.TakesSteps, Worlds.Stands}
use Rattle.rb_world_book.specs.declared.turn.Turn.TheVariants as shown
use Rattle.rb_world.proofs.world.World.run_counted.Given as goal

abbrev pub invariant-loop-passed : goal.invariant-loop-passed
invariant-loop-passed g l = record {
  is_quiet : l.turn ≡ shown.Quiet;
  bus : l.self.bus ≡ l.fn.self.bus;
  quiet : (w : RunWorld) → Stands l.fn.self w → TakesSteps l.passed l.ties l.fn.draws.state l.draws.state l.fn.self l.self w;
}
