-- Some turns of the frame were given, and the run goes on.
use Rattle.std.proofs.Common.{◌≡◌, Option, List, false}
use Rattle.rb_rules.specs.Ports.{HandIn}
use Rattle.rb_world_book.specs.declared.turn.Turn.{Turn}
use Rattle.rb_run.specs.Turns.{records_in}
use Rattle.rb_bridge.specs.{Passing.HoldsPassage, Running.IsUnderWay}
use Rattle.rb_bridge.proofs.Passed.{IsPassing}
use Rattle.rb_bridge.proofs.passing.pass_frame.Given as goal

abbrev pub invariant-loop-passed : goal.invariant-loop-passed
invariant-loop-passed g l = record {
  passing : (handed : List HandIn) (told : Option (List Turn)) (before : List Turn)
      → IsUnderWay l.fn.world.bus handed (g.D.Drive.is_plain l.fn.drive) told (g.D.Drive.told l.fn.drive) l.fn.world before false
      → HoldsPassage l.terms l.fn.passage.ports.frame (records_in before) l.fn.passage
      → IsPassing l.fn.world.bus handed (g.D.Drive.is_plain l.fn.drive) told (g.D.Drive.told l.drive) l.world before l.terms l.fn.passage.ports.frame l.passage l.passed;
  bus : l.world.bus ≡ l.fn.world.bus;
  stays : g.D.Drive.is_plain l.drive ≡ g.D.Drive.is_plain l.fn.drive;
}
