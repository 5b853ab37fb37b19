-- The number of turns that were asked for.
use Rattle.std.proofs.Common.{◌≡◌, List, Option}
use Rattle.rb_rules.specs.{Goodness.Scenario, Ports.HandIn}
use Rattle.rb_world_book.specs.{Records.record_of, declared.turn.Turn.Turn}
use Rattle.rb_world.specs.Nexts.{is_last}
use Rattle.rb_bridge.specs.Running.{IsUnderWay}
use Rattle.rb_bridge.proofs.Opened.{IsFinishing}
use Rattle.rb_bridge.proofs.frame.finish.Given as goal

abbrev pub invariant-loop-passed : goal.invariant-loop-passed
invariant-loop-passed g l = record {
  finishing : (sc : Scenario) (handed : List HandIn) (told : Option (List Turn)) (turns : List Turn)
      → IsUnderWay sc handed (g.D.Drive.is_plain l.fn.drive) told (g.D.Drive.told l.fn.drive) l.fn.side.world turns (is_last (record_of l.fn.side.turn))
      → IsFinishing sc handed (g.D.Drive.is_plain l.fn.drive) told (g.D.Drive.told l.drive) l.side turns l.passed;
  stays : g.D.Drive.is_plain l.drive ≡ g.D.Drive.is_plain l.fn.drive;
}
