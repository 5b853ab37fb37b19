use Rattle.std.proofs.Common.{◌≤◌, drop}
use Rattle.rb_clock.proofs.Times.{IsAt}
use Rattle.rb_clock.proofs.Clock.walked_to.Given as goal

abbrev pub invariant-loop-next : goal.invariant-loop-next
invariant-loop-next l = record {
  walk : IsAt l.self l.now l.from l.length (drop l.next-index l.rest);
  reached : l.from ≤ l.tick;
}
