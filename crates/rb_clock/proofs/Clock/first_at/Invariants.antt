use Rattle.std.proofs.Common.{◌≡◌, ◌≤◌, ◌<◌, ◌⊎◌, drop}
use Rattle.rb_clock.proofs.Times.{IsAt}
use Rattle.rb_clock.proofs.Clock.first_at.Given as goal

abbrev pub invariant-loop-next : goal.invariant-loop-next
invariant-loop-next l = record {
  walk : IsAt l.self l.now l.from l.length (drop l.next-index l.rest);
  early : l.from ≤ 2147483648;
  before : (l.from ≡ 0) ⊎ (l.now < l.time);
}
