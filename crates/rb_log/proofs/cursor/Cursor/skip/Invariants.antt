-- Some of the ticks in front are passed, and the others are still in front.
use Rattle.std.proofs.Common.{◌≡◌, ◌+◌, ◌-◌, ◌≤◌, drop, length}
use Rattle.rb_log.specs.Cursor.{IsSound, events_left, quiet_in_front}
use Rattle.rb_log.proofs.cursor.Cursor.skip.Given as goal

abbrev pub invariant-loop-passed : goal.invariant-loop-passed
invariant-loop-passed l = record {
  sound : IsSound l.self;
  most : l.passed ≤ l.most;
  rest : events_left l.self ≡ drop l.passed (events_left l.fn.self);
  front : quiet_in_front (events_left l.fn.self) ≡ l.passed + quiet_in_front (events_left l.self);
}

abbrev pub decreases-loop-passed : goal.decreases-loop-passed
decreases-loop-passed l = length l.self.bytes.now - l.self.place
