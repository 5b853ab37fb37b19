-- The fault from here on is that of the whole.
use Rattle.std.proofs.Common.{◌≡◌, ◌-◌, ◌≤◌, length}
use Rattle.rb_log.specs.Entries.{events_at, fault_of}
use Rattle.rb_log.proofs.entry.check_entries.Given as goal

abbrev pub invariant-loop-next : goal.invariant-loop-next
invariant-loop-next l = record {
  inside : l.at.place ≤ length l.bytes;
  few : l.at.ticks ≤ 2147483648;
  same : fault_of (events_at l.senders l.bytes l.fn.place 0) ≡ fault_of (events_at l.senders l.bytes l.at.place l.at.ticks);
}

abbrev pub decreases-loop-next : goal.decreases-loop-next
decreases-loop-next l = length l.bytes - l.at.place
