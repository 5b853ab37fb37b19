use Rattle.std.proofs.Common.{◌≡◌, ◌+◌, ◌++◌, filter, length, take}
use Rattle.rb_world_traffic.specs.Saying.{entries_at, is_between}
use Rattle.rb_world_traffic.proofs.entries.add_between.Given as goal

abbrev pub invariant-loop-number : goal.invariant-loop-number
invariant-loop-number l = record {
  entries : entries_at l.says l.places.items ≡ entries_at l.says l.fn.places.items ++ filter (is_between l.from l.to) (take l.number l.says);
  many : length l.places.items ≡ length l.fn.places.items + length (filter (is_between l.from l.to) (take l.number l.says));
}
