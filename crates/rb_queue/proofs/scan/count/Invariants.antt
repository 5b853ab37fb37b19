use Rattle.std.proofs.Common.{◌≡◌, ◌≤◌, take}
use Rattle.rb_base.specs.Counting.{count_if}
use Rattle.rb_queue.specs.Scanning.{is_between}
use Rattle.rb_queue.proofs.scan.count.Given as goal

abbrev pub invariant-loop-arrival : goal.invariant-loop-arrival
invariant-loop-arrival l = record {
  few : l.count ≤ l.arrival-index;
  so_far : l.count ≡ count_if (is_between l.time l.first l.end) (take l.arrival-index l.arrivals);
}
