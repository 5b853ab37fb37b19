use Rattle.std.proofs.Common.{◌≡◌, ◌≤◌, take}
use Rattle.rb_base.specs.Counting.{count_if}
use Rattle.rb_queue.specs.Queued.{is_sent_between}
use Rattle.rb_queue.proofs.beside.count_beside.Given as goal

abbrev pub invariant-loop-pending : goal.invariant-loop-pending
invariant-loop-pending l = record {
  few : l.count ≤ l.pending-index;
  so_far : l.count ≡ count_if (is_sent_between l.time l.first l.end) (take l.pending-index l.more);
}
