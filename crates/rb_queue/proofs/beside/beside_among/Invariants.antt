use Rattle.std.proofs.Common.{◌≡◌, ◌+◌, length, slice_get}
use Rattle.rb_queue.specs.Queued.{beside_at, is_of}
use Rattle.rb_queue.proofs.Besides.{passing}
use Rattle.rb_queue.proofs.beside.beside_among.Given as goal

abbrev pub invariant-loop-place : goal.invariant-loop-place
invariant-loop-place l = record {
  same : slice_get (passing (is_of l.time l.source) l.more l.place) l.left ≡ slice_get (beside_at l.time l.more l.source) l.others;
  many : l.left + length (beside_at l.time l.more l.source) ≡ l.others + length (passing (is_of l.time l.source) l.more l.place);
}
