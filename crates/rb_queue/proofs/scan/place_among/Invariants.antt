use Rattle.std.proofs.Common.{◌≡◌, ◌+◌, length, slice_get}
use Rattle.rb_queue.specs.Waiting.{coming_at, comes}
use Rattle.rb_queue.proofs.Sources.{passing_from}
use Rattle.rb_queue.proofs.scan.place_among.Given as goal

abbrev pub invariant-loop-place : goal.invariant-loop-place
invariant-loop-place l = record {
  same : slice_get (passing_from (comes l.time l.source) l.arrivals l.place) l.left ≡ slice_get (coming_at l.time l.arrivals l.source) l.others;
  many : l.left + length (coming_at l.time l.arrivals l.source) ≡ l.others + length (passing_from (comes l.time l.source) l.arrivals l.place);
}
