use Rattle.rb_queue.proofs.Sources.{IsLowest}
use Rattle.rb_queue.proofs.scan.lowest_source.Given as goal

abbrev pub invariant-loop-arrival : goal.invariant-loop-arrival
invariant-loop-arrival l = IsLowest l.time l.arrivals l.arrival-index l.first l.lowest
