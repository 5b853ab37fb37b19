use Rattle.std.proofs.Common.{◌≡◌, ◌++◌, map, take}
use Rattle.std.specs.Prelude.{option_to_list}
use Rattle.rb_rules.specs.WorldStep.{least}
use Rattle.rb_queue.proofs.beside.least_time.Given as goal

abbrev pub invariant-loop-pending : goal.invariant-loop-pending
invariant-loop-pending l =
    l.first ≡ least ((option_to_list l.lane.tick ++ map (λ c. c.time) l.lane.arrivals) ++ map (λ p. p.time) (take l.pending-index l.more))
