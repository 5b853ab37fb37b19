use Rattle.std.proofs.Common.{◌≡◌, map}
use Rattle.rb_base.specs.Counting.{numbers}
use Rattle.rb_queue.specs.Queued.{empty_queue}
use Rattle.rb_queue.proofs.lanes.empty_queues.Given as goal

abbrev pub invariant-loop-node : goal.invariant-loop-node
invariant-loop-node l = l.queues.items ≡ map (λ _. empty_queue l.room) (numbers l.node)
