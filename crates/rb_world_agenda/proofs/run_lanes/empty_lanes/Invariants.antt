use Rattle.std.proofs.Common.{◌≡◌, map}
use Rattle.rb_base.specs.Counting.{numbers}
use Rattle.rb_queue.specs.Waiting.{empty_lane}
use Rattle.rb_world_agenda.proofs.run_lanes.empty_lanes.Given as goal

abbrev pub invariant-loop-node : goal.invariant-loop-node
invariant-loop-node l = l.lanes.items ≡ map (λ _. empty_lane l.room) (numbers l.node)
