use Rattle.rb_queue.specs.Waiting.{empty_lane}
use Rattle.rb_queue.proofs.EmptyQueues.{one_more}
use Rattle.rb_world_agenda.proofs.run_lanes.empty_lanes.Goals as goal

pub loop-node-preserved : goal.loop-node-preserved
loop-node-preserved c =
    one_more (empty_lane c.args.room) c.loop-node.node c.loop-node.lanes.items c.in_ok-lane.lane _ c.in_ok-add_lane.ensures c.in_ok-lane.ensures c.loop-node.invariant
