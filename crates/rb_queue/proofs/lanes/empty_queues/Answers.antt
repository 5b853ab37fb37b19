use Rattle.rb_queue.specs.Queued.{empty_queue}
use Rattle.rb_queue.proofs.EmptyQueues.{one_more}
use Rattle.rb_queue.proofs.lanes.empty_queues.Goals as goal

pub loop-node-preserved : goal.loop-node-preserved
loop-node-preserved c =
    one_more (empty_queue c.args.room) c.loop-node.node c.loop-node.queues.items c.in_ok-queue.queue _ c.in_ok-add_queue.ensures c.in_ok-queue.ensures c.loop-node.invariant
