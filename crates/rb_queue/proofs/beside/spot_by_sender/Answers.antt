use Rattle.std.proofs.Common.{arith}
use Rattle.rb_queue.proofs.Besides.{left_first, left_next, left_none, spot_left}
use Rattle.rb_queue.proofs.beside.spot_by_sender.Goals as goal

pub loop-source-init : goal.loop-source-init
loop-source-init c = left_first c.args.time c.args.lane.now c.args.more.now c.args.i

pub returns-in-Ok : goal.returns-in-Ok
returns-in-Ok c =
    spot_left c.args.time c.args.lane.now c.args.more.now c.args.i c.loop-source.source c.loop-source.left c.in-Ok.spot c.loop-source-test.true c.loop-source.invariant
    c.in-Ok.ensures

pub loop-source-preserved : goal.loop-source-preserved
loop-source-preserved c =
    left_next c.args.time c.args.lane.now c.args.more.now c.args.i c.loop-source.source c.loop-source.left c.in-Err.others c.loop-source-test.true c.loop-source.invariant
    c.in-Err.ensures

pub returns : goal.returns
returns c =
    left_none c.args.time c.args.lane.now c.args.more.now c.args.i c.loop-source.source c.loop-source.left
    (omega (arith, c.loop-source-test.false, c.loop-source.auto.source-end)) c.loop-source.invariant
