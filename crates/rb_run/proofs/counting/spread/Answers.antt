use Rattle.std.proofs.Common.{arith}
use Rattle.rb_run.proofs.Spreads.{earliest-next, latest-next, spread-from}
use Rattle.rb_run.proofs.counting.spread.Goals as goal

pub loop-node-preserved : goal.loop-node-preserved
loop-node-preserved c =
    let latest = c.max-latest.ensures in
    let earliest = c.min-earliest.ensures in
    let late = latest-next c.in-Some.first.now.time c.args.nodes.now c.loop-node.node-index c.loop-node-test.true in
    let early = earliest-next c.in-Some.first.now.time c.args.nodes.now c.loop-node.node-index c.loop-node-test.true in
    record { latest = omega (arith, latest, late); earliest = omega (arith, earliest, early); order = omega (arith, latest, earliest) }

pub returns : goal.returns
returns c =
    spread-from c.in-Some.first.now c.args.nodes.now c.loop-node.node-index c.loop-node.latest c.loop-node.earliest c.in-Some.ensures.value c.loop-node-test.false
    c.loop-node.invariant.latest c.loop-node.invariant.earliest
