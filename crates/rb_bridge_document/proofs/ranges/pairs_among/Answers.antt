use Rattle.std.proofs.Common.{◌≡◌, length, arith}
use Rattle.rb_scenario_document.proofs.Walks.{length_of-view}
use Rattle.rb_bridge_document.proofs.ranges.pairs_among.Goals as goal

pub push-requires : goal.push-requires
push-requires c =
    let many : length c.loop-value.pairs.items ≡ c.loop-value.value-index = c.loop-value.invariant.0 in
    (omega arith, omega (arith, many, c.loop-value-test.true, c.requires, length_of-view c.args.values.now.items))
