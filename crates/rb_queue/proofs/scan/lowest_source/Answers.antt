use Rattle.std.proofs.Common.{◌<◌, length, arith, sym, ◌∙◌}
use Rattle.rb_queue.proofs.{Sources.{lowest_new, lowest_stays}, scan.lowest_source.Goals.{then-is_between, else-is_between}}
use Rattle.rb_queue.proofs.scan.lowest_source.Goals as goal

pub loop-arrival-preserved : goal.loop-arrival-preserved
loop-arrival-preserved c =
    let within : c.loop-arrival.arrival-index < length c.args.arrivals.now = omega arith in
    elim c.if-is_between.branch [
      | then-is_between w ↦
          lowest_new c.args.time c.args.arrivals.now c.loop-arrival.arrival-index c.args.first c.loop-arrival.lowest c.if-is_between.lowest
          c.arrival-item.result c.loop-arrival.invariant within c.arrival-item.is (sym c.is_between.ensures ∙ w.if-is_between.true)
          (w.lowest-is ∙ w.source-lowest.ensures.value)
      | else-is_between w ↦
          lowest_stays c.args.time c.args.arrivals.now c.loop-arrival.arrival-index c.args.first c.loop-arrival.lowest c.if-is_between.lowest
          c.arrival-item.result c.loop-arrival.invariant within c.arrival-item.is (sym c.is_between.ensures ∙ w.if-is_between.false) w.lowest-is
    ]
