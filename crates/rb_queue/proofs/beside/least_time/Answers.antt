use Rattle.std.proofs.Common.{◌<◌, ◌++◌, length, map, ap, ◌∙◌, Some}
use Rattle.std.specs.Prelude.{option_to_list}
use Rattle.rb_queue.proofs.Besides.{least_more}
use Rattle.rb_queue.proofs.beside.least_time.Goals as goal

pub loop-pending-preserved : goal.loop-pending-preserved
loop-pending-preserved c =
    let within : c.loop-pending.pending-index < length c.args.more.now = c.loop-pending-test.true in
    ap (λ n. Some n) c.sooner.ensures
    ∙ least_more (option_to_list c.args.lane.now.tick ++ map (λ c. c.time) c.args.lane.now.arrivals) c.args.more.now c.loop-pending.pending-index c.pending-item.result
    c.loop-pending.first within c.pending-item.is c.loop-pending.invariant
