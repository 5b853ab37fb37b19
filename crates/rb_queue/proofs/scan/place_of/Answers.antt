use Rattle.rb_queue.proofs.Sources.{all_left, left_here, left_later}
use Rattle.rb_queue.proofs.scan.place_of.Goals as goal

pub sources-init : goal.sources-init
sources-init c = all_left c.args.time c.args.arrivals.now c.args.i c.requires

pub returns-in-Ok : goal.returns-in-Ok
returns-in-Ok c =
    left_here c.args.time c.args.arrivals.now c.args.i c.sources.first c.sources.left c.lowest_source-source.result c.in-Ok.place c.sources.invariant
    c.lowest_source-source.ensures.low c.lowest_source-source.ensures.high c.lowest_source-source.ensures.none c.in-Ok.ensures

pub sources-preserved : goal.sources-preserved
sources-preserved c =
    left_later c.args.time c.args.arrivals.now c.args.i c.sources.first c.sources.left c.lowest_source-source.result c.in-Err.others c.sources.invariant
    c.lowest_source-source.ensures.low c.lowest_source-source.ensures.high c.lowest_source-source.ensures.none c.in-Err.ensures
