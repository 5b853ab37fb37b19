use Rattle.std.proofs.Common.{◌≡◌, ◌<◌, length, arith, sym, ◌∙◌, true}
use Rattle.rb_queue.specs.Waiting.{comes}
use Rattle.rb_queue.proofs.Sources.{found_here}
use Rattle.rb_queue.proofs.scan.place_among.Goals as goal

pub returns-then-left-eq0 : goal.returns-then-left-eq0
returns-then-left-eq0 c =
    let within : c.loop-place.place < length c.args.arrivals.now = omega arith in
    let passes : comes c.args.time c.args.source c.index-arrivals-place.result ≡ true = sym c.comes.ensures ∙ c.if-comes.true in
    found_here c.args.time c.args.arrivals.now c.args.source c.args.others c.loop-place.place c.loop-place.left c.index-arrivals-place.result within
    c.index-arrivals-place.is passes c.if-left-eq0.true c.loop-place.invariant.same
