use Rattle.std.proofs.Common.{◌≡◌, ◌<◌, length, arith, sym, ◌∙◌, true}
use Rattle.rb_queue.specs.Queued.{is_of}
use Rattle.rb_queue.proofs.Besides.{found_here}
use Rattle.rb_queue.proofs.beside.beside_among.Goals as goal

pub returns-then-left-eq0 : goal.returns-then-left-eq0
returns-then-left-eq0 c =
    let within : c.loop-place.place < length c.args.more.now = omega arith in
    let passes : is_of c.args.time c.args.source c.index-more-place.result ≡ true = sym c.is_of.ensures ∙ c.if-is_of.true in
    found_here c.args.time c.args.more.now c.args.source c.args.others c.loop-place.place c.loop-place.left c.index-more-place.result within
    c.index-more-place.is passes c.if-left-eq0.true c.loop-place.invariant.same
