use Rattle.std.proofs.Common.{◌<◌, length}
use Rattle.rb_queue.proofs.First.{first_more}
use Rattle.rb_queue.proofs.scan.first_of.Goals as goal

pub loop-place-preserved : goal.loop-place-preserved
loop-place-preserved c =
    let within : c.loop-place.place < length c.args.arrivals.now = c.loop-place-test.true in
    first_more c.args.arrivals.now c.loop-place.place c.first_with-first.result c.index-arrivals-place.result within c.index-arrivals-place.is c.first_with-first.ensures
