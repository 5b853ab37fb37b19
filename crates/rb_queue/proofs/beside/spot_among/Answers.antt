use Rattle.std.proofs.Common.{◌≡◌, ◌+◌, length, subst}
use Rattle.rb_queue.specs.Waiting.{coming_at}
use Rattle.rb_queue.proofs.Besides.{kept_sent}
use Rattle.rb_queue.proofs.beside.spot_among.Goals as goal

pub returns-in-Ok-beside_among : goal.returns-in-Ok-beside_among
returns-in-Ok-beside_among c =
    kept_sent c.args.time c.args.lane.now c.args.more.now c.args.source c.args.others c.in-Err.left c.in-Ok-beside_among.place
    (subst (λ l. c.in-Err.left + length (coming_at c.args.time l c.args.source) ≡ c.args.others) c.waiting.ensures c.in-Err.ensures) c.in-Ok-beside_among.ensures
