use Rattle.rb_long.proofs.Kept.{none-open}
use Rattle.rb_long.proofs.receiver.LongReceiver.new.Goals as goal

pub returns : goal.returns
returns c = none-open c.default.result c.default.ensures.long c.default.ensures.at
