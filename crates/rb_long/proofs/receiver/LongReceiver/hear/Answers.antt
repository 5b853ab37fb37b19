use Rattle.rb_long.proofs.Kept.{heard-one}
use Rattle.rb_long.proofs.receiver.LongReceiver.hear.Goals as goal

pub returns-clause-after : goal.returns-clause-after
returns-clause-after c = heard-one c.self.inside.readers _ _ c.args.sender _ c.hear.new.reader c.args.value c.self.view_is c.from.ensures c.hear.ensures.read.after
