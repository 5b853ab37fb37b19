use Rattle.rb_record.proofs.Logs.{one-list}
use Rattle.rb_record.proofs.laws.one_log.Goals as goal

pub returns : goal.returns
returns c = one-list
