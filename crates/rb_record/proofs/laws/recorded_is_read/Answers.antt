use Rattle.rb_record.proofs.Logs.{recorded-read}
use Rattle.rb_record.proofs.laws.recorded_is_read.Goals as goal

pub returns : goal.returns
returns c = recorded-read
