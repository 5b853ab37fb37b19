use Rattle.rb_log.proofs.RoundTrip.{written_read}
use Rattle.rb_log.proofs.laws.written_is_read.Goals as goal

pub returns : goal.returns
returns c = written_read
