use Rattle.rb_log.proofs.RoundTrip.{read_spelled}
use Rattle.rb_log.proofs.laws.read_is_spelled.Goals as goal

pub returns : goal.returns
returns c = read_spelled
