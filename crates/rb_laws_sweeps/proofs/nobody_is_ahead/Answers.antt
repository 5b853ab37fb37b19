use Rattle.rb_laws_sweeps.proofs.Calls.{nobody-is-ahead}
use Rattle.rb_laws_sweeps.proofs.nobody_is_ahead.Goals as goal

pub returns : goal.returns
returns c = nobody-is-ahead
