use Rattle.rb_laws_promise.proofs.Strategies.{no-gain}
use Rattle.rb_laws_promise.proofs.strategies_gain_nothing.Goals as goal

pub returns : goal.returns
returns c = no-gain
