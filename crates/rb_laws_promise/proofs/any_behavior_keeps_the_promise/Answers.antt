use Rattle.rb_laws_promise.proofs.Strategies.{any-behavior}
use Rattle.rb_laws_promise.proofs.any_behavior_keeps_the_promise.Goals as goal

pub returns : goal.returns
returns c = any-behavior
