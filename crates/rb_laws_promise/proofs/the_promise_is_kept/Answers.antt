use Rattle.rb_laws_promise.proofs.Promise.{promise}
use Rattle.rb_laws_promise.proofs.the_promise_is_kept.Goals as goal

pub returns : goal.returns
returns c = promise
