use Rattle.rb_laws_agreement.proofs.Skews.{keeps_the_promise}
use Rattle.rb_laws_agreement.proofs.time_keeps_the_promise.Goals as goal

pub returns : goal.returns
returns c = keeps_the_promise
