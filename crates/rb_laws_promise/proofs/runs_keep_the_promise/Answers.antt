use Rattle.rb_laws_promise.proofs.Whole.{kept}
use Rattle.rb_laws_promise.proofs.runs_keep_the_promise.Goals as goal

pub returns : goal.returns
returns c = kept
