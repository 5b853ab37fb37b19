use Rattle.rb_laws_promise.proofs.Evidence.{accusations-follow}
use Rattle.rb_laws_promise.proofs.accusations_follow_evidence.Goals as goal

pub returns : goal.returns
returns c = accusations-follow
