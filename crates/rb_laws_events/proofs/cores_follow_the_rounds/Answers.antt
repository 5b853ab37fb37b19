use Rattle.rb_laws_events.proofs.CoresPast.{cores-follow}
use Rattle.rb_laws_events.proofs.cores_follow_the_rounds.Goals as goal

pub returns : goal.returns
returns c = cores-follow
