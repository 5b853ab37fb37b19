use Rattle.rb_laws_listener_follows.proofs.FollowsBus.{listeners_follow}
use Rattle.rb_laws_listener_follows.proofs.listeners_follow_the_bus.Goals as goal

pub returns : goal.returns
returns c = listeners_follow
