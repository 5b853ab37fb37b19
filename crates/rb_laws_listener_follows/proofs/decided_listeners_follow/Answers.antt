use Rattle.rb_laws_listener_follows.proofs.FollowsBus.{follows_bus}
use Rattle.rb_laws_listener_follows.proofs.decided_listeners_follow.Goals as goal

pub returns : goal.returns
returns c = follows_bus
