use Rattle.rb_listen.proofs.Stages.{tick-following}
use Rattle.rb_listen.proofs.listener.Listener.tick.Goals as goal

pub returns-in-Following-clause-stands : goal.returns-in-Following-clause-stands
returns-in-Following-clause-stands c =
    rw (← c.self.view_is) (λ l at.
    (tick-following c.self.inside.plan.sizes c.self.inside.plan.plan c.self.inside.stage c.self.inside.search c.self.inside.follower c.follow.new.follower l
    c.follow.result c.in-Following.is c.self.invariant c.follow.ensures.core c.follow.ensures.heed at).stands)

pub returns-in-Following-clause-heed : goal.returns-in-Following-clause-heed
returns-in-Following-clause-heed c =
    rw (← c.self.view_is) (λ l at.
    (tick-following c.self.inside.plan.sizes c.self.inside.plan.plan c.self.inside.stage c.self.inside.search c.self.inside.follower c.follow.new.follower l
    c.follow.result c.in-Following.is c.self.invariant c.follow.ensures.core c.follow.ensures.heed at).heed)
