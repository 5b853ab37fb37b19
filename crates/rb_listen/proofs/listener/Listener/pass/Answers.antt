use Rattle.std.proofs.Common.{refl}
use Rattle.rb_listen.proofs.Stages.{pass-following, pass-searching, pass-waiting, quiet-following, quiet-searching, quiet-waiting}
use Rattle.rb_listen.proofs.listener.Listener.pass.Goals as goal

pub returns-in-Searching-clause-stands : goal.returns-in-Searching-clause-stands
returns-in-Searching-clause-stands c =
    let asked = rw (← c.self.view_is) at c.requires in
    rw (← c.self.view_is) (λ l at.
    pass-searching c.self.inside.plan.sizes c.self.inside.plan.plan c.args.ticks c.self.inside.stage c.self.inside.search _ c.self.inside.follower l c.in-Searching.is refl asked at)

pub returns-in-Searching-clause-quiet : goal.returns-in-Searching-clause-quiet
returns-in-Searching-clause-quiet c =
    let asked = rw (← c.self.view_is) at c.requires in
    rw (← c.self.view_is) (λ l at.
    quiet-searching c.self.inside.plan.sizes c.self.inside.plan.plan c.args.ticks c.self.inside.stage c.self.inside.search c.self.inside.follower l c.in-Searching.is asked at)

pub returns-in-Waiting-clause-stands : goal.returns-in-Waiting-clause-stands
returns-in-Waiting-clause-stands c =
    let asked = rw (← c.self.view_is) at c.requires in
    rw (← c.self.view_is) (λ l at.
    pass-waiting c.self.inside.plan.sizes c.self.inside.plan.plan c.args.ticks c.self.inside.stage c.self.inside.search _ c.self.inside.follower _ l c.in-Waiting.is refl asked at)

pub returns-in-Waiting-clause-quiet : goal.returns-in-Waiting-clause-quiet
returns-in-Waiting-clause-quiet c =
    let asked = rw (← c.self.view_is) at c.requires in
    rw (← c.self.view_is) (λ l at.
    quiet-waiting c.self.inside.plan.sizes c.self.inside.plan.plan c.args.ticks c.self.inside.stage c.self.inside.search c.self.inside.follower _ l c.in-Waiting.is asked at)

pub returns-in-Following-clause-stands : goal.returns-in-Following-clause-stands
returns-in-Following-clause-stands c =
    rw (← c.self.view_is) (λ l at.
    pass-following c.self.inside.plan.sizes c.self.inside.plan.plan c.args.ticks c.self.inside.stage c.self.inside.search c.self.inside.follower c.pass.new.self l
    c.in-Following.is c.self.invariant c.pass.ensures.core at)

pub returns-in-Following-clause-quiet : goal.returns-in-Following-clause-quiet
returns-in-Following-clause-quiet c =
    rw (← c.self.view_is) (λ l at.
    quiet-following c.self.inside.plan.sizes c.self.inside.plan.plan c.args.ticks c.self.inside.stage c.self.inside.search c.self.inside.follower l
    c.in-Following.is c.self.invariant c.pass.ensures.quiet c.pass.ensures.most at)
