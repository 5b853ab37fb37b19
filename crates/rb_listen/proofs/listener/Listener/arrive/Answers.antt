use Rattle.rb_listen.proofs.Stages.{arrive-following, arrive-had, arrive-searching, arrive-sound, arrive-waiting}
use Rattle.rb_listen.proofs.listener.Listener.arrive.Goals as goal

pub invariant_of-self : goal.invariant_of-self
invariant_of-self c =
    arrive-sound c.self.inside.plan.sizes c.self.inside.plan.plan c.self.inside.stage c.self.inside.search c.arrive.new.search c.self.inside.follower
    c.args.from c.args.bytes.now c.in-Searching.is c.arrive.ensures c.self.invariant

pub returns-in-Searching-clause-stands : goal.returns-in-Searching-clause-stands
returns-in-Searching-clause-stands c =
    rw (← c.self.view_is) (λ l at.
    arrive-searching c.self.inside.plan.sizes c.self.inside.plan.plan c.self.inside.stage c.self.inside.search c.arrive.new.search c.self.inside.follower
    c.args.from c.args.bytes.now l c.in-Searching.is c.arrive.ensures at)

pub returns-in-Searching-clause-had : goal.returns-in-Searching-clause-had
returns-in-Searching-clause-had c =
    rw (← c.self.view_is)
    (arrive-had c.self.inside.plan.sizes c.self.inside.plan.plan c.self.inside.stage c.self.inside.search c.arrive.new.search c.self.inside.follower
    c.args.from c.args.bytes.now c.in-Searching.is c.arrive.ensures c.self.invariant)

pub returns-in-Waiting-clause-stands : goal.returns-in-Waiting-clause-stands
returns-in-Waiting-clause-stands c =
    rw (← c.self.view_is) (λ l at.
    arrive-waiting c.self.inside.plan.sizes c.self.inside.plan.plan c.self.inside.stage c.self.inside.search c.self.inside.follower
    c.args.from c.args.bytes.now _ l c.in-Waiting.is at)

pub returns-in-Following-clause-stands : goal.returns-in-Following-clause-stands
returns-in-Following-clause-stands c =
    rw (← c.self.view_is) (λ l at.
    arrive-following c.self.inside.plan.sizes c.self.inside.plan.plan c.self.inside.stage c.self.inside.search c.self.inside.follower c.arrive-in-Following.new.self
    c.args.from c.args.bytes.now l c.in-Following.is c.self.invariant c.arrive-in-Following.ensures.core at)
