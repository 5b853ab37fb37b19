use Rattle.std.proofs.Common.{◌+◌, refl}
use Rattle.rb_listen.proofs.Stages.{first-following, later-waiting, spent-waiting}
use Rattle.rb_listen.proofs.listener.Listener.wait.Goals as goal

pub returns-then-self-ge-MOST_TICKS-clause-stands : goal.returns-then-self-ge-MOST_TICKS-clause-stands
returns-then-self-ge-MOST_TICKS-clause-stands c =
    let waits = rw (← c.self.view_is) at c.requires in
    rw (← c.self.view_is) (λ l at.
    (spent-waiting c.self.inside.plan.sizes c.self.inside.plan.plan c.self.inside.stage c.self.inside.search c.self.inside.follower c.args.first l c.no_heed.result waits
    c.if-self-ge-MOST_TICKS.true c.no_heed.ensures at).stands)

pub returns-then-self-ge-MOST_TICKS-clause-heed : goal.returns-then-self-ge-MOST_TICKS-clause-heed
returns-then-self-ge-MOST_TICKS-clause-heed c =
    let waits = rw (← c.self.view_is) at c.requires in
    rw (← c.self.view_is) (λ l at.
    (spent-waiting c.self.inside.plan.sizes c.self.inside.plan.plan c.self.inside.stage c.self.inside.search c.self.inside.follower c.args.first l c.no_heed.result waits
    c.if-self-ge-MOST_TICKS.true c.no_heed.ensures at).heed)

pub returns-then-first-self-clause-stands : goal.returns-then-first-self-clause-stands
returns-then-first-self-clause-stands c =
    let waits = rw (← c.self.view_is) at c.requires in
    rw (← c.self.view_is) (λ l at.
    (first-following c.self.inside.plan.sizes c.self.inside.plan.plan c.self.inside.stage c.self.inside.search c.self.inside.follower c.new-self-inside.result
    c.follow.new.follower c.args.first l c.follow.result waits c.if-self-ge-MOST_TICKS.false c.if-first-self.true c.new-self-inside.ensures.sizes
    c.new-self-inside.ensures.plan c.new-self-inside.ensures.core c.follow.ensures.core c.follow.ensures.heed at).stands)

pub returns-then-first-self-clause-heed : goal.returns-then-first-self-clause-heed
returns-then-first-self-clause-heed c =
    let waits = rw (← c.self.view_is) at c.requires in
    rw (← c.self.view_is) (λ l at.
    (first-following c.self.inside.plan.sizes c.self.inside.plan.plan c.self.inside.stage c.self.inside.search c.self.inside.follower c.new-self-inside.result
    c.follow.new.follower c.args.first l c.follow.result waits c.if-self-ge-MOST_TICKS.false c.if-first-self.true c.new-self-inside.ensures.sizes
    c.new-self-inside.ensures.plan c.new-self-inside.ensures.core c.follow.ensures.core c.follow.ensures.heed at).heed)

pub returns-else-first-self-clause-stands : goal.returns-else-first-self-clause-stands
returns-else-first-self-clause-stands c =
    let waits = rw (← c.self.view_is) at c.requires in
    rw (← c.self.view_is) (λ l at.
    (later-waiting c.self.inside.plan.sizes c.self.inside.plan.plan c.self.inside.stage c.self.inside.search _ c.self.inside.follower c.args.first l
    c.no_heed-else-first-self.result waits c.if-self-ge-MOST_TICKS.false c.if-first-self.false refl c.no_heed-else-first-self.ensures at).stands)

pub returns-else-first-self-clause-heed : goal.returns-else-first-self-clause-heed
returns-else-first-self-clause-heed c =
    let waits = rw (← c.self.view_is) at c.requires in
    rw (← c.self.view_is) (λ l at.
    (later-waiting c.self.inside.plan.sizes c.self.inside.plan.plan c.self.inside.stage c.self.inside.search (let s = c.self.inside.search in record s { had = s.had + 1 }) c.self.inside.follower c.args.first l
    c.no_heed-else-first-self.result waits c.if-self-ge-MOST_TICKS.false c.if-first-self.false refl c.no_heed-else-first-self.ensures at).heed)
