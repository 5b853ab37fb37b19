use Rattle.rb_listen.proofs.Stages.{comes-searching, spent-searching}
use Rattle.rb_listen.proofs.listener.Listener.seek.Goals as goal

pub returns-then-self-ge-MOST_TICKS-clause-stands : goal.returns-then-self-ge-MOST_TICKS-clause-stands
returns-then-self-ge-MOST_TICKS-clause-stands c =
    let seeks = rw (← c.self.view_is) at c.requires in
    rw (← c.self.view_is) (λ l at.
    (spent-searching c.self.inside.plan.sizes c.self.inside.plan.plan c.self.inside.stage c.self.inside.search c.self.inside.follower l c.no_heed.result seeks
    c.if-self-ge-MOST_TICKS.true c.no_heed.ensures at).stands)

pub returns-then-self-ge-MOST_TICKS-clause-heed : goal.returns-then-self-ge-MOST_TICKS-clause-heed
returns-then-self-ge-MOST_TICKS-clause-heed c =
    let seeks = rw (← c.self.view_is) at c.requires in
    rw (← c.self.view_is) (λ l at.
    (spent-searching c.self.inside.plan.sizes c.self.inside.plan.plan c.self.inside.stage c.self.inside.search c.self.inside.follower l c.no_heed.result seeks
    c.if-self-ge-MOST_TICKS.true c.no_heed.ensures at).heed)

pub returns-clause-stands : goal.returns-clause-stands
returns-clause-stands c =
    let seeks = rw (← c.self.view_is) at c.requires in
    rw (← c.self.view_is) (λ l at.
    (comes-searching c.self.inside.plan.sizes c.self.inside.plan.plan c.self.inside.stage c.search_on-self-inside.result c.self.inside.search
    c.search_on-self-inside.new.search c.self.inside.follower l c.no_heed-2.result seeks c.if-self-ge-MOST_TICKS.false c.no_heed-2.ensures
    c.search_on-self-inside.ensures at).stands)

pub returns-clause-heed : goal.returns-clause-heed
returns-clause-heed c =
    let seeks = rw (← c.self.view_is) at c.requires in
    rw (← c.self.view_is) (λ l at.
    (comes-searching c.self.inside.plan.sizes c.self.inside.plan.plan c.self.inside.stage c.search_on-self-inside.result c.self.inside.search
    c.search_on-self-inside.new.search c.self.inside.follower l c.no_heed-2.result seeks c.if-self-ge-MOST_TICKS.false c.no_heed-2.ensures
    c.search_on-self-inside.ensures at).heed)
