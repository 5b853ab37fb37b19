use Rattle.std.proofs.Common.{◌≡◌, true, false, sym, ◌∙◌}
use Rattle.rb_rules.specs.{WorldStep.needs_no_event, Book.Each}
use Rattle.rb_world.specs.{Runs.nodes_of, Trailing.until_from, Sites.KeptSite, Buses.scenario_of}
use Rattle.rb_world.proofs.{Along.comes-by-itself, Running.{may-tick-along, ticks-along}, ToldOn.{told-by-itself, told-by-tick}}
use Rattle.rb_world.proofs.trailing.step_on.Goals as goal

pub returns-then-needs_no_event-clause-comes : goal.returns-then-needs_no_event-clause-comes
returns-then-needs_no_event-clause-comes g c = λ n w d on.
    let sc = scenario_of c.args.setup.now.bus.now in
    let free : needs_no_event sc on.back.book.upcoming ≡ true = sym (c.needs_no_event.ensures sc on.back on.trails.surrounds.book) ∙ c.if-needs_no_event.true in
    comes-by-itself sc (nodes_of c.args.run.now) c.args.run.now.scene (until_from c.args.tick.now) n w d c.settle_into.new.self c.settle_into.new.turn on free
    (c.settle_into.ensures.settled sc on.back on.trails.surrounds.book)

pub tick_first-requires-clause-may : goal.tick_first-requires-clause-may
tick_first-requires-clause-may g c =
    let sc = scenario_of c.args.setup.now.bus.now in
    let n = c.requires.may.0 in
    let w = c.requires.may.1 in
    let d = c.requires.may.2 in
    let on = c.requires.may.3 in
    let needs : needs_no_event sc on.back.book.upcoming ≡ false = sym (c.needs_no_event.ensures sc on.back on.trails.surrounds.book) ∙ c.if-needs_no_event.false in
    (until_from c.args.tick.now, on.now, on.back, may-tick-along sc (nodes_of c.args.run.now) c.args.run.now.scene (until_from c.args.tick.now) n w d on needs)

pub returns-clause-comes : goal.returns-clause-comes
returns-clause-comes g c = λ n w d on.
    let sc = scenario_of c.args.setup.now.bus.now in
    let needs : needs_no_event sc on.back.book.upcoming ≡ false = sym (c.needs_no_event.ensures sc on.back on.trails.surrounds.book) ∙ c.if-needs_no_event.false in
    ticks-along sc (nodes_of c.args.run.now) (nodes_of c.tick_first.new.run) c.args.run.now.scene c.tick_first.new.run.scene
    (until_from c.args.tick.now) n w d c.tick_first.result.0 c.tick_first.result.1 c.tick_first.new.turn on
    (c.tick_first.ensures.goes (until_from c.args.tick.now) on.now on.back (may-tick-along sc (nodes_of c.args.run.now) c.args.run.now.scene (until_from c.args.tick.now) n w d on needs))

pub returns-then-needs_no_event-clause-told : goal.returns-then-needs_no_event-clause-told
returns-then-needs_no_event-clause-told g c = λ name is node a n w d on.
    let sc = scenario_of c.args.setup.now.bus.now in
    let free : needs_no_event sc on.on.back.book.upcoming ≡ true = sym (c.needs_no_event.ensures sc on.on.back on.on.trails.surrounds.book) ∙ c.if-needs_no_event.true in
    told-by-itself _ g.T.Observer.observes name a c.args.observer.now sc (nodes_of c.args.run.now) c.args.run.now.scene (until_from c.args.tick.now) n w d c.settle_into.new.self c.settle_into.new.turn
    on free (c.settle_into.ensures.settled sc on.on.back on.on.trails.surrounds.book)

pub returns-clause-told : goal.returns-clause-told
returns-clause-told g c = λ name is node a n w d on.
    let sc = scenario_of c.args.setup.now.bus.now in
    let kept : Each KeptSite = nodes_of c.args.run.now in
    let needs : needs_no_event sc on.on.back.book.upcoming ≡ false = sym (c.needs_no_event.ensures sc on.on.back on.on.trails.surrounds.book) ∙ c.if-needs_no_event.false in
    let may = may-tick-along sc kept c.args.run.now.scene (until_from c.args.tick.now) n w d on.on needs in
    let to = c.tick_first.ensures.goes (until_from c.args.tick.now) on.on.now on.on.back may in
    told-by-tick _ g.T.Observer.observes name a c.args.observer.now c.tick_first.new.observer sc kept (nodes_of c.tick_first.new.run) c.args.run.now.scene c.tick_first.new.run.scene
    (until_from c.args.tick.now) n w d c.tick_first.result.0 c.tick_first.result.1 c.tick_first.new.turn on to node
    (c.tick_first.ensures.told name is (until_from c.args.tick.now) on.on.now on.on.back to.me to.i to.a (record { trails = on.on.trails; event = may.event; first = to.first }))
