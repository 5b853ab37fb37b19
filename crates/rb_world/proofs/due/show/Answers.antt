use Rattle.std.proofs.Common.{sym, ap, ◌∙◌}
use Rattle.rb_base.specs.Nodes.{side_of}
use Rattle.rb_rules.specs.WorldStep.{event_of}
use Rattle.rb_world.specs.{Sites.number_of, Buses.scenario_of}
use Rattle.rb_world.proofs.Showing.{arrival-shows, tick-shows}
use Rattle.rb_world.proofs.due.show.Goals as goal

pub show_tick-requires : goal.show_tick-requires
show_tick-requires g c =
    let sc = scenario_of c.args.bus.now in
    let site = c.args.site.now in
    let waits = c.requires.may.0 in
    let states = c.requires.may.1 in
    let s = c.requires.may.2 in
    let shows = tick-shows sc (side_of g.K.Kind.CODE) (number_of site) waits site c.args.ports.now c.args.time c.name-node.result c.args.event.now states s c.in-Tick.word c.in-Tick.wanted
    c.name-node.ensures c.requires.may.3 c.in-Tick.is in
    record { may = (shows.tick, states, s, shows.may) }

pub returns-in-Arrive : goal.returns-in-Arrive
returns-in-Arrive g c =
    λ waits states s may.
    let sc = scenario_of c.args.bus.now in
    let me = side_of g.K.Kind.CODE in
    let site = c.args.site.now in
    let shows = arrival-shows sc me (number_of site) waits site c.args.ports.now c.args.time c.name-node.result c.args.event.now states s c.in-Arrive.from c.in-Arrive.bytes c.name-node.ensures may c.in-Arrive.is in
    c.show_arrival.ensures states shows.place s shows.may
    ∙ ap (event_of sc states me (number_of site) s.core) (sym shows.is)
