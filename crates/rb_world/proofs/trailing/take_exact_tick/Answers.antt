use Rattle.std.proofs.Common.{◌+◌, sym, ap, ◌∙◌}
use Rattle.rb_base.specs.Nodes.{side_of}
use Rattle.rb_slot.specs.Engines.{Seated}
use Rattle.rb_world.specs.{Steps.moved, Unstamped.bare_with, Buses.scenario_of}
use Rattle.rb_world.proofs.Readied.{TakesIn, kept_core, lane-known, may-tick-now, node-at, takes-now}
use Rattle.rb_world.proofs.trailing.take_exact_tick.Goals as goal

pub take_in_all-requires-clause-lane : goal.take_in_all-requires-clause-lane
take_in_all-requires-clause-lane g c =
    let r = c.requires.may in
    (lane-known (scenario_of c.args.bus.now) r.0 c.args.scene.now r.1 r.2 r.3 (side_of g.K.Kind.CODE) c.args.i r.4 c.args.time r.5 c.args.site.now c.name_of.result r.6 c.name_of.ensures).0

pub take_in_all-requires-clause-senders : goal.take_in_all-requires-clause-senders
take_in_all-requires-clause-senders g c =
    let r = c.requires.may in
    (lane-known (scenario_of c.args.bus.now) r.0 c.args.scene.now r.1 r.2 r.3 (side_of g.K.Kind.CODE) c.args.i r.4 c.args.time r.5 c.args.site.now c.name_of.result r.6 c.name_of.ensures).1

pub tick_at-requires-clause-number : goal.tick_at-requires-clause-number
tick_at-requires-clause-number g c =
    let r = c.requires.may in
    let node = node-at (scenario_of c.args.bus.now) r.0 c.args.scene.now r.1 r.2 r.3 (side_of g.K.Kind.CODE) c.args.i r.4 c.args.time r.5 c.args.site.now r.6 in
    sym (ap (λ (z : Seated). z.index) c.take_in_all.ensures.seat ∙ node.1.number)

pub tick_at-requires-clause-may : goal.tick_at-requires-clause-may
tick_at-requires-clause-may g c =
    let r = c.requires.may in
    let sc = scenario_of c.args.bus.now in
    let me = side_of g.K.Kind.CODE in
    let takes : TakesIn me c.args.scene.now.agenda c.name_of.result (c.args.time + 1) c.args.site.now c.take_in_all.new.site c.take_in_all.new.agenda =
    record { stands = c.take_in_all.ensures.stands; seat = c.take_in_all.ensures.seat; left = c.take_in_all.ensures.lanes } in
    let core = kept_core sc me c.args.i r.4 r.6.first.at.first.node in (
      r.4.tick,
      moved me c.args.i (bare_with sc me c.args.i r.4 core) r.3,
      bare_with sc me c.args.i r.4 core r.6.first.at.first.node,
      may-tick-now sc r.0 c.args.scene.now r.1 r.2 r.3 me c.args.i r.4 c.args.time r.5 c.args.site.now c.take_in_all.new.site c.name_of.result c.take_in_all.new.agenda r.6 c.name_of.ensures takes,
    )

pub returns : goal.returns
returns g c = record {
  takes = λ kept until w v a own m.
      let sc = scenario_of c.args.bus.now in
      let me = side_of g.K.Kind.CODE in
      let takes : TakesIn me c.args.scene.now.agenda c.name_of.result (c.args.time + 1) c.args.site.now c.take_in_all.new.site c.take_in_all.new.agenda =
      record { stands = c.take_in_all.ensures.stands; seat = c.take_in_all.ensures.seat; left = c.take_in_all.ensures.lanes } in
      let core = kept_core sc me c.args.i a m.first.at.first.node in
      takes-now sc kept c.args.scene.now c.tick_at.new.scene until w v me c.args.i a c.args.time own c.args.site.now c.take_in_all.new.site c.tick_at.new.site c.name_of.result c.take_in_all.new.agenda m c.name_of.ensures takes
      (c.tick_at.ensures a.tick (moved me c.args.i (bare_with sc me c.args.i a core) v) (bare_with sc me c.args.i a core m.first.at.first.node)
      (may-tick-now sc kept c.args.scene.now until w v me c.args.i a c.args.time own c.args.site.now c.take_in_all.new.site c.name_of.result c.take_in_all.new.agenda m c.name_of.ensures takes));
}
