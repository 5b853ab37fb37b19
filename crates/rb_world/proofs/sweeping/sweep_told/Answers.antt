use Rattle.std.proofs.Common.{◌≤◌, None, refl, sym, ap, subst, ◌∙◌, arith}
use Rattle.rb_base.specs.Nodes.{side_of}
use Rattle.rb_rules.specs.{Links.name_of, WorldStep.at_node}
use Rattle.rb_queue.specs.Waiting.{HasLane, IsFirstBefore, IsReadyBefore, lane_of, without_place}
use Rattle.rb_world.specs.{Sites.number_of, Steps.CanHear, Trailing.{MaySweep, Sweeps}, Buses.scenario_of}
use Rattle.rb_world.proofs.{SweptTold.{hears-next, sweep-rest, told-begins, told-ends, told-goes}, Taken.{fewer-taken, lanes-taken}}
use Rattle.rb_world.proofs.sweeping.sweep_told.Goals as goal

pub events-init : goal.events-init
events-init g c = record {
  number = refl;
  lanes = λ other h. h;
  on = λ sites s may. told-begins _ g.T.Observer.observes c.args.observer.now (scenario_of c.args.bus.now) (side_of g.K.Kind.CODE) (number_of c.args.site.now) c.args.until c.args.site.now c.args.agenda.now sites s may;
}

pub first_before-requires : goal.first_before-requires
first_before-requires g c = record { in_shape = c.events.invariant.lanes c.args.node (subst (HasLane c.args.agenda.now) (sym c.requires.may.0) c.requires.may.3.lane) }

pub sweep-requires : goal.sweep-requires
sweep-requires g c =
    let me = side_of g.K.Kind.CODE in
    let on = (c.events.invariant.on c.requires.may.1 c.requires.may.2 c.requires.may.3).on in
    let sites = at_node me (number_of c.args.site.now) (λ _. on.now) c.requires.may.1 in
    record {
      may = (
        c.requires.may.0 ∙ ap (name_of me) (sym c.events.invariant.number),
        sites,
        on.now,
        subst (λ n. MaySweep (scenario_of c.args.bus.now) me n c.args.until c.events.site c.events.agenda sites on.now) (sym c.events.invariant.number) on.may,
      );
    }

pub returns-in-None-clause-swept : goal.returns-in-None-clause-swept
returns-in-None-clause-swept g c = λ sites s may.
    let sc = scenario_of c.args.bus.now in
    let me = side_of g.K.Kind.CODE in
    let i = number_of c.args.site.now in
    let on = (c.events.invariant.on sites s may).on in
    let now = at_node me i (λ _. on.now) sites in
    sweep-rest sc me i c.args.until c.events.site c.sweep.new.site c.events.agenda c.sweep.new.agenda sites s on
    (subst (λ n. Sweeps sc me n c.args.until c.sweep.new.site c.sweep.new.agenda now on.now) c.events.invariant.number
    (c.sweep.ensures.swept now on.now (subst (λ n. MaySweep sc me n c.args.until c.events.site c.events.agenda now on.now) (sym c.events.invariant.number) on.may)))

pub returns-in-None-clause-lanes : goal.returns-in-None-clause-lanes
returns-in-None-clause-lanes g c = λ other h. c.sweep.ensures.lanes other (c.events.invariant.lanes other h)

pub returns-in-None-clause-told : goal.returns-in-None-clause-told
returns-in-None-clause-told g c = λ sites s may.
    let later : IsFirstBefore c.args.until (lane_of c.events.agenda c.args.node) None =
    subst (IsFirstBefore c.args.until (lane_of c.events.agenda c.args.node)) c.in-None.is c.first_before.ensures.first in
    let most : c.args.until ≤ 18446744073709551615 = (let until = c.ranges.until.fits in omega (arith, until)) in
    told-ends _ g.T.Observer.observes c.args.observer.now c.events.observer (scenario_of c.args.bus.now) (side_of g.K.Kind.CODE) (number_of c.args.site.now) c.args.until c.events.site c.events.agenda sites s c.args.node
    (c.events.invariant.on sites s may) c.requires.may.0 (c.events.invariant.lanes c.args.node (subst (HasLane c.args.agenda.now) (sym c.requires.may.0) c.requires.may.3.lane)) most later

pub tell_arrival-requires-clause-name : goal.tell_arrival-requires-clause-name
tell_arrival-requires-clause-name g c = c.requires.may.0 ∙ ap (name_of (side_of g.K.Kind.CODE)) (sym c.events.invariant.number)

pub tell_arrival-requires-clause-stands : goal.tell_arrival-requires-clause-stands
tell_arrival-requires-clause-stands g c =
    let on = (c.events.invariant.on c.requires.may.1 c.requires.may.2 c.requires.may.3).on in (on.now, on.may.node.site)

pub tell_arrival-requires-clause-may : goal.tell_arrival-requires-clause-may
tell_arrival-requires-clause-may g c =
    let ready : IsReadyBefore c.args.until (lane_of c.events.agenda c.args.node) c.in-Some.place =
    subst (IsFirstBefore c.args.until (lane_of c.events.agenda c.args.node)) c.in-Some.is c.first_before.ensures.first in
    let most : c.args.until ≤ 18446744073709551615 = (let until = c.ranges.until.fits in omega (arith, until)) in (
      ready.coming,
      hears-next (scenario_of c.args.bus.now) (side_of g.K.Kind.CODE) (number_of c.args.site.now) c.args.until c.in-Some.place c.events.site c.events.agenda c.requires.may.1 c.requires.may.2 c.args.node
          (c.events.invariant.on c.requires.may.1 c.requires.may.2 c.requires.may.3).on c.requires.may.0
          (c.events.invariant.lanes c.args.node (subst (HasLane c.args.agenda.now) (sym c.requires.may.0) c.requires.may.3.lane)) most ready c.events.invariant.number,
    )

pub hear_at-requires-clause-name : goal.hear_at-requires-clause-name
hear_at-requires-clause-name g c = c.requires.may.0 ∙ ap (name_of (side_of g.K.Kind.CODE)) (sym c.events.invariant.number)

pub hear_at-requires-clause-may : goal.hear_at-requires-clause-may
hear_at-requires-clause-may g c =
    let ready : IsReadyBefore c.args.until (lane_of c.events.agenda c.args.node) c.in-Some.place =
    subst (IsFirstBefore c.args.until (lane_of c.events.agenda c.args.node)) c.in-Some.is c.first_before.ensures.first in
    let most : c.args.until ≤ 18446744073709551615 = (let until = c.ranges.until.fits in omega (arith, until)) in (
      ready.coming,
      hears-next (scenario_of c.args.bus.now) (side_of g.K.Kind.CODE) (number_of c.args.site.now) c.args.until c.in-Some.place c.events.site c.events.agenda c.requires.may.1 c.requires.may.2 c.args.node
          (c.events.invariant.on c.requires.may.1 c.requires.may.2 c.requires.may.3).on c.requires.may.0
          (c.events.invariant.lanes c.args.node (subst (HasLane c.args.agenda.now) (sym c.requires.may.0) c.requires.may.3.lane)) most ready c.events.invariant.number,
    )

pub events-preserved : goal.events-preserved
events-preserved g c =
    let sc = scenario_of c.args.bus.now in
    let me = side_of g.K.Kind.CODE in
    let i = number_of c.args.site.now in
    let lane = lane_of c.events.agenda c.args.node in
    let ready : IsReadyBefore c.args.until lane c.in-Some.place = subst (IsFirstBefore c.args.until lane) c.in-Some.is c.first_before.ensures.first in
    let most : c.args.until ≤ 18446744073709551615 = (let until = c.ranges.until.fits in omega (arith, until)) in
    let has_lane : HasLane c.events.agenda c.args.node = c.events.invariant.lanes c.args.node (subst (HasLane c.args.agenda.now) (sym c.requires.may.0) c.requires.may.3.lane) in
    record {
      number = c.hear_at.ensures.number ∙ c.events.invariant.number;
      lanes = λ other h. lanes-taken c.events.agenda c.hear_at.new.agenda c.args.node (without_place c.in-Some.place lane) c.hear_at.ensures.lane other (c.events.invariant.lanes other h);
      on = λ sites s may.
          let it = c.events.invariant.on sites s may in
          let can : CanHear sc me (number_of c.events.site) c.args.node c.in-Some.place c.events.site c.events.agenda ready.coming =
          hears-next sc me i c.args.until c.in-Some.place c.events.site c.events.agenda sites s c.args.node it.on c.requires.may.0 has_lane most ready c.events.invariant.number in
          told-goes _ g.T.Observer.observes c.args.observer.now c.events.observer c.tell_arrival.new.observer sc me i c.args.until c.in-Some.place c.events.site c.hear_at.new.site c.events.agenda c.hear_at.new.agenda sites s c.args.node
          it c.requires.may.0 has_lane most ready c.events.invariant.number
          (record { lane = c.hear_at.ensures.lane; stands = λ at z stands. c.hear_at.ensures.stands ready.coming at z can stands; number = c.hear_at.ensures.number })
          (λ at. c.tell_arrival.ensures ready.coming at it.on.now can it.on.may.node.site);
    }

pub events-smaller : goal.events-smaller
events-smaller g c =
    let ready : IsReadyBefore c.args.until (lane_of c.events.agenda c.args.node) c.in-Some.place =
    subst (IsFirstBefore c.args.until (lane_of c.events.agenda c.args.node)) c.in-Some.is c.first_before.ensures.first in
    let fewer = fewer-taken c.events.agenda c.hear_at.new.agenda c.args.node c.in-Some.place ready.coming
    (c.events.invariant.lanes c.args.node (subst (HasLane c.args.agenda.now) (sym c.requires.may.0) c.requires.may.3.lane)) ready.stands c.hear_at.ensures.lane in
    omega (arith, fewer)
