use Rattle.std.proofs.{Common.{◌≡◌, ◌<◌, ◌≤◌, None, refl, sym, ap, subst, ◌∙◌, arith}, lemmas.Option.slice_get_within}
use Rattle.rb_base.specs.Nodes.{other, side_of}
use Rattle.rb_rules.specs.{Clock.ComesBy, Goodness.clock_of, Hearing.Coming, Lawful.IsNodeOf, Links.name_of, Slots.count_of, WorldStep.{after_arrival, at_node}}
use Rattle.std.specs.Prelude.{unwrap_or}
use Rattle.rb_queue.specs.{Waiting.{HasLane, Held, IsFirstBefore, IsReadyBefore, event_with, lane_of, tick_time_of, with_lane, without_ready, without_tick}, Waiting.Ready.{Comes, Ticks}}
use Rattle.rb_world_agenda.specs.Agenda.{key_of}
use Rattle.rb_node.specs.Cores.{passing_end}
use Rattle.rb_world.specs.{Sites.{Stands as StandsFor, number_of}, Trailing.{TakesArrival, TakesTick, NoneBefore}, Buses.scenario_of}
use Rattle.rb_world.proofs.{Lanes.node-named, OneTaken.{ComesFirst, comes-first, coming-is, first-dropped, none-first, takes-arrival, takes-tick, tick-dropped, tick-first, tick-is, ticks-first}, Swept.{clock-named, comes-in-time, may-come, sweep-begins, sweep-ends, sweep-goes, sweep-ticks}, Taken.{fewer-taken, lanes-taken, nothing-next, rooms-taken}}
use Rattle.rb_world.proofs.sweeping.sweep.Goals as goal

pub clock-clock-requires : goal.clock-clock-requires
clock-clock-requires g c = subst (IsNodeOf c.args.bus.now.sizes) (sym c.requires.may.0) (node-named (scenario_of c.args.bus.now) (side_of g.K.Kind.CODE) (number_of c.args.site.now) c.requires.may.3.within)

pub events-init : goal.events-init
events-init g c = record {
  number = refl;
  lanes = λ other h. h;
  on = λ sites s may. sweep-begins (scenario_of c.args.bus.now) (side_of g.K.Kind.CODE) (number_of c.args.site.now) c.args.until c.args.site.now c.args.agenda.now sites s may;
}

pub first_before-requires : goal.first_before-requires
first_before-requires g c = record { in_shape = c.events.invariant.lanes c.args.node (subst (HasLane c.args.agenda.now) (sym c.requires.may.0) c.requires.may.3.lane) }

pub arrival-arrival-requires-clause-in_shape : goal.arrival-arrival-requires-clause-in_shape
arrival-arrival-requires-clause-in_shape g c = c.events.invariant.lanes c.args.node (subst (HasLane c.args.agenda.now) (sym c.requires.may.0) c.requires.may.3.lane)

pub arrival-arrival-requires-clause-below : goal.arrival-arrival-requires-clause-below
arrival-arrival-requires-clause-below g c =
    let ready : IsReadyBefore c.args.until (lane_of c.events.agenda c.args.node) c.in-Some.place =
    subst (IsFirstBefore c.args.until (lane_of c.events.agenda c.args.node)) c.in-Some.is c.first_before.ensures.first in
    slice_get_within (lane_of c.events.agenda c.args.node).arrivals c.in-Some.place ready.coming ready.stands

pub arrive-requires-clause-in_time : goal.arrive-requires-clause-in_time
arrive-requires-clause-in_time g c =
    let sc = scenario_of c.args.bus.now in
    let me = side_of g.K.Kind.CODE in
    let i = number_of c.args.site.now in
    let on = c.events.invariant.on c.requires.may.1 c.requires.may.2 c.requires.may.3 in
    let ready : IsReadyBefore c.args.until (lane_of c.events.agenda c.args.node) c.in-Some.place =
    subst (IsFirstBefore c.args.until (lane_of c.events.agenda c.args.node)) c.in-Some.is c.first_before.ensures.first in
    let p : Coming = c.arrival-arrival.result.now in
    let most : c.args.until ≤ 18446744073709551615 = (let until = c.ranges.until.fits in omega (arith, until)) in
    let first : ComesFirst me i c.args.until c.events.agenda c.args.node p.time (event_with c.args.node (Comes c.in-Some.place p)) =
    comes-first me i c.args.until c.events.agenda c.args.node c.in-Some.place p c.requires.may.0 (c.events.invariant.lanes c.args.node (subst (HasLane c.args.agenda.now) (sym c.requires.may.0) c.requires.may.3.lane)) most ready c.arrival-arrival.ensures.value in
    let x : Coming = p in
    let left = with_lane c.args.node (without_ready 0 (lane_of c.events.agenda c.args.node)) c.events.agenda in
    let takes : TakesArrival sc.sizes me i c.args.until left (at_node me i (λ _. on.now) c.requires.may.1) on.now x =
    takes-arrival sc me i c.args.until c.events.site c.events.agenda left c.requires.may.1 c.requires.may.2 c.args.node p.time (event_with c.args.node (Comes c.in-Some.place p)) x on first refl refl in
    let come = may-come sc me i c.args.until c.events.site c.events.agenda left c.requires.may.1 c.requires.may.2 x on takes in
    let clock_is : c.clock-clock.result.now ≡ clock_of sc me i = c.clock-clock.ensures ∙ clock-named sc me i c.args.node c.requires.may.0 in
    subst (λ n. ComesBy (passing_end me c.events.site.node) c.clock-clock.result.now n) (sym c.time-time.ensures)
    (subst (λ t. ComesBy (passing_end me c.events.site.node) t p.time) (sym clock_is) (comes-in-time sc me i c.args.until takes.place c.events.site on.now x come))

pub arrive-requires-clause-source : goal.arrive-requires-clause-source
arrive-requires-clause-source g c =
    let sc = scenario_of c.args.bus.now in
    let me = side_of g.K.Kind.CODE in
    let i = number_of c.args.site.now in
    let on = c.events.invariant.on c.requires.may.1 c.requires.may.2 c.requires.may.3 in
    let ready : IsReadyBefore c.args.until (lane_of c.events.agenda c.args.node) c.in-Some.place =
    subst (IsFirstBefore c.args.until (lane_of c.events.agenda c.args.node)) c.in-Some.is c.first_before.ensures.first in
    let p : Coming = c.arrival-arrival.result.now in
    let most : c.args.until ≤ 18446744073709551615 = (let until = c.ranges.until.fits in omega (arith, until)) in
    let first : ComesFirst me i c.args.until c.events.agenda c.args.node p.time (event_with c.args.node (Comes c.in-Some.place p)) =
    comes-first me i c.args.until c.events.agenda c.args.node c.in-Some.place p c.requires.may.0 (c.events.invariant.lanes c.args.node (subst (HasLane c.args.agenda.now) (sym c.requires.may.0) c.requires.may.3.lane)) most ready c.arrival-arrival.ensures.value in
    let x : Coming = p in
    let left = with_lane c.args.node (without_ready 0 (lane_of c.events.agenda c.args.node)) c.events.agenda in
    let takes : TakesArrival sc.sizes me i c.args.until left (at_node me i (λ _. on.now) c.requires.may.1) on.now x =
    takes-arrival sc me i c.args.until c.events.site c.events.agenda left c.requires.may.1 c.requires.may.2 c.args.node p.time (event_with c.args.node (Comes c.in-Some.place p)) x on first refl refl in
    subst (λ n. n < count_of (other me) c.events.site.node.seat.sizes) (sym c.from-from.ensures)
    (subst (λ z. p.from < count_of (other me) z) (sym on.may.node.site.sizes) takes.sender)

pub drop_at-requires-clause-in_shape : goal.drop_at-requires-clause-in_shape
drop_at-requires-clause-in_shape g c = c.events.invariant.lanes c.args.node (subst (HasLane c.args.agenda.now) (sym c.requires.may.0) c.requires.may.3.lane)

pub drop_at-requires-clause-below : goal.drop_at-requires-clause-below
drop_at-requires-clause-below g c =
    let ready : IsReadyBefore c.args.until (lane_of c.events.agenda c.args.node) c.in-Some.place =
    subst (IsFirstBefore c.args.until (lane_of c.events.agenda c.args.node)) c.in-Some.is c.first_before.ensures.first in
    slice_get_within (lane_of c.events.agenda c.args.node).arrivals c.in-Some.place ready.coming ready.stands

pub events-preserved : goal.events-preserved
events-preserved g c =
    let ready : IsReadyBefore c.args.until (lane_of c.events.agenda c.args.node) c.in-Some.place =
    subst (IsFirstBefore c.args.until (lane_of c.events.agenda c.args.node)) c.in-Some.is c.first_before.ensures.first in
    let after : c.drop_at.new.self ≡ with_lane c.args.node (without_ready 0 (lane_of c.events.agenda c.args.node)) c.events.agenda =
    first-dropped c.args.until c.events.agenda c.drop_at.new.self c.args.node c.in-Some.place ready c.drop_at.ensures.after in
    let kept = lanes-taken c.events.agenda c.drop_at.new.self c.args.node (without_ready 0 (lane_of c.events.agenda c.args.node)) after in
    record {
      number = c.arrive.ensures.same.index ∙ c.events.invariant.number;
      lanes = λ other h. kept other (c.events.invariant.lanes other h);
      on = λ sites s may.
          let sc = scenario_of c.args.bus.now in
          let me = side_of g.K.Kind.CODE in
          let i = number_of c.args.site.now in
          let on = c.events.invariant.on sites s may in
          let p : Coming = c.arrival-arrival.result.now in
          let most : c.args.until ≤ 18446744073709551615 = (let until = c.ranges.until.fits in omega (arith, until)) in
          let first : ComesFirst me i c.args.until c.events.agenda c.args.node p.time (event_with c.args.node (Comes c.in-Some.place p)) =
          comes-first me i c.args.until c.events.agenda c.args.node c.in-Some.place p c.requires.may.0 (c.events.invariant.lanes c.args.node (subst (HasLane c.args.agenda.now) (sym c.requires.may.0) c.requires.may.3.lane)) most ready c.arrival-arrival.ensures.value in
          let x : Coming = p in
          let takes : TakesArrival sc.sizes me i c.args.until c.drop_at.new.self (at_node me i (λ _. on.now) sites) on.now x =
          takes-arrival sc me i c.args.until c.events.site c.events.agenda c.drop_at.new.self sites s c.args.node p.time (event_with c.args.node (Comes c.in-Some.place p)) x on first after refl in
          let number : number_of c.events.site ≡ i = c.events.invariant.number in
          let clock_is : c.clock-clock.result.now ≡ clock_of sc me (number_of c.events.site) = c.clock-clock.ensures ∙ clock-named sc me i c.args.node c.requires.may.0 ∙ ap (clock_of sc me) (sym number) in
          let stands = c.arrive.ensures.stands sc takes.place on.now clock_is on.may.node.site in
          let so : StandsFor sc me c.arrive.new.self (after_arrival sc me i takes.place x on.now) =
          subst (λ y. StandsFor sc me c.arrive.new.self (after_arrival sc me i takes.place y on.now))
          (coming-is p c.time-time.result c.from-from.result c.spelling.result.now c.time-time.ensures c.from-from.ensures c.spelling.ensures)
          (subst (λ n. StandsFor sc me c.arrive.new.self (after_arrival sc me n takes.place (record { time = c.time-time.result; from = c.from-from.result; bytes = c.spelling.result.now }) on.now)) number stands) in
          sweep-goes sc me i c.args.until c.events.site c.arrive.new.self c.events.agenda c.drop_at.new.self sites s x on takes (kept (name_of me i) on.may.lane)
          (rooms-taken sc c.events.agenda c.drop_at.new.self c.args.node 0 first.lane after on.may.rooms) (c.arrive.ensures.same.index ∙ number) so;
    }

pub events-smaller : goal.events-smaller
events-smaller g c =
    let ready : IsReadyBefore c.args.until (lane_of c.events.agenda c.args.node) c.in-Some.place =
    subst (IsFirstBefore c.args.until (lane_of c.events.agenda c.args.node)) c.in-Some.is c.first_before.ensures.first in
    let fewer = fewer-taken c.events.agenda c.drop_at.new.self c.args.node c.in-Some.place ready.coming
    (c.events.invariant.lanes c.args.node (subst (HasLane c.args.agenda.now) (sym c.requires.may.0) c.requires.may.3.lane)) ready.stands c.drop_at.ensures.after in
    omega (arith, fewer)

pub tick-requires : goal.tick-requires
tick-requires g c = record { in_shape = c.events.invariant.lanes c.args.node (subst (HasLane c.args.agenda.now) (sym c.requires.may.0) c.requires.may.3.lane) }

pub take_tick-requires : goal.take_tick-requires
take_tick-requires g c = record { in_shape = c.events.invariant.lanes c.args.node (subst (HasLane c.args.agenda.now) (sym c.requires.may.0) c.requires.may.3.lane) }

pub returns-then-tick-until-clause-swept : goal.returns-then-tick-until-clause-swept
returns-then-tick-until-clause-swept g c = λ sites s may.
    let sc = scenario_of c.args.bus.now in
    let me = side_of g.K.Kind.CODE in
    let i = number_of c.args.site.now in
    let on = c.events.invariant.on sites s may in
    let later : IsFirstBefore c.args.until (lane_of c.events.agenda c.args.node) None =
    subst (IsFirstBefore c.args.until (lane_of c.events.agenda c.args.node)) c.in-None.is c.first_before.ensures.first in
    let most : c.args.until ≤ 18446744073709551615 = (let until = c.ranges.until.fits in omega (arith, until)) in
    let tick : c.unwrap_or-tick.result ≡ tick_time_of (lane_of c.events.agenda c.args.node) = c.unwrap_or-tick.ensures ∙ ap (λ o. unwrap_or o 18446744073709551615) c.tick.ensures.value in
    let no_sooner : c.args.until ≤ tick_time_of (lane_of c.events.agenda c.args.node) = subst (λ n. c.args.until ≤ n) tick c.if-tick-until.true in
    let late : c.args.until ≤ key_of (lane_of c.events.agenda (name_of me i)) =
    subst (λ n. c.args.until ≤ key_of (lane_of c.events.agenda n)) c.requires.may.0 (none-first (lane_of c.events.agenda c.args.node) c.args.until most later no_sooner) in
    let none : NoneBefore c.args.until on.now =
    nothing-next sc.sizes c.events.agenda (at_node me i (λ _. on.now) sites) me i on.now c.args.until on.may.holds on.may.there late in
    sweep-ends sc me i c.args.until c.events.site c.events.agenda c.events.agenda sites s on refl none

pub returns-then-tick-until-clause-lanes : goal.returns-then-tick-until-clause-lanes
returns-then-tick-until-clause-lanes g c = λ other h. c.events.invariant.lanes other h

pub returns-in-None-clause-swept : goal.returns-in-None-clause-swept
returns-in-None-clause-swept g c = λ sites s may.
    let sc = scenario_of c.args.bus.now in
    let me = side_of g.K.Kind.CODE in
    let i = number_of c.args.site.now in
    let lane : Held = lane_of c.events.agenda c.args.node in
    let on = c.events.invariant.on sites s may in
    let later : IsFirstBefore c.args.until lane None = subst (IsFirstBefore c.args.until lane) c.in-None.is c.first_before.ensures.first in
    let most : c.args.until ≤ 18446744073709551615 = (let until = c.ranges.until.fits in omega (arith, until)) in
    let tick : c.unwrap_or-tick.result ≡ tick_time_of lane = c.unwrap_or-tick.ensures ∙ ap (λ o. unwrap_or o 18446744073709551615) c.tick.ensures.value in
    let before : tick_time_of lane < c.args.until = subst (λ n. n < c.args.until) tick (omega (arith, c.if-tick-until.false)) in
    let both = tick-first lane c.args.until (tick_time_of lane) later (tick-is lane c.args.until most before) before in
    let has_lane : HasLane c.events.agenda c.args.node = c.events.invariant.lanes c.args.node (subst (HasLane c.args.agenda.now) (sym c.requires.may.0) c.requires.may.3.lane) in
    let first : ComesFirst me i c.args.until c.events.agenda c.args.node (tick_time_of lane) (event_with c.args.node Ticks) =
    ticks-first me i c.args.until c.events.agenda c.args.node (tick_time_of lane) c.requires.may.0 has_lane most both.0 before both.1 in
    let after : c.take_tick.new.self ≡ with_lane c.args.node (without_ready 0 lane) c.events.agenda =
    tick-dropped c.events.agenda c.take_tick.new.self c.args.node (tick_time_of lane) both.1 c.take_tick.ensures.after in
    let takes : TakesTick sc.sizes me i c.args.until c.take_tick.new.self (at_node me i (λ _. on.now) sites) on.now =
    takes-tick sc me i c.args.until c.events.site c.events.agenda c.take_tick.new.self sites s c.args.node (tick_time_of lane) (event_with c.args.node Ticks) on first after refl in
    sweep-ticks sc me i c.args.until c.events.site c.events.agenda c.take_tick.new.self sites s on takes
    (lanes-taken c.events.agenda c.take_tick.new.self c.args.node (without_ready 0 lane) after (name_of me i) on.may.lane)
    (rooms-taken sc c.events.agenda c.take_tick.new.self c.args.node 0 first.lane after on.may.rooms)

pub returns-in-None-clause-lanes : goal.returns-in-None-clause-lanes
returns-in-None-clause-lanes g c = λ other h.
    lanes-taken c.events.agenda c.take_tick.new.self c.args.node (without_tick (lane_of c.events.agenda c.args.node)) c.take_tick.ensures.after other (c.events.invariant.lanes other h)
