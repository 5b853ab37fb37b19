use Rattle.std.proofs.{Common.{◌≡◌, sym, ap, ◌∙◌, subst, arith}, lemmas.Option.get_or_from_slice_get}
use Rattle.std.specs.Prelude.{◌<◌, get_or, None, slice_set}
use Rattle.rb_base.specs.Nodes.Side.{Biu, Rmu}
use Rattle.rb_rules.specs.{WorldStep.Pending.Tick, Clock.ComesBy, Goodness.clock_of, Hearing.Coming, Slots.count_of, WorldStep.{Site as WorldSite, after_arrival}, Lawful.{IsNodeOf, kind_of}}
use Rattle.rb_world_agenda.specs.Holding.{coming_with, without_waiting}
use Rattle.rb_node.specs.Cores.{passing_end}
use Rattle.rb_world.specs.{Runs.nodes_of, Sites.{Stands as StandsFor, number_of}, Steps.{Happens, MayTick, Ticks, act_at, moved}, Buses.scenario_of}
use Rattle.rb_world_traffic.specs.Arriving.{number_of as number_in}
use Rattle.rb_world.proofs.{Arrivals.{arrival-acts, arrival-ready, in-time}, Happening.{biu-happens, rmu-happens, tick-acts}, Ready.{node-there, tick-ready}, Lanes.node-named}
use Rattle.rb_world.proofs.taking.happen.Goals as goal

pub index_mut-requires : goal.index_mut-requires
index_mut-requires g c =
    let r = tick-ready (scenario_of c.args.bus.now) (nodes_of c.args.run.now) c.args.run.now.scene c.args.time c.args.node c.args.event.now c.requires.0 c.requires.1 c.requires.2 Biu c.in-Tick-Biu.i c.in-Tick-Biu.word-0 c.in-Tick-Biu.wanted-0 c.requires.3 c.in-Tick-Biu.is-0 c.in-Tick-Biu.is-1 in
    omega (arith, r.inside, c.from.ensures)

pub tick_at-requires-clause-number : goal.tick_at-requires-clause-number
tick_at-requires-clause-number g c =
    let r = tick-ready (scenario_of c.args.bus.now) (nodes_of c.args.run.now) c.args.run.now.scene c.args.time c.args.node c.args.event.now c.requires.0 c.requires.1 c.requires.2 Biu c.in-Tick-Biu.i c.in-Tick-Biu.word-0 c.in-Tick-Biu.wanted-0 c.requires.3 c.in-Tick-Biu.is-0 c.in-Tick-Biu.is-1 in
    let is : r.site ≡ c.index_mut.result.now = sym (c.index_mut.ensures.value ∙ ap (λ n. get_or c.args.run.now.bius.items n c.index_mut.result.now) c.from.ensures ∙ get_or_from_slice_get c.args.run.now.bius.items c.in-Tick-Biu.i r.site c.index_mut.result.now r.kept_there) in
    sym r.number ∙ ap number_of is

pub tick_at-requires-clause-may : goal.tick_at-requires-clause-may
tick_at-requires-clause-may g c =
    let r = tick-ready (scenario_of c.args.bus.now) (nodes_of c.args.run.now) c.args.run.now.scene c.args.time c.args.node c.args.event.now c.requires.0 c.requires.1 c.requires.2 Biu c.in-Tick-Biu.i c.in-Tick-Biu.word-0 c.in-Tick-Biu.wanted-0 c.requires.3 c.in-Tick-Biu.is-0 c.in-Tick-Biu.is-1 in
    let is : r.site ≡ c.index_mut.result.now = sym (c.index_mut.ensures.value ∙ ap (λ n. get_or c.args.run.now.bius.items n c.index_mut.result.now) c.from.ensures ∙ get_or_from_slice_get c.args.run.now.bius.items c.in-Tick-Biu.i r.site c.index_mut.result.now r.kept_there) in (
      r.tick,
      moved Biu c.in-Tick-Biu.i (without_waiting (Tick r.tick)) c.requires.0,
      record r.s { ahead = None },
      subst (λ k. MayTick (scenario_of c.args.bus.now) Biu (number_of k) r.tick k c.args.run.now.scene (moved Biu c.in-Tick-Biu.i (without_waiting (Tick r.tick)) c.requires.0) (record r.s { ahead = None })) is
          (subst (λ i. MayTick (scenario_of c.args.bus.now) Biu i r.tick r.site c.args.run.now.scene (moved Biu c.in-Tick-Biu.i (without_waiting (Tick r.tick)) c.requires.0) (record r.s { ahead = None })) (sym r.number) r.may),
    )

pub index_mut-requires-in-Tick-Rmu : goal.index_mut-requires-in-Tick-Rmu
index_mut-requires-in-Tick-Rmu g c =
    let r = tick-ready (scenario_of c.args.bus.now) (nodes_of c.args.run.now) c.args.run.now.scene c.args.time c.args.node c.args.event.now c.requires.0 c.requires.1 c.requires.2 Rmu c.in-Tick-Rmu.i c.in-Tick-Rmu.word-0 c.in-Tick-Rmu.wanted-0 c.requires.3 c.in-Tick-Rmu.is-0 c.in-Tick-Rmu.is-1 in
    omega (arith, r.inside, c.from-in-Tick-Rmu.ensures)

pub tick_at-requires-in-Tick-Rmu-clause-number : goal.tick_at-requires-in-Tick-Rmu-clause-number
tick_at-requires-in-Tick-Rmu-clause-number g c =
    let r = tick-ready (scenario_of c.args.bus.now) (nodes_of c.args.run.now) c.args.run.now.scene c.args.time c.args.node c.args.event.now c.requires.0 c.requires.1 c.requires.2 Rmu c.in-Tick-Rmu.i c.in-Tick-Rmu.word-0 c.in-Tick-Rmu.wanted-0 c.requires.3 c.in-Tick-Rmu.is-0 c.in-Tick-Rmu.is-1 in
    let is : r.site ≡ c.index_mut-in-Tick-Rmu.result.now = sym (c.index_mut-in-Tick-Rmu.ensures.value ∙ ap (λ n. get_or c.args.run.now.rmus.items n c.index_mut-in-Tick-Rmu.result.now) c.from-in-Tick-Rmu.ensures ∙ get_or_from_slice_get c.args.run.now.rmus.items c.in-Tick-Rmu.i r.site c.index_mut-in-Tick-Rmu.result.now r.kept_there) in
    sym r.number ∙ ap number_of is

pub tick_at-requires-in-Tick-Rmu-clause-may : goal.tick_at-requires-in-Tick-Rmu-clause-may
tick_at-requires-in-Tick-Rmu-clause-may g c =
    let r = tick-ready (scenario_of c.args.bus.now) (nodes_of c.args.run.now) c.args.run.now.scene c.args.time c.args.node c.args.event.now c.requires.0 c.requires.1 c.requires.2 Rmu c.in-Tick-Rmu.i c.in-Tick-Rmu.word-0 c.in-Tick-Rmu.wanted-0 c.requires.3 c.in-Tick-Rmu.is-0 c.in-Tick-Rmu.is-1 in
    let is : r.site ≡ c.index_mut-in-Tick-Rmu.result.now = sym (c.index_mut-in-Tick-Rmu.ensures.value ∙ ap (λ n. get_or c.args.run.now.rmus.items n c.index_mut-in-Tick-Rmu.result.now) c.from-in-Tick-Rmu.ensures ∙ get_or_from_slice_get c.args.run.now.rmus.items c.in-Tick-Rmu.i r.site c.index_mut-in-Tick-Rmu.result.now r.kept_there) in (
      r.tick,
      moved Rmu c.in-Tick-Rmu.i (without_waiting (Tick r.tick)) c.requires.0,
      record r.s { ahead = None },
      subst (λ k. MayTick (scenario_of c.args.bus.now) Rmu (number_of k) r.tick k c.args.run.now.scene (moved Rmu c.in-Tick-Rmu.i (without_waiting (Tick r.tick)) c.requires.0) (record r.s { ahead = None })) is
          (subst (λ i. MayTick (scenario_of c.args.bus.now) Rmu i r.tick r.site c.args.run.now.scene (moved Rmu c.in-Tick-Rmu.i (without_waiting (Tick r.tick)) c.requires.0) (record r.s { ahead = None })) (sym r.number) r.may),
    )

pub index_mut-requires-in-Arrive-Biu : goal.index_mut-requires-in-Arrive-Biu
index_mut-requires-in-Arrive-Biu g c =
    let there = node-there (scenario_of c.args.bus.now) (nodes_of c.args.run.now) c.args.run.now.scene c.args.time c.args.node c.args.event.now c.requires.0 c.requires.1 c.requires.2 Biu c.in-Arrive-Biu.i c.requires.3 c.in-Arrive-Biu.is-1 in
    omega (arith, there.1, c.from-in-Arrive-Biu.ensures)

pub clock-requires : goal.clock-requires
clock-requires g c =
    let there = node-there (scenario_of c.args.bus.now) (nodes_of c.args.run.now) c.args.run.now.scene c.args.time c.args.node c.args.event.now c.requires.0 c.requires.1 c.requires.2 Biu c.in-Arrive-Biu.i c.requires.3 c.in-Arrive-Biu.is-1 in
    subst (IsNodeOf c.args.bus.now.sizes) (sym c.in-Arrive-Biu.is-1) (node-named (scenario_of c.args.bus.now) Biu c.in-Arrive-Biu.i there.0)

pub arrive-requires-clause-in_time : goal.arrive-requires-clause-in_time
arrive-requires-clause-in_time g c =
    let x : Coming = record { time = c.args.time; from = c.in-Arrive-Biu.from; bytes = c.in-Arrive-Biu.bytes.items } in
    let r = arrival-ready (scenario_of c.args.bus.now) (nodes_of c.args.run.now) c.args.run.now.scene c.args.time c.args.node c.args.event.now c.requires.0 c.requires.1 c.requires.2 Biu c.in-Arrive-Biu.i x c.requires.3 (ap (coming_with c.args.time) c.in-Arrive-Biu.is-0) c.in-Arrive-Biu.is-1 in
    let is : r.site ≡ c.index_mut-in-Arrive-Biu.result.now = sym (c.index_mut-in-Arrive-Biu.ensures.value ∙ ap (λ n. get_or c.args.run.now.bius.items n c.index_mut-in-Arrive-Biu.result.now) c.from-in-Arrive-Biu.ensures ∙ get_or_from_slice_get c.args.run.now.bius.items c.in-Arrive-Biu.i r.site c.index_mut-in-Arrive-Biu.result.now r.kept_there) in
    let clock_is : c.clock.result.now ≡ clock_of (scenario_of c.args.bus.now) Biu c.in-Arrive-Biu.i = c.clock.ensures ∙ ap (λ n. clock_of (scenario_of c.args.bus.now) (kind_of n) (number_in n)) c.in-Arrive-Biu.is-1 in
    subst (λ t. ComesBy (passing_end Biu c.index_mut-in-Arrive-Biu.result.now.node) t c.args.time) (sym clock_is)
    (subst (λ k. ComesBy (passing_end Biu k.node) (clock_of (scenario_of c.args.bus.now) Biu c.in-Arrive-Biu.i) c.args.time) is
    (in-time (scenario_of c.args.bus.now) (nodes_of c.args.run.now) c.requires.0 c.requires.2 Biu c.in-Arrive-Biu.i x r))

pub arrive-requires-clause-source : goal.arrive-requires-clause-source
arrive-requires-clause-source g c =
    let x : Coming = record { time = c.args.time; from = c.in-Arrive-Biu.from; bytes = c.in-Arrive-Biu.bytes.items } in
    let r = arrival-ready (scenario_of c.args.bus.now) (nodes_of c.args.run.now) c.args.run.now.scene c.args.time c.args.node c.args.event.now c.requires.0 c.requires.1 c.requires.2 Biu c.in-Arrive-Biu.i x c.requires.3 (ap (coming_with c.args.time) c.in-Arrive-Biu.is-0) c.in-Arrive-Biu.is-1 in
    let is : r.site ≡ c.index_mut-in-Arrive-Biu.result.now = sym (c.index_mut-in-Arrive-Biu.ensures.value ∙ ap (λ n. get_or c.args.run.now.bius.items n c.index_mut-in-Arrive-Biu.result.now) c.from-in-Arrive-Biu.ensures ∙ get_or_from_slice_get c.args.run.now.bius.items c.in-Arrive-Biu.i r.site c.index_mut-in-Arrive-Biu.result.now r.kept_there) in
    subst (λ k. c.in-Arrive-Biu.from < count_of Rmu k.node.seat.sizes) is (subst (λ z. c.in-Arrive-Biu.from < count_of Rmu z) (sym r.node.site.sizes) r.source)

pub index_mut-requires-in-Arrive-Rmu : goal.index_mut-requires-in-Arrive-Rmu
index_mut-requires-in-Arrive-Rmu g c =
    let there = node-there (scenario_of c.args.bus.now) (nodes_of c.args.run.now) c.args.run.now.scene c.args.time c.args.node c.args.event.now c.requires.0 c.requires.1 c.requires.2 Rmu c.in-Arrive-Rmu.i c.requires.3 c.in-Arrive-Rmu.is-1 in
    omega (arith, there.1, c.from-in-Arrive-Rmu.ensures)

pub clock-requires-in-Arrive-Rmu : goal.clock-requires-in-Arrive-Rmu
clock-requires-in-Arrive-Rmu g c =
    let there = node-there (scenario_of c.args.bus.now) (nodes_of c.args.run.now) c.args.run.now.scene c.args.time c.args.node c.args.event.now c.requires.0 c.requires.1 c.requires.2 Rmu c.in-Arrive-Rmu.i c.requires.3 c.in-Arrive-Rmu.is-1 in
    subst (IsNodeOf c.args.bus.now.sizes) (sym c.in-Arrive-Rmu.is-1) (node-named (scenario_of c.args.bus.now) Rmu c.in-Arrive-Rmu.i there.0)

pub arrive-requires-in-Arrive-Rmu-clause-in_time :
    goal.arrive-requires-in-Arrive-Rmu-clause-in_time
arrive-requires-in-Arrive-Rmu-clause-in_time g c =
    let x : Coming = record { time = c.args.time; from = c.in-Arrive-Rmu.from; bytes = c.in-Arrive-Rmu.bytes.items } in
    let r = arrival-ready (scenario_of c.args.bus.now) (nodes_of c.args.run.now) c.args.run.now.scene c.args.time c.args.node c.args.event.now c.requires.0 c.requires.1 c.requires.2 Rmu c.in-Arrive-Rmu.i x c.requires.3 (ap (coming_with c.args.time) c.in-Arrive-Rmu.is-0) c.in-Arrive-Rmu.is-1 in
    let is : r.site ≡ c.index_mut-in-Arrive-Rmu.result.now = sym (c.index_mut-in-Arrive-Rmu.ensures.value ∙ ap (λ n. get_or c.args.run.now.rmus.items n c.index_mut-in-Arrive-Rmu.result.now) c.from-in-Arrive-Rmu.ensures ∙ get_or_from_slice_get c.args.run.now.rmus.items c.in-Arrive-Rmu.i r.site c.index_mut-in-Arrive-Rmu.result.now r.kept_there) in
    let clock_is : c.clock-in-Arrive-Rmu.result.now ≡ clock_of (scenario_of c.args.bus.now) Rmu c.in-Arrive-Rmu.i = c.clock-in-Arrive-Rmu.ensures ∙ ap (λ n. clock_of (scenario_of c.args.bus.now) (kind_of n) (number_in n)) c.in-Arrive-Rmu.is-1 in
    subst (λ t. ComesBy (passing_end Rmu c.index_mut-in-Arrive-Rmu.result.now.node) t c.args.time) (sym clock_is)
    (subst (λ k. ComesBy (passing_end Rmu k.node) (clock_of (scenario_of c.args.bus.now) Rmu c.in-Arrive-Rmu.i) c.args.time) is
    (in-time (scenario_of c.args.bus.now) (nodes_of c.args.run.now) c.requires.0 c.requires.2 Rmu c.in-Arrive-Rmu.i x r))

pub arrive-requires-in-Arrive-Rmu-clause-source : goal.arrive-requires-in-Arrive-Rmu-clause-source
arrive-requires-in-Arrive-Rmu-clause-source g c =
    let x : Coming = record { time = c.args.time; from = c.in-Arrive-Rmu.from; bytes = c.in-Arrive-Rmu.bytes.items } in
    let r = arrival-ready (scenario_of c.args.bus.now) (nodes_of c.args.run.now) c.args.run.now.scene c.args.time c.args.node c.args.event.now c.requires.0 c.requires.1 c.requires.2 Rmu c.in-Arrive-Rmu.i x c.requires.3 (ap (coming_with c.args.time) c.in-Arrive-Rmu.is-0) c.in-Arrive-Rmu.is-1 in
    let is : r.site ≡ c.index_mut-in-Arrive-Rmu.result.now = sym (c.index_mut-in-Arrive-Rmu.ensures.value ∙ ap (λ n. get_or c.args.run.now.rmus.items n c.index_mut-in-Arrive-Rmu.result.now) c.from-in-Arrive-Rmu.ensures ∙ get_or_from_slice_get c.args.run.now.rmus.items c.in-Arrive-Rmu.i r.site c.index_mut-in-Arrive-Rmu.result.now r.kept_there) in
    subst (λ k. c.in-Arrive-Rmu.from < count_of Biu k.node.seat.sizes) is (subst (λ z. c.in-Arrive-Rmu.from < count_of Biu z) (sym r.node.site.sizes) r.source)

pub returns-in-Tick-Biu : goal.returns-in-Tick-Biu
returns-in-Tick-Biu g c =
    λ w p d may.
    let sc = scenario_of c.args.bus.now in
    let i = c.in-Tick-Biu.i in
    let r = tick-ready sc (nodes_of c.args.run.now) c.args.run.now.scene c.args.time c.args.node c.args.event.now w p d Biu i c.in-Tick-Biu.word-0 c.in-Tick-Biu.wanted-0 may c.in-Tick-Biu.is-0 c.in-Tick-Biu.is-1 in
    let is : r.site ≡ c.index_mut.result.now = sym (c.index_mut.ensures.value ∙ ap (λ n. get_or c.args.run.now.bius.items n c.index_mut.result.now) c.from.ensures ∙ get_or_from_slice_get c.args.run.now.bius.items i r.site c.index_mut.result.now r.kept_there) in
    let w1 = moved Biu i (without_waiting (Tick r.tick)) w in
    let bare : WorldSite = record r.s { ahead = None } in
    let number = sym (ap number_of is) ∙ r.number in
    let ticks = c.tick_at.ensures r.tick w1 bare (subst (λ k. MayTick sc Biu (number_of k) r.tick k c.args.run.now.scene w1 bare) is
    (subst (λ i. MayTick sc Biu i r.tick r.site c.args.run.now.scene w1 bare) (sym r.number) r.may)) in
    let so : Ticks sc Biu i r.tick c.tick_at.new.site c.tick_at.new.scene w1 bare (act_at sc w1 Biu i r.tick bare) =
    subst (λ n. Ticks sc Biu n r.tick c.tick_at.new.site c.tick_at.new.scene w1 bare (act_at sc w1 Biu n r.tick bare)) number ticks in
    subst (λ n. Happens sc (record { bius = slice_set c.args.run.now.bius.items n c.tick_at.new.site; rmus = c.args.run.now.rmus.items }) c.tick_at.new.scene w d) (sym c.from.ensures)
    (biu-happens sc w d (slice_set c.args.run.now.bius.items c.in-Tick-Biu.i c.tick_at.new.site) c.args.run.now.rmus.items c.tick_at.new.scene
    (tick-acts sc w d Biu i r.tick r.s c.args.run.now.bius.items c.args.run.now.rmus.items c.tick_at.new.site c.tick_at.new.scene r.is r.there (may.nodes Biu) (may.nodes Rmu) so))

pub returns-in-Tick-Rmu : goal.returns-in-Tick-Rmu
returns-in-Tick-Rmu g c =
    λ w p d may.
    let sc = scenario_of c.args.bus.now in
    let i = c.in-Tick-Rmu.i in
    let r = tick-ready sc (nodes_of c.args.run.now) c.args.run.now.scene c.args.time c.args.node c.args.event.now w p d Rmu i c.in-Tick-Rmu.word-0 c.in-Tick-Rmu.wanted-0 may c.in-Tick-Rmu.is-0 c.in-Tick-Rmu.is-1 in
    let is : r.site ≡ c.index_mut-in-Tick-Rmu.result.now = sym (c.index_mut-in-Tick-Rmu.ensures.value ∙ ap (λ n. get_or c.args.run.now.rmus.items n c.index_mut-in-Tick-Rmu.result.now) c.from-in-Tick-Rmu.ensures ∙ get_or_from_slice_get c.args.run.now.rmus.items i r.site c.index_mut-in-Tick-Rmu.result.now r.kept_there) in
    let w1 = moved Rmu i (without_waiting (Tick r.tick)) w in
    let bare : WorldSite = record r.s { ahead = None } in
    let number = sym (ap number_of is) ∙ r.number in
    let ticks = c.tick_at-in-Tick-Rmu.ensures r.tick w1 bare (subst (λ k. MayTick sc Rmu (number_of k) r.tick k c.args.run.now.scene w1 bare) is
    (subst (λ i. MayTick sc Rmu i r.tick r.site c.args.run.now.scene w1 bare) (sym r.number) r.may)) in
    let so : Ticks sc Rmu i r.tick c.tick_at-in-Tick-Rmu.new.site c.tick_at-in-Tick-Rmu.new.scene w1 bare (act_at sc w1 Rmu i r.tick bare) =
    subst (λ n. Ticks sc Rmu n r.tick c.tick_at-in-Tick-Rmu.new.site c.tick_at-in-Tick-Rmu.new.scene w1 bare (act_at sc w1 Rmu n r.tick bare)) number ticks in
    subst (λ n. Happens sc (record { bius = c.args.run.now.bius.items; rmus = slice_set c.args.run.now.rmus.items n c.tick_at-in-Tick-Rmu.new.site }) c.tick_at-in-Tick-Rmu.new.scene w d) (sym c.from-in-Tick-Rmu.ensures)
    (rmu-happens sc w d c.args.run.now.bius.items (slice_set c.args.run.now.rmus.items c.in-Tick-Rmu.i c.tick_at-in-Tick-Rmu.new.site) c.tick_at-in-Tick-Rmu.new.scene
    (tick-acts sc w d Rmu i r.tick r.s c.args.run.now.rmus.items c.args.run.now.bius.items c.tick_at-in-Tick-Rmu.new.site c.tick_at-in-Tick-Rmu.new.scene r.is r.there (may.nodes Rmu) (may.nodes Biu) so))

pub returns-in-Arrive-Biu : goal.returns-in-Arrive-Biu
returns-in-Arrive-Biu g c =
    λ w p d may.
    let sc = scenario_of c.args.bus.now in
    let i = c.in-Arrive-Biu.i in
    let x : Coming = record { time = c.args.time; from = c.in-Arrive-Biu.from; bytes = c.in-Arrive-Biu.bytes.items } in
    let r = arrival-ready (scenario_of c.args.bus.now) (nodes_of c.args.run.now) c.args.run.now.scene c.args.time c.args.node c.args.event.now w p d Biu c.in-Arrive-Biu.i x may (ap (coming_with c.args.time) c.in-Arrive-Biu.is-0) c.in-Arrive-Biu.is-1 in
    let is : r.site ≡ c.index_mut-in-Arrive-Biu.result.now = sym (c.index_mut-in-Arrive-Biu.ensures.value ∙ ap (λ n. get_or c.args.run.now.bius.items n c.index_mut-in-Arrive-Biu.result.now) c.from-in-Arrive-Biu.ensures ∙ get_or_from_slice_get c.args.run.now.bius.items c.in-Arrive-Biu.i r.site c.index_mut-in-Arrive-Biu.result.now r.kept_there) in
    let number = sym (ap number_of is) ∙ r.node.number in
    let clock_is : c.clock.result.now ≡ clock_of sc Biu (number_of c.index_mut-in-Arrive-Biu.result.now) =
    c.clock.ensures ∙ ap (λ n. clock_of sc (kind_of n) (number_in n)) c.in-Arrive-Biu.is-1 ∙ ap (clock_of sc Biu) (sym number) in
    let stands = c.arrive.ensures.stands sc r.place r.s clock_is (subst (λ k. StandsFor sc Biu k r.s) is r.node.site) in
    let so : StandsFor sc Biu c.arrive.new.self (after_arrival sc Biu i r.place x r.s) =
    subst (λ b. StandsFor sc Biu c.arrive.new.self (after_arrival sc Biu i r.place (record { time = c.args.time; from = c.in-Arrive-Biu.from; bytes = b }) r.s)) (c.of.ensures ∙ c.deref.ensures.0)
    (subst (λ n. StandsFor sc Biu c.arrive.new.self (after_arrival sc Biu n r.place (record { time = c.args.time; from = c.in-Arrive-Biu.from; bytes = c.of.result }) r.s)) number stands) in
    subst (λ n. Happens sc (record { bius = slice_set c.args.run.now.bius.items n c.arrive.new.self; rmus = c.args.run.now.rmus.items }) c.args.run.now.scene w d) (sym c.from-in-Arrive-Biu.ensures)
    (biu-happens sc w d (slice_set c.args.run.now.bius.items i c.arrive.new.self) c.args.run.now.rmus.items c.args.run.now.scene
    (arrival-acts sc (nodes_of c.args.run.now) c.args.run.now.scene c.args.time c.args.node c.args.event.now w p d Biu i x c.arrive.new.self may r (c.arrive.ensures.same.index ∙ number) so))

pub returns-in-Arrive-Rmu : goal.returns-in-Arrive-Rmu
returns-in-Arrive-Rmu g c =
    λ w p d may.
    let sc = scenario_of c.args.bus.now in
    let i = c.in-Arrive-Rmu.i in
    let x : Coming = record { time = c.args.time; from = c.in-Arrive-Rmu.from; bytes = c.in-Arrive-Rmu.bytes.items } in
    let r = arrival-ready (scenario_of c.args.bus.now) (nodes_of c.args.run.now) c.args.run.now.scene c.args.time c.args.node c.args.event.now w p d Rmu c.in-Arrive-Rmu.i x may (ap (coming_with c.args.time) c.in-Arrive-Rmu.is-0) c.in-Arrive-Rmu.is-1 in
    let is : r.site ≡ c.index_mut-in-Arrive-Rmu.result.now = sym (c.index_mut-in-Arrive-Rmu.ensures.value ∙ ap (λ n. get_or c.args.run.now.rmus.items n c.index_mut-in-Arrive-Rmu.result.now) c.from-in-Arrive-Rmu.ensures ∙ get_or_from_slice_get c.args.run.now.rmus.items c.in-Arrive-Rmu.i r.site c.index_mut-in-Arrive-Rmu.result.now r.kept_there) in
    let number = sym (ap number_of is) ∙ r.node.number in
    let clock_is : c.clock-in-Arrive-Rmu.result.now ≡ clock_of sc Rmu (number_of c.index_mut-in-Arrive-Rmu.result.now) =
    c.clock-in-Arrive-Rmu.ensures ∙ ap (λ n. clock_of sc (kind_of n) (number_in n)) c.in-Arrive-Rmu.is-1 ∙ ap (clock_of sc Rmu) (sym number) in
    let stands = c.arrive-in-Arrive-Rmu.ensures.stands sc r.place r.s clock_is (subst (λ k. StandsFor sc Rmu k r.s) is r.node.site) in
    let so : StandsFor sc Rmu c.arrive-in-Arrive-Rmu.new.self (after_arrival sc Rmu i r.place x r.s) =
    subst (λ b. StandsFor sc Rmu c.arrive-in-Arrive-Rmu.new.self (after_arrival sc Rmu i r.place (record { time = c.args.time; from = c.in-Arrive-Rmu.from; bytes = b }) r.s)) (c.of-in-Arrive-Rmu.ensures ∙ c.deref-in-Arrive-Rmu.ensures.0)
    (subst (λ n. StandsFor sc Rmu c.arrive-in-Arrive-Rmu.new.self (after_arrival sc Rmu n r.place (record { time = c.args.time; from = c.in-Arrive-Rmu.from; bytes = c.of-in-Arrive-Rmu.result }) r.s)) number stands) in
    subst (λ n. Happens sc (record { bius = c.args.run.now.bius.items; rmus = slice_set c.args.run.now.rmus.items n c.arrive-in-Arrive-Rmu.new.self }) c.args.run.now.scene w d) (sym c.from-in-Arrive-Rmu.ensures)
    (rmu-happens sc w d c.args.run.now.bius.items (slice_set c.args.run.now.rmus.items i c.arrive-in-Arrive-Rmu.new.self) c.args.run.now.scene
    (arrival-acts sc (nodes_of c.args.run.now) c.args.run.now.scene c.args.time c.args.node c.args.event.now w p d Rmu i x c.arrive-in-Arrive-Rmu.new.self may r (c.arrive-in-Arrive-Rmu.ensures.same.index ∙ number) so))
