-- One event of a sweep is taken.
use Rattle.std.proofs.Common.{◌≡◌, ℕ, ◌<◌, ◌≤◌, ◌++◌, ◌∷◌, List, min, map, Option, Some, None, slice_get, refl, sym, ap, subst, ◌∙◌, arith, inl, inr}
use Rattle.std.specs.Prelude.{option_map, option_to_list, unwrap_or}
use Rattle.rb_base.specs.{Nodes.Side, declared.event.Event.Event, declared.node.NodeName.NodeName}
use Rattle.rb_rules.specs.{Book.Each, Goodness.Scenario, Hearing.Coming, Links.name_of, WorldStep.{Site, at_node, least}}
use Rattle.rb_queue.specs.{Waiting.{HasLane, Held, IsFirstBefore, IsReadyBefore, IsTickReady, event_with, head_of, lane_of, ready_event, tick_time_of, with_lane, without_found, without_place, without_ready, without_tick}, Waiting.Ready.{Comes, Ticks}}
use Rattle.rb_world_agenda.specs.{Agenda.key_of, Holding.coming_with}
use Rattle.rb_world.specs.{Sites.KeptSite, Trailing.{TakesArrival, TakesTick}}
use Rattle.rb_world.proofs.{Swept.SweepsOn, Taken.{IsTaken, arrival-taken, is-taken, tick-taken}}

-- the first event at the node comes before the time, and is `event`
pub record ComesFirst (me : Side) (i until : ℕ) (lanes : Each Held) (name : NodeName) (time : ℕ) (event : Event) : Type 0 where
  pub named : name ≡ name_of me i
  pub lane : HasLane lanes name
  pub key : time ≡ key_of (lane_of lanes name)
  pub most : until ≤ 18446744073709551615
  pub before : time < until
  pub shown : ready_event name 0 (lane_of lanes name) ≡ Some event

some-coming : (c d : Coming) → Some c ≡ Some d → c ≡ d
some-coming c d e = cc

pub coming-is : (x : Coming) (time from : ℕ) (bytes : List ℕ) → time ≡ x.time → from ≡ x.from → bytes ≡ x.bytes → ◌≡◌ {A = Coming} (record { time = time; from = from; bytes = bytes }) x
coming-is x time from bytes t f b =
    ap (λ (n : ℕ). let c : Coming = record { time = n; from = from; bytes = bytes } in c) t
    ∙ ap (λ (n : ℕ). let c : Coming = record { time = x.time; from = n; bytes = bytes } in c) f
    ∙ ap (λ (l : List ℕ). let c : Coming = record { time = x.time; from = x.from; bytes = l } in c) b

-- a lane has a tick if the time of its tick is before a time
pub tick-is : (lane : Held) (until : ℕ) → until ≤ 18446744073709551615 → tick_time_of lane < until → lane.tick ≡ Some (tick_time_of lane)
tick-is lane until most before = by lane.tick refl
  where
    by : (o : Option ℕ) → lane.tick ≡ o → lane.tick ≡ Some (tick_time_of lane)
    by None e = absurd (let last : tick_time_of lane ≡ 18446744073709551615 = ap (λ o. unwrap_or o 18446744073709551615) e in omega (arith, last, most, before))
    by (Some t) e = e ∙ ap (λ n. Some n) (sym (ap (λ o. unwrap_or o 18446744073709551615) e))

-- the first arrival of a node's lane comes first at the node
pub comes-first : (me : Side) (i until : ℕ) (lanes : Each Held) (name : NodeName) (place : ℕ) (c : Coming) → name ≡ name_of me i → HasLane lanes name → until ≤ 18446744073709551615
    → IsReadyBefore until (lane_of lanes name) place → slice_get (lane_of lanes name).arrivals place ≡ Some c
    → ComesFirst me i until lanes name c.time (event_with name (Comes place c))
comes-first me i until lanes name place c named lane most is stands =
    let same : is.coming ≡ c = some-coming is.coming c (sym is.stands ∙ stands) in
    record {
      named = named;
      lane = lane;
      key = subst (λ (d : Coming). d.time ≡ key_of (lane_of lanes name)) same (sym (ap (λ o. unwrap_or o 18446744073709551615) is.head));
      most = most;
      before = subst (λ (d : Coming). d.time < until) same is.before;
      shown = ap (option_map (event_with name)) is.ready ∙ ap (λ (d : Coming). Some (event_with name (Comes place d))) same;
    }

-- if the tick is ready at the least time of the lane, it comes first at the node
pub ticks-first : (me : Side) (i until : ℕ) (lanes : Each Held) (name : NodeName) (time : ℕ) → name ≡ name_of me i → HasLane lanes name → until ≤ 18446744073709551615
    → head_of (lane_of lanes name) ≡ Some time → time < until → IsTickReady time (lane_of lanes name) → ComesFirst me i until lanes name time (event_with name Ticks)
ticks-first me i until lanes name time named lane most head before is = record {
  named = named;
  lane = lane;
  key = sym (ap (λ o. unwrap_or o 18446744073709551615) head);
  most = most;
  before = before;
  shown = ap (λ rs. option_map (event_with name) (slice_get rs 0)) is.ready;
}

-- to take out the first arrival at its place is to take out the first ready event
pub first-dropped : (until : ℕ) (lanes new : Each Held) (name : NodeName) (place : ℕ) → IsReadyBefore until (lane_of lanes name) place
    → new ≡ with_lane name (without_place place (lane_of lanes name)) lanes → new ≡ with_lane name (without_ready 0 (lane_of lanes name)) lanes
first-dropped until lanes new name place is after =
    after ∙ ap (λ o. with_lane name (without_found o (lane_of lanes name)) lanes) (sym is.ready)

least-low : (t : ℕ) (us : List ℕ) (m : ℕ) → least (t ∷ us) ≡ Some m → m ≤ t
least-low t us m e = by (least us) e
  where
    by : (o : Option ℕ) → ◌≡◌ {A = Option ℕ} (Some (elim o as (λ _. ℕ) [ None ↦ t | Some u ↦ min t u ])) (Some m) → m ≤ t
    by None e = let same : t ≡ m = cc in omega (arith, same)
    by (Some u) e = let same : min t u ≡ m = cc in omega (arith, same)

-- to take out the tick, if it is ready, is to take out the first ready event
pub tick-dropped : (lanes new : Each Held) (name : NodeName) (time : ℕ) → IsTickReady time (lane_of lanes name)
    → new ≡ with_lane name (without_tick (lane_of lanes name)) lanes → new ≡ with_lane name (without_ready 0 (lane_of lanes name)) lanes
tick-dropped lanes new name time is after =
    after ∙ ap (λ rs. with_lane name (without_found (slice_get rs 0) (lane_of lanes name)) lanes) (sym is.ready)

-- if no arrival comes before the time and the tick is no sooner, nothing in the lane is sooner
pub none-first : (lane : Held) (until : ℕ) → until ≤ 18446744073709551615 → IsFirstBefore until lane None → until ≤ tick_time_of lane → until ≤ key_of lane
none-first lane until most later late = by (head_of lane) refl
  where
    tick : (time : ℕ) → IsTickReady time lane → until ≤ time
    tick time is = subst (λ n. until ≤ n) (ap (λ o. unwrap_or o 18446744073709551615) is.tick) late

    by : (o : Option ℕ) → head_of lane ≡ o → until ≤ unwrap_or o 18446744073709551615
    by None e = most
    by (Some time) e = elim (later time e) [ inl le ↦ le | inr is ↦ tick time is ]

-- if the tick comes before the time and no arrival does, the tick is ready at the lane's least time
pub tick-first : (lane : Held) (until time : ℕ) → IsFirstBefore until lane None → lane.tick ≡ Some time → time < until → (head_of lane ≡ Some time) × IsTickReady time lane
tick-first lane until time later tick before = by (head_of lane) refl
  where
    low : (t : ℕ) → head_of lane ≡ Some t → t ≤ time
    low t e = least-low time (map (λ c. c.time) lane.arrivals) t (ap (λ o. least (option_to_list o ++ map (λ c. c.time) lane.arrivals)) (sym tick) ∙ e)

    by : (o : Option ℕ) → head_of lane ≡ o → (head_of lane ≡ Some time) × IsTickReady time lane
    by None e =
        let never : ◌≡◌ {A = Option ℕ} (Some (elim (least (map (λ c. c.time) lane.arrivals)) [ None ↦ time | Some u ↦ min time u ])) None =
        ap (λ o. least (option_to_list o ++ map (λ c. c.time) lane.arrivals)) (sym tick) ∙ e in
        absurd cc
    by (Some t) e = elim (later t e) [
      | inl le ↦ absurd (let up = low t e in omega (arith, le, up, before))
      | inr is ↦ (let same : t ≡ time = (let f : Some t ≡ Some time = sym is.tick ∙ tick in cc) in (e ∙ ap (λ n. Some n) same, subst (λ n. IsTickReady n lane) same is))
    ]

taken-so : (sc : Scenario) (me : Side) (i until : ℕ) (site : KeptSite) (lanes new : Each Held) (sites : Each Site) (s : Site) (name : NodeName) (time : ℕ) (event : Event)
    → (on : SweepsOn sc me i until site lanes sites s) → ComesFirst me i until lanes name time event
    → new ≡ with_lane name (without_ready 0 (lane_of lanes name)) lanes
    → IsTaken sc.sizes me i until lanes new (at_node me i (λ _. on.now) sites) on.now time event
taken-so sc me i until site lanes new sites s name time event on first after =
    is-taken sc.sizes me i until lanes new (at_node me i (λ _. on.now) sites) on.now name time event
    (record { named = first.named; there = on.may.there; holds = on.may.holds }) first.lane first.key first.most first.before first.shown after

pub takes-arrival : (sc : Scenario) (me : Side) (i until : ℕ) (site : KeptSite) (lanes new : Each Held) (sites : Each Site) (s : Site) (name : NodeName) (time : ℕ) (event : Event) (c : Coming)
    → (on : SweepsOn sc me i until site lanes sites s) → ComesFirst me i until lanes name time event
    → new ≡ with_lane name (without_ready 0 (lane_of lanes name)) lanes → coming_with time event.kind ≡ Some c
    → TakesArrival sc.sizes me i until new (at_node me i (λ _. on.now) sites) on.now c
takes-arrival sc me i until site lanes new sites s name time event c on first after is =
    arrival-taken sc.sizes me i until lanes new (at_node me i (λ _. on.now) sites) on.now time event c
    (taken-so sc me i until site lanes new sites s name time event on first after) is

pub takes-tick : (sc : Scenario) (me : Side) (i until : ℕ) (site : KeptSite) (lanes new : Each Held) (sites : Each Site) (s : Site) (name : NodeName) (time : ℕ) (event : Event)
    → (on : SweepsOn sc me i until site lanes sites s) → ComesFirst me i until lanes name time event
    → new ≡ with_lane name (without_ready 0 (lane_of lanes name)) lanes → coming_with time event.kind ≡ None
    → TakesTick sc.sizes me i until new (at_node me i (λ _. on.now) sites) on.now
takes-tick sc me i until site lanes new sites s name time event on first after is =
    tick-taken sc.sizes me i until lanes new (at_node me i (λ _. on.now) sites) on.now time event
    (taken-so sc me i until site lanes new sites s name time event on first after) is
