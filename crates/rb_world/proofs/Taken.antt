-- What comes first at a node is taken.
use Rattle.std.proofs.{Common.{◌≡◌, ℕ, zero, suc, List, [], ◌∷◌, remove, ◌+◌, ◌<◌, ◌≤◌, ◌⊎◌, Some, None, Option, All, length, slice_get, refl, sym, ap, ◌∙◌, subst, arith, inl, inr}, lemmas.Option.same_Some}
use Rattle.std.specs.Prelude.{unwrap_or}
use Rattle.rb_base.specs.{Nodes.{Side, other}, Nodes.Side.{Biu, Rmu}, Sizes.{IsShape, Sizes}, declared.event.Event.Event, declared.node.NodeName.NodeName}
use Rattle.rb_rules.specs.{Goodness.Scenario, Book.{Each, of_kind}, Hearing.Coming, Links.name_of, Slots.count_of, WorldStep.{Site, at_node}, WorldStep.Pending.{Tick, Arrival}}
use Rattle.rb_queue.specs.Waiting.{HasLane, Held, head_of, lane_of, ready_event, with_lane, without_place, without_ready}
use Rattle.rb_world_agenda.specs.{Agenda.key_of, Holding.{HoldsSite, HoldsSites, coming_with, without_waiting}}
use Rattle.rb_world_agenda.proofs.{Changes.holds-at, Keeping.{has-with, lane-with}}
use Rattle.rb_laws_sweeps.specs.Sweeping.{Placed}
use Rattle.rb_laws_sweeps.proofs.{Firsts.first-stands, Sweeps.all-every}
use Rattle.rb_laws_events.proofs.Receiving.{every-stands}
use Rattle.rb_world.specs.{Buses.HaveRooms, Sweeping.IsPending, Trailing.{NoneBefore, TakesArrival, TakesTick}}
use Rattle.rb_world.proofs.{Lanes.{lane-holds, rooms-with}, Chosen.room-left, Soonest.{ArrivalNext, TickNext, none-before, what-next}}

few-others : (sizes : Sizes) (me : Side) → IsShape sizes → count_of (other me) sizes ≤ 256
few-others sizes Biu shape = let most = shape.most_rmus in omega (arith, most)
few-others sizes Rmu shape = let most = shape.most_bius in omega (arith, most)

-- a lane whose least time is not the last that there is holds something
head-some : (lane : Held) (time : ℕ) → time ≡ key_of lane → time < 18446744073709551615 → head_of lane ≡ Some time
head-some lane time is small = by (head_of lane) refl
  where
    by : (o : Option ℕ) → head_of lane ≡ o → o ≡ Some time
    by None e = absurd (let key : key_of lane ≡ 18446744073709551615 = ap (λ o. unwrap_or o 18446744073709551615) e in omega (arith, is, small, key))
    by (Some t) e = let key : key_of lane ≡ t = ap (λ o. unwrap_or o 18446744073709551615) e in let same : t ≡ time = omega (arith, is, key) in ap Some same

pub nothing-next : (sizes : Sizes) (lanes : Each Held) (sites : Each Site) (me : Side) (i : ℕ) (s : Site) (until : ℕ) → HoldsSites sizes lanes sites → slice_get (of_kind me sites) i ≡ Some s
    → until ≤ key_of (lane_of lanes (name_of me i)) → NoneBefore until s
nothing-next sizes lanes sites me i s until holds there le =
    none-before sizes me (lane_of lanes (name_of me i)) s until (lane-holds sizes lanes sites me i s holds there) le

-- the first event of the node came before the time, and was taken
pub record IsTaken (sizes : Sizes) (me : Side) (i until : ℕ) (lanes new : Each Held) (sites : Each Site) (s : Site) (time : ℕ) (event : Event) : Type 0 where
  pub held : HoldsSites sizes lanes sites
  pub there : slice_get (of_kind me sites) i ≡ Some s
  pub has_lane : HasLane lanes (name_of me i)
  pub is : time ≡ key_of (lane_of lanes (name_of me i))
  pub small : time < 18446744073709551615
  pub before : time < until
  pub shown : ready_event (name_of me i) 0 (lane_of lanes (name_of me i)) ≡ Some event
  pub after : new ≡ with_lane (name_of me i) (without_ready 0 (lane_of lanes (name_of me i))) lanes

which : (sizes : Sizes) (me : Side) (i until : ℕ) (lanes new : Each Held) (sites : Each Site) (s : Site) (time : ℕ) (event : Event) → IsTaken sizes me i until lanes new sites s time event
    → ArrivalNext sizes me (lane_of lanes (name_of me i)) s time event.kind ⊎ TickNext sizes me (lane_of lanes (name_of me i)) s time event.kind
which sizes me i until lanes new sites s time event h =
    what-next sizes me i (lane_of lanes (name_of me i)) s time (name_of me i) event (few-others sizes me h.held.shape) (lane-holds sizes lanes sites me i s h.held h.there)
    (head-some (lane_of lanes (name_of me i)) time h.is h.small) h.shown

-- the lanes hold what is left after an event is taken
left : (sizes : Sizes) (me : Side) (i until : ℕ) (lanes new : Each Held) (sites : Each Site) (s : Site) (time : ℕ) (event : Event) (change : Site → Site)
    → IsTaken sizes me i until lanes new sites s time event → HoldsSite sizes me (without_ready 0 (lane_of lanes (name_of me i))) (change s)
    → HoldsSites sizes new (at_node me i change sites)
left sizes me i until lanes new sites s time event change h holds =
    subst (λ x. HoldsSites sizes x (at_node me i change sites)) (sym h.after)
    (holds-at sizes lanes sites me i (without_ready 0 (lane_of lanes (name_of me i))) change h.held h.has_lane
    (λ z there held. subst (λ z. HoldsSite sizes me (without_ready 0 (lane_of lanes (name_of me i))) (change z)) (same_Some s z (sym h.there ∙ there)) holds))

pub arrival-taken : (sizes : Sizes) (me : Side) (i until : ℕ) (lanes new : Each Held) (sites : Each Site) (s : Site) (time : ℕ) (event : Event) (c : Coming)
    → IsTaken sizes me i until lanes new sites s time event → coming_with time event.kind ≡ Some c → TakesArrival sizes me i until new sites s c
arrival-taken sizes me i until lanes new sites s time event c h is = elim (which sizes me i until lanes new sites s time event h) [
  | inl next ↦
      let p : Placed = next.first in
      let same : p.coming ≡ c = same_Some p.coming c (sym next.shown ∙ is) in
      let placed : next.first ≡ record { place = p.place; coming = c } = ap (λ (x : Coming). let q : Placed = record { place = p.place; coming = x } in q) same in
      let at = next.at in
      let before = h.before in
      let held = lane-holds sizes lanes sites me i s h.held h.there in
      record {
        place = p.place;
        is = next.is ∙ ap Some placed;
        before = subst (λ (x : Coming). x.time < until) same (omega (arith, at, before));
        sender = subst (λ (x : Coming). x.from < count_of (other me) sizes) same
            (every-stands (λ x. x.from < count_of (other me) sizes) p.place s.coming (first-stands s.coming p next.is) (all-every (λ x. x.from < count_of (other me) sizes) s.coming held.senders));
        holds = left sizes me i until lanes new sites s time event (without_waiting (Arrival p.place c)) h next.left;
      }
  | inr next ↦ absurd (let never : ◌≡◌ {A = Option Coming} None (Some c) = sym next.shown ∙ is in cc)
]

pub tick-taken : (sizes : Sizes) (me : Side) (i until : ℕ) (lanes new : Each Held) (sites : Each Site) (s : Site) (time : ℕ) (event : Event)
    → IsTaken sizes me i until lanes new sites s time event → coming_with time event.kind ≡ None → TakesTick sizes me i until new sites s
tick-taken sizes me i until lanes new sites s time event h is = elim (which sizes me i until lanes new sites s time event h) [
  | inl next ↦ absurd (let never : ◌≡◌ {A = Option Coming} None (Some next.first.coming) = sym is ∙ next.shown in cc)
  | inr next ↦
      let at = next.at in
      let before = h.before in
      record {
        tick = next.tick;
        pends = next.pends;
        before = omega (arith, at, before);
        later = subst (λ t. All (λ c. t + 1 ≤ c.time) s.coming) (sym at) next.later;
        holds = left sizes me i until lanes new sites s time event (without_waiting (Tick next.tick.tick)) h next.left;
      }
]

-- Lanes.

pub rooms-taken : (sc : Scenario) (lanes new : Each Held) (name : NodeName) (place : ℕ) → HasLane lanes name → new ≡ with_lane name (without_ready place (lane_of lanes name)) lanes
    → HaveRooms sc lanes → HaveRooms sc new
rooms-taken sc lanes new name place h after rooms =
    subst (HaveRooms sc) (sym after) (rooms-with sc lanes name (without_ready place (lane_of lanes name)) rooms h (room-left place (lane_of lanes name)))

pub lanes-taken : (lanes new : Each Held) (name : NodeName) (lane : Held) → new ≡ with_lane name lane lanes → (other : NodeName) → HasLane lanes other → HasLane new other
lanes-taken lanes new name lane after other h = subst (λ ls. HasLane ls other) (sym after) (has-with lanes other name lane h)

remove-fewer : (arrivals : List Coming) (n : ℕ) (c : Coming) → slice_get arrivals n ≡ Some c → length (remove arrivals n) + 1 ≤ length arrivals
remove-fewer [] n c e = absurd (let never : ◌≡◌ {A = Option Coming} None (Some c) = e in cc)
remove-fewer (x ∷ arrivals) zero c e = omega arith
remove-fewer (x ∷ arrivals) (suc n) c e = let less = remove-fewer arrivals n c e in omega (arith, less)

-- a lane has fewer arrivals after one is taken out
pub fewer-taken : (lanes new : Each Held) (name : NodeName) (place : ℕ) (c : Coming) → HasLane lanes name → slice_get (lane_of lanes name).arrivals place ≡ Some c
    → new ≡ with_lane name (without_place place (lane_of lanes name)) lanes → length (lane_of new name).arrivals + 1 ≤ length (lane_of lanes name).arrivals
fewer-taken lanes new name place c h stands after =
    let lane : Held = lane_of lanes name in
    let now : lane_of new name ≡ without_place place lane = ap (λ ls. lane_of ls name) after ∙ lane-with lanes name (without_place place lane) h in
    subst (λ (l : Held). length l.arrivals + 1 ≤ length lane.arrivals) (sym now) (remove-fewer lane.arrivals place c stands)

-- the ready event of the lane is taken by the node with this name
pub is-taken : (sizes : Sizes) (me : Side) (i until : ℕ) (lanes new : Each Held) (sites : Each Site) (s : Site) (name : NodeName) (time : ℕ) (event : Event) → IsPending sizes me i lanes sites s name
    → HasLane lanes name → time ≡ key_of (lane_of lanes name) → until ≤ 18446744073709551615 → time < until → ready_event name 0 (lane_of lanes name) ≡ Some event
    → new ≡ with_lane name (without_ready 0 (lane_of lanes name)) lanes → IsTaken sizes me i until lanes new sites s time event
is-taken sizes me i until lanes new sites s name time event h lane key most before shown after = record {
  held = h.holds;
  there = h.there;
  has_lane = subst (HasLane lanes) h.named lane;
  is = key ∙ ap (λ n. key_of (lane_of lanes n)) h.named;
  small = omega (arith, before, most);
  before = before;
  shown = subst (λ n. ready_event n 0 (lane_of lanes n) ≡ Some event) h.named shown;
  after = subst (λ n. new ≡ with_lane n (without_ready 0 (lane_of lanes n)) lanes) h.named after;
}
