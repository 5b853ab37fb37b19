-- A node that has taken in unstamped what came to it up to its tick may take that tick.
use Rattle.std.proofs.{Common.{◌≡◌, ℕ, true, ◌+◌, ◌^◌, ◌<◌, ◌≤◌, ◌++◌, Some, List, [], ◌∷◌, filter, map, slice_get, refl, sym, ap, ◌∙◌, subst, arith}, lemmas.List.Elements.{All-append, All-cons, All-nil}, lemmas.Option.same_Some}
use Rattle.std.specs.Prelude.{All, nat_le, nat_lt, slice_set}
use Rattle.rb_base.specs.{Nodes.{Side, other}, Sizes.{Sizes, sync_slot_of}, declared.node.NodeName.NodeName}
use Rattle.rb_rules.specs.{declared.plan.Plan.Plan, Book.{Each, of_kind}, Clock.time_of, Core.{Core, is_last, next_tick, of_source, state_at, window_here}, Goodness.{Scenario, clock_of}, Hearing.Coming, Links.name_of, NodeState.NodeState, Slots.count_of, Sense.Arrival, WorldStep.{Site, Timed, World, after_arrival, at_node, coming_from, happens, pass_and_tick}, WorldStep.Pending.Tick}
use Rattle.rb_laws_synchrony.proofs.Times.{stamp_to}
use Rattle.rb_laws_events.proofs.{SameHeard.Every, BreakPorts.arrival-had, DueEvents.every-weaker, Receiving.{every-stands, every-without}}
use Rattle.rb_queue.specs.Waiting.{HasLane, Held, lane_of, with_lane, without_before, without_tick}
use Rattle.rb_world_agenda.specs.Holding.{HoldsSite, HoldsSites}
use Rattle.rb_world_agenda.proofs.{Changes.holds-at, Keeping.has-with}
use Rattle.rb_node.specs.{Cores.next_of, Ends.EndsExactWindow}
use Rattle.rb_slot.specs.Engines.{Seated}
use Rattle.rb_world.specs.{Sites.{AreAlike, IsHeardAlike, KeptSite, Stands as StandsFor, number_of}, Sites.AreAlike.{Nothing, Several, Single}, declared.scene.Scene.Scene, Buses.HaveRooms, Steps.{MayTick, Ticks, moved}, Trailing.{BehindTick, TakesFirst, alone, bare}, Unstamped.{EndsExactly, MayTakeExactly, TakenUp, bare_with, due_before, taken_all}, Worlds.{AreNodes, IsNode}}
use Rattle.rb_world.proofs.{SitesAlike.heard-alike, Behind.{in-time, node-of}, Lanes.{has-lane, lane-holds, node-named, rooms-with}, Ready.next-due, TakenIn.{ShowAlike, Taken, due-node, every-filter, first_stamp, restamped-source, restamped-sources, shows-alike, sole-alike, stamped, stamps_in, taken, with_stamp}, TakenIn.ShowAlike.{many, none, one}, Unstamped.{Readied, may-tick-with, takes-with}}
use Rattle.rb_laws_sweeps.specs.{Brought.{Brings, CameTogether, IsHeardIfDue, due_from}, Stamps.stamped_anew, Sweeping.swept}
use Rattle.rb_laws_sweeps.proofs.{Bringing.sweeps-bring, Firsts.first-stands, SentLater.node-moves, StampsOff.stamps-make-no-difference, Sweeps.{all-every, every-all, sweep-of, sweep-stays, sweep-takes}}

-- What a sweep does not lessen.

had-grows : (sc : Scenario) (me : Side) (i until : ℕ) (s : Site) → s.core.had ≤ (swept sc me i until s).core.had
had-grows sc me i until s =
    sweep-of sc me i until (λ s. s.core.had ≤ (swept sc me i until s).core.had)
    (λ s late. subst (λ (z : Site). s.core.had ≤ z.core.had) (sym (sweep-stays sc me i until s late)) (omega arith))
    (λ s p e lt rest.
    subst (λ (z : Site). s.core.had ≤ z.core.had) (sym (sweep-takes sc me i until s p e lt))
    (let more = arrival-had sc me i p.place p.coming s in omega (arith, more, rest))) s

-- the sender is a node of the bus
abbrev Known : Scenario → Side → Coming → Type 0
Known sc me c = c.from < count_of (other me) sc.sizes

got-known : (sc : Scenario) (me : Side) (i until : ℕ) (s : Site) → Every (Known sc me) s.coming → All (Known sc me) s.got → All (Known sc me) (swept sc me i until s).got
unfolding after_arrival
got-known sc me i until s =
    sweep-of sc me i until (λ s. Every (Known sc me) s.coming → All (Known sc me) s.got → All (Known sc me) (swept sc me i until s).got)
    (λ s late coming got. subst (λ (z : Site). All (Known sc me) z.got) (sym (sweep-stays sc me i until s late)) got)
    (λ s p e lt rest coming got.
    subst (λ (z : Site). All (Known sc me) z.got) (sym (sweep-takes sc me i until s p e lt))
    (rest (every-without (Known sc me) p.place s.coming coming)
    (All-append (Known sc me) s.got (p.coming ∷ []) got
    (All-cons (Known sc me) p.coming [] (every-stands (Known sc me) p.place s.coming (first-stands s.coming p e) coming) (All-nil (Known sc me)))))) s

-- What is kept of it stands for the node as it was swept, but with other stamps.

-- the stamps that the core has of what came, by source
abbrev stamps_of : Scenario → Side → Timed → Site → ℕ → ℕ
stamps_of sc me a s = stamps_in (taken_all sc me (due_before (a.time + 1) s.coming) s).core

-- the swept core with its arrivals stamped anew
abbrev pub kept_core : Scenario → Side → ℕ → Timed → Site → Core
kept_core sc me i a s = stamped_anew s.core.had (stamps_of sc me a s) (swept sc me i (a.time + 1) s).core

alike-of : (xs ys : List Arrival) → ShowAlike xs ys → AreAlike xs ys
alike-of xs ys (none e f) = Nothing e f
alike-of xs ys (one x e f) = Single x x e f refl refl
alike-of xs ys (many a b) = Several a b

hears-alike : (sc : Scenario) (me : Side) (i : ℕ) (a : Timed) (s : Site) → s.core.had < 2 ^ 31 → Brings sc me i (a.time + 1) s (swept sc me i (a.time + 1) s) → CameTogether s
    → Taken s (taken_all sc me (due_before (a.time + 1) s.coming) s) (due_before (a.time + 1) s.coming)
    → IsHeardAlike (taken_all sc me (due_before (a.time + 1) s.coming) s) (bare_with sc me i a (kept_core sc me i a s) s)
hears-alike sc me i a s small brings together was =
    let until = a.time + 1 in
    let due = due_before until s.coming in
    let z : Site = swept sc me i until s in
    let taken : Site = taken_all sc me due s in
    let stamps : ℕ → ℕ = stamps_of sc me a s in
    record {
      state = brings.state ∙ sym was.state;
      had = sym was.had;
      runs = ap (λ (s : Site). s.runs) brings.is ∙ sym was.runs;
      inbox = λ j within.
          let here : of_source taken.core.inbox j ≡ of_source s.core.inbox j ++ map (stamped s.core.had) (due_from until j s.coming) =
          was.inbox j ∙ ap (λ cs. of_source s.core.inbox j ++ map (stamped s.core.had) cs) (due-node until j s.coming) in
          subst (λ xs. AreAlike (of_source taken.core.inbox j) xs) (sym (restamped-source stamps z.core.inbox j))
          (subst (λ xs. AreAlike xs (map (with_stamp (first_stamp xs)) (of_source z.core.inbox j))) (sym here)
          (alike-of (of_source s.core.inbox j ++ map (stamped s.core.had) (due_from until j s.coming))
          (map (with_stamp (first_stamp (of_source s.core.inbox j ++ map (stamped s.core.had) (due_from until j s.coming)))) (of_source z.core.inbox j))
          (shows-alike s.core.had (of_source s.core.inbox j) (due_from until j s.coming) (of_source z.core.inbox j) (brings.inbox j))));
      got = λ j within c e.
          was.got j ∙ ap (λ cs. coming_from s.got j ++ cs) (due-node until j s.coming)
          ∙ sole-alike (coming_from s.got j) (due_from until j s.coming) (coming_from z.got j) c (brings.got j) e;
      together = λ below. restamped-sources stamps z.core.inbox ∙ brings.together together;
    }

-- The tick may be taken.

pub readied : (sc : Scenario) (kept : Each KeptSite) (scene : Scene) (until : Side → ℕ → ℕ) (w v : World) (me : Side) (i : ℕ) (a : Timed) (before site : KeptSite) (lanes : Each Held)
    → (h : BehindTick sc kept scene until w v me i a) → slice_get (of_kind me kept) i ≡ Some before → TakenUp sc me i a scene.agenda before site lanes h.first.node
    → EndsExactWindow sc.sizes sc.plan me h.first.node.core.state a.tick
    → Readied sc scene v me i a h.first.node (kept_core sc me i a h.first.node) site lanes
readied sc kept scene until w v me i a before site lanes h there up ends =
    let s : Site = h.first.node in
    let z : Site = swept sc me i (a.time + 1) s in
    let n = node-of sc kept scene until w v h.trails me i s h.first.there in
    let same : n.site ≡ before = same_Some n.site before (sym n.there ∙ there) in
    let node : IsNode sc me i before s = subst (λ (k : KeptSite). IsNode sc me i k s) same n.node in
    let its = in-time sc kept scene until w v me i a h in
    let later : s.core.had ≤ a.tick = (let up = had-grows sc me i (a.time + 1) s in let had = its.had s h.first.there in omega (arith, up, had)) in
    let small : s.core.had < 2 ^ 31 = (let tick = its.small in omega (arith, later, tick)) in
    let known = its.senders me i s h.first.there in
    let coming : Every (Known sc me) s.coming = all-every (Known sc me) s.coming known.0 in
    let may : All (IsHeardIfDue sc me i (a.time + 1)) s.coming =
    every-all (IsHeardIfDue sc me i (a.time + 1)) s.coming (every-weaker (Known sc me) (IsHeardIfDue sc me i (a.time + 1))
    (λ c from due. (
      from,
      let time = its.time in
          let at : c.time ≤ time_of (clock_of sc me i) a.tick = omega (arith, due, time) in
          let stamp = stamp_to (clock_of sc me i) (node-moves h.trails.lawful me i n.within) c.time a.tick at in
          let tick = its.small in
          omega (arith, stamp, tick),
    )) s.coming coming) in
    let brings = sweeps-bring sc me i (a.time + 1) s small may in
    let was = taken sc me (due_before (a.time + 1) s.coming) s small (every-filter (Known sc me) (λ (c : Coming). nat_lt c.time (a.time + 1)) s.coming coming) in
    let name = name_of me i in
    let lane : HasLane scene.agenda name = has-lane sc scene v name h.trails.surrounds (node-named sc me i n.within) in
    let new : Held = without_tick (without_before (a.time + 1) (lane_of scene.agenda name)) in
    record {
      number = ap (λ (z : Seated). z.index) up.seat ∙ node.number;
      stands = heard-alike sc me site (taken_all sc me (due_before (a.time + 1) s.coming) s) (bare_with sc me i a (kept_core sc me i a s) s) up.stands
          (hears-alike sc me i a s small brings (node.site.together small) was);
      state = brings.state;
      had = refl;
      later = later;
      senders = got-known sc me i (a.time + 1) s coming known.1;
      holds = subst (λ (ls : Each Held). HoldsSites sc.sizes ls (at_node me i (bare sc me i a) v.sites)) (sym up.left)
          (holds-at sc.sizes scene.agenda v.sites me i new (bare sc me i a) h.trails.surrounds.lanes lane
          (λ y at holds.
          let here : s ≡ y = same_Some s y (sym h.first.there ∙ at) in
          subst (λ (y : Site). HoldsSite sc.sizes me (lane_of scene.agenda name) y → HoldsSite sc.sizes me new (bare sc me i a y)) here
          (λ holds. record {
            coming = ap (filter (λ (c : Coming). nat_le (a.time + 1) c.time)) holds.coming ∙ sym brings.coming;
            ahead = refl;
            senders = subst (All (Known sc me)) (sym brings.coming) (every-all (Known sc me) (filter (λ (c : Coming). nat_le (a.time + 1) c.time) s.coming) (every-filter (Known sc me) (λ (c : Coming). nat_le (a.time + 1) c.time) s.coming coming));
          }) holds));
      rooms = subst (HaveRooms sc) (sym up.left) (rooms-with sc scene.agenda name new h.trails.surrounds.rooms lane refl);
      lane = subst (λ (ls : Each Held). HasLane ls name) (sym up.left) (has-with scene.agenda name name new lane);
      alike = stamps-make-no-difference sc v.ports me i a.tick s.core.had (stamps_of sc me a s) z.core
          (subst (λ (st : NodeState). is_last sc.sizes sc.plan me (state_at sc.sizes sc.plan me st a.tick) a.tick ≡ true) (sym brings.state) ends.last)
          (subst (λ (st : NodeState). (window_here sc.sizes sc.plan me (state_at sc.sizes sc.plan me st a.tick) a.tick).slot < sync_slot_of sc.sizes) (sym brings.state) ends.slot)
          its.small later (its.had s h.first.there);
    }

-- What is taken in at the node.

-- if the node's tick ends an exact window by what is kept, it ends one in the scenario
ends-there : (sc : Scenario) (me : Side) (i : ℕ) (a : Timed) (site : KeptSite) (s : Site) → IsNode sc me i site s → s.ahead ≡ Some a → EndsExactly me site.node
    → EndsExactWindow sc.sizes sc.plan me s.core.state a.tick
ends-there sc me i a site s node pends ends =
    let next : next_of me site.node s.core ≡ Some a.tick =
    ap (λ (sizes : Sizes). next_tick sizes site.node.seat.plan me site.node.seat.index s.core) node.site.sizes
    ∙ ap (λ (plan : Plan). next_tick sc.sizes plan me site.node.seat.index s.core) node.site.plan
    ∙ ap (λ n. next_tick sc.sizes sc.plan me n s.core) node.number
    ∙ (next-due sc me i a.tick s a node.awaits pends refl).1 in
    subst (λ (plan : Plan). EndsExactWindow sc.sizes plan me s.core.state a.tick) node.site.plan
    (subst (λ (sizes : Sizes). EndsExactWindow sizes site.node.seat.plan me s.core.state a.tick) node.site.sizes (ends s.core a.tick node.site.core next))

-- node `i` is one of the bus, and `site` is what is kept of it
pub node-at : (sc : Scenario) (kept : Each KeptSite) (scene : Scene) (until : Side → ℕ → ℕ) (w v : World) (me : Side) (i : ℕ) (a : Timed) (time : ℕ) (own : List KeptSite) (site : KeptSite)
    → (m : MayTakeExactly sc kept scene until w v me i a time own site) → (i < count_of me sc.sizes) × IsNode sc me i site m.first.at.first.node
node-at sc kept scene until w v me i a time own site m =
    let n = node-of sc kept scene until w v m.first.at.trails me i m.first.at.first.node m.first.at.first.there in
    let same : n.site ≡ site = same_Some n.site site (sym n.there ∙ ap (λ ks. slice_get ks i) m.first.own_is ∙ m.there) in
    (n.within, subst (λ (k : KeptSite). IsNode sc me i k m.first.at.first.node) same n.node)

-- all senders in the lane of the node are nodes of the bus
pub lane-known : (sc : Scenario) (kept : Each KeptSite) (scene : Scene) (until : Side → ℕ → ℕ) (w v : World) (me : Side) (i : ℕ) (a : Timed) (time : ℕ) (own : List KeptSite) (site : KeptSite) (name : NodeName)
    → MayTakeExactly sc kept scene until w v me i a time own site → name ≡ name_of me i
    → HasLane scene.agenda name × All (λ (c : Coming). c.from < count_of (other me) site.node.seat.sizes) (lane_of scene.agenda name).arrivals
lane-known sc kept scene until w v me i a time own site name m named =
    let node = node-at sc kept scene until w v me i a time own site m in
    let s : Site = m.first.at.first.node in
    let holds : HoldsSite sc.sizes me (lane_of scene.agenda (name_of me i)) s = lane-holds sc.sizes scene.agenda v.sites me i s m.first.at.trails.surrounds.lanes m.first.at.first.there in
    subst (λ n. HasLane scene.agenda n × All (λ (c : Coming). c.from < count_of (other me) site.node.seat.sizes) (lane_of scene.agenda n).arrivals) (sym named) (
      has-lane sc scene v (name_of me i) m.first.at.trails.surrounds (node-named sc me i node.0),
      subst (λ (sizes : Sizes). All (λ (c : Coming). c.from < count_of (other me) sizes) (lane_of scene.agenda (name_of me i)).arrivals) (sym node.1.site.sizes)
          (subst (All (Known sc me)) (sym holds.coming) holds.senders),
    )

-- the call takes in what comes to the node before the time, and its tick is no longer pending
pub record TakesIn (me : Side) (held : Each Held) (name : NodeName) (until : ℕ) (before site : KeptSite) (lanes : Each Held) : Type 0 where
  pub stands : (sc : Scenario) (s : Site) → StandsFor sc me before s → StandsFor sc me site (taken_all sc me (due_before until (lane_of held name).arrivals) s)
  pub seat : site.node.seat ≡ before.node.seat
  pub left : lanes ≡ with_lane name (without_tick (without_before until (lane_of held name))) held

taken-up : (sc : Scenario) (kept : Each KeptSite) (scene : Scene) (until : Side → ℕ → ℕ) (w v : World) (me : Side) (i : ℕ) (a : Timed) (time : ℕ) (own : List KeptSite) (before site : KeptSite) (name : NodeName)
    (lanes : Each Held) → (m : MayTakeExactly sc kept scene until w v me i a time own before) → name ≡ name_of me i → TakesIn me scene.agenda name (time + 1) before site lanes
    → TakenUp sc me i a scene.agenda before site lanes m.first.at.first.node
taken-up sc kept scene until w v me i a time own before site name lanes m named takes =
    let node = node-at sc kept scene until w v me i a time own before m in
    let s : Site = m.first.at.first.node in
    let holds : HoldsSite sc.sizes me (lane_of scene.agenda (name_of me i)) s = lane-holds sc.sizes scene.agenda v.sites me i s m.first.at.trails.surrounds.lanes m.first.at.first.there in
    record {
      seat = takes.seat;
      stands = subst (λ cs. StandsFor sc me site (taken_all sc me (due_before (a.time + 1) cs) s)) (ap (λ n. (lane_of scene.agenda n).arrivals) named ∙ holds.coming)
          (subst (λ t. StandsFor sc me site (taken_all sc me (due_before (t + 1) (lane_of scene.agenda name).arrivals) s)) m.first.time_is (takes.stands sc s node.1.site));
      left = takes.left ∙ ap (λ n. with_lane n (without_tick (without_before (time + 1) (lane_of scene.agenda n))) scene.agenda) named
          ∙ ap (λ t. with_lane (name_of me i) (without_tick (without_before (t + 1) (lane_of scene.agenda (name_of me i)))) scene.agenda) m.first.time_is;
    }

pub readied-now : (sc : Scenario) (kept : Each KeptSite) (scene : Scene) (until : Side → ℕ → ℕ) (w v : World) (me : Side) (i : ℕ) (a : Timed) (time : ℕ) (own : List KeptSite) (before site : KeptSite) (name : NodeName)
    (lanes : Each Held) → (m : MayTakeExactly sc kept scene until w v me i a time own before) → name ≡ name_of me i → TakesIn me scene.agenda name (time + 1) before site lanes
    → Readied sc scene v me i a m.first.at.first.node (kept_core sc me i a m.first.at.first.node) site lanes
readied-now sc kept scene until w v me i a time own before site name lanes m named takes =
    let node = node-at sc kept scene until w v me i a time own before m in
    readied sc kept scene until w v me i a before site lanes m.first.at (ap (λ ks. slice_get ks i) m.first.own_is ∙ m.there)
    (taken-up sc kept scene until w v me i a time own before site name lanes m named takes)
    (ends-there sc me i a before m.first.at.first.node node.1 m.first.at.first.pends m.ends)

-- the node may take its tick
pub may-tick-now : (sc : Scenario) (kept : Each KeptSite) (scene : Scene) (until : Side → ℕ → ℕ) (w v : World) (me : Side) (i : ℕ) (a : Timed) (time : ℕ) (own : List KeptSite) (before site : KeptSite) (name : NodeName)
    (lanes : Each Held) → (m : MayTakeExactly sc kept scene until w v me i a time own before) → name ≡ name_of me i → TakesIn me scene.agenda name (time + 1) before site lanes
    → MayTick sc me (number_of site) a.tick site (record scene { agenda = lanes }) (moved me i (bare_with sc me i a (kept_core sc me i a m.first.at.first.node)) v)
    (bare_with sc me i a (kept_core sc me i a m.first.at.first.node) m.first.at.first.node)
may-tick-now sc kept scene until w v me i a time own before site name lanes m named takes =
    let r = readied-now sc kept scene until w v me i a time own before site name lanes m named takes in
    let core : Core = kept_core sc me i a m.first.at.first.node in
    subst (λ n. MayTick sc me n a.tick site (record scene { agenda = lanes }) (moved me i (bare_with sc me i a core) v) (bare_with sc me i a core m.first.at.first.node)) (sym r.number)
    (may-tick-with sc kept scene until w v me i a core site lanes m.first.at r)

pub takes-now : (sc : Scenario) (kept : Each KeptSite) (scene after : Scene) (until : Side → ℕ → ℕ) (w v : World) (me : Side) (i : ℕ) (a : Timed) (time : ℕ) (own : List KeptSite) (before site new : KeptSite)
    (name : NodeName) (lanes : Each Held) → (m : MayTakeExactly sc kept scene until w v me i a time own before) → name ≡ name_of me i → TakesIn me scene.agenda name (time + 1) before site lanes
    → Ticks sc me (number_of site) a.tick new after (moved me i (bare_with sc me i a (kept_core sc me i a m.first.at.first.node)) v)
    (bare_with sc me i a (kept_core sc me i a m.first.at.first.node) m.first.at.first.node)
    (pass_and_tick sc v.ports me (number_of site) a.tick (kept_core sc me i a m.first.at.first.node))
    → TakesFirst sc v me i a (slice_set own i new) (of_kind (other me) kept) after
takes-now sc kept scene after until w v me i a time own before site new name lanes m named takes ticks =
    let r = readied-now sc kept scene until w v me i a time own before site name lanes m named takes in
    let core : Core = kept_core sc me i a m.first.at.first.node in
    let acts = takes-with sc kept scene after until w v me i a core site new lanes m.first.at r
    (subst (λ n. Ticks sc me n a.tick new after (moved me i (bare_with sc me i a core) v) (bare_with sc me i a core m.first.at.first.node) (pass_and_tick sc v.ports me n a.tick core)) r.number ticks) in
    record {
      own_are = subst (λ ks. AreNodes sc me (slice_set ks i new) (of_kind me (happens sc (alone sc me i a v) (record { side = me; node = i; pending = Tick a.tick })).sites)) m.first.own_is acts.own;
      far_are = acts.far;
      surrounds = acts.surrounds;
    }
