-- A node takes the first tick of a world that is behind the run's.
use Rattle.std.proofs.{Common.{◌≡◌, ℕ, zero, suc, ◌+◌, ◌<◌, ◌≤◌, ◌&&◌, Bool, true, false, Some, None, Option, List, [], ◌∷◌, ◌++◌, get_or, length, map, slice_get, refl, sym, ap, ◌∙◌, subst, arith, inl, inr}, lemmas.Bool.lt-ltb, lemmas.Option.{same_Some, slice_get-get_or, slice_get_within}}
use Rattle.std.specs.Prelude.{⊤, option_map, option_to_list, slice_set}
use Rattle.rb_base.specs.{Nodes.{Side, other}, Nodes.Side.{Biu, Rmu}}
use Rattle.rb_base.proofs.Plain.{option_map-back}
use Rattle.rb_rules.specs.{declared.message.Message.Message, Book.{Each, of_kind}, Core.Act, Goodness.Scenario, Hearing.{Coming, Sending, coming_of}, Links.name_of, Slots.{count_of, same_side}, WorldStep.{Due, Site, Timed, World, after_act, after_arrival, at_node, happens, pass_and_tick, sent_to, times_of, with_act, with_message, world_after}, WorldStep.Pending.Tick, WorldStep.Way.ByAnEvent}
use Rattle.rb_rules.proofs.WindowNumbers.{get-each}
use Rattle.rb_queue.specs.Waiting.{Held, lane_of, spare_of}
use Rattle.rb_world_agenda.specs.{Agenda.{IsFirstAhead, position_of}, Holding.{HoldsSites, without_waiting}}
use Rattle.rb_world_agenda.proofs.Which.{has-item}
use Rattle.rb_laws_events.specs.PendingEvents.{most_pending}
use Rattle.rb_laws_events.proofs.{OneEvent.happens-is, WorldNodes.settle-sites, WorldStands.{is_node, node-is, node-itself, not-other}}
use Rattle.rb_world.specs.{Sites.{KeptSite, number_of}, declared.scene.Scene.Scene, Steps.{MayTick, Ticks, moved}, Worlds.{AreNodes, IsNode, Surrounds}, Trailing.{BehindTick, IsBehind, MaySweep, MayTakeFirst, MayTickFirst, Sweeps, TakesFirst, Trails, alone, bare, cleared, tick_from}}
use Rattle.rb_laws_sweeps.specs.{AheadOf.{GoesOnAhead, IsFirstTick, ahead_of, is_behind, tick_alone, until_tick}, Room.{StoppedHaveNothing, TickBehindIsInTime}, Sweeping.{Placed, first_of, swept}}
use Rattle.rb_laws_sweeps.proofs.{AfterTick.{Later, TicksNow, act-had, act-later}, BehindFew.behind-few, EachNode.{nodes-order, until-behind, until-most, until-own}, Firsts.{first-stands, length-without}, GoesOn.worlds-go-on, InTime.ticks-behind-in-time, SomeFirst.some-tick-is-first, Sweeps.{all-every, sweep-of, sweep-stays, sweep-takes, sweeps-keep}}
use Rattle.rb_world.proofs.{Around.{Pends, pends-more}, Entering.changed-there, Happening.{Acts, nodes-other, nodes-own, tick-acts}, Lanes.{has-lane, node-named, spare-at}, Ready.next-due, Sites.{at-same, at-twice, at_one, was-there}, Small.small-time, Spans.spans-by}

-- What is known of the first tick.

is-ahead : (sc : Scenario) (kept : Each KeptSite) (scene : Scene) (until : Side → ℕ → ℕ) (w v : World) → (h : Trails sc kept scene until w v)
    → world_after sc h.reached.choices ≡ ahead_of sc until v
is-ahead sc kept scene until w v h = sym h.reached.is ∙ h.ahead

pub in-time : (sc : Scenario) (kept : Each KeptSite) (scene : Scene) (until : Side → ℕ → ℕ) (w v : World) (me : Side) (i : ℕ) (a : Timed) → BehindTick sc kept scene until w v me i a
    → TickBehindIsInTime sc v me i a
in-time sc kept scene until w v me i a h =
    ticks-behind-in-time sc h.trails.lawful h.trails.reached.choices until v (is-ahead sc kept scene until w v h.trails) h.event me i a h.first (h.trails.later me i a h.first)

pub goes-on : (sc : Scenario) (kept : Each KeptSite) (scene : Scene) (until : Side → ℕ → ℕ) (w v : World) (me : Side) (i : ℕ) (a : Timed) → BehindTick sc kept scene until w v me i a
    → GoesOnAhead sc until v me i a
goes-on sc kept scene until w v me i a h =
    worlds-go-on sc h.trails.lawful h.trails.reached.choices until v (is-ahead sc kept scene until w v h.trails) h.event me i a h.first (h.trails.later me i a h.first)

-- the node has a site that is kept
pub record NodeOf (sc : Scenario) (kept : Each KeptSite) (me : Side) (i : ℕ) (s : Site) : Type 0 where
  pub within : i < count_of me sc.sizes
  pub inside : i < length (of_kind me kept)
  pub site : KeptSite
  pub there : slice_get (of_kind me kept) i ≡ Some site
  pub node : IsNode sc me i site s

pub node-of : (sc : Scenario) (kept : Each KeptSite) (scene : Scene) (until : Side → ℕ → ℕ) (w v : World) → Trails sc kept scene until w v → (me : Side) (i : ℕ) (s : Site)
    → slice_get (of_kind me v.sites) i ≡ Some s → NodeOf sc kept me i s
node-of sc kept scene until w v h me i s there =
    let lt = slice_get_within (of_kind me v.sites) i s there in
    let counts = h.surrounds.counts me in
    let many = (h.nodes me).many in
    let inside : i < length (of_kind me kept) = omega (arith, lt, counts, many) in
    let found = has-item (of_kind me kept) i inside in
    record { within = omega (arith, lt, counts); inside = inside; site = found.item; there = found.is; node = (h.nodes me).each i found.item s found.is there }

stopped : (sc : Scenario) (kept : Each KeptSite) (scene : Scene) (until : Side → ℕ → ℕ) (w v : World) → Trails sc kept scene until w v → StoppedHaveNothing v
stopped sc kept scene until w v h me i s there stops =
    let n = node-of sc kept scene until w v h me i s there in
    (n.node.awaits.tick_of_none stops, n.node.awaits.nothing stops)

pub few : (sc : Scenario) (kept : Each KeptSite) (scene : Scene) (until : Side → ℕ → ℕ) (w v : World) → Trails sc kept scene until w v → (me : Side) (i : ℕ) (s : Site)
    → slice_get (of_kind me v.sites) i ≡ Some s → length (times_of s) ≤ most_pending sc me
few sc kept scene until w v h = behind-few sc h.lawful h.listed h.reached.choices until v (is-ahead sc kept scene until w v h) (stopped sc kept scene until w v h)

-- The node is swept up to it.

pub may-sweep-own : (sc : Scenario) (kept : Each KeptSite) (scene : Scene) (until : Side → ℕ → ℕ) (w v : World) (me : Side) (i : ℕ) (a : Timed) → (h : BehindTick sc kept scene until w v me i a)
    → (n : NodeOf sc kept me i h.first.node) → MaySweep sc me i (a.time + 1) n.site scene.agenda v.sites h.first.node
may-sweep-own sc kept scene until w v me i a h n =
    let its = in-time sc kept scene until w v me i a h in
    let time = its.time in
    record {
      lawful = h.trails.lawful;
      listed = h.trails.listed;
      within = n.within;
      there = h.first.there;
      node = n.node;
      holds = h.trails.surrounds.lanes;
      lane = has-lane sc scene v (name_of me i) h.trails.surrounds (node-named sc me i n.within);
      rooms = h.trails.surrounds.rooms;
      reachable = record {
        has_tick = λ runs. (a.tick, (its.small, omega (arith, time)));
        before = λ b e. let same : a ≡ b = same_Some a b (sym h.first.pends ∙ e) in subst (λ (b : Timed). a.time + 1 ≤ b.time + 1) same (omega arith);
      };
    }

pub tick-gone : (a : Timed) (o : Option Timed) → o ≡ Some a → tick_from (a.time + 1) o ≡ None
tick-gone a o e =
    let lt : a.time < a.time + 1 = omega arith in
    ap (tick_from (a.time + 1)) e ∙ ap (λ b. elim b as (λ _. Option Timed) [ true ↦ None | false ↦ Some a ]) (lt-ltb a.time (a.time + 1) lt)

pub cleared-bare : (sc : Scenario) (me : Side) (i : ℕ) (a : Timed) (v : World) → (first : IsFirstTick v me i a) → at_node me i (cleared sc me i (a.time + 1)) v.sites ≡ at_node me i (bare sc me i a) v.sites
cleared-bare sc me i a v first =
    at-same me i (cleared sc me i (a.time + 1)) (bare sc me i a) v.sites
    (λ s there.
    let same : first.node ≡ s = same_Some first.node s (sym first.there ∙ there) in
    let gone : tick_from (a.time + 1) s.ahead ≡ None = tick-gone a s.ahead (sym (ap (λ (s : Site). s.ahead) same) ∙ first.pends) in
    ap (λ (o : Option Timed). record (swept sc me i (a.time + 1) s) { ahead = o }) gone)

pub bare-pends : (sc : Scenario) (me : Side) (i : ℕ) (a : Timed) → Pends (bare sc me i a)
bare-pends sc me i a = record {
  row = λ s. ap (λ (s : Site). s.row) (sweeps-keep sc me i (a.time + 1) s).is;
  begun = λ s. ap (λ (s : Site). s.begun) (sweeps-keep sc me i (a.time + 1) s).is;
  runs = λ s. ap (λ (s : Site). s.runs) (sweeps-keep sc me i (a.time + 1) s).is;
}

-- an arrival leaves at most as many as there were
come-fewer : (sc : Scenario) (me : Side) (i : ℕ) (s : Site) (p : Placed) → first_of s.coming ≡ Some p → length (after_arrival sc me i p.place p.coming s).coming ≤ length s.coming
unfolding after_arrival
come-fewer sc me i s p e = let less = length-without p.place p.coming s.coming (first-stands s.coming p e) in omega (arith, less)

sweep-fewer : (sc : Scenario) (me : Side) (i until : ℕ) (s : Site) → length (swept sc me i until s).coming ≤ length s.coming
sweep-fewer sc me i until s =
    sweep-of sc me i until (λ s. length (swept sc me i until s).coming ≤ length s.coming)
    (λ s late. subst (λ (z : Site). length z.coming ≤ length s.coming) (sym (sweep-stays sc me i until s late)) (omega arith))
    (λ s p e lt rest.
    subst (λ (z : Site). length z.coming ≤ length s.coming) (sym (sweep-takes sc me i until s p e lt))
    (let less = come-fewer sc me i s p e in omega (arith, rest, less))) s

pub bare-few : (sc : Scenario) (me : Side) (i : ℕ) (a : Timed) (most : ℕ) (s : Site) → length (times_of s) ≤ most → length (times_of (bare sc me i a s)) ≤ most
bare-few sc me i a most s all =
    let less = sweep-fewer sc me i (a.time + 1) s in
    let own = times-many (bare sc me i a s) in
    let its = times-many s in
    let ticks = own.1 refl in
    let least = its.0 in
    omega (arith, less, ticks, least, all)
  where
    times-many : (s : Site) → (length s.coming ≤ length (times_of s)) × (s.ahead ≡ None → length (times_of s) ≡ length s.coming)
    times-many s = by s.ahead
      where
        mapped : (cs : List Coming) → length (map (λ (c : Coming). c.time) cs) ≡ length cs
        mapped [] = refl
        mapped (c ∷ cs) = ap suc (mapped cs)

        by : (o : Option Timed) → (length s.coming ≤ length (option_to_list (option_map (λ (a : Timed). a.time) o) ++ map (λ (c : Coming). c.time) s.coming))
            × (o ≡ None → length (option_to_list (option_map (λ (a : Timed). a.time) o) ++ map (λ (c : Coming). c.time) s.coming) ≡ length s.coming)
        by None = (let same = mapped s.coming in omega (arith, same), λ e. mapped s.coming)
        by (Some a) = (let same = mapped s.coming in omega (arith, same), λ e. absurd (let never : ◌≡◌ {A = Option Timed} (Some a) None = e in cc))

-- The node may take the tick.

pub ticks-there : (sc : Scenario) (kept : Each KeptSite) (scene : Scene) (until : Side → ℕ → ℕ) (w v : World) (me : Side) (i : ℕ) (a : Timed) → (h : BehindTick sc kept scene until w v me i a)
    → i < count_of me sc.sizes → TicksNow sc me i a (swept sc me i (a.time + 1) h.first.node)
ticks-there sc kept scene until w v me i a h within =
    let its = in-time sc kept scene until w v me i a h in
    record { time = its.time; counted = within; had = its.had h.first.node h.first.there; small = its.small }

pub may-tick-behind : (sc : Scenario) (kept : Each KeptSite) (scene : Scene) (until : Side → ℕ → ℕ) (w v : World) (me : Side) (i : ℕ) (a : Timed) (site : KeptSite) (lanes : Each Held)
    → (h : BehindTick sc kept scene until w v me i a) → Sweeps sc me i (a.time + 1) site lanes v.sites h.first.node
    → MayTick sc me i a.tick site (record scene { agenda = lanes }) (moved me i (without_waiting (Tick a.tick)) (alone sc me i a v)) (bare sc me i a h.first.node)
may-tick-behind sc kept scene until w v me i a site lanes h sweeps =
    let s : Site = h.first.node in
    let z : Site = swept sc me i (a.time + 1) s in
    let after : Scene = record scene { agenda = lanes } in
    let n = node-of sc kept scene until w v h.trails me i s h.first.there in
    let keeps = sweeps-keep sc me i (a.time + 1) s in
    let pends : z.ahead ≡ Some a = ap (λ (s : Site). s.ahead) keeps.is ∙ h.first.pends in
    let runs = next-due sc me i a.tick z a sweeps.node.awaits pends refl in
    let now : TicksNow sc me i a z = ticks-there sc kept scene until w v me i a h n.within in
    let held : HoldsSites sc.sizes lanes (at_node me i (bare sc me i a) v.sites) = subst (HoldsSites sc.sizes lanes) (cleared-bare sc me i a v h.first) sweeps.holds in
    let x : World = moved me i (bare sc me i a) v in
    let around : Surrounds sc after x = pends-more sc scene lanes v me i (bare sc me i a) (bare-pends sc me i a) h.trails.surrounds held sweeps.rooms in
    let there : slice_get (of_kind me x.sites) i ≡ Some (bare sc me i a s) = changed-there me i (bare sc me i a) v s h.first.there in
    let same : moved me i (without_waiting (Tick a.tick)) (alone sc me i a v) ≡ x =
    ap (λ (sites : Each Site). record v { sites = sites }) (at-twice me i (without_waiting (Tick a.tick)) (swept sc me i (a.time + 1)) v.sites) in
    let had = act-had v.ports now in
    let small = now.small in
    subst (λ (y : World). MayTick sc me i a.tick site after y (bare sc me i a s)) (sym same) (record {
      at = record {
        lawful = h.trails.lawful;
        listed = h.trails.listed;
        within = n.within;
        there = there;
        number = sweeps.node.number;
        stands = record {
          sizes = sweeps.node.site.sizes;
          plan = sweeps.node.site.plan;
          core = sweeps.node.site.core;
          runs = sweeps.node.site.runs;
          together = sweeps.node.site.together;
          times = sweeps.node.site.times;
        };
        none_ahead = refl;
        runs = runs.0;
        senders = sweeps.node.senders;
        surrounds = around;
        spare = spare-at sc lanes x.sites me i (bare sc me i a s) sweeps.rooms sweeps.lane held there
            (bare-few sc me i a (most_pending sc me) s (few sc kept scene until w v h.trails me i s h.first.there));
      };
      next = runs.1;
      later = now.had;
      below = now.small;
      message = λ j within.
          let far : length (of_kind (other me) x.sites) ≡ count_of (other me) sc.sizes = around.counts (other me) in
          let y = has-item (of_kind (other me) x.sites) j (omega (arith, far, within)) in
          let was = was-there me i (bare sc me i a) v.sites (other me) j y.item y.is in
          let is : was.site ≡ y.item = sym (ap (λ b. elim b as (λ _. Site) [ true ↦ bare sc me i a was.site | false ↦ was.site ]) (not-other me i j)) ∙ was.is in
          let all : length (times_of y.item) ≤ most_pending sc (other me) =
          subst (λ (s : Site). length (times_of s) ≤ most_pending sc (other me)) is (few sc kept scene until w v h.trails (other me) j was.site was.there) in
          let spare = spare-at sc lanes x.sites (other me) j y.item sweeps.rooms (has-lane sc after x (name_of (other me) j) around (node-named sc (other me) j within)) held y.is all in
          let one : 1 ≤ spare_of (lane_of lanes (name_of (other me) j)) = omega (arith, spare) in one;
      spans = spans-by sc me (pass_and_tick sc v.ports me i a.tick z.core).core (omega (arith, had, small));
    })

-- The node has taken the tick.

pub set-again : {X : Type 0} (xs : List X) (i : ℕ) (x y : X) → slice_set (slice_set xs i x) i y ≡ slice_set xs i y
set-again [] i x y = refl
set-again (z ∷ xs) zero x y = refl
set-again (z ∷ xs) (suc i) x y = ap (λ l. z ∷ l) (set-again xs i x y)

tick-behind-acts : (sc : Scenario) (kept : Each KeptSite) (scene after : Scene) (until : Side → ℕ → ℕ) (w v : World) (me : Side) (i : ℕ) (a : Timed) (site new : KeptSite) (lanes : Each Held)
    → (h : BehindTick sc kept scene until w v me i a) → Sweeps sc me i (a.time + 1) site lanes v.sites h.first.node
    → Ticks sc me i a.tick new after (moved me i (without_waiting (Tick a.tick)) (alone sc me i a v)) (bare sc me i a h.first.node)
    (pass_and_tick sc v.ports me i a.tick (swept sc me i (a.time + 1) h.first.node).core)
    → Acts sc me (slice_set (of_kind me kept) i new) (of_kind (other me) kept) after (happens sc (alone sc me i a v) (record { side = me; node = i; pending = Tick a.tick }))
tick-behind-acts sc kept scene after until w v me i a site new lanes h sweeps ticks =
    let s : Site = h.first.node in
    let change : Site → Site = swept sc me i (a.time + 1) in
    let d : Due = record { side = me; node = i; pending = Tick a.tick } in
    subst (λ ks. Acts sc me ks (of_kind (other me) kept) after (happens sc (alone sc me i a v) d)) (set-again (of_kind me kept) i site new)
    (tick-acts sc (alone sc me i a v) d me i a.tick (change s) (slice_set (of_kind me kept) i site) (of_kind (other me) kept) new after refl
    (changed-there me i change v s h.first.there)
    (nodes-own sc me i change (of_kind me kept) v.sites site s h.first.there sweeps.node (h.trails.nodes me))
    (nodes-other sc me i change (of_kind (other me) kept) v.sites (h.trails.nodes (other me))) ticks)

pub may-take : (sc : Scenario) (kept : Each KeptSite) (scene : Scene) (until : Side → ℕ → ℕ) (w v : World) (me : Side) (i : ℕ) (a : Timed) (time : ℕ) (own : List KeptSite) (site : KeptSite)
    → (m : MayTakeFirst sc kept scene until w v me i a time own) → slice_get own i ≡ Some site
    → (number_of site ≡ i) × MaySweep sc me i (time + 1) site scene.agenda v.sites m.at.first.node
may-take sc kept scene until w v me i a time own site m there =
    let n = node-of sc kept scene until w v m.at.trails me i m.at.first.node m.at.first.there in
    let same : n.site ≡ site = same_Some n.site site (sym n.there ∙ ap (λ ks. slice_get ks i) m.own_is ∙ there) in (
      ap number_of (sym same) ∙ n.node.number,
      subst (λ t. MaySweep sc me i (t + 1) site scene.agenda v.sites m.at.first.node) (sym m.time_is)
          (subst (λ k. MaySweep sc me i (a.time + 1) k scene.agenda v.sites m.at.first.node) same (may-sweep-own sc kept scene until w v me i a m.at n)),
    )

pub may-then : (sc : Scenario) (kept : Each KeptSite) (scene : Scene) (until : Side → ℕ → ℕ) (w v : World) (me : Side) (i : ℕ) (a : Timed) (time : ℕ) (own : List KeptSite) (site : KeptSite)
    (lanes : Each Held) → (m : MayTakeFirst sc kept scene until w v me i a time own) → Sweeps sc me i (time + 1) site lanes v.sites m.at.first.node
    → MayTick sc me i a.tick site (record scene { agenda = lanes }) (moved me i (without_waiting (Tick a.tick)) (alone sc me i a v)) (bare sc me i a m.at.first.node)
may-then sc kept scene until w v me i a time own site lanes m sweeps =
    may-tick-behind sc kept scene until w v me i a site lanes m.at (subst (λ t. Sweeps sc me i (t + 1) site lanes v.sites m.at.first.node) m.time_is sweeps)

pub takes-first : (sc : Scenario) (kept : Each KeptSite) (scene after : Scene) (until : Side → ℕ → ℕ) (w v : World) (me : Side) (i : ℕ) (a : Timed) (time : ℕ) (own : List KeptSite)
    (site new : KeptSite) (lanes : Each Held) → (m : MayTakeFirst sc kept scene until w v me i a time own) → Sweeps sc me i (time + 1) site lanes v.sites m.at.first.node
    → Ticks sc me i a.tick new after (moved me i (without_waiting (Tick a.tick)) (alone sc me i a v)) (bare sc me i a m.at.first.node)
    (pass_and_tick sc v.ports me i a.tick (swept sc me i (a.time + 1) m.at.first.node).core)
    → TakesFirst sc v me i a (slice_set own i new) (of_kind (other me) kept) after
takes-first sc kept scene after until w v me i a time own site new lanes m sweeps ticks =
    let acts = tick-behind-acts sc kept scene after until w v me i a site new lanes m.at (subst (λ t. Sweeps sc me i (t + 1) site lanes v.sites m.at.first.node) m.time_is sweeps) ticks in
    record {
      own_are = subst (λ ks. AreNodes sc me (slice_set ks i new) (of_kind me (happens sc (alone sc me i a v) (record { side = me; node = i; pending = Tick a.tick })).sites)) m.own_is acts.own;
      far_are = acts.far;
      surrounds = acts.surrounds;
    }

-- Which tick it is.

-- a BIU's index is below `n`, and an RMU's may be any
abbrev count_in : Side → ℕ → ℕ → Type 0
count_in Biu n i = i < n
count_in Rmu n i = ⊤

before-so : (me side : Side) (i j n : ℕ) → count_in me n i → position_of n (name_of side j) < position_of n (name_of me i) → is_behind side j me i ≡ true
before-so Biu Biu i j n within lt = lt-ltb j i lt
before-so Biu Rmu i j n within lt = absurd (omega (arith, within, lt))
before-so Rmu Biu i j n within lt = refl
before-so Rmu Rmu i j n within lt = lt-ltb j i (omega (arith, lt))

pub first-ahead : (sc : Scenario) (kept : Each KeptSite) (scene : Scene) (until : Side → ℕ → ℕ) (w v : World) (me : Side) (i : ℕ) (a : Timed) → BehindTick sc kept scene until w v me i a
    → IsFirstAhead v.sites me i a.time
first-ahead sc kept scene until w v me i a h =
    let n = node-of sc kept scene until w v h.trails me i h.first.node h.first.there in
    let its = in-time sc kept scene until w v me i a h in
    let time = its.time in
    let small = small-time sc h.trails.lawful me i a.tick n.within its.small in
    record {
      site = h.first.node;
      there = h.first.there;
      pends = ap (option_map (λ (a : Timed). a.time)) h.first.pends;
      least = h.first.least;
      first = λ side j s b there pends lt.
          h.first.first side j s b there pends (before-so me side i j (length v.sites.bius) (within me i h.first.node h.first.there) lt);
      small = omega (arith, time, small);
    }
  where
    within : (me : Side) (i : ℕ) (s : Site) → slice_get (of_kind me v.sites) i ≡ Some s → count_in me (length v.sites.bius) i
    within Biu i s there = slice_get_within v.sites.bius i s there
    within Rmu i s there = tt

-- some tick is the first
pub some-first : (sc : Scenario) (kept : Each KeptSite) (scene : Scene) (until : Side → ℕ → ℕ) (w v : World) → MayTickFirst sc kept scene until w v
    → (me : Side) × ((i : ℕ) × ((a : Timed) × BehindTick sc kept scene until w v me i a))
some-first sc kept scene until w v m =
    let some = some-tick-is-first sc m.trails.lawful m.trails.reached.choices until v (is-ahead sc kept scene until w v m.trails) m.event in
    (some.0, (some.1.0, (some.1.1.0, record { trails = m.trails; event = m.event; first = some.1.1.1 })))

-- What is then behind.

sent-same : (sc : Scenario) (me : Side) (j frame : ℕ) (x : Sending) (side : Side) (i : ℕ) (s : Site) → ((sent_to sc me j frame x side i s).ahead ≡ s.ahead) × ((sent_to sc me j frame x side i s).runs ≡ s.runs)
sent-same sc me j frame x side i s = by (same_side side (other me) && s.runs)
  where
    by : (b : Bool) → ((elim b as (λ _. Site) [ true ↦ record s { coming = s.coming ++ coming_of sc side i j frame x ∷ [] } | false ↦ s ]).ahead ≡ s.ahead)
        × ((elim b as (λ _. Site) [ true ↦ record s { coming = s.coming ++ coming_of sc side i j frame x ∷ [] } | false ↦ s ]).runs ≡ s.runs)
    by true = (refl, refl)
    by false = (refl, refl)

message-was : (sc : Scenario) (me : Side) (i frame k : ℕ) (m : Option Message) (sites : Each Site) (side : Side) (n : ℕ) (y : Site)
    → slice_get (of_kind side (with_message sc me i frame k m sites)) n ≡ Some y → (x : Site) × ((slice_get (of_kind side sites) n ≡ Some x) × ((y.ahead ≡ x.ahead) × (y.runs ≡ x.runs)))
message-was sc me i frame k None sites side n y there = (y, (there, (refl, refl)))
message-was sc me i frame k (Some m) sites side n y there =
    let x : Sending = record { tick = k; message = m } in
    let sent : Side → ℕ → Site → Site = sent_to sc me i frame x in
    let was = option_map-back (sent side n) (slice_get (of_kind side sites) n) y (sym (get-each sent sites side n) ∙ there) in
    let same = sent-same sc me i frame x side n was.0 in
    (was.0, (was.1.0, (ap (λ (s : Site). s.ahead) (sym was.1.1) ∙ same.0, ap (λ (s : Site). s.runs) (sym was.1.1) ∙ same.1)))

pub behind-tick : (sc : Scenario) (kept : Each KeptSite) (scene : Scene) (until : Side → ℕ → ℕ) (w v : World) (me : Side) (i : ℕ) (a : Timed) → (h : BehindTick sc kept scene until w v me i a)
    → (side : Side) (j : ℕ) (y : Site) → slice_get (of_kind side (tick_alone sc me i a v).sites) j ≡ Some y → IsBehind sc side j (until_tick me i a.time side j) y
unfolding with_act
behind-tick sc kept scene until w v me i a h side j y there =
    let act : Site → Site = after_act sc v.ports me i x in
    let sites : Each Site = at_node me i act (at_node me i (swept sc me i (a.time + 1)) v.sites) in
    let sent = message-was sc me i x.core.state.frame a.tick x.message sites side j y (ap (λ sites. slice_get (of_kind side sites) j) (sym behind-sites) ∙ there) in
    let was = was-there me i (λ s. act (swept sc me i (a.time + 1) s)) v.sites side j sent.0
    (ap (λ sites. slice_get (of_kind side sites) j) (sym (at-twice me i act (swept sc me i (a.time + 1)) v.sites)) ∙ sent.1.0) in
    by was.site was.there (is_node me i side j) refl was.is sent.1.1.0 sent.1.1.1
  where
    s : Site
    s = h.first.node

    z : Site
    z = swept sc me i (a.time + 1) s

    x : Act
    x = pass_and_tick sc v.ports me i a.tick z.core

    its : TickBehindIsInTime sc v me i a
    its = in-time sc kept scene until w v me i a h

    behind-sites : (tick_alone sc me i a v).sites ≡ (with_act sc (alone sc me i a v) me i a.tick x).sites
    behind-sites =
        let d : Due = record { side = me; node = i; pending = Tick a.tick } in
        settle-sites sc ByAnEvent 2 (happens sc (alone sc me i a v) d)
        ∙ ap (λ (y : World). y.sites) (happens-is sc (alone sc me i a v) d (changed-there me i (swept sc me i (a.time + 1)) v s h.first.there))

    now : TicksNow sc me i a z
    now = ticks-there sc kept scene until w v me i a h (node-of sc kept scene until w v h.trails me i s h.first.there).within

    acted : Later a.time (after_act sc v.ports me i x z)
    acted = act-later h.trails.lawful v.ports now (all-every (λ c. a.time + 1 ≤ c.time) z.coming (sweeps-keep sc me i (a.time + 1) s).left)

    own : (q : Site) → y.ahead ≡ q.ahead → q ≡ after_act sc v.ports me i x z → IsBehind sc me i (until_tick me i a.time me i) y
    own q ahead is =
        let most = until-own me i a.time in
        let time = its.time in
        record {
          has_tick = λ runs. (a.tick, (its.small, omega (arith, most, time)));
          before = λ b e. let up = acted.tick b (ap (λ (s : Site). s.ahead) (sym is) ∙ sym ahead ∙ e) in omega (arith, most, up);
        }

    other-node : (q : Site) → slice_get (of_kind side v.sites) j ≡ Some q → is_node me i side j ≡ false → y.ahead ≡ q.ahead → y.runs ≡ q.runs
        → IsBehind sc side j (until_tick me i a.time side j) y
    other-node q here apart ahead runs = record {
      has_tick = λ e.
          let has = its.others side j q here (sym runs ∙ e) in
          let most = until-most me side i j a.time in
          let late = has.1.1 in
          (has.0, (has.1.0, omega (arith, most, late)));
      before = λ b e.
          let pends : q.ahead ≡ Some b = sym ahead ∙ e in
          let low = h.first.least side j q b here pends in
          elim (nodes-order me side i j) [
            | inl behind ↦ let at = until-behind me side i j a.time behind in omega (arith, low, at)
            | inr others ↦ elim others [
              | inl before ↦ let lt = h.first.first side j q b here pends before in let most = until-most me side i j a.time in omega (arith, lt, most)
              | inr same ↦
                  let node : is_node me i side j ≡ true = ap (λ k. is_node me i k j) (sym same.0) ∙ ap (is_node me i me) (sym same.1) ∙ node-itself me i in
                  absurd (let never : true ≡ false = sym node ∙ apart in cc)
            ]
          ];
    }

    by : (q : Site) → slice_get (of_kind side v.sites) j ≡ Some q → (b : Bool) → is_node me i side j ≡ b
        → {p : Site} → at_one me i (λ s. after_act sc v.ports me i x (swept sc me i (a.time + 1) s)) side j q ≡ p → y.ahead ≡ p.ahead → y.runs ≡ p.runs
        → IsBehind sc side j (until_tick me i a.time side j) y
    by q here true e is ahead runs =
        let at = node-is me side i j e in
        let here_me : slice_get (of_kind me v.sites) i ≡ Some q = sym (ap (λ k. slice_get (of_kind k v.sites) j) at.0 ∙ ap (slice_get (of_kind me v.sites)) at.1) ∙ here in
        let same : q ≡ s = same_Some q s (sym here_me ∙ h.first.there) in
        let acts : after_act sc v.ports me i x (swept sc me i (a.time + 1) q) ≡ _ =
        sym (ap (λ b. elim b as (λ _. Site) [ true ↦ after_act sc v.ports me i x (swept sc me i (a.time + 1) q) | false ↦ q ]) e) ∙ is in
        subst (λ k. IsBehind sc k j (until_tick me i a.time k j) y) (sym at.0)
        (subst (λ n. IsBehind sc me n (until_tick me i a.time me n) y) (sym at.1)
        (own _ ahead (sym acts ∙ ap (λ s. after_act sc v.ports me i x (swept sc me i (a.time + 1) s)) same)))
    by q here false e is ahead runs =
        let stays : q ≡ _ = sym (ap (λ b. elim b as (λ _. Site) [ true ↦ after_act sc v.ports me i x (swept sc me i (a.time + 1) q) | false ↦ q ]) e) ∙ is in
        other-node q here e (ahead ∙ ap (λ (s : Site). s.ahead) (sym stays)) (runs ∙ ap (λ (s : Site). s.runs) (sym stays))

-- a node that may take the first tick is there
pub own-within : {sc : Scenario} {kept : Each KeptSite} {scene : Scene} {until : Side → ℕ → ℕ} {w v : World} {me : Side} {i : ℕ} {a : Timed} {time : ℕ} {own : List KeptSite}
    → MayTakeFirst sc kept scene until w v me i a time own → i < length own
own-within {sc} {kept} {scene} {until} {w} {v} {me} {i} m = subst (λ ks. i < length ks) m.own_is (node-of sc kept scene until w v m.at.trails me i m.at.first.node m.at.first.there).inside

-- a time comes after its tick
pub own-small : {sc : Scenario} {kept : Each KeptSite} {scene : Scene} {until : Side → ℕ → ℕ} {w v : World} {me : Side} {i : ℕ} {a : Timed} {time : ℕ} {own : List KeptSite}
    → MayTakeFirst sc kept scene until w v me i a time own → time < 18446744073709551615
own-small {sc} {kept} {scene} {until} {w} {v} {me} {i} {a} m = subst (λ t. t < 18446744073709551615) (sym m.time_is) (first-ahead sc kept scene until w v me i a m.at).small

pub indexed : (ks : List KeptSite) (i : ℕ) (k : KeptSite) → i < length ks → k ≡ get_or ks i k → slice_get ks i ≡ Some k
indexed ks i k within is = slice_get-get_or ks i k within ∙ ap Some (sym is)
