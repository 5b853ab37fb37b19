-- A node takes a tick that ends a window of a slot before the sync slot, and has taken in what came
-- to it unstamped.
use Rattle.std.proofs.Common.{◌≡◌, ℕ, ◌+◌, ◌-◌, ◌^◌, ◌<◌, ◌≤◌, true, false, Some, None, Option, List, slice_get, refl, sym, ap, ◌∙◌, subst, arith}
use Rattle.std.specs.Prelude.{All, length, slice_set}
use Rattle.rb_base.specs.Nodes.{Side, other}
use Rattle.rb_rules.specs.{declared.closing.Closed.Closed, declared.record.Epoch.Epoch, Book.{Each, of_kind}, Core.{Act, Core, busy_among, next_tick}, Goodness.Scenario, Hearing.Coming, Links.name_of, Ports.PortState, Slots.count_of, WorldStep.{Due, Site, Timed, World, after_act, at_node, happens, pass_and_tick, proceed, times_of, with_act, with_close, with_epoch, with_message}, WorldStep.Pending.Tick}
use Rattle.rb_queue.specs.Waiting.{HasLane, Held, lane_of, spare_of}
use Rattle.rb_world_agenda.specs.Holding.{HoldsSites}
use Rattle.rb_world_agenda.proofs.Which.{has-item}
use Rattle.rb_laws_events.specs.PendingEvents.{most_pending}
use Rattle.rb_laws_events.proofs.WorldStands.{not-other}
use Rattle.rb_world.specs.{Sites.{KeptSite, Stands as StandsFor, after_tick, number_of}, declared.scene.Scene.Scene, Buses.HaveRooms, Steps.{MayTick, SpansFit, Ticks, moved}, Trailing.{BehindTick, alone, bare}, Unstamped.bare_with, Worlds.{AreNodes, IsNode, Surrounds}}
use Rattle.rb_laws_sweeps.specs.Sweeping.{swept}
use Rattle.rb_laws_sweeps.proofs.{AfterTick.{TicksNow, act-had}, Sweeps.sweeps-keep}
use Rattle.rb_world.proofs.{Around.{Pends, pends-more}, Behind.{bare-few, bare-pends, few, node-of, ticks-there}, Entering.changed-there, Happening.{Acts, after-act-same, happens-tick, nodes-other, nodes-own, sent-nodes}, Lanes.{has-lane, node-named, spare-at}, Ready.next-due, Sites.{at-same, at-twice, holds-one, was-there}, Spans.spans-by}

-- A node may take the tick with another core, if that does at the tick what its own does.

-- the node has been swept up to its tick, but for its core
pub record Readied (sc : Scenario) (scene : Scene) (v : World) (me : Side) (i : ℕ) (a : Timed) (s : Site) (core : Core) (site : KeptSite) (lanes : Each Held) : Type 0 where
  pub number : number_of site ≡ i
  pub stands : StandsFor sc me site (bare_with sc me i a core s)
  pub state : core.state ≡ s.core.state
  pub had : core.had ≡ s.core.had
  pub later : s.core.had ≤ a.tick
  pub senders : All (λ (c : Coming). c.from < count_of (other me) sc.sizes) (swept sc me i (a.time + 1) s).got
  pub holds : HoldsSites sc.sizes lanes (at_node me i (bare sc me i a) v.sites)
  pub rooms : HaveRooms sc lanes
  pub lane : HasLane lanes (name_of me i)
  pub alike : pass_and_tick sc v.ports me i a.tick core ≡ pass_and_tick sc v.ports me i a.tick (swept sc me i (a.time + 1) s).core

with-pends : (sc : Scenario) (me : Side) (i : ℕ) (a : Timed) (core : Core) → Pends (bare_with sc me i a core)
with-pends sc me i a core = record { row = (bare-pends sc me i a).row; begun = (bare-pends sc me i a).begun; runs = (bare-pends sc me i a).runs }

with-few : (sc : Scenario) (me : Side) (i : ℕ) (a : Timed) (core : Core) (most : ℕ) (s : Site) → length (times_of s) ≤ most → length (times_of (bare_with sc me i a core s)) ≤ most
with-few sc me i a core most s all = bare-few sc me i a most s all

pub may-tick-with : (sc : Scenario) (kept : Each KeptSite) (scene : Scene) (until : Side → ℕ → ℕ) (w v : World) (me : Side) (i : ℕ) (a : Timed) (core : Core) (site : KeptSite) (lanes : Each Held)
    → (h : BehindTick sc kept scene until w v me i a) → Readied sc scene v me i a h.first.node core site lanes
    → MayTick sc me i a.tick site (record scene { agenda = lanes }) (moved me i (bare_with sc me i a core) v) (bare_with sc me i a core h.first.node)
may-tick-with sc kept scene until w v me i a core site lanes h r =
    let s : Site = h.first.node in
    let z : Site = swept sc me i (a.time + 1) s in
    let change : Site → Site = bare_with sc me i a core in
    let after : Scene = record scene { agenda = lanes } in
    let n = node-of sc kept scene until w v h.trails me i s h.first.there in
    let keeps = sweeps-keep sc me i (a.time + 1) s in
    let was = next-due sc me i a.tick s a n.node.awaits h.first.pends refl in
    let runs : z.runs ≡ true = ap (λ (s : Site). s.runs) keeps.is ∙ was.0 in
    let next : next_tick sc.sizes sc.plan me i core ≡ Some a.tick =
    ap (λ st. busy_among sc.sizes sc.plan me i st (2 ^ 31 - core.had) core.had) r.state
    ∙ ap (λ m. busy_among sc.sizes sc.plan me i s.core.state (2 ^ 31 - m) m) r.had ∙ was.1 in
    let now : TicksNow sc me i a z = ticks-there sc kept scene until w v me i a h n.within in
    let held : HoldsSites sc.sizes lanes (at_node me i change v.sites) =
    subst (HoldsSites sc.sizes lanes) (at-twice me i (λ (s : Site). record s { core = core }) (bare sc me i a) v.sites)
    (holds-one sc.sizes lanes (at_node me i (bare sc me i a) v.sites) me i (λ (s : Site). record s { core = core }) (λ s. refl) (λ s. refl) r.holds) in
    let x : World = moved me i change v in
    let around : Surrounds sc after x = pends-more sc scene lanes v me i change (with-pends sc me i a core) h.trails.surrounds held r.rooms in
    let there : slice_get (of_kind me x.sites) i ≡ Some (change s) = changed-there me i change v s h.first.there in
    let had = act-had v.ports now in
    let small = now.small in
    record {
      at = record {
        lawful = h.trails.lawful;
        listed = h.trails.listed;
        within = n.within;
        there = there;
        number = r.number;
        stands = r.stands;
        none_ahead = refl;
        runs = runs;
        senders = r.senders;
        surrounds = around;
        spare = spare-at sc lanes x.sites me i (change s) r.rooms r.lane held there
            (with-few sc me i a core (most_pending sc me) s (few sc kept scene until w v h.trails me i s h.first.there));
      };
      next = next;
      later = let had = r.had in let later = r.later in omega (arith, had, later);
      below = now.small;
      message = λ j within.
          let far : length (of_kind (other me) x.sites) ≡ count_of (other me) sc.sizes = around.counts (other me) in
          let y = has-item (of_kind (other me) x.sites) j (omega (arith, far, within)) in
          let was = was-there me i change v.sites (other me) j y.item y.is in
          let is : was.site ≡ y.item = sym (ap (λ b. elim b as (λ _. Site) [ true ↦ change was.site | false ↦ was.site ]) (not-other me i j)) ∙ was.is in
          let all : length (times_of y.item) ≤ most_pending sc (other me) =
          subst (λ (s : Site). length (times_of s) ≤ most_pending sc (other me)) is (few sc kept scene until w v h.trails (other me) j was.site was.there) in
          let spare = spare-at sc lanes x.sites (other me) j y.item r.rooms (has-lane sc after x (name_of (other me) j) around (node-named sc (other me) j within)) held y.is all in
          let one : 1 ≤ spare_of (lane_of lanes (name_of (other me) j)) = omega (arith, spare) in one;
      spans = subst (λ (x : Act). SpansFit sc me x.core) (sym r.alike) (spans-by sc me (pass_and_tick sc v.ports me i a.tick z.core).core (omega (arith, had, small)));
    }

-- What it gives is what the tick gives.

after_tick-with : (sc : Scenario) (ports : List PortState) (me : Side) (i : ℕ) (x : Act) (core : Core) (s : Site) → after_tick sc ports me i x (record s { core = core }) ≡ after_tick sc ports me i x s
after_tick-with sc ports me i x core s = by x.epoch x.closed
  where
    by : (e : Option Epoch) (o : Option Closed) → with_epoch sc ports me i e (with_close me i x.core.state o (record (record s { core = core }) { core = x.core }))
        ≡ with_epoch sc ports me i e (with_close me i x.core.state o (record s { core = x.core }))
    by None None = refl
    by None (Some c) = refl
    by (Some e) None = refl
    by (Some e) (Some c) = refl

after-act-with : (sc : Scenario) (ports : List PortState) (me : Side) (i : ℕ) (a : Timed) (x : Act) (core : Core) (s : Site)
    → after_act sc ports me i x (bare_with sc me i a core s) ≡ after_act sc ports me i x (swept sc me i (a.time + 1) s)
unfolding after_act
after-act-with sc ports me i a x core s = ap (proceed sc me i) (after_tick-with sc ports me i x core (bare sc me i a s)) ∙ after-act-same sc ports me i x (swept sc me i (a.time + 1) s)

act-with : (sc : Scenario) (v : World) (me : Side) (i : ℕ) (a : Timed) (x : Act) (core : Core) → with_act sc (moved me i (bare_with sc me i a core) v) me i a.tick x ≡ with_act sc (alone sc me i a v) me i a.tick x
unfolding with_act
act-with sc v me i a x core =
    ap (λ (sites : Each Site). record (with_act sc v me i a.tick x) { sites = with_message sc me i x.core.state.frame a.tick x.message sites })
    (at-twice me i (after_act sc v.ports me i x) (bare_with sc me i a core) v.sites
    ∙ at-same me i (λ s. after_act sc v.ports me i x (bare_with sc me i a core s)) (λ s. after_act sc v.ports me i x (swept sc me i (a.time + 1) s)) v.sites (λ s e. after-act-with sc v.ports me i a x core s)
    ∙ sym (at-twice me i (after_act sc v.ports me i x) (swept sc me i (a.time + 1)) v.sites))

pub takes-with : (sc : Scenario) (kept : Each KeptSite) (scene after : Scene) (until : Side → ℕ → ℕ) (w v : World) (me : Side) (i : ℕ) (a : Timed) (core : Core) (site new : KeptSite) (lanes : Each Held)
    → (h : BehindTick sc kept scene until w v me i a) → Readied sc scene v me i a h.first.node core site lanes
    → Ticks sc me i a.tick new after (moved me i (bare_with sc me i a core) v) (bare_with sc me i a core h.first.node) (pass_and_tick sc v.ports me i a.tick core)
    → Acts sc me (slice_set (of_kind me kept) i new) (of_kind (other me) kept) after (happens sc (alone sc me i a v) (record { side = me; node = i; pending = Tick a.tick }))
unfolding with_act
takes-with sc kept scene after until w v me i a core site new lanes h r ticks =
    let s : Site = h.first.node in
    let z : Site = swept sc me i (a.time + 1) s in
    let x : Act = pass_and_tick sc v.ports me i a.tick z.core in
    let d : Due = record { side = me; node = i; pending = Tick a.tick } in
    let change : Site → Site = λ s. after_act sc v.ports me i x (swept sc me i (a.time + 1) s) in
    let node : IsNode sc me i new (after_act sc v.ports me i x z) =
    subst (IsNode sc me i new) (ap (λ x. after_act sc v.ports me i x (bare_with sc me i a core s)) r.alike ∙ after-act-with sc v.ports me i a x core s) ticks.node in
    let surrounds : Surrounds sc after (with_act sc (alone sc me i a v) me i a.tick x) =
    subst (Surrounds sc after) (ap (with_act sc (moved me i (bare_with sc me i a core) v) me i a.tick) r.alike ∙ act-with sc v me i a x core) ticks.surrounds in
    let sites : at_node me i change v.sites ≡ at_node me i (after_act sc v.ports me i x) (alone sc me i a v).sites = sym (at-twice me i (after_act sc v.ports me i x) (swept sc me i (a.time + 1)) v.sites) in
    let own = subst (λ (sites : Each Site). AreNodes sc me (slice_set (of_kind me kept) i new) (of_kind me sites)) sites
    (nodes-own sc me i change (of_kind me kept) v.sites new s h.first.there node (h.trails.nodes me)) in
    let far = subst (λ (sites : Each Site). AreNodes sc (other me) (of_kind (other me) kept) (of_kind (other me) sites)) sites
    (nodes-other sc me i change (of_kind (other me) kept) v.sites (h.trails.nodes (other me))) in
    subst (Acts sc me (slice_set (of_kind me kept) i new) (of_kind (other me) kept) after)
    (sym (happens-tick sc (alone sc me i a v) d me i a.tick z refl (changed-there me i (swept sc me i (a.time + 1)) v s h.first.there)))
    (record {
      own = sent-nodes sc me i x.core.state.frame a.tick x.message me (slice_set (of_kind me kept) i new) (at_node me i (after_act sc v.ports me i x) (alone sc me i a v).sites) own;
      far = sent-nodes sc me i x.core.state.frame a.tick x.message (other me) (of_kind (other me) kept) (at_node me i (after_act sc v.ports me i x) (alone sc me i a v).sites) far;
      surrounds = surrounds;
    })
