-- An arrival that is due may happen, and what it leaves.
use Rattle.std.proofs.{Common.{◌≡◌, ℕ, ◌-◌, ◌<◌, ◌≤◌, ◌^◌, Bool, true, false, Some, None, Option, List, [], ◌∷◌, ◌++◌, map, slice_get, refl, sym, ap, ◌∙◌, subst, arith}, lemmas.Bool.true≢false, lemmas.List.Elements.{All-append, All-cons, All-nil}, lemmas.Option.same_Some}
use Rattle.std.specs.Prelude.{flat_map, option_map, option_to_list, slice_set, unwrap_or}
use Rattle.rb_base.specs.{Nodes.{Side, other}, Nodes.Side.{Biu, Rmu}, declared.event.Event.Event, declared.event.EventKind.EventKind, declared.node.NodeName.NodeName}
use Rattle.rb_rules.specs.{Book.{Each, in_order, of_kind}, Clock.{ComesBy, Timeline, stamp_of, time_of}, Core.{Core, arrive, busy_among, next_tick, pass_to}, Goodness.{Scenario, clock_of}, Hearing.Coming, Lawful.kind_of, Links.name_of, Slots.count_of, WorldStep.{Due, Pending as Waits, Site, Timed, World, after_arrival, happens, times_of}, WorldStep.Pending.{Tick, Arrival}}
use Rattle.rb_rules.proofs.{QuietTicks.arrive-next, Stamps.Moves}
use Rattle.rb_laws_synchrony.proofs.Times.{stamp_to}
use Rattle.rb_world_agenda.specs.{Agenda.IsAtTime, Holding.{Shows, coming_with, without_waiting}}
use Rattle.rb_world_agenda.proofs.Which.{has-item}
use Rattle.rb_node.specs.Cores.{bare_core, next_of, passing_end}
use Rattle.rb_laws_events.proofs.{DueEvents.{IsDue, every-at, every-back, every-front, every-unflat}, OneEvent.none-stands, PendingLists.StandsAt, Receiving.every-stands, SameHeard.Every, WorldNodes.worlds-known}
use Rattle.rb_world.specs.{Sites.{KeptSite, Stands as StandsFor, number_of as number_of_kept}, declared.scene.Scene.Scene, Steps.{MayHappen, moved}, Worlds.{Awaits, IsNode, Surrounds}}
use Rattle.rb_world_traffic.specs.Arriving.{number_of}
use Rattle.rb_world_traffic.proofs.Says.{number-of}
use Rattle.rb_laws_sweeps.proofs.SentLater.{node-moves}
use Rattle.rb_world.proofs.{Alike.alike, Happening.{Acts, nodes-other, nodes-own}, Passed.passed-same, Lanes.kind-named, Ready.{due-reached, node-there}, InTime.{HasTick, reached-in-time}}
use Rattle.rb_base.specs.declared.event.EventKind.TheVariants as kind

-- Which event it is.

arrival-shown : (p : Waits) (k : EventKind) (time : ℕ) (x : Coming) → Shows p k → IsAtTime time p → coming_with time k ≡ Some x → (n : ℕ) × (p ≡ Arrival n x)
arrival-shown (Tick n) (kind.Tick word wanted) time x shows at e = absurd (let never : ◌≡◌ {A = Option Coming} None (Some x) = e in cc)
arrival-shown (Tick n) (kind.Arrive from bytes) time x shows at e = absurd shows
arrival-shown (Arrival n c) (kind.Tick word wanted) time x shows at e = absurd shows
arrival-shown (Arrival n c) (kind.Arrive from bytes) time x shows at e =
    let y : Coming = record { time = time; from = from; bytes = bytes.items } in
    let same : c ≡ y = ap (λ t. let z : Coming = record { time = t; from = c.from; bytes = c.bytes } in z) at
    ∙ ap (λ f. let z : Coming = record { time = time; from = f; bytes = c.bytes } in z) (sym shows.0)
    ∙ ap (λ b. let z : Coming = record { time = time; from = from; bytes = b } in z) (sym shows.1) in
    (n, ap (Arrival n) (same ∙ same_Some y x e))

-- the due event is the arrival `x` at the node
pub record IsArrivalOf (d : Due) (me : Side) (i : ℕ) (x : Coming) : Type 0 where
  pub place : ℕ
  pub is : d ≡ record { side = me; node = i; pending = Arrival place x }

arrival-of : (sc : Scenario) (kept : Each KeptSite) (scene : Scene) (time : ℕ) (name : NodeName) (event : Event) (w : World) (place : ℕ) (d : Due) (me : Side) (i : ℕ) (x : Coming)
    → MayHappen sc kept scene time name event w place d → coming_with time event.kind ≡ Some x → name ≡ name_of me i → IsArrivalOf d me i x
arrival-of sc kept scene time name event w place d me i x may shown named =
    let k = arrival-shown d.pending event.kind time x may.shows may.time_is shown in
    let same : name_of d.side d.node ≡ name_of me i = sym may.node ∙ named in
    let side : d.side ≡ me = sym (kind-named d.side d.node) ∙ ap kind_of same ∙ kind-named me i in
    let number : d.node ≡ i = sym (number-of d.side d.node) ∙ ap number_of same ∙ number-of me i in
    record {
      place = k.0;
      is = ap (λ s. let x : Due = record { side = s; node = d.node; pending = d.pending } in x) side
          ∙ ap (λ n. let x : Due = record { side = me; node = n; pending = d.pending } in x) number
          ∙ ap (λ p. let x : Due = record { side = me; node = i; pending = p } in x) k.1;
    }

-- The next tick that is not quiet.

-- the node that is kept has the same next tick
next-kept : (sc : Scenario) (me : Side) (i : ℕ) (k : KeptSite) (s : Site) → IsNode sc me i k s → next_of me k.node (bare_core k.node) ≡ next_tick sc.sizes sc.plan me i s.core
next-kept sc me i k s is =
    ap (λ z. busy_among z k.node.seat.plan me k.node.seat.index k.node.seat.state (2 ^ 31 - k.node.had) k.node.had) is.site.sizes
    ∙ ap (λ z. busy_among sc.sizes z me k.node.seat.index k.node.seat.state (2 ^ 31 - k.node.had) k.node.had) is.site.plan
    ∙ ap (λ n. busy_among sc.sizes sc.plan me n k.node.seat.state (2 ^ 31 - k.node.had) k.node.had) is.number
    ∙ ap (λ st. busy_among sc.sizes sc.plan me i st (2 ^ 31 - k.node.had) k.node.had) (sym is.site.core.state)
    ∙ ap (λ had. busy_among sc.sizes sc.plan me i s.core.state (2 ^ 31 - had) had) (sym is.site.core.had)

-- All that an arrival needs.

pub record ArrivalReady (sc : Scenario) (kept : Each KeptSite) (w : World) (d : Due) (me : Side) (i : ℕ) (x : Coming) : Type 0 where
  pub place : ℕ
  pub is : d ≡ record { side = me; node = i; pending = Arrival place x }
  pub s : Site
  pub there : slice_get (of_kind me w.sites) i ≡ Some s
  pub site : KeptSite
  pub kept_there : slice_get (of_kind me kept) i ≡ Some site
  pub within : i < count_of me sc.sizes
  pub node : IsNode sc me i site s
  pub source : x.from < count_of (other me) sc.sizes
  pub runs : s.runs ≡ true
  pub moves : Moves (clock_of sc me i)
  pub has_tick : HasTick sc x.time me i
  pub before : (k : ℕ) → next_tick sc.sizes sc.plan me i s.core ≡ Some k → x.time ≤ time_of (clock_of sc me i) k

times-at : (w : World) (t : ℕ) (me : Side) (i : ℕ) (s : Site) → Every (λ u. t ≤ u) (flat_map times_of (in_order w.sites)) → slice_get (of_kind me w.sites) i ≡ Some s → Every (λ u. t ≤ u) (times_of s)
times-at w t me i s first there = by me there
  where
    nodes : Every (λ s. Every (λ u. t ≤ u) (times_of s)) (w.sites.bius ++ w.sites.rmus)
    nodes = every-unflat (λ u. t ≤ u) times_of (in_order w.sites) first

    by : (me : Side) → slice_get (of_kind me w.sites) i ≡ Some s → Every (λ u. t ≤ u) (times_of s)
    by Biu there = every-at (λ s. Every (λ u. t ≤ u) (times_of s)) w.sites.bius i there (every-front (λ s. Every (λ u. t ≤ u) (times_of s)) w.sites.bius w.sites.rmus nodes)
    by Rmu there = every-at (λ s. Every (λ u. t ≤ u) (times_of s)) w.sites.rmus i there (every-back (λ s. Every (λ u. t ≤ u) (times_of s)) w.sites.bius w.sites.rmus nodes)

tick-time : (t : ℕ) (o : Option Timed) (coming : List Coming) (a : Timed) → o ≡ Some a → Every (λ u. t ≤ u) (option_to_list (option_map (λ (a : Timed). a.time) o) ++ map (λ (c : Coming). c.time) coming) → t ≤ a.time
tick-time t None coming a e all = absurd (let never : ◌≡◌ {A = Option Timed} None (Some a) = e in cc)
tick-time t (Some b) coming a e all = let same : b ≡ a = same_Some b a e in subst (λ (a : Timed). t ≤ a.time) same all.0

pub arrival-ready : (sc : Scenario) (kept : Each KeptSite) (scene : Scene) (time : ℕ) (name : NodeName) (event : Event) (w : World) (place : ℕ) (d : Due) (me : Side) (i : ℕ) (x : Coming)
    → MayHappen sc kept scene time name event w place d → coming_with time event.kind ≡ Some x → name ≡ name_of me i → ArrivalReady sc kept w d me i x
arrival-ready sc kept scene time name event w place d me i x may shown named =
    let k = arrival-of sc kept scene time name event w place d me i x may shown named in
    let due : IsDue w (record { side = me; node = i; pending = Arrival k.place x }) = subst (IsDue w) k.is (due-reached sc w place d may.reached may.found) in
    let s : Site = due.s in
    let inside = node-there sc kept scene time name event w place d me i may named in
    let found = has-item (of_kind me kept) i inside.1 in
    let node : IsNode sc me i found.item s = (may.nodes me).each i found.item s found.is due.there in
    let runs : s.runs ≡ true = is-up s node.awaits k.place due.ready.0 s.runs refl in
    let moves : Moves (clock_of sc me i) = node-moves may.lawful me i inside.0 in
    let at : x.time ≡ due.t = due.ready.1 in
    let tick : HasTick sc due.t me i =
    reached-in-time sc w may.lawful may.reached place (record { side = me; node = i; pending = Arrival k.place x }) (may.found ∙ ap (λ d. Some d) k.is) due runs in
    record {
      place = k.place;
      is = k.is;
      s = s;
      there = due.there;
      site = found.item;
      kept_there = found.is;
      within = inside.0;
      node = node;
      source = every-stands (λ (c : Coming). c.from < count_of (other me) sc.sizes) k.place s.coming due.ready.0
          ((worlds-known sc may.reached.choices).known me i s (subst (λ (v : World). slice_get (of_kind me v.sites) i ≡ Some s) may.reached.is due.there));
      runs = runs;
      moves = moves;
      has_tick = subst (λ t. HasTick sc t me i) (sym at) tick;
      before = λ n next.
          let a : Timed = record { tick = n; time = time_of (clock_of sc me i) n } in
          let pends : s.ahead ≡ Some a = node.awaits.running runs ∙ ap (λ o. option_map (λ k. let t : Timed = record { tick = k; time = time_of (clock_of sc me i) k } in t) o) next in
          let in_time : due.t ≤ time_of (clock_of sc me i) n = tick-time due.t s.ahead s.coming a pends (times-at w due.t me i s due.first due.there) in
          omega (arith, in_time, at);
    }
  where
    is-up : (s : Site) → Awaits sc me i s → (n : ℕ) → StandsAt n x s.coming → (b : Bool) → s.runs ≡ b → s.runs ≡ true
    is-up s awaits n at true e = e
    is-up s awaits n at false e = absurd (none-stands n x s.coming (awaits.nothing e) at)

pub in-time : (sc : Scenario) (kept : Each KeptSite) (w : World) (d : Due) (me : Side) (i : ℕ) (x : Coming) (r : ArrivalReady sc kept w d me i x)
    → ComesBy (passing_end me r.site.node) (clock_of sc me i) x.time
in-time sc kept w d me i x r = by (next_tick sc.sizes sc.plan me i r.s.core) refl
  where
    by : (o : Option ℕ) → next_tick sc.sizes sc.plan me i r.s.core ≡ o → ComesBy (passing_end me r.site.node) (clock_of sc me i) x.time
    by None e =
        let end : passing_end me r.site.node ≡ 2 ^ 31 = ap (λ o. unwrap_or o (2 ^ 31)) (next-kept sc me i r.site r.s r.node ∙ e) in
        let small = r.has_tick.small in
        record { tick = r.has_tick.k; in_time = omega (arith, end, small); come = r.has_tick.later }
    by (Some k) e =
        let end : passing_end me r.site.node ≡ k = ap (λ o. unwrap_or o (2 ^ 31)) (next-kept sc me i r.site r.s r.node ∙ e) in
        record { tick = k; in_time = omega (arith, end); come = r.before k e }

-- What it leaves.

-- after an arrival the node that is kept is the node of the world
arrived-node : (sc : Scenario) (kept : Each KeptSite) (w : World) (d : Due) (me : Side) (i : ℕ) (x : Coming) (new : KeptSite) → (r : ArrivalReady sc kept w d me i x)
    → number_of_kept new ≡ i → StandsFor sc me new (after_arrival sc me i r.place x r.s) → IsNode sc me i new (after_arrival sc me i r.place x r.s)
unfolding after_arrival
arrived-node sc kept w d me i x new r number stands =
    let s : Site = r.s in
    let clock : Timeline = clock_of sc me i in
    let stamp : ℕ = stamp_of clock x.time in
    let passed : Core = pass_to stamp s.core in
    let next : next_tick sc.sizes sc.plan me i (arrive sc.sizes me passed x.from x.bytes) ≡ next_tick sc.sizes sc.plan me i s.core =
    arrive-next sc.sizes sc.plan me i passed x.from x.bytes
    ∙ passed-same sc me i stamp s.core (λ k e. stamp_to clock r.moves x.time k (r.before k e)) in
    record {
      number = number;
      site = stands;
      awaits = record {
        running = λ e. r.node.awaits.running e ∙ ap (λ o. option_map (λ k. let t : Timed = record { tick = k; time = time_of (clock_of sc me i) k } in t) o) (sym next);
        tick_of_none = r.node.awaits.tick_of_none;
        nothing = λ e. absurd (true≢false (sym r.runs ∙ e));
      };
      senders = All-append (λ (c : Coming). c.from < count_of (other me) sc.sizes) s.got (x ∷ []) r.node.senders
          (All-cons (λ (c : Coming). c.from < count_of (other me) sc.sizes) x [] r.source (All-nil (λ (c : Coming). c.from < count_of (other me) sc.sizes)));
    }

pub happens-arrival : (sc : Scenario) (w : World) (d : Due) (me : Side) (i n : ℕ) (x : Coming) (s : Site) → d ≡ record { side = me; node = i; pending = Arrival n x } → slice_get (of_kind me w.sites) i ≡ Some s
    → happens sc w d ≡ moved me i (after_arrival sc me i n x) w
unfolding happens
happens-arrival sc w d me i n x s is there =
    ap (happens sc w) is ∙ ap (λ o. elim o as (λ _. World) [ None ↦ w | Some s ↦ moved me i (after_arrival sc me i n x) w ]) there

around : (sc : Scenario) (scene : Scene) (w : World) (me : Side) (i n : ℕ) (x : Coming) → Surrounds sc scene (moved me i (without_waiting (Arrival n x)) w)
    → Surrounds sc scene (moved me i (after_arrival sc me i n x) w)
unfolding after_arrival
around sc scene w me i n x = alike sc scene w me i (without_waiting (Arrival n x)) (after_arrival sc me i n x) (λ s there. record { coming = refl; ahead = refl; runs = refl; row = refl; begun = refl })

pub arrival-acts : (sc : Scenario) (kept : Each KeptSite) (scene : Scene) (time : ℕ) (name : NodeName) (event : Event) (w : World) (p : ℕ) (d : Due) (me : Side) (i : ℕ) (x : Coming) (new : KeptSite)
    → MayHappen sc kept scene time name event w p d → (r : ArrivalReady sc kept w d me i x) → number_of_kept new ≡ i → StandsFor sc me new (after_arrival sc me i r.place x r.s)
    → Acts sc me (slice_set (of_kind me kept) i new) (of_kind (other me) kept) scene (happens sc w d)
arrival-acts sc kept scene time name event w p d me i x new may r number stands =
    let change : Site → Site = after_arrival sc me i r.place x in
    let left : Surrounds sc scene (moved me i (without_waiting (Arrival r.place x)) w) = subst (λ (y : Due). Surrounds sc scene (moved y.side y.node (without_waiting y.pending) w)) r.is may.surrounds in
    subst (Acts sc me (slice_set (of_kind me kept) i new) (of_kind (other me) kept) scene) (sym (happens-arrival sc w d me i r.place x r.s r.is r.there))
    (record {
      own = nodes-own sc me i change (of_kind me kept) w.sites new r.s r.there (arrived-node sc kept w d me i x new r number stands) (may.nodes me);
      far = nodes-other sc me i change (of_kind (other me) kept) w.sites (may.nodes (other me));
      surrounds = around sc scene w me i r.place x left;
    })
