-- A tick that is due may be taken.
use Rattle.std.proofs.{Common.{◌≡◌, ℕ, zero, suc, ◌+◌, ◌-◌, ◌<◌, ◌≤◌, ◌^◌, Bool, true, false, Some, None, Option, List, [], ◌∷◌, ◌++◌, length, map, slice_get, refl, sym, ap, ◌∙◌, subst, arith, inl, inr, length-append}, lemmas.Bool.cases_lt}
use Rattle.std.specs.Prelude.{option_map, option_to_list}
use Rattle.rb_base.specs.{Nodes.{Side, other}, declared.event.Event.Event, declared.event.EventKind.EventKind, declared.node.NodeName.NodeName}
use Rattle.rb_rules.specs.{Book.{Each, of_kind}, Clock.time_of, Core.{busy_among, next_tick}, Goodness.{Scenario, clock_of}, Hearing.Coming, Lawful.kind_of, Links.name_of, Slots.count_of, WorldStep.{Due, Pending as Waits, Site, Timed, World, due_of, pass_and_tick, times_of}, WorldStep.Pending.{Tick, Arrival}}
use Rattle.rb_rules.proofs.QuietTicks.{IsNext, next-is}
use Rattle.rb_world_agenda.specs.Holding.{Shows, without_waiting}
use Rattle.rb_world_agenda.proofs.Which.{has-item}
use Rattle.rb_laws_events.proofs.{DueEvents.{IsDue, due-is}, WorldNodes.worlds-known, WorldStands.not-other, SameHeard.Every}
use Rattle.rb_laws_events.specs.PendingEvents.{most_pending}
use Rattle.rb_queue.specs.Waiting.{lane_of, spare_of}
use Rattle.rb_world.specs.{Sites.{KeptSite, number_of as number_of_kept}, declared.scene.Scene.Scene, Steps.{MayHappen, MayTick, moved}, Worlds.{Awaits, IsReached, Surrounds}}
use Rattle.rb_world_traffic.specs.Arriving.{number_of}
use Rattle.rb_world_traffic.proofs.Says.{number-of}
use Rattle.rb_world.proofs.{Lanes.{has-lane, kind-named, node-named, spare-at}, Entering.changed-there, Room.{fits-reached, spans-reached}, Sites.{counts-one, from-map, was-there}}
use Rattle.rb_base.specs.declared.event.EventKind.TheVariants as kind

-- an event that is shown as a tick is a tick
tick-shown : (p : Waits) (k : EventKind) (word : ℕ) (wanted : Bool) → Shows p k → k ≡ kind.Tick word wanted → (n : ℕ) × (p ≡ Tick n)
tick-shown (Tick n) k word wanted shows e = (n, refl)
tick-shown (Arrival place c) k word wanted shows e = absurd (subst (Shows (Arrival place c)) e shows)

-- the due event is a tick of the node
pub record IsTickOf (d : Due) (me : Side) (i : ℕ) : Type 0 where
  pub tick : ℕ
  pub is : d ≡ record { side = me; node = i; pending = Tick tick }

pub tick-of : (sc : Scenario) (kept : Each KeptSite) (scene : Scene) (time : ℕ) (name : NodeName) (event : Event) (w : World) (place : ℕ) (d : Due) (me : Side) (i word : ℕ) (wanted : Bool)
    → MayHappen sc kept scene time name event w place d → event.kind ≡ kind.Tick word wanted → name ≡ name_of me i → IsTickOf d me i
tick-of sc kept scene time name event w place d me i word wanted may shown named =
    let k = tick-shown d.pending event.kind word wanted may.shows shown in
    let same : name_of d.side d.node ≡ name_of me i = sym may.node ∙ named in
    let side : d.side ≡ me = sym (kind-named d.side d.node) ∙ ap kind_of same ∙ kind-named me i in
    let number : d.node ≡ i = sym (number-of d.side d.node) ∙ ap number_of same ∙ number-of me i in
    record {
      tick = k.0;
      is = ap (λ s. let x : Due = record { side = s; node = d.node; pending = d.pending } in x) side
          ∙ ap (λ n. let x : Due = record { side = me; node = n; pending = d.pending } in x) number
          ∙ ap (λ p. let x : Due = record { side = me; node = i; pending = p } in x) k.1;
    }

-- the event that is due in a world that some choices lead to
pub due-reached : (sc : Scenario) (w : World) (place : ℕ) (d : Due) → IsReached sc w → slice_get (due_of sc w) place ≡ Some d → IsDue w d
due-reached sc w place d reached found =
    due-is place (record { known = subst (λ (v : World). (me : Side) (i : ℕ) (s : Site) → slice_get (of_kind me v.sites) i ≡ Some s → Every (λ c. c.from < count_of (other me) sc.sizes) s.coming) (sym reached.is) (worlds-known sc reached.choices).known }) found

-- the node of a pending tick runs, and the tick is its next busy one
pub next-due : (sc : Scenario) (me : Side) (i k : ℕ) (s : Site) (a : Timed) → Awaits sc me i s → s.ahead ≡ Some a → a.tick ≡ k → (s.runs ≡ true) × (next_tick sc.sizes sc.plan me i s.core ≡ Some k)
next-due sc me i k s a awaits ahead tick = by s.runs refl
  where
    by : (b : Bool) → s.runs ≡ b → (s.runs ≡ true) × (next_tick sc.sizes sc.plan me i s.core ≡ Some k)
    by true e =
        let found = from-map (λ k. let t : Timed = record { tick = k; time = time_of (clock_of sc me i) k } in t) (next_tick sc.sizes sc.plan me i s.core) a (sym (awaits.running e) ∙ ahead) in
        (e, found.1 ∙ ap (λ n. Some n) (ap (λ (t : Timed). t.tick) found.2 ∙ tick))
    by false e = let never : ◌≡◌ {A = Option Timed} None (Some a) = sym (awaits.tick_of_none e) ∙ ahead in cc

-- without its tick a node has no more pending
without-tick : (most : ℕ) (s : Site) → length (times_of s) ≤ most → length (times_of (record s { ahead = None })) ≤ most
without-tick most s few =
    let ticks : List ℕ = option_to_list (option_map (λ (a : Timed). a.time) s.ahead) in
    let coming : List ℕ = map (λ (c : Coming). c.time) s.coming in
    let all : length (ticks ++ coming) ≡ length ticks + length coming = length-append ticks coming in
    let less : length coming ≤ most = omega (arith, all, few) in less

-- all that a due tick needs to be taken
pub record TickReady (sc : Scenario) (kept : Each KeptSite) (scene : Scene) (w : World) (d : Due) (me : Side) (i : ℕ) : Type 0 where
  pub tick : ℕ
  pub is : d ≡ record { side = me; node = i; pending = Tick tick }
  pub s : Site
  pub there : slice_get (of_kind me w.sites) i ≡ Some s
  pub site : KeptSite
  pub kept_there : slice_get (of_kind me kept) i ≡ Some site
  pub inside : i < length (of_kind me kept)
  pub number : number_of_kept site ≡ i
  pub may : MayTick sc me i tick site scene (moved me i (without_waiting (Tick tick)) w) (record s { ahead = None })

pub tick-ready : (sc : Scenario) (kept : Each KeptSite) (scene : Scene) (time : ℕ) (name : NodeName) (event : Event) (w : World) (place : ℕ) (d : Due) (me : Side) (i word : ℕ) (wanted : Bool)
    → MayHappen sc kept scene time name event w place d → event.kind ≡ kind.Tick word wanted → name ≡ name_of me i → TickReady sc kept scene w d me i
tick-ready sc kept scene time name event w place d me i word wanted may shown named =
    let k = tick-of sc kept scene time name event w place d me i word wanted may shown named in
    let due : IsDue w (record { side = me; node = i; pending = Tick k.tick }) = subst (IsDue w) k.is (due-reached sc w place d may.reached may.found) in
    let s : Site = due.s in
    let w1 : World = moved me i (without_waiting (Tick k.tick)) w in
    let around : Surrounds sc scene w1 = subst (λ (x : Due). Surrounds sc scene (moved x.side x.node (without_waiting x.pending) w)) k.is may.surrounds in
    let counts : length (of_kind me w1.sites) ≡ count_of me sc.sizes = around.counts me in
    let long : length (of_kind me w1.sites) ≡ length (of_kind me w.sites) = counts-one me me i (without_waiting (Tick k.tick)) w.sites in
    let lt = below-all (of_kind me w.sites) i s due.there in
    let many : length (of_kind me kept) ≡ count_of me sc.sizes = (may.nodes me).many in
    let inside : i < length (of_kind me kept) = omega (arith, counts, long, lt, many) in
    let within : i < count_of me sc.sizes = omega (arith, counts, long, lt) in
    let found = has-item (of_kind me kept) i inside in
    let node = (may.nodes me).each i found.item s found.is due.there in
    let a : Timed = due.ready.0 in
    let runs = next-due sc me i k.tick s a node.awaits due.ready.1.0 due.ready.1.1.0 in
    let room = fits-reached sc w may.lawful may.listed may.reached in
    let there : slice_get (of_kind me w1.sites) i ≡ Some (record s { ahead = None }) = changed-there me i (without_waiting (Tick k.tick)) w s due.there in
    let after : IsNext sc.sizes sc.plan me i s.core.state s.core.had k.tick = next-had sc me i k.tick s runs.1 in
    record {
      tick = k.tick;
      is = k.is;
      s = s;
      there = due.there;
      site = found.item;
      kept_there = found.is;
      inside = inside;
      number = node.number;
      may = record {
        at = record {
          lawful = may.lawful;
          listed = may.listed;
          within = within;
          there = there;
          number = node.number;
          stands = record { sizes = node.site.sizes; plan = node.site.plan; core = node.site.core; runs = node.site.runs; together = node.site.together; times = node.site.times };
          none_ahead = refl;
          runs = runs.0;
          senders = node.senders;
          surrounds = around;
          spare = spare-at sc scene.agenda w1.sites me i (record s { ahead = None }) around.rooms (has-lane sc scene w1 (name_of me i) around (node-named sc me i within)) around.lanes there
              (without-tick (most_pending sc me) s (room.now me i s due.there));
        };
        next = runs.1;
        later = after.later;
        below = after.below;
        message = λ j h.
            let far : length (of_kind (other me) w1.sites) ≡ count_of (other me) sc.sizes = around.counts (other me) in
            let z = has-item (of_kind (other me) w1.sites) j (omega (arith, far, h)) in
            let was = was-there me i (without_waiting (Tick k.tick)) w.sites (other me) j z.item z.is in
            let same : was.site ≡ z.item = sym (ap (λ b. elim b as (λ _. Site) [ true ↦ without_waiting (Tick k.tick) was.site | false ↦ was.site ]) (not-other me i j)) ∙ was.is in
            let few : length (times_of z.item) ≤ most_pending sc (other me) = subst (λ (s : Site). length (times_of s) ≤ most_pending sc (other me)) same (room.now (other me) j was.site was.there) in
            let spare = spare-at sc scene.agenda w1.sites (other me) j z.item around.rooms (has-lane sc scene w1 (name_of (other me) j) around (node-named sc (other me) j h)) around.lanes z.is few in
            let one : 1 ≤ spare_of (lane_of scene.agenda (name_of (other me) j)) = omega (arith, spare) in one;
        spans = spans-reached sc w may.lawful may.reached me i k.tick s (pass_and_tick sc w.ports me i k.tick s.core)
            (record { there = due.there; place = place; is_due = may.found ∙ ap (λ (x : Due). Some x) k.is; does = refl });
      };
    }
  where
    below-all : {X : Type 0} (xs : List X) (i : ℕ) (x : X) → slice_get xs i ≡ Some x → i < length xs
    below-all [] i x e = cc
    below-all (y ∷ xs) zero x e = omega arith
    below-all (y ∷ xs) (suc i) x e = let lt = below-all xs i x e in omega (arith, lt)

    next-had : (sc : Scenario) (me : Side) (i k : ℕ) (s : Site) → next_tick sc.sizes sc.plan me i s.core ≡ Some k → IsNext sc.sizes sc.plan me i s.core.state s.core.had k
    next-had sc me i k s e = elim (cases_lt (2 ^ 31) s.core.had) [
      | inl gt ↦
          let none : 2 ^ 31 - s.core.had ≡ 0 = omega (arith, gt) in
          let never : ◌≡◌ {A = Option ℕ} None (Some k) = sym (ap (λ n. busy_among sc.sizes sc.plan me i s.core.state n s.core.had) none) ∙ e in cc
      | inr le ↦ next-is sc.sizes sc.plan me i s.core k le e
    ]

-- the node of a due event is one of the bus, and it is kept
pub node-there : (sc : Scenario) (kept : Each KeptSite) (scene : Scene) (time : ℕ) (name : NodeName) (event : Event) (w : World) (place : ℕ) (d : Due) (me : Side) (i : ℕ)
    → MayHappen sc kept scene time name event w place d → name ≡ name_of me i → (i < count_of me sc.sizes) × (i < length (of_kind me kept))
node-there sc kept scene time name event w place d me i may named =
    let same : name_of d.side d.node ≡ name_of me i = sym may.node ∙ named in
    let side : d.side ≡ me = sym (kind-named d.side d.node) ∙ ap kind_of same ∙ kind-named me i in
    let number : d.node ≡ i = sym (number-of d.side d.node) ∙ ap number_of same ∙ number-of me i in
    let due : IsDue w d = due-reached sc w place d may.reached may.found in
    let there : slice_get (of_kind me w.sites) i ≡ Some due.s = subst (λ n. slice_get (of_kind me w.sites) n ≡ Some due.s) number (subst (λ k. slice_get (of_kind k w.sites) d.node ≡ Some due.s) side due.there) in
    let counts : length (of_kind me (moved d.side d.node (without_waiting d.pending) w).sites) ≡ count_of me sc.sizes = may.surrounds.counts me in
    let long : length (of_kind me (moved d.side d.node (without_waiting d.pending) w).sites) ≡ length (of_kind me w.sites) = counts-one d.side me d.node (without_waiting d.pending) w.sites in
    let many : length (of_kind me kept) ≡ count_of me sc.sizes = (may.nodes me).many in
    let lt = below-there (of_kind me w.sites) i due.s there in
    (omega (arith, counts, long, lt), omega (arith, counts, long, lt, many))
  where
    below-there : {X : Type 0} (xs : List X) (i : ℕ) (x : X) → slice_get xs i ≡ Some x → i < length xs
    below-there [] i x e = cc
    below-there (y ∷ xs) zero x e = omega arith
    below-there (y ∷ xs) (suc i) x e = let lt = below-there xs i x e in omega (arith, lt)
