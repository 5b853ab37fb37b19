-- What a node is given in a run are at most 2^31 ticks, and arrivals of some bytes.
use Rattle.std.proofs.{Common.{◌≡◌, ℕ, zero, suc, ◌+◌, ◌-◌, ◌^◌, ◌<◌, ◌≤◌, ◌==◌, ◌&&◌, max, Bool, true, false, List, [], ◌∷◌, ◌++◌, length, refl, sym, ◌∙◌, ap, subst, arith, Option, Some, None, slice_get}, lemmas.Bool.Decides.nat_tests, lemmas.Option.{same_Some, slice_get_within}}
use Rattle.std.specs.Prelude.{option_and_then, option_map, if◌then◌else◌}
use Rattle.rb_base.specs.{Nodes.{Side, other}, Nodes.Side.{Biu, Rmu}, declared.event.Event.Event, declared.node.NodeName.NodeName}
use Rattle.rb_base.proofs.Plain.{eq-either_way, max-less, option_map-back}
use Rattle.rb_rules.specs.{declared.message.Message.Message, Book.{Each, of_kind}, Clock.stamp_of, Core.{Act, Core, pass_to}, Entries.IsListed, Goodness.{Scenario, clock_of}, Hearing.{Coming, Sending, coming_of}, Lawful.{IsLawful, kind_of}, Links.{name_of, same_node}, Ports.PortState, Slots.{count_of, same_side}, WorldStep.{Due, Pending, Site, Timed, World, after_act, after_arrival, at_node, due_of, event_at, event_of, happens, pass_and_tick, sent_to, settle, take, take_if_due, wants_in, with_act, with_message, with_pending, word_of}, WorldStep.Pending.{Tick, Arrival}, WorldStep.Way.ByAnEvent}
use Rattle.rb_rules.proofs.{QuietTicks.arrive-same, Stamps.{stamp_le, stamp_of-is}, WindowNumbers.get-each}
use Rattle.rb_laws_logs.specs.Given.{first_run, given_in, given_next, if_given, index_of, is_before_end, site_of}
use Rattle.rb_laws_logs.proofs.{NodeRun.go-on-sites, NodeSites.act-core, Recorded.ticks-append, Sized.{AreSized, IsSized}}
use Rattle.rb_log.specs.{Laws.ticks_in, Writing.{HasBytes, ticks_given}}
use Rattle.rb_laws_events.proofs.{DueEvents.{IsDue, IsReady}, EventsHold.{any, ends-hold, nodes_at, ticks-left}, EveryWorld.{AnyWorld, due-going}, OneEvent.all-pend, PendingLists.StandsAt, RoundNodes.item-at, RunsEnd.HasTicksLeft, Takes.tick-had, WorldNodes.{settle-sites, worlds-known}, WorldStands.{AllPend, is_node, node-is}}
use Rattle.rb_world.specs.Worlds.{IsReached}
use Rattle.rb_world.proofs.{Ready.due-reached, InTime.{HasTick, reached-in-time}}
use Rattle.rb_laws_sweeps.proofs.{SentLater.node-moves, Telling.shown-node}
use Rattle.rb_record.specs.Recording.{MayTell}
use Rattle.rb_record.proofs.{Ends.none-given, Comings.{AreSound, IsSound, due-runs, run-sound}, Runs.{run-busy, run-idle, run-reached}}
use Rattle.rb_base.specs.declared.node.NodeName.TheVariants as node

-- How many ticks a node has had.

sent-core : (sc : Scenario) (me side : Side) (j frame : ℕ) (x : Sending) (i : ℕ) (s : Site) → (sent_to sc me j frame x side i s).core ≡ s.core
sent-core sc me side j frame x i s = by (same_side side (other me) && s.runs)
  where
    by : (b : Bool) → (elim b as (λ _. Site) [ true ↦ record s { coming = s.coming ++ coming_of sc side i j frame x ∷ [] } | false ↦ s ]).core ≡ s.core
    by true = refl
    by false = refl

-- before the event the site had `more` ticks fewer
pub record WasBefore (sites : Each Site) (me : Side) (i more : ℕ) (z : Site) : Type 0 where
  pub s : Site
  pub there : slice_get (of_kind me sites) i ≡ Some s
  pub had : z.core.had ≡ s.core.had + more

message-before : (sc : Scenario) (me : Side) (j frame tick : ℕ) (m : Option Message) (sites : Each Site) (side : Side) (i : ℕ) (z : Site)
    → slice_get (of_kind side (with_message sc me j frame tick m sites)) i ≡ Some z → (s : Site) × ((slice_get (of_kind side sites) i ≡ Some s) × (z.core ≡ s.core))
message-before sc me j frame tick None sites side i z e = (z, (e, refl))
message-before sc me j frame tick (Some m) sites side i z e =
    let f : Side → ℕ → Site → Site = sent_to sc me j frame (record { tick = tick; message = m }) in
    let was = option_map-back (f side i) (slice_get (of_kind side sites) i) z (sym (get-each f sites side i) ∙ e) in
    (was.0, (was.1.0, sym (ap (λ (s : Site). s.core) was.1.1) ∙ sent-core sc me side j frame (record { tick = tick; message = m }) i was.0))

at-before : (me : Side) (j many : ℕ) (change : Site → Site) (sites : Each Site) (s : Site) (side : Side) (i : ℕ) (z : Site) → slice_get (of_kind me sites) j ≡ Some s
    → (change s).core.had ≡ s.core.had + many → slice_get (of_kind side (at_node me j change sites)) i ≡ Some z
    → WasBefore sites side i (elim (is_node me j side i) as (λ _. ℕ) [ true ↦ many | false ↦ 0 ]) z
at-before me j many change sites s side i z there had e =
    let f : Side → ℕ → Site → Site = λ side n s. elim (same_side side me && (n == j)) as (λ _. Site) [ true ↦ change s | false ↦ s ] in
    let was = option_map-back (f side i) (slice_get (of_kind side sites) i) z (sym (get-each f sites side i) ∙ e) in
    by was.0 was.1.0 (is_node me j side i) refl was.1.1
  where
    by : (x : Site) → slice_get (of_kind side sites) i ≡ Some x → (b : Bool) → is_node me j side i ≡ b → (elim b as (λ _. Site) [ true ↦ change x | false ↦ x ]) ≡ z
        → WasBefore sites side i (elim b as (λ _. ℕ) [ true ↦ many | false ↦ 0 ]) z
    by x at true h same =
        let its = node-is me side j i h in
        let one : x ≡ s = same_Some x s (sym (ap (λ n. slice_get (of_kind me sites) n) (sym its.1) ∙ ap (λ k. slice_get (of_kind k sites) i) (sym its.0) ∙ at) ∙ there) in
        record { s = x; there = at; had = sym (ap (λ (y : Site). y.core.had) same) ∙ subst (λ y. (change y).core.had ≡ y.core.had + many) (sym one) had }
    by x at false h same = record { s = x; there = at; had = sym (ap (λ (y : Site). y.core.had) same) ∙ (let none : x.core.had ≡ x.core.had + 0 = omega arith in none) }

-- An event of a run.

-- `e` is the event that is due first in the world, at the site of its node
pub record IsEvent (sc : Scenario) (w : World) (e : Event) : Type 0 where
  pub d : Due
  pub found : slice_get (due_of sc w) 0 ≡ Some d
  pub s : Site
  pub there : slice_get (of_kind d.side w.sites) d.node ≡ Some s
  pub is : e ≡ event_of sc w.ports d.side d.node s.core d.pending

pub is-event : (sc : Scenario) (w : World) (e : Event) → event_at sc w 0 ≡ Some e → IsEvent sc w e
unfolding event_at
is-event sc w e = by (slice_get (due_of sc w) 0) refl
  where
    at : (d : Due) → slice_get (due_of sc w) 0 ≡ Some d → (o : Option Site) → slice_get (of_kind d.side w.sites) d.node ≡ o
        → option_map (λ (s : Site). event_of sc w.ports d.side d.node s.core d.pending) o ≡ Some e → IsEvent sc w e
    at d found None there same = absurd (cc)
    at d found (Some s) there same = record { d = d; found = found; s = s; there = there; is = sym (same_Some (event_of sc w.ports d.side d.node s.core d.pending) e same) }

    by : (o : Option Due) → slice_get (due_of sc w) 0 ≡ o
        → option_and_then (λ (d : Due). option_map (λ (s : Site). event_of sc w.ports d.side d.node s.core d.pending) (slice_get (of_kind d.side w.sites) d.node)) o ≡ Some e → IsEvent sc w e
    by None found same = absurd (cc)
    by (Some d) found same = at d found (slice_get (of_kind d.side w.sites) d.node) refl same

-- if something is due, there is an event
pub has-event : (sc : Scenario) (w : World) → IsReached sc w → 1 ≤ length (due_of sc w) → (e : Event) × (event_at sc w 0 ≡ Some e)
unfolding event_at
has-event sc w reached some =
    let lt : 0 < length (due_of sc w) = omega (arith, some) in
    let d = item-at (due_of sc w) 0 lt in
    let due : IsDue w d.0 = due-reached sc w 0 d.0 reached d.1 in (
      event_of sc w.ports d.0.side d.0.node due.s.core d.0.pending,
      ap (option_and_then (λ (d : Due). option_map (λ (s : Site). event_of sc w.ports d.side d.node s.core d.pending) (slice_get (of_kind d.side w.sites) d.node))) d.1
          ∙ ap (option_map (λ (s : Site). event_of sc w.ports d.0.side d.0.node s.core d.0.pending)) due.there,
    )

-- The node of an event.

kind-named : (me : Side) (i : ℕ) (name : NodeName) → same_node (name_of me i) name ≡ true → (me ≡ kind_of name) × (i ≡ index_of name)
kind-named Biu i (node.Biu j) h = (refl, let same : i ≡ j = grind (arith, nat_tests) in same)
kind-named Biu i (node.Rmu j) h = absurd (cc)
kind-named Rmu i (node.Biu j) h = absurd (cc)
kind-named Rmu i (node.Rmu j) h = (refl, let same : i ≡ j = grind (arith, nat_tests) in same)

-- the event is at the named node
pub at-node : (sc : Scenario) (w : World) (e : Event) (name : NodeName) → (is : IsEvent sc w e) → same_node e.node name ≡ true
    → (is.d.side ≡ kind_of name) × (is.d.node ≡ index_of name)
at-node sc w e name is same =
    kind-named is.d.side is.d.node name
    (ap (λ n. same_node n name) (sym (ap (λ (e : Event). e.node) is.is ∙ shown-node sc w.ports is.d.side is.d.node is.s.core is.d.pending)) ∙ same)

pub at-site : (sc : Scenario) (w : World) (e : Event) (name : NodeName) → (is : IsEvent sc w e) → same_node e.node name ≡ true → site_of name w ≡ Some is.s
at-site sc w e name is same =
    let at = at-node sc w e name is same in
    ap (λ i. slice_get (of_kind (kind_of name) w.sites) i) (sym at.1) ∙ ap (λ k. slice_get (of_kind k w.sites) is.d.node) (sym at.0) ∙ is.there

-- The ticks that it gives.

-- a tick that is due is one that its node may have
pub tick-fits : (sc : Scenario) (w : World) (d : Due) → IsLawful sc → IsReached sc w → slice_get (due_of sc w) 0 ≡ Some d → (due : IsDue w d) → (a : Timed) → due.s.ahead ≡ Some a → a.time ≡ due.t
    → (due.s.core.had ≤ a.tick) × (a.tick < 2 ^ 31)
tick-fits sc w d lawful reached found due a ahead time =
    let going = due-going sc w 0 found in
    let fits : HasTicksLeft sc w = ticks-left lawful (subst (AnyWorld sc (nodes_at sc)) (sym reached.is) (any lawful reached.choices)) going.0 in
    fits.left d.side d.node due.s a due.there ahead (subst (λ t. AllPend t w.sites) (sym time) (all-pend w due.t due.first))

-- an arrival that is due is stamped with one
pub arrival-fits : (sc : Scenario) (w : World) (d : Due) → IsLawful sc → IsReached sc w → slice_get (due_of sc w) 0 ≡ Some d → (due : IsDue w d) → due.s.runs ≡ true → (time : ℕ) → time ≡ due.t
    → stamp_of (clock_of sc d.side d.node) time < 2 ^ 31
arrival-fits sc w d lawful reached found due runs time is =
    let h : HasTick sc due.t d.side d.node = reached-in-time sc w lawful reached 0 d found due runs in
    let counts : length (of_kind d.side w.sites) ≡ count_of d.side sc.sizes =
    subst (λ (x : World). length (of_kind d.side x.sites) ≡ count_of d.side sc.sizes) (sym reached.is) ((worlds-known sc reached.choices).counts d.side) in
    let lt : d.node < length (of_kind d.side w.sites) = slice_get_within (of_kind d.side w.sites) d.node due.s due.there in
    let moves = node-moves lawful d.side d.node (omega (arith, counts, lt)) in
    let later = h.later in
    let small = h.small in
    let le = stamp_le (clock_of sc d.side d.node) time (stamp_of (clock_of sc d.side d.node) time) h.k (stamp_of-is (clock_of sc d.side d.node) moves time) (omega (arith, later, is)) in
    omega (arith, le, small)

room : (sc : Scenario) (w : World) → IsLawful sc → IsListed sc → IsReached sc w → (me : Side) (i : ℕ) (s : Site) → slice_get (of_kind me w.sites) i ≡ Some s → s.runs ≡ true → s.core.had < 2 ^ 31
room sc w lawful listed reached =
    subst (λ (x : World). (me : Side) (i : ℕ) (s : Site) → slice_get (of_kind me x.sites) i ≡ Some s → s.runs ≡ true → s.core.had < 2 ^ 31) (sym reached.is)
    ((ends-hold sc lawful listed).room reached.choices)

fits-by : (sc : Scenario) (ports : List PortState) (me : Side) (i t : ℕ) (s : Site) (p : Pending) → IsReady t s p → s.core.had < 2 ^ 31
    → ((a : Timed) → s.ahead ≡ Some a → a.time ≡ t → (s.core.had ≤ a.tick) × (a.tick < 2 ^ 31)) → ((time : ℕ) → time ≡ t → stamp_of (clock_of sc me i) time < 2 ^ 31)
    → s.core.had + ticks_given (event_of sc ports me i s.core p) ≤ 2 ^ 31
fits-by sc ports me i t s (Tick k) ready small tick arrival =
    let fits = tick ready.0 ready.1.0 ready.1.1.1.0 in
    let later = fits.0 in
    let below = fits.1 in
    let is : ready.0.tick ≡ k = ready.1.1.0 in
    omega (arith, later, below, is)
fits-by sc ports me i t s (Arrival place c) ready small tick arrival = let below = arrival c.time ready.1 in omega (arith, small, below)

-- with the ticks of the event its node has had at most 2^31 ticks
pub event-fits : (sc : Scenario) (w : World) (e : Event) → IsLawful sc → IsListed sc → IsReached sc w → AreSound w.sites → (is : IsEvent sc w e) → is.s.core.had + ticks_given e ≤ 2 ^ 31
event-fits sc w e lawful listed reached sound is =
    let due : IsDue w is.d = due-reached sc w 0 is.d reached is.found in
    let same : due.s ≡ is.s = same_Some due.s is.s (sym due.there ∙ is.there) in
    let runs : due.s.runs ≡ true = due-runs due.t due.s is.d.pending due.ready (sound is.d.side is.d.node due.s due.there).idle in
    let small : due.s.core.had < 2 ^ 31 = room sc w lawful listed reached is.d.side is.d.node due.s due.there runs in
    let all : due.s.core.had + ticks_given (event_of sc w.ports is.d.side is.d.node due.s.core is.d.pending) ≤ 2 ^ 31 =
    fits-by sc w.ports is.d.side is.d.node due.t due.s is.d.pending due.ready small
    (λ a ahead time. tick-fits sc w is.d lawful reached is.found due a ahead time) (λ time at. arrival-fits sc w is.d lawful reached is.found due runs time at) in
    subst (λ e. is.s.core.had + ticks_given e ≤ 2 ^ 31) (sym is.is)
    (subst (λ (s : Site). s.core.had + ticks_given (event_of sc w.ports is.d.side is.d.node s.core is.d.pending) ≤ 2 ^ 31) same all)

-- what arrives has bytes
pub sized-at : (n : ℕ) (c : Coming) (cs : List Coming) → StandsAt n c cs → AreSized cs → IsSized c.bytes
sized-at n c [] at is = absurd at
sized-at zero c (x ∷ xs) at is = subst (λ (c : Coming). IsSized c.bytes) at is.0
sized-at (suc n) c (x ∷ xs) at is = sized-at n c xs at is.1

bytes-by : (sc : Scenario) (ports : List PortState) (me : Side) (i t : ℕ) (s : Site) (p : Pending) → IsReady t s p → IsSound s → HasBytes (event_of sc ports me i s.core p).kind
bytes-by sc ports me i t s (Tick k) ready is = tt
bytes-by sc ports me i t s (Arrival place c) ready is = (sized-at place c s.coming ready.0 is.sized).0

pub event-bytes : (sc : Scenario) (w : World) (e : Event) → IsReached sc w → AreSound w.sites → IsEvent sc w e → HasBytes e.kind
event-bytes sc w e reached sound is =
    let due : IsDue w is.d = due-reached sc w 0 is.d reached is.found in
    let same : due.s ≡ is.s = same_Some due.s is.s (sym due.there ∙ is.there) in
    subst (λ (e : Event). HasBytes e.kind) (sym is.is)
    (subst (λ (s : Site). HasBytes (event_of sc w.ports is.d.side is.d.node s.core is.d.pending).kind) same
    (bytes-by sc w.ports is.d.side is.d.node due.t due.s is.d.pending due.ready (sound is.d.side is.d.node due.s due.there)))

-- What nodes have had afterwards.

tick-more : (had k : ℕ) → had ≤ k → max had k + 1 ≡ had + (k - had + 1)
tick-more had k le = omega (arith, le)

arrival-more : (had stamp : ℕ) → max had stamp ≡ had + (stamp - had + 0)
arrival-more had stamp = omega arith

tick-had-after : (sc : Scenario) (ports : List PortState) (me : Side) (i k : ℕ) (c : Core) → c.had < 2 ^ 31 → k < 2 ^ 31 → (pass_and_tick sc ports me i k c).core.had ≡ max c.had k + 1
unfolding pass_and_tick
tick-had-after sc ports me i k c small below =
    let ready : Core = pass_to k c in
    tick-had sc.sizes sc.plan me i ready (word_of sc ports i (wants_in sc me i ready)) (max-less c.had k (2 ^ 31) small below)

arrival-had-after : (sc : Scenario) (me : Side) (i place : ℕ) (c : Coming) (s : Site) → (after_arrival sc me i place c s).core.had ≡ max s.core.had (stamp_of (clock_of sc me i) c.time)
unfolding after_arrival
arrival-had-after sc me i place c s = (arrive-same sc.sizes me (pass_to (stamp_of (clock_of sc me i) c.time) s.core) c.from c.bytes).1

pending-before : (sc : Scenario) (w : World) (me : Side) (j t : ℕ) (s : Site) (p : Pending) → IsReady t s p → slice_get (of_kind me w.sites) j ≡ Some s → s.core.had < 2 ^ 31
    → ((a : Timed) → s.ahead ≡ Some a → a.time ≡ t → (s.core.had ≤ a.tick) × (a.tick < 2 ^ 31))
    → (side : Side) (i : ℕ) (z : Site) → slice_get (of_kind side (with_pending sc w me j s p).sites) i ≡ Some z
    → WasBefore w.sites side i (elim (is_node me j side i) as (λ _. ℕ) [ true ↦ ticks_given (event_of sc w.ports me j s.core p) | false ↦ 0 ]) z
unfolding with_act
pending-before sc w me j t s (Tick k) ready there small tick side i z e =
    let x : Act = pass_and_tick sc w.ports me j k s.core in
    let was = message-before sc me j x.core.state.frame k x.message (at_node me j (after_act sc w.ports me j x) w.sites) side i z e in
    let fits = tick ready.0 ready.1.0 ready.1.1.1.0 in
    let is : ready.0.tick ≡ k = ready.1.1.0 in
    let later : s.core.had ≤ k = subst (λ n. s.core.had ≤ n) is fits.0 in
    let below : k < 2 ^ 31 = subst (λ n. n < 2 ^ 31) is fits.1 in
    let had : (after_act sc w.ports me j x s).core.had ≡ s.core.had + (k - s.core.had + 1) =
    ap (λ (c : Core). c.had) (act-core sc w.ports me j x s) ∙ tick-had-after sc w.ports me j k s.core small below ∙ tick-more s.core.had k later in
    let b = at-before me j (k - s.core.had + 1) (after_act sc w.ports me j x) w.sites s side i was.0 there had was.1.0 in
    record { s = b.s; there = b.there; had = ap (λ (c : Core). c.had) was.1.1 ∙ b.had }
pending-before sc w me j t s (Arrival place c) ready there small tick side i z e =
    at-before me j (stamp_of (clock_of sc me j) c.time - s.core.had + 0) (after_arrival sc me j place c) w.sites s side i z there
    (arrival-had-after sc me j place c s ∙ arrival-more s.core.had (stamp_of (clock_of sc me j) c.time)) e

-- the ticks that an event gives to a node
abbrev pub ticks_to : NodeName → Event → ℕ
ticks_to name e = elim (same_node e.node name) [ true ↦ ticks_given e | false ↦ 0 ]

same-is : (me : Side) (j : ℕ) (name : NodeName) → is_node me j (kind_of name) (index_of name) ≡ same_node (name_of me j) name
same-is Biu j (node.Biu i) = eq-either_way i j
same-is Biu j (node.Rmu i) = refl
same-is Rmu j (node.Biu i) = refl
same-is Rmu j (node.Rmu i) = eq-either_way i j

-- a step with an event adds its ticks at the named node
pub taken-before : (sc : Scenario) (w : World) (e : Event) (name : NodeName) (z : Site) → IsLawful sc → IsListed sc → IsReached sc w → AreSound w.sites → IsEvent sc w e
    → site_of name (take sc w 0) ≡ Some z → (s : Site) × ((site_of name w ≡ Some s) × (z.core.had ≡ s.core.had + ticks_to name e))
unfolding take happens
taken-before sc w e name z lawful listed reached sound is at =
    let d : Due = is.d in
    let due : IsDue w d = due-reached sc w 0 d reached is.found in
    let runs : due.s.runs ≡ true = due-runs due.t due.s d.pending due.ready (sound d.side d.node due.s due.there).idle in
    let small : due.s.core.had < 2 ^ 31 = room sc w lawful listed reached d.side d.node due.s due.there runs in
    let x : World = with_pending sc w d.side d.node due.s d.pending in
    let taken : take sc w 0 ≡ settle sc ByAnEvent 2 x =
    ap (take_if_due sc w) is.found ∙ ap (λ o. settle sc ByAnEvent 2 (elim o as (λ _. World) [ None ↦ w | Some s ↦ with_pending sc w d.side d.node s d.pending ])) due.there in
    let sites : (take sc w 0).sites ≡ x.sites = ap (λ (y : World). y.sites) taken ∙ settle-sites sc ByAnEvent 2 x in
    let b = pending-before sc w d.side d.node due.t due.s d.pending due.ready due.there small
    (λ a ahead time. tick-fits sc w d lawful reached is.found due a ahead time) (kind_of name) (index_of name) z
    (ap (λ (ss : Each Site). slice_get (of_kind (kind_of name) ss) (index_of name)) (sym sites) ∙ at) in
    let same : due.s ≡ is.s = same_Some due.s is.s (sym due.there ∙ is.there) in
    let its : e ≡ event_of sc w.ports d.side d.node due.s.core d.pending = is.is ∙ ap (λ (s : Site). event_of sc w.ports d.side d.node s.core d.pending) (sym same) in
    let test : is_node d.side d.node (kind_of name) (index_of name) ≡ same_node e.node name =
    same-is d.side d.node name ∙ ap (λ n. same_node n name) (sym (ap (λ (e : Event). e.node) its ∙ shown-node sc w.ports d.side d.node due.s.core d.pending)) in (
      b.s,
      (
        b.there,
        b.had ∙ ap (λ m. b.s.core.had + m) (ap (λ t. elim t as (λ _. ℕ) [ true ↦ ticks_given (event_of sc w.ports d.side d.node due.s.core d.pending) | false ↦ 0 ]) test
            ∙ ap (λ (e2 : Event). elim (same_node e.node name) as (λ _. ℕ) [ true ↦ ticks_given e2 | false ↦ 0 ]) (sym its)),
      ),
    )

-- What is recorded.

-- the node is given at most the ticks of the event
few-given : (sc : Scenario) (name : NodeName) (w : World) (e : Event) → ticks_in (if_given sc name w (Some e)) ≤ ticks_to name e
few-given sc name w e = by (same_node e.node name) (is_before_end sc (site_of name w))
  where
    by : (a b : Bool) → ticks_in (if a && b then e ∷ [] else []) ≤ (elim a as (λ _. ℕ) [ true ↦ ticks_given e | false ↦ 0 ])
    by true true = omega arith
    by true false = omega arith
    by false b = omega arith

pub next-is : (sc : Scenario) (name : NodeName) (w : World) (o : Option Event) → event_at sc w 0 ≡ o → given_next sc name w ≡ if_given sc name w o
unfolding given_next
next-is sc name w o e = ap (if_given sc name w) e

-- the node has had all ticks that were recorded
pub ticks-had : (sc : Scenario) (name : NodeName) (n : ℕ) (z : Site) → IsLawful sc → IsListed sc → site_of name (first_run sc n) ≡ Some z → ticks_in (given_in sc name n) ≤ z.core.had
ticks-had sc name zero z lawful listed at = omega arith
ticks-had sc name (suc n) z lawful listed at = by (ticks-had sc name n) (length (due_of sc (first_run sc n))) refl
  where
    w : World
    w = first_run sc n

    -- no event is due
    idle : ((x : Site) → IsLawful sc → IsListed sc → site_of name w ≡ Some x → ticks_in (given_in sc name n) ≤ x.core.had) → length (due_of sc w) ≡ 0 → ticks_in (given_in sc name (suc n)) ≤ z.core.had
    idle had none =
        let sites : (first_run sc (suc n)).sites ≡ w.sites = ap (λ (x : World). x.sites) (run-idle sc w none) ∙ go-on-sites sc w in
        let before = had z lawful listed (ap (λ (ss : Each Site). slice_get (of_kind (kind_of name) ss) (index_of name)) (sym sites) ∙ at) in
        let sum = ticks-append (given_in sc name n) (given_next sc name w) in
        let nothing : ticks_in (given_next sc name w) ≡ 0 = ap ticks_in (none-given sc name w none) in
        omega (arith, before, sum, nothing)

    one : ((x : Site) → IsLawful sc → IsListed sc → site_of name w ≡ Some x → ticks_in (given_in sc name n) ≤ x.core.had) → (e : Event) → event_at sc w 0 ≡ Some e → 1 ≤ length (due_of sc w)
        → ticks_in (given_in sc name (suc n)) ≤ z.core.had
    one had e found some =
        let is = is-event sc w e found in
        let was = taken-before sc w e name z lawful listed (run-reached sc n) (run-sound sc n lawful listed) is (ap (site_of name) (sym (run-busy sc w some)) ∙ at) in
        let before = had was.0 lawful listed was.1.0 in
        let after : z.core.had ≡ was.0.core.had + ticks_to name e = was.1.1 in
        let few : ticks_in (given_next sc name w) ≤ ticks_to name e = subst (λ es. ticks_in es ≤ ticks_to name e) (sym (next-is sc name w (Some e) found)) (few-given sc name w e) in
        let sum = ticks-append (given_in sc name n) (given_next sc name w) in
        omega (arith, before, after, few, sum)

    by : ((x : Site) → IsLawful sc → IsListed sc → site_of name w ≡ Some x → ticks_in (given_in sc name n) ≤ x.core.had) → (k : ℕ) → length (due_of sc w) ≡ k
        → ticks_in (given_in sc name (suc n)) ≤ z.core.had
    by had zero e = idle had e
    by had (suc k) e =
        let some : 1 ≤ length (due_of sc w) = omega (arith, e) in
        let found = has-event sc w (run-reached sc n) some in
        one had found.0 found.1 some

-- The writer may be told what comes next.

pub may-tell : (sc : Scenario) (name : NodeName) (n ticks : ℕ) → IsLawful sc → IsListed sc → ticks ≡ ticks_in (given_in sc name n) → MayTell ticks (given_next sc name (first_run sc n))
may-tell sc name n ticks lawful listed is = by (event_at sc w 0) refl
  where
    w : World
    w = first_run sc n

    at : (e : Event) → event_at sc w 0 ≡ Some e → (a b : Bool) → same_node e.node name ≡ a → MayTell ticks (if a && b then e ∷ [] else [])
    at e found true true same =
        let its = is-event sc w e found in
        let sound = run-sound sc n lawful listed in
        let before = ticks-had sc name n its.s lawful listed (at-site sc w e name its same) in
        let fits = event-fits sc w e lawful listed (run-reached sc n) sound its in
        ((omega (arith, is, before, fits), event-bytes sc w e (run-reached sc n) sound its), tt)
    at e found true false same = tt
    at e found false b same = tt

    by : (o : Option Event) → event_at sc w 0 ≡ o → MayTell ticks (given_next sc name w)
    by None e = subst (MayTell ticks) (sym (next-is sc name w None e)) tt
    by (Some e) found = subst (MayTell ticks) (sym (next-is sc name w (Some e) found)) (at e found (same_node e.node name) (is_before_end sc (site_of name w)) refl)
