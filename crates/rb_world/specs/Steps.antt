-- What happens at one node, as it is done in parts.
use Rattle.std.specs.Prelude.{⊤, ℕ, ◌≡◌, ◌+◌, ◌<◌, ◌≤◌, ◌^◌, true, Option, Some, None, IfSome, All, get_or, length, slice_get, Bool, if◌then◌else◌, ◌==◌, ◌&&◌, not}
use Rattle.rb_base.specs.{Nodes.{Side, has, other, set_of}, Nodes.Side.Biu, Sizes.Sizes, declared.values.See.TheVariants.Nothing, declared.event.Event.Event, declared.node.NodeName.NodeName}
use Rattle.rb_rules.specs.{declared.closing.Closed.Closed, declared.message.Message.Message, declared.record.Epoch.Epoch, Book.{Each, Row, of_kind}, Clock.{ComesBy, time_of}, Core.{Act, Core, next_tick, pass_to}, Entries.IsListed, Goodness.{Scenario, clock_of}, Hearing.{Coming, Span}, Lawful.{IsLawful, kind_of}, Links.name_of, Slots.{count_of, first_diagnosis_of}, WorldStep.{Due, Site, World, after_act, after_arrival, at_node, due_of, happens, pass_and_tick, proceed, span_from, wants_in, with_act, with_delivery, with_epoch, with_message, word_of}}
use Rattle.rb_world_agenda.specs.{Agenda.IsAtTime, Holding.{Shows, without_waiting}}
use Rattle.rb_node.specs.{Cores.{IsCore, next_of, passing_end}, declared.act.Want.Want}
use Rattle.rb_world_book.specs.Changing.{with_row}
use Rattle.rb_queue.specs.Waiting.{HasLane, Held, lane_of, spare_of, with_lane, with_tick, without_events, without_place}
use Rattle.rb_world.specs.{Sites.{KeptSite, Stands as StandsFor, number_of}, Tells.row_at, declared.scene.Scene.Scene, Buses.{KeptBus, scenario_of}, Worlds.{AreNodes, IsNode, IsReached, Surrounds}}
use Rattle.rb_world_traffic.specs.Arriving.{number_of as number_in}
use Rattle.rb_node.specs.declared.act.Want.TheVariants as want
use Rattle.rb_base.specs.declared.node.NodeName.TheVariants as node

-- the world in which the site of node i of kind me has changed
abbrev pub moved : Side → ℕ → (Site → Site) → World → World
moved me i change w = record w { sites = at_node me i change w.sites }

-- In a world in which no tick is pending at node i of kind me, its site is this. What is kept of it
-- and around it stands for that, and there is room for its next tick and for what is said to it in
-- a window
pub record IsAt (sc : Scenario) (me : Side) (i : ℕ) (site : KeptSite) (scene : Scene) (w : World) (s : Site) : Type 0 where
  pub lawful : IsLawful sc
  pub listed : IsListed sc
  pub within : i < count_of me sc.sizes
  pub there : slice_get (of_kind me w.sites) i ≡ Some s
  pub number : number_of site ≡ i
  pub stands : StandsFor sc me site s
  pub none_ahead : s.ahead ≡ None
  pub runs : s.runs ≡ true
  pub senders : All (λ (c : Coming). c.from < count_of (other me) sc.sizes) s.got
  pub surrounds : Surrounds sc scene w
  pub spare : length sc.says + 1 ≤ spare_of (lane_of scene.agenda (name_of me i))

-- a window that starts does so within the ticks that a node may have, and is a stage or the tail
pub record SpanFits (span : Span) : Type 0 where
  pub stage : 1 ≤ span.place.stage
  pub first : span.first ≤ 2 ^ 31

-- the numbers of the window that a core enters fit, if it enters one
abbrev pub SpansFit : Scenario → Side → Core → Type 0
SpansFit sc me c = (span : Span) → span_from sc.sizes sc.plan me c.state c.had ≡ Some span → SpanFits span

-- the node may go on
pub record MayProceed (sc : Scenario) (me : Side) (i : ℕ) (site : KeptSite) (scene : Scene) (w : World) (s : Site) : Type 0 where
  pub at : IsAt sc me i site scene w s
  pub spans : SpansFit sc me s.core

-- the site of this node in a world has this core, for which the node stands, and its next tick is
-- not pending yet
pub record IsCoreAt (sc : Scenario) (me : Side) (node : NodeName) (site : KeptSite) (c : Core) (w : World) : Type 0 where
  pub number : number_of site ≡ number_in node
  pub sizes : site.node.seat.sizes ≡ sc.sizes
  pub plan : site.node.seat.plan ≡ sc.plan
  pub core : IsCore site.node c
  pub there : (s : Site) → slice_get (of_kind me w.sites) (number_in node) ≡ Some s → s.core ≡ c
  pub none_ahead : (s : Site) → slice_get (of_kind me w.sites) (number_in node) ≡ Some s → s.ahead ≡ None

-- the node's next tick that is not quiet is pending, if there is one
abbrev pub awaited : Scenario → NodeName → Option ℕ → Scene → Scene
awaited sc node None scene = scene
awaited sc node (Some k) scene =
    record scene { agenda = with_lane node (with_tick (time_of (clock_of sc (kind_of node) (number_in node)) k) (lane_of scene.agenda node)) scene.agenda }

-- the node's next tick is pending now, which is that of each core for which the node stands
abbrev pub AwaitsNext : KeptBus → Side → NodeName → KeptSite → Scene → Scene → Type 0
AwaitsNext bus me node site before after =
    (c : Core) → IsCore site.node c → after ≡ awaited (scenario_of bus) node (next_of me site.node c) before

-- the running nodes without node `i`
abbrev pub without : ℕ → ℕ → ℕ
without running i = set_of (λ k. not (k == i) && has running k)

-- nothing is pending at the node, and it is none of those that run
abbrev pub stopped : NodeName → Scene → Scene
stopped (node.Biu i) scene =
    record scene { agenda = with_lane (node.Biu i) (without_events (lane_of scene.agenda (node.Biu i))) scene.agenda; running_biu = without scene.running_biu i }
stopped (node.Rmu i) scene =
    record scene { agenda = with_lane (node.Rmu i) (without_events (lane_of scene.agenda (node.Rmu i))) scene.agenda; running_rmu = without scene.running_rmu i }

-- nothing has changed in the lanes of the other kind's nodes
abbrev pub OthersStay : Side → Scene → Scene → Type 0
OthersStay me before after = of_kind (other me) after.agenda ≡ of_kind (other me) before.agenda

-- the node has gone on, and only what is pending there and whether it runs has changed around it
pub record Proceeds (sc : Scenario) (me : Side) (i : ℕ) (site : KeptSite) (before after : Scene) (w : World) (s : Site) : Type 0 where
  pub node : IsNode sc me i site (proceed sc me i s)
  pub surrounds : Surrounds sc after (moved me i (proceed sc me i) w)
  pub others : OthersStay me before after

-- a node of which this is kept may go on
abbrev pub CanProceed : KeptBus → Side → KeptSite → Scene → Type 0
CanProceed bus me site scene = (w : World) × (s : Site) × MayProceed (scenario_of bus) me (number_of site) site scene w s

-- a node that may go on does so: `before` was kept of it and `around` of what surrounds the nodes,
-- and now `after` and `scene` are
abbrev pub HasProceeded : KeptBus → Side → KeptSite → KeptSite → Scene → Scene → Type 0
HasProceeded bus me before after around scene =
    (w : World) (s : Site) → MayProceed (scenario_of bus) me (number_of before) before around w s → Proceeds (scenario_of bus) me (number_of before) after around scene w s

-- in every world in which `before` is kept of what surrounds the nodes, `after` is kept of it once
-- `change` has been made
abbrev pub Changes : KeptBus → Scene → Scene → (World → World) → Type 0
Changes bus before after change = (w : World) → Surrounds (scenario_of bus) before w → Surrounds (scenario_of bus) after (change w)

-- Ticks.

-- a word from outside is said in the slot, if there is one
abbrev pub IsWordSlot : Sizes → Option ℕ → Type 0
IsWordSlot sizes slot = IfSome slot (λ n. n < first_diagnosis_of Biu sizes)

-- only a BIU wants anything
abbrev pub CanWant : Scenario → ℕ → Want → Type 0
CanWant sc i want.Nothing = ⊤
CanWant sc i want.Request = i < sc.sizes.bius
CanWant sc i (want.Data slot) = i < sc.sizes.bius

-- a node of kind me saw nothing of nodes that are not there
abbrev pub SeesOnlyNodes : Scenario → Side → Closed → Type 0
SeesOnlyNodes sc me c = (j : ℕ) → count_of (other me) sc.sizes ≤ j → get_or c.sees j Nothing ≡ Nothing

-- a node has closed this window and told this row of it, and what it delivered is at its port
abbrev pub closed_at : Scenario → NodeName → Closed → Row → World → World
closed_at sc node c row w = record (moved (kind_of node) (number_in node) (with_row c.place.stage row) w) { ports = with_delivery sc (number_in node) c.delivered w.ports }

-- if it has closed one
abbrev pub closed_if : Scenario → NodeName → Option Closed → Row → World → World
closed_if sc node None row w = w
closed_if sc node (Some c) row w = closed_at sc node c row w

-- the world after the node closed the window that it shows, or closed none
abbrev pub closed_by : Scenario → Side → NodeName → Bool → KeptSite → World → World
closed_by sc me node closed k w = closed_if sc node (if closed then Some k.node.shown else None)
    (row_at me (number_in node) k.node.seat.state k.times k.node.shown) w

-- the node has closed the window that it shows, or none. `before` was kept around the nodes, and
-- now `after` is
abbrev pub Closes : KeptBus → Side → NodeName → Bool → KeptSite → Scene → Scene → Type 0
Closes bus me node closed site before after = Changes bus before after (closed_by (scenario_of bus) me node closed site)

-- a node has begun a frame, if one begins
abbrev pub begun_at : Scenario → NodeName → Option Epoch → World → World
begun_at sc node epoch w = moved (kind_of node) (number_in node) (with_epoch sc w.ports (kind_of node) (number_in node) epoch) w

-- a node has sent a message at tick k, if it has one to send
abbrev pub sent_by : Scenario → NodeName → ℕ → ℕ → Option Message → World → World
sent_by sc node frame k message w = record w { sites = with_message sc (kind_of node) (number_in node) frame k message w.sites }

-- there is room for one event more at each node of a kind
abbrev pub HasRoomFor : Scenario → Side → Scene → Type 0
HasRoomFor sc me scene = (j : ℕ) → j < count_of me sc.sizes → 1 ≤ spare_of (lane_of scene.agenda (name_of me j))

-- the tick is the node's next one, and there is room for a message at the others
pub record MayTick (sc : Scenario) (me : Side) (i k : ℕ) (site : KeptSite) (scene : Scene) (w : World) (s : Site) : Type 0 where
  pub at : IsAt sc me i site scene w s
  pub next : next_tick sc.sizes sc.plan me i s.core ≡ Some k
  pub later : s.core.had ≤ k
  pub below : k < 2 ^ 31
  pub message : HasRoomFor sc (other me) scene
  pub spans : SpansFit sc me (pass_and_tick sc w.ports me i k s.core).core

-- the tick has been taken, and this is what it gave
pub record Ticks (sc : Scenario) (me : Side) (i k : ℕ) (site : KeptSite) (scene : Scene) (w : World) (s : Site) (x : Act) : Type 0 where
  pub node : IsNode sc me i site (after_act sc w.ports me i x s)
  pub surrounds : Surrounds sc scene (with_act sc w me i k x)

-- the act of the tick
abbrev pub act_at : Scenario → World → Side → ℕ → ℕ → Site → Act
act_at sc w me i k s = pass_and_tick sc w.ports me i k s.core

-- the tick has been taken, and gave its act
abbrev pub HasTicked : Scenario → Side → ℕ → ℕ → KeptSite → Scene → World → Site → Type 0
HasTicked sc me i k site scene w s = Ticks sc me i k site scene w s (act_at sc w me i k s)

-- a node of which this is kept may take tick k
abbrev pub CanTick : KeptBus → Side → ℕ → KeptSite → Scene → Type 0
CanTick bus me k site scene = (w : World) × (s : Site) × MayTick (scenario_of bus) me (number_of site) k site scene w s

-- a node that may take tick k takes it: `before` was kept of it and `around` of what surrounds the
-- nodes, and now `after` and `scene` are
abbrev pub DoesTick : KeptBus → Side → ℕ → KeptSite → KeptSite → Scene → Scene → Type 0
DoesTick bus me k before after around scene =
    (w : World) (s : Site) → MayTick (scenario_of bus) me (number_of before) k before around w s → HasTicked (scenario_of bus) me (number_of before) k after scene w s

-- the word that the node takes with its tick k
abbrev pub word_at : Scenario → World → Side → ℕ → ℕ → Site → ℕ
word_at sc w me i k s = word_of sc w.ports i (wants_in sc me i (pass_to k s.core))

-- the node takes this word with its tick k, in each world in which it may have that tick
abbrev pub IsWordAt : KeptBus → Side → ℕ → ℕ → KeptSite → Scene → Type 0
IsWordAt bus me k word site scene =
    (w : World) (s : Site) → MayTick (scenario_of bus) me (number_of site) k site scene w s → word ≡ word_at (scenario_of bus) w me (number_of site) k s

-- a node of which this is kept may take its next tick
abbrev pub CanTickNext : KeptBus → Side → KeptSite → Scene → Type 0
CanTickNext bus me site scene = (k : ℕ) × (w : World) × (s : Site) × MayTick (scenario_of bus) me (number_of site) k site scene w s

-- a node that may take its next tick takes it
abbrev pub TicksNext : KeptBus → Side → KeptSite → KeptSite → Scene → Scene → Type 0
TicksNext bus me before after around scene = (k : ℕ) → DoesTick bus me k before after around scene

-- Events.

-- The event that is due at place i has been taken out of what is pending: this event, at this time.
-- What is kept of the nodes stands for the world before, and what surrounds them for the world
-- without it
pub record MayHappen (sc : Scenario) (kept : Each KeptSite) (scene : Scene) (time : ℕ) (name : NodeName) (event : Event) (w : World) (i : ℕ) (d : Due) : Type 0 where
  pub lawful : IsLawful sc
  pub listed : IsListed sc
  pub reached : IsReached sc w
  pub found : slice_get (due_of sc w) i ≡ Some d
  pub node : name ≡ name_of d.side d.node
  pub shows : Shows d.pending event.kind
  pub time_is : IsAtTime time d.pending
  pub nodes : (me : Side) → AreNodes sc me (of_kind me kept) (of_kind me w.sites)
  pub surrounds : Surrounds sc scene (moved d.side d.node (without_waiting d.pending) w)

-- the event has happened
pub record Happens (sc : Scenario) (kept : Each KeptSite) (scene : Scene) (w : World) (d : Due) : Type 0 where
  pub nodes : (me : Side) → AreNodes sc me (of_kind me kept) (of_kind me (happens sc w d).sites)
  pub surrounds : Surrounds sc scene (happens sc w d)

-- Arrivals at their places.

-- the arrival at this place of a node's lane, which is this, may come to the node
pub record CanHear (sc : Scenario) (me : Side) (i : ℕ) (name : NodeName) (place : ℕ) (site : KeptSite) (lanes : Each Held) (c : Coming) : Type 0 where
  pub within : i < count_of me sc.sizes
  pub lane : HasLane lanes name
  pub stands : slice_get (lane_of lanes name).arrivals place ≡ Some c
  pub in_time : ComesBy (passing_end me site.node) (clock_of sc me i) c.time
  pub sender : c.from < count_of (other me) site.node.seat.sizes

-- some arrival at this place may come to the node
abbrev pub CanHearAt : KeptBus → Side → NodeName → ℕ → KeptSite → Each Held → Type 0
CanHearAt bus me node place site lanes = (c : Coming) × CanHear (scenario_of bus) me (number_of site) node place site lanes c

-- the lanes without the arrival at this place of the node's
abbrev pub without_arrival : NodeName → ℕ → Each Held → Each Held
without_arrival node place lanes = with_lane node (without_place place (lane_of lanes node)) lanes

-- the arrival at this place has come: `before` was kept of the node, and now `after` is
abbrev pub HasHeard : KeptBus → Side → NodeName → ℕ → KeptSite → KeptSite → Each Held → Type 0
HasHeard bus me node place before after lanes = (c : Coming) (at : ℕ) (s : Site) → CanHear (scenario_of bus) me (number_of before) node place before lanes c
    → StandsFor (scenario_of bus) me before s → StandsFor (scenario_of bus) me after (after_arrival (scenario_of bus) me (number_of before) at c s)
