-- A run that goes from tick to tick: arrivals are left behind until a tick of their node comes, or
-- a record.
use Rattle.std.specs.Prelude.{ℕ, zero, suc, ◌≡◌, ◌+◌, ◌^◌, ◌<◌, ◌≤◌, nat_lt, All, true, false, Option, Some, None, IfSome, List, length, slice_get}
use Rattle.rb_base.specs.{Nodes.{Side, other}, Sizes.Sizes, declared.node.NodeName.NodeName}
use Rattle.rb_rules.specs.{Book.{Each, of_kind}, Clock.time_of, Entries.IsListed, Goodness.{Scenario, clock_of}, Hearing.Coming, Lawful.{IsLawful, kind_of}, Links.name_of, Slots.count_of, WorldStep.{Site, Timed, World, at_node, happens}, WorldStep.Pending.{Tick, Arrival}}
use Rattle.rb_world_book.specs.{Records.record_of, declared.turn.Turn.Turn}
use Rattle.rb_queue.specs.Waiting.{HasLane, Held}
use Rattle.rb_world_agenda.specs.Holding.{HoldsSites, without_waiting}
use Rattle.rb_world.specs.{Sites.{KeptSite, number_of}, declared.scene.Scene.Scene, declared.ties.Ties.TheVariants.First, Buses.{HaveRooms, KeptBus, scenario_of}, Nexts.{IsNext, after_steps}, Worlds.{AreNodes, IsNode, IsReached, Surrounds}, Runs.nodes_of, declared.run.Run.Run}
use Rattle.rb_laws_sweeps.specs.{AheadOf.{GoesOnAhead, IsFirstTick, ahead_of, tick_alone, until_tick}, Laws.NeedsEvent, Sweeping.{first_of, swept}}
use Rattle.rb_world_traffic.specs.Arriving.{number_of as number_in}

-- What comes first at a node.

-- nothing is pending at the node before this time
pub record NoneBefore (until : ℕ) (s : Site) : Type 0 where
  pub coming : All (λ c. until ≤ c.time) s.coming
  pub tick : (a : Timed) → s.ahead ≡ Some a → until ≤ a.time

-- the first thing at the node is this arrival, which comes before this time, and it is taken out of
-- the node's lane
pub record TakesArrival (sizes : Sizes) (me : Side) (i until : ℕ) (lanes : Each Held) (sites : Each Site) (s : Site) (c : Coming) : Type 0 where
  pub place : ℕ
  pub is : first_of s.coming ≡ Some (record { place = place; coming = c })
  pub before : c.time < until
  pub sender : c.from < count_of (other me) sizes
  pub holds : HoldsSites sizes lanes (at_node me i (without_waiting (Arrival place c)) sites)

-- the first thing at the node is its tick, which comes before this time and before all arrivals,
-- and it is taken
pub record TakesTick (sizes : Sizes) (me : Side) (i until : ℕ) (lanes : Each Held) (sites : Each Site) (s : Site) : Type 0 where
  pub tick : Timed
  pub pends : s.ahead ≡ Some tick
  pub before : tick.time < until
  pub later : All (λ c. tick.time + 1 ≤ c.time) s.coming
  pub holds : HoldsSites sizes lanes (at_node me i (without_waiting (Tick tick.tick)) sites)

-- Sweeps.

-- what comes to the node before this time comes by a tick that its clock has, and no later than the
-- tick that is pending
pub record IsReachable (sc : Scenario) (me : Side) (i until : ℕ) (s : Site) : Type 0 where
  pub has_tick : s.runs ≡ true → (k : ℕ) × ((k < 2 ^ 31) × (until ≤ time_of (clock_of sc me i) k + 1))
  pub before : (a : Timed) → s.ahead ≡ Some a → until ≤ a.time + 1

-- the node may be swept up to this time: this is kept of it, and of what is pending
pub record MaySweep (sc : Scenario) (me : Side) (i until : ℕ) (site : KeptSite) (lanes : Each Held) (sites : Each Site) (s : Site) : Type 0 where
  pub lawful : IsLawful sc
  pub listed : IsListed sc
  pub within : i < count_of me sc.sizes
  pub there : slice_get (of_kind me sites) i ≡ Some s
  pub node : IsNode sc me i site s
  pub holds : HoldsSites sc.sizes lanes sites
  pub lane : HasLane lanes (name_of me i)
  pub rooms : HaveRooms sc lanes
  pub reachable : IsReachable sc me i until s

-- the node of which this is kept may be swept
abbrev pub MaySweepAt : Scenario → Side → ℕ → KeptSite → Each Held → Each Site → Site → Type 0
MaySweepAt sc me until site lanes sites s = MaySweep sc me (number_of site) until site lanes sites s

-- the tick that is pending, if it does not come before this time
abbrev pub tick_from : ℕ → Option Timed → Option Timed
tick_from until None = None
tick_from until (Some a) = elim (nat_lt a.time until) [ true ↦ None | false ↦ Some a ]

-- the node swept up to this time, and without a tick before it
abbrev pub cleared : Scenario → Side → ℕ → ℕ → Site → Site
cleared sc me i until s = record (swept sc me i until s) { ahead = tick_from until s.ahead }

-- the node has been swept, and with it a tick before that time was taken
pub record Sweeps (sc : Scenario) (me : Side) (i until : ℕ) (site : KeptSite) (lanes : Each Held) (sites : Each Site) (s : Site) : Type 0 where
  pub node : IsNode sc me i site (swept sc me i until s)
  pub holds : HoldsSites sc.sizes lanes (at_node me i (cleared sc me i until) sites)
  pub lane : HasLane lanes (name_of me i)
  pub rooms : HaveRooms sc lanes

-- Runs.

-- what comes to the node before this time comes by a tick that its clock has, and before the tick
-- that is pending
pub record IsBehind (sc : Scenario) (me : Side) (i until : ℕ) (s : Site) : Type 0 where
  pub has_tick : s.runs ≡ true → (k : ℕ) × ((k < 2 ^ 31) × (until ≤ time_of (clock_of sc me i) k + 1))
  pub before : (a : Timed) → s.ahead ≡ Some a → until ≤ a.time

-- What is kept stands for a world that is behind the run's: at each node arrivals before a time are
-- left, and no others
pub record Trails (sc : Scenario) (kept : Each KeptSite) (scene : Scene) (until : Side → ℕ → ℕ) (w v : World) : Type 0 where
  pub lawful : IsLawful sc
  pub listed : IsListed sc
  pub reached : IsReached sc w
  pub ahead : w ≡ ahead_of sc until v
  pub nodes : (me : Side) → AreNodes sc me (of_kind me kept) (of_kind me v.sites)
  pub surrounds : Surrounds sc scene v
  pub later : (me : Side) (i : ℕ) (a : Timed) → IsFirstTick v me i a → (side : Side) (j : ℕ) → until side j ≤ until_tick me i a.time side j
  pub behind : (side : Side) (j : ℕ) (s : Site) → slice_get (of_kind side v.sites) j ≡ Some s → IsBehind sc side j (until side j) s

-- what is kept stands for a world behind, and this tick is the first there while the next record
-- needs an event
pub record BehindTick (sc : Scenario) (kept : Each KeptSite) (scene : Scene) (until : Side → ℕ → ℕ) (w v : World) (me : Side) (i : ℕ) (a : Timed) : Type 0 where
  pub trails : Trails sc kept scene until w v
  pub event : NeedsEvent sc v
  pub first : IsFirstTick v me i a

-- the world in which the node is swept up to its tick
abbrev pub alone : Scenario → Side → ℕ → Timed → World → World
alone sc me i a v = record v { sites = at_node me i (swept sc me i (a.time + 1)) v.sites }

-- the node once it is swept, without its tick
abbrev pub bare : Scenario → Side → ℕ → Timed → Site → Site
bare sc me i a s = record (swept sc me i (a.time + 1) s) { ahead = None }

-- the node has been swept up to its tick and has taken it: what is kept of the nodes of its kind,
-- and of the others, stands for that
pub record TakesFirst (sc : Scenario) (v : World) (me : Side) (i : ℕ) (a : Timed) (own far : List KeptSite) (scene : Scene) : Type 0 where
  pub own_are : AreNodes sc me own (of_kind me (happens sc (alone sc me i a v) (record { side = me; node = i; pending = Tick a.tick })).sites)
  pub far_are : AreNodes sc (other me) far (of_kind (other me) (happens sc (alone sc me i a v) (record { side = me; node = i; pending = Tick a.tick })).sites)
  pub surrounds : Surrounds sc scene (happens sc (alone sc me i a v) (record { side = me; node = i; pending = Tick a.tick }))

-- the first tick, which is this, has been taken there: what is kept stands for what that makes of
-- the world, before anything is settled
pub record HappensFirst (sc : Scenario) (kept : Each KeptSite) (scene : Scene) (v : World) (me : Side) (i : ℕ) (a : Timed) : Type 0 where
  pub nodes : (side : Side) → AreNodes sc side (of_kind side kept) (of_kind side (happens sc (alone sc me i a v) (record { side = me; node = i; pending = Tick a.tick })).sites)
  pub surrounds : Surrounds sc scene (happens sc (alone sc me i a v) (record { side = me; node = i; pending = Tick a.tick }))

-- the world behind goes on by its first tick, which is this, and the run's world stays ahead of it
pub record GoesToTick (sc : Scenario) (kept : Each KeptSite) (scene : Scene) (until : Side → ℕ → ℕ) (v : World) (name : NodeName) (time : ℕ) (turn : Turn) : Type 0 where
  pub me : Side
  pub i : ℕ
  pub a : Timed
  pub named : name ≡ name_of me i
  pub at : time ≡ a.time
  pub small : time < 18446744073709551615
  pub first : IsFirstTick v me i a
  pub goes : GoesOnAhead sc until v me i a
  pub trails : Trails sc kept scene (until_tick me i a.time) (ahead_of sc (until_tick me i a.time) (tick_alone sc me i a v)) (tick_alone sc me i a v)
  pub turn_is : (tick_alone sc me i a v).turn ≡ record_of turn

-- Catching up.

-- the times up to which nodes are swept, this being the last tick, if there was one
abbrev pub until_from : Option (NodeName × ℕ) → Side → ℕ → ℕ
until_from None side j = 0
until_from (Some t) side j = until_tick (kind_of t.0) (number_in t.0) t.1 side j

-- the first n nodes of kind me swept
unfoldable pub swept_first : Scenario → (Side → ℕ → ℕ) → Side → ℕ → Each Site → Each Site
swept_first sc until me zero sites = sites
swept_first sc until me (suc n) sites = at_node me n (swept sc me n (until me n)) (swept_first sc until me n sites)

-- nodes of kind me may be swept
pub record MayCatchUp (sc : Scenario) (until : Side → ℕ → ℕ) (me : Side) (kept : List KeptSite) (lanes : Each Held) (sites : Each Site) : Type 0 where
  pub lawful : IsLawful sc
  pub listed : IsListed sc
  pub counts : length (of_kind me sites) ≡ count_of me sc.sizes
  pub lanes_are : (side : Side) (i : ℕ) → i < count_of side sc.sizes → HasLane lanes (name_of side i)
  pub nodes : AreNodes sc me kept (of_kind me sites)
  pub holds : HoldsSites sc.sizes lanes sites
  pub rooms : HaveRooms sc lanes
  pub behind : (j : ℕ) (s : Site) → slice_get (of_kind me sites) j ≡ Some s → IsBehind sc me j (until me j) s

-- the first n of them have been swept since
pub record HaveCaughtUp (sc : Scenario) (until : Side → ℕ → ℕ) (me : Side) (n : ℕ) (kept : List KeptSite) (lanes : Each Held) (sites : Each Site) : Type 0 where
  pub many : length kept ≡ count_of me sc.sizes
  pub lanes_are : (side : Side) (i : ℕ) → i < count_of side sc.sizes → HasLane lanes (name_of side i)
  pub swept_are : (i : ℕ) (k : KeptSite) (s : Site) → i < n → slice_get kept i ≡ Some k → slice_get (of_kind me sites) i ≡ Some s → IsNode sc me i k (swept sc me i (until me i) s)
  pub rest : (i : ℕ) (k : KeptSite) (s : Site) → n ≤ i → slice_get kept i ≡ Some k → slice_get (of_kind me sites) i ≡ Some s → IsNode sc me i k s
  pub holds : HoldsSites sc.sizes lanes (swept_first sc until me n sites)
  pub rooms : HaveRooms sc lanes

-- all nodes have been swept: what is kept stands for the run's world
pub record HasCaughtUp (sc : Scenario) (kept : Each KeptSite) (scene : Scene) (w : World) : Type 0 where
  pub nodes : (me : Side) → AreNodes sc me (of_kind me kept) (of_kind me w.sites)
  pub surrounds : Surrounds sc scene w

-- Calls.

-- the node's tick is the first in a world behind and comes at this time
pub record MayTakeFirst (sc : Scenario) (kept : Each KeptSite) (scene : Scene) (until : Side → ℕ → ℕ) (w v : World) (me : Side) (i : ℕ) (a : Timed) (time : ℕ) (own : List KeptSite) : Type 0 where
  pub at : BehindTick sc kept scene until w v me i a
  pub own_is : of_kind me kept ≡ own
  pub time_is : time ≡ a.time

-- the first tick has been taken at this node at this time
pub record TakesFirstAt (sc : Scenario) (kept : Each KeptSite) (scene : Scene) (v : World) (me : Side) (i : ℕ) (a : Timed) (name : NodeName) (time : ℕ) : Type 0 where
  pub named : name ≡ name_of me i
  pub at : time ≡ a.time
  pub small : time < 18446744073709551615
  pub happens : HappensFirst sc kept scene v me i a

-- the first tick of a world behind may be taken
pub record MayTickFirst (sc : Scenario) (kept : Each KeptSite) (scene : Scene) (until : Side → ℕ → ℕ) (w v : World) : Type 0 where
  pub trails : Trails sc kept scene until w v
  pub event : NeedsEvent sc v

-- the run has not ended, and what is kept stands for its world
pub record MayRun (sc : Scenario) (kept : Each KeptSite) (scene : Scene) (w : World) : Type 0 where
  pub trails : Trails sc kept scene (λ side j. 0) w w
  pub going : w.book.ended ≡ false

-- n steps or more gave no record, and what is kept now stands for a world behind
pub record Along (sc : Scenario) (kept : Each KeptSite) (scene : Scene) (until : Side → ℕ → ℕ) (n : ℕ) (w0 : World) (d : ℕ) : Type 0 where
  pub steps : ℕ
  pub many : n ≤ steps
  pub now : World
  pub back : World
  pub is : after_steps sc First steps (record { world = w0; draws = d }) ≡ record { world = now; draws = d }
  pub trails : Trails sc kept scene until now back
  pub going : back.book.ended ≡ false
  pub quiet : (m : ℕ) → 1 ≤ m → m ≤ steps → (after_steps sc First m (record { world = w0; draws = d })).world.turn ≡ None

-- n + 1 steps or more were taken, of which only the last may have given a record: its turn is this
-- one. What is kept now stands for a world behind
pub record Comes (sc : Scenario) (kept : Each KeptSite) (scene : Scene) (until : Side → ℕ → ℕ) (n : ℕ) (w0 : World) (d : ℕ) (turn : Turn) : Type 0 where
  pub others : ℕ
  pub many : n ≤ others
  pub now : World
  pub back : World
  pub is : after_steps sc First (suc others) (record { world = w0; draws = d }) ≡ record { world = now; draws = d }
  pub trails : Trails sc kept scene until now back
  pub turn_is : now.turn ≡ record_of turn
  pub quiet : (m : ℕ) → 1 ≤ m → m ≤ others → (after_steps sc First m (record { world = w0; draws = d })).world.turn ≡ None

-- the run has come to its next record by steps of the first choice, and what is kept stands for its
-- world
pub record ComesToRecord (sc : Scenario) (kept : Each KeptSite) (scene : Scene) (turn : Turn) (w : World) (d : ℕ) : Type 0 where
  pub next : World
  pub is : IsNext sc First (record { world = w; draws = d }) (record { world = next; draws = d })
  pub reached : IsReached sc next
  pub stands : HasCaughtUp sc kept scene next
  pub turn_is : next.turn ≡ record_of turn

-- What calls ask, for some world of the definitions, and what they give, for each.

-- the node of this name, of which this is kept, may be swept up to this time
abbrev pub CanSweep : KeptBus → Side → NodeName → ℕ → KeptSite → Each Held → Type 0
CanSweep bus me node until site lanes =
    (node ≡ name_of me (number_of site)) × (sites : Each Site) × (s : Site) × MaySweepAt (scenario_of bus) me until site lanes sites s

-- a node that may be swept is swept: `before` was kept of it and `held` of what is pending, and now
-- `after` and `lanes` are
abbrev pub HasSwept : KeptBus → Side → ℕ → KeptSite → KeptSite → Each Held → Each Held → Type 0
HasSwept bus me until before after held lanes =
    (sites : Each Site) (s : Site) → MaySweepAt (scenario_of bus) me until before held sites s → Sweeps (scenario_of bus) me (number_of before) until after lanes sites s

-- each node that had a lane has one
abbrev pub KeepsLanes : Each Held → Each Held → Type 0
KeepsLanes held lanes = (node : NodeName) → HasLane held node → HasLane lanes node

-- Catching up with the last tick, which was at this node at this time.

-- a time comes after the last tick, if there was one
abbrev pub HasLater : Option (NodeName × ℕ) → Type 0
HasLater tick = IfSome tick (λ t. t.1 < 18446744073709551615)

-- all nodes of the kind may be swept up to this tick, after which a time comes
abbrev pub CanCatchUpAll : KeptBus → (NodeName × ℕ) → Side → List KeptSite → Each Held → Type 0
CanCatchUpAll bus tick me kept lanes = HasLater (Some tick) × (nodes : Each Site) × MayCatchUp (scenario_of bus) (until_from (Some tick)) me kept lanes nodes

-- all nodes of a kind that may be swept up to this tick are swept
abbrev pub CatchesUpAll : KeptBus → (NodeName × ℕ) → Side → List KeptSite → List KeptSite → Each Held → Each Held → Type 0
CatchesUpAll bus tick me before after held lanes = (nodes : Each Site) → MayCatchUp (scenario_of bus) (until_from (Some tick)) me before held nodes
    → HaveCaughtUp (scenario_of bus) (until_from (Some tick)) me (count_of me bus.sizes) after lanes nodes

-- the run may be behind by what came up to the last tick, if there was one
abbrev pub CanCatchUp : KeptBus → Option (NodeName × ℕ) → Run → Type 0
CanCatchUp bus tick run = (w : World) × (v : World) × Trails (scenario_of bus) (nodes_of run) run.scene (until_from tick) w v

-- the run was behind by what came up to the last tick, if there was one, and is not behind any more
abbrev pub CatchesUp : KeptBus → Option (NodeName × ℕ) → Run → Run → Type 0
CatchesUp bus tick before after = (w v : World) → Trails (scenario_of bus) (nodes_of before) before.scene (until_from tick) w v
    → HasCaughtUp (scenario_of bus) (nodes_of after) after.scene w

-- Ticks.

-- the tick at this time, which is the first of all, is this node's
abbrev pub CanTakeOwn : KeptBus → Side → ℕ → ℕ → List KeptSite → Scene → Type 0
CanTakeOwn bus me i time own scene = (kept : Each KeptSite) × (until : Side → ℕ → ℕ) × (w : World) × (v : World) × (a : Timed)
    × MayTakeFirst (scenario_of bus) kept scene until w v me i a time own

-- the tick of a node that may take it is taken
abbrev pub TakesOwn : KeptBus → Side → ℕ → ℕ → List KeptSite → List KeptSite → Scene → Scene → Type 0
TakesOwn bus me i time before after around scene = (kept : Each KeptSite) (until : Side → ℕ → ℕ) (w v : World) (a : Timed)
    → MayTakeFirst (scenario_of bus) kept around until w v me i a time before → TakesFirst (scenario_of bus) v me i a after (of_kind (other me) kept) scene

-- the next record needs an event, and the first tick of all may be taken
abbrev pub CanTakeFirst : KeptBus → Run → Type 0
CanTakeFirst bus run = (until : Side → ℕ → ℕ) × (w : World) × (v : World) × (me : Side) × (i : ℕ) × (a : Timed)
    × BehindTick (scenario_of bus) (nodes_of run) run.scene until w v me i a

-- a tick that is the first of all is taken, at this node and at this time
abbrev pub TakesFirstOf : KeptBus → Run → Run → (NodeName × ℕ) → Type 0
TakesFirstOf bus before after at = (until : Side → ℕ → ℕ) (w v : World) (me : Side) (i : ℕ) (a : Timed)
    → BehindTick (scenario_of bus) (nodes_of before) before.scene until w v me i a → TakesFirstAt (scenario_of bus) (nodes_of after) after.scene v me i a at.0 at.1

-- the next record needs an event, and the run may go on by its first tick
abbrev pub CanTickFirst : KeptBus → Run → Type 0
CanTickFirst bus run = (until : Side → ℕ → ℕ) × (w : World) × (v : World) × MayTickFirst (scenario_of bus) (nodes_of run) run.scene until w v

-- the first tick is taken, at this node and at this time, and this turn is the result
abbrev pub TicksFirst : KeptBus → Run → Run → (NodeName × ℕ) → Turn → Type 0
TicksFirst bus before after at turn = (until : Side → ℕ → ℕ) (w v : World) → MayTickFirst (scenario_of bus) (nodes_of before) before.scene until w v
    → GoesToTick (scenario_of bus) (nodes_of after) after.scene until v at.0 at.1 turn

-- Runs.

-- the run is under way to its next record, this being the last tick
abbrev pub CanStepOn : KeptBus → Option (NodeName × ℕ) → Run → Type 0
CanStepOn bus tick run = (n : ℕ) × (w : World) × (d : ℕ) × Along (scenario_of bus) (nodes_of run) run.scene (until_from tick) n w d

-- the run goes a step on, and this turn is the result
abbrev pub StepsOn : KeptBus → Option (NodeName × ℕ) → Option (NodeName × ℕ) → Run → Run → Turn → Type 0
StepsOn bus tick next before after turn = (n : ℕ) (w : World) (d : ℕ) → Along (scenario_of bus) (nodes_of before) before.scene (until_from tick) n w d
    → Comes (scenario_of bus) (nodes_of after) after.scene (until_from next) n w d turn

-- a run that has not ended comes to its next record, which is this turn
abbrev pub RunsToRecord : KeptBus → Run → Run → Turn → Type 0
RunsToRecord bus before after turn = (w : World) (d : ℕ) → MayRun (scenario_of bus) (nodes_of before) before.scene w
    → ComesToRecord (scenario_of bus) (nodes_of after) after.scene turn w d
