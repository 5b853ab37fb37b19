-- Which world of the definitions is stood for.
use Rattle.std.specs.Prelude.{ℕ, ◌≡◌, ◌<◌, ◌||◌, true, false, Option, Some, None, option_map, All, List, [], length, slice_get}
use Rattle.rb_base.specs.{Nodes.{Side, has, other}, Nodes.Side.{Biu, Rmu}}
use Rattle.rb_rules.specs.{Book.{Each, Record, of_kind}, Clock.time_of, Core.next_tick, Entries.IsListed, Goodness.{Scenario, clock_of}, Lawful.IsLawful, Ports.PortState, Slots.count_of, WorldStep.{Choice, Site, World, needs_no_event, world_after}}
use Rattle.rb_world_agenda.specs.{Agenda.how_many, Holding.HoldsSites}
use Rattle.rb_world_book.specs.{Holding.Holds, Settling.is_free}
use Rattle.rb_port.specs.Keeping.{HoldsPort, KeptPort}
use Rattle.rb_world.specs.{Sites.{KeptSite, Stands as StandsFor, number_of}, declared.last.Last.Last, declared.scene.Scene.Scene, declared.ties.Seeding.Seeding, Buses.{HaveRooms, listed_by}}
use Rattle.rb_world_traffic.specs.Arriving.{AreRunning}
use Rattle.rb_world.specs.declared.last.Last.TheVariants as last

-- what is kept of a run: the bus, whose faulty nodes do what its entries list, the nodes, what
-- surrounds them, the draws among events that are due, and which turn came last
pub record KeptWorld : Type 0 where
  pub bus : Scenario
  pub lists : listed_by bus ≡ bus.behavior
  pub nodes : Each KeptSite
  pub scene : Scene
  pub seeding : Seeding
  pub last : Last

-- Nodes.

-- The next tick that is not quiet is pending at a node that runs, and nothing at one that does not
pub record Awaits (sc : Scenario) (me : Side) (i : ℕ) (s : Site) : Type 0 where
  pub running : s.runs ≡ true
      → s.ahead ≡ option_map (λ k. record { tick = k; time = time_of (clock_of sc me i) k }) (next_tick sc.sizes sc.plan me i s.core)
  pub tick_of_none : s.runs ≡ false → s.ahead ≡ None
  pub nothing : s.runs ≡ false → s.coming ≡ []

-- k is kept of node i of kind me, and since its last close only nodes of the bus have said anything
-- to it
pub record IsNode (sc : Scenario) (me : Side) (i : ℕ) (k : KeptSite) (s : Site) : Type 0 where
  pub number : number_of k ≡ i
  pub site : StandsFor sc me k s
  pub awaits : Awaits sc me i s
  pub senders : All (λ c. c.from < count_of (other me) sc.sizes) s.got

-- `kept` is what is kept of the nodes of kind me, in order
pub record AreNodes (sc : Scenario) (me : Side) (kept : List KeptSite) (sites : List Site) : Type 0 where
  pub many : length kept ≡ count_of me sc.sizes
  pub each : (i : ℕ) (k : KeptSite) (s : Site) → slice_get kept i ≡ Some k → slice_get sites i ≡ Some s → IsNode sc me i k s

-- What surrounds them.

-- each port of a BIU is kept
pub record HoldsPorts (sc : Scenario) (kept : List KeptPort) (ports : List PortState) : Type 0 where
  pub many : length kept ≡ sc.sizes.bius
  pub all : length ports ≡ sc.sizes.bius
  pub each : (i : ℕ) (k : KeptPort) (port : PortState) → slice_get kept i ≡ Some k → slice_get ports i ≡ Some port → HoldsPort k port

-- the nodes of a kind that run, as a mask
abbrev pub running_of : Side → Scene → ℕ
running_of Biu scene = scene.running_biu
running_of Rmu scene = scene.running_rmu

-- `scene` is kept of what surrounds the nodes of world w: what is pending, with room for more, what
-- the nodes told, the ports, and which nodes run
pub record Surrounds (sc : Scenario) (scene : Scene) (w : World) : Type 0 where
  pub counts : (me : Side) → length (of_kind me w.sites) ≡ count_of me sc.sizes
  pub lanes : HoldsSites sc.sizes scene.agenda w.sites
  pub rooms : HaveRooms sc scene.agenda
  pub book : Holds sc scene.book w
  pub ports : HoldsPorts sc scene.ports.items w.ports
  pub running : (me : Side) → AreRunning me (running_of me scene) w.sites
  pub within : (me : Side) (i : ℕ) → has (running_of me scene) i ≡ true → i < count_of me sc.sizes

-- The world.

-- some choices lead to it
pub record IsReached (sc : Scenario) (w : World) : Type 0 where
  pub choices : List Choice
  pub is : w ≡ world_after sc choices

-- what is kept of a turn
abbrev pub last_of : Option Record → Last
last_of None = last.Quiet
last_of (Some (Record.Frame frame nodes ports)) = last.Frame frame
last_of (Some (Record.Slot frame slot lines)) = last.Slot
last_of (Some Record.Ended) = last.Ended
last_of (Some (Record.Breach place cause)) = last.Breach place cause

-- what is kept stands for a world of its bus that some choices lead to
pub record Stands (k : KeptWorld) (w : World) : Type 0 where
  pub lawful : IsLawful k.bus
  pub listed : IsListed k.bus
  pub reached : IsReached k.bus w
  pub nodes : (me : Side) → AreNodes k.bus me (of_kind me k.nodes) (of_kind me w.sites)
  pub scene : Surrounds k.bus k.scene w
  pub last : k.last ≡ last_of w.turn

-- the last record has not been given yet, and the next one needs an event
pub record NeedsEvent (sc : Scenario) (w : World) : Type 0 where
  pub going : w.book.ended ≡ false
  pub needs : needs_no_event sc w.book.upcoming ≡ false

-- how many events may be taken, by what is kept: none if the next record needs none, and none after
-- the last
abbrev pub due_in : KeptWorld → ℕ
due_in k = elim (k.scene.book.ended || is_free k.scene.book) [ true ↦ 0 | false ↦ how_many k.scene.agenda ]
