-- When what is due may be shown.
use Rattle.std.specs.Prelude.{ℕ, ◌≡◌, ◌<◌, ◌^◌, Some, List}
use Rattle.rb_base.specs.{Nodes.Side, declared.event.Event.Event, declared.node.NodeName.NodeName}
use Rattle.rb_rules.specs.{Clock.ComesBy, Core.{Core, next_tick}, Goodness.{Scenario, clock_of}, Links.name_of, Ports.PortState, Slots.count_of, WorldStep.{Pending, Site, event_of}, WorldStep.Pending.{Tick, Arrival}}
use Rattle.rb_world_agenda.specs.{Agenda.IsAtTime, Holding.Shows}
use Rattle.rb_port.specs.Keeping.{KeptPort}
use Rattle.rb_world.specs.{Buses.{KeptBus, scenario_of}, Sites.{KeptSite, Stands as StandsFor, number_of}, Worlds.HoldsPorts}

-- node i of kind me has this name, and what is kept of it stands for this site
pub record IsShownAt (sc : Scenario) (me : Side) (i : ℕ) (site : KeptSite) (name : NodeName) (s : Site) : Type 0 where
  pub within : i < count_of me sc.sizes
  pub named : name ≡ name_of me i
  pub number : number_of site ≡ i
  pub stands : StandsFor sc me site s

-- tick k may be shown: it is the next tick of node i of kind me
pub record MayShowTick (sc : Scenario) (me : Side) (i k : ℕ) (site : KeptSite) (kept : List KeptPort) (name : NodeName) (ports : List PortState) (s : Site) : Type 0 where
  pub at : IsShownAt sc me i site name s
  pub next : next_tick sc.sizes sc.plan me i s.core ≡ Some k
  pub holds : HoldsPorts sc kept ports

-- the node's next tick may be shown in some world
abbrev pub CanShowTick : KeptBus → Side → NodeName → KeptSite → List KeptPort → Type 0
CanShowTick bus me node site kept = (k : ℕ) × (ports : List PortState) × (s : Site) × MayShowTick (scenario_of bus) me (number_of site) k site kept node ports s

-- an arrival at this time may be shown
pub record MayShowArrival (sc : Scenario) (me : Side) (i : ℕ) (site : KeptSite) (time : ℕ) (name : NodeName) (s : Site) : Type 0 where
  pub at : IsShownAt sc me i site name s
  pub in_time : ComesBy (2 ^ 31) (clock_of sc me i) time

-- an arrival at this time may be shown for some site
abbrev pub CanShowArrival : KeptBus → Side → KeptSite → ℕ → NodeName → Type 0
CanShowArrival bus me site time node = (s : Site) × MayShowArrival (scenario_of bus) me (number_of site) site time node s

-- an arrival from this source with these bytes is shown by this event, wherever it may be shown
abbrev pub ShowsArrival : KeptBus → Side → KeptSite → ℕ → NodeName → ℕ → List ℕ → Event → Type 0
ShowsArrival bus me site time node from bytes event = (ports : List PortState) (place : ℕ) (s : Site)
    → MayShowArrival (scenario_of bus) me (number_of site) site time node s
    → event ≡ event_of (scenario_of bus) ports me (number_of site) s.core (Arrival place (record { time = time; from = from; bytes = bytes }))

-- what waits is the next tick, or comes by the last that there is
abbrev pub IsInTime : Scenario → Side → ℕ → Core → Pending → Type 0
IsInTime sc me i c (Tick k) = next_tick sc.sizes sc.plan me i c ≡ Some k
IsInTime sc me i c (Arrival place a) = ComesBy (2 ^ 31) (clock_of sc me i) a.time

-- an event at a time is what waits at node i of kind me, and may be shown
pub record MayShow (sc : Scenario) (me : Side) (i : ℕ) (waits : Pending) (site : KeptSite) (kept : List KeptPort) (time : ℕ) (event : Event) (ports : List PortState) (s : Site) : Type 0 where
  pub at : IsShownAt sc me i site (name_of me i) s
  pub holds : HoldsPorts sc kept ports
  pub shows : Shows waits event.kind
  pub time_is : IsAtTime time waits
  pub in_time : IsInTime sc me i s.core waits

-- an event at a time may be shown in some world
abbrev pub CanShow : KeptBus → Side → KeptSite → List KeptPort → ℕ → Event → Type 0
CanShow bus me site kept time event = (waits : Pending) × (ports : List PortState) × (s : Site)
    × MayShow (scenario_of bus) me (number_of site) waits site kept time event ports s
