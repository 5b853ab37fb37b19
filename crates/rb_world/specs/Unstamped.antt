-- A node before a tick that ends a window of a slot before the sync slot. What comes to it until
-- then is taken in unstamped, in any order.
use Rattle.std.specs.Prelude.{ℕ, ◌≡◌, ◌+◌, nat_lt, All, Some, List, [], ◌∷◌, filter, slice_get, slice_set}
use Rattle.rb_base.specs.{Nodes.{Side, other}, declared.node.NodeName.NodeName}
use Rattle.rb_rules.specs.{Book.{Each, of_kind}, Core.Core, Goodness.Scenario, Hearing.Coming, Links.name_of, WorldStep.{Site, Timed, World}}
use Rattle.rb_node.specs.{Cores.{IsCore, Running, next_of}, Ends.EndsExactWindow}
use Rattle.rb_queue.specs.Waiting.{Held, lane_of, with_lane, without_before, without_tick}
use Rattle.rb_world.specs.{Buses.{KeptBus, scenario_of}, Sites.{IsSource, KeptSite, Stands as StandsFor, taken_in}, Trailing.{MayTakeFirst, bare, TakesFirst}, declared.scene.Scene.Scene}

-- what comes before a time, in the order of the list
abbrev pub due_before : ℕ → List Coming → List Coming
due_before until cs = filter (λ c. nat_lt c.time until) cs

-- the site after all of these were taken in
abbrev pub taken_all : Scenario → Side → List Coming → Site → Site
taken_all sc me [] s = s
taken_all sc me (c ∷ cs) s = taken_all sc me cs (taken_in sc me c s)

-- in each site for which this was kept, those that come before a time have been taken in
abbrev pub TakesInDue : Side → ℕ → List Coming → KeptSite → KeptSite → Type 0
TakesInDue me until cs before after =
    (sc : Scenario) (s : Site) → StandsFor sc me before s → StandsFor sc me after (taken_all sc me (due_before until cs) s)

-- all arrivals `cs` come from sources of the node's bus
abbrev pub AreOfSources : Side → KeptSite → List Coming → Type 0
AreOfSources me site cs = All (λ c. IsSource me site c.from) cs

-- nothing that comes to the node before a time is pending, nor its tick
abbrev pub with_nothing_before : ℕ → NodeName → Each Held → Each Held
with_nothing_before until node lanes = with_lane node (without_tick (without_before until (lane_of lanes node))) lanes

-- the site swept up to its tick and without it, but with this core
abbrev pub bare_with : Scenario → Side → ℕ → Timed → Core → Site → Site
bare_with sc me i a core s = record (bare sc me i a s) { core = core }

-- A node of which `before` was kept and `site` is kept now: all that came to it up to its tick was
-- taken in, and neither that nor the tick is pending any more
pub record TakenUp (sc : Scenario) (me : Side) (i : ℕ) (a : Timed) (held : Each Held) (before site : KeptSite) (lanes : Each Held) (s : Site) : Type 0 where
  pub seat : site.node.seat ≡ before.node.seat
  pub stands : StandsFor sc me site (taken_all sc me (due_before (a.time + 1) s.coming) s)
  pub left : lanes ≡ with_nothing_before (a.time + 1) (name_of me i) held

-- whatever came to it, the next busy tick of the node ends a window of a slot before the sync slot
abbrev pub EndsExactly : Side → Running → Type 0
EndsExactly me n = (c : Core) (k : ℕ) → IsCore n c → next_of me n c ≡ Some k → EndsExactWindow n.seat.sizes n.seat.plan me c.state k

-- the first tick of a world behind is the node's, and ends such a window
pub record MayTakeExactly (sc : Scenario) (kept : Each KeptSite) (scene : Scene) (until : Side → ℕ → ℕ) (w v : World) (me : Side) (i : ℕ) (a : Timed) (time : ℕ) (own : List KeptSite) (site : KeptSite) : Type 0 where
  pub first : MayTakeFirst sc kept scene until w v me i a time own
  pub there : slice_get own i ≡ Some site
  pub ends : EndsExactly me site.node

-- the tick at this time, which is the first of all, is this node's and may be taken so
abbrev pub CanTakeExactly : KeptBus → Side → ℕ → ℕ → KeptSite → Scene → Type 0
CanTakeExactly bus me i time site scene = (kept : Each KeptSite) × (until : Side → ℕ → ℕ) × (w : World) × (v : World) × (a : Timed) × (own : List KeptSite)
    × MayTakeExactly (scenario_of bus) kept scene until w v me i a time own site

-- the tick at this time, which is the first of all, is this node's and needs no stamps, and it is
-- taken
abbrev pub TakesExactly : KeptBus → Side → ℕ → ℕ → KeptSite → KeptSite → Scene → Scene → Type 0
TakesExactly bus me i time before after around scene =
    (kept : Each KeptSite) (until : Side → ℕ → ℕ) (w v : World) (a : Timed) (own : List KeptSite)
    → MayTakeExactly (scenario_of bus) kept around until w v me i a time own before
    → TakesFirst (scenario_of bus) v me i a (slice_set own i after) (of_kind (other me) kept) scene
