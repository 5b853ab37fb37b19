-- How a run begins: node by node.
use Rattle.std.specs.Prelude.{ℕ, zero, suc, ◌≡◌, ◌+◌, ◌<◌, ◌≤◌, Some, List, length, slice_get}
use Rattle.rb_base.specs.Nodes.{Side}
use Rattle.rb_rules.specs.{Book.{each_of, of_kind}, Entries.IsListed, Goodness.Scenario, Lawful.IsLawful, Slots.count_of, WorldStep.{World, first_world, fresh_site, proceed}}
use Rattle.rb_world.specs.{Sites.{KeptSite, Stands as StandsFor, number_of}, declared.scene.Scene.Scene, Buses.{KeptBus, scenario_of}, Steps.moved, Worlds.{IsNode, Surrounds}}

-- the world before any node has begun
abbrev pub before_all : Scenario → World
before_all sc = record (first_world sc) { sites = each_of sc.sizes (λ me i. fresh_site sc.sizes me) }

-- k is kept of node i of kind me before that node begins
pub record IsFresh (sc : Scenario) (me : Side) (i : ℕ) (k : KeptSite) : Type 0 where
  pub number : number_of k ≡ i
  pub stands : StandsFor sc me k (fresh_site sc.sizes me)

-- what is kept of all nodes of a kind before they begin
pub record AreFresh (sc : Scenario) (me : Side) (kept : List KeptSite) : Type 0 where
  pub many : length kept ≡ count_of me sc.sizes
  pub each : (i : ℕ) (k : KeptSite) → slice_get kept i ≡ Some k → IsFresh sc me i k

-- the world in which the first n nodes of kind me have begun
unfoldable pub with_begun : Scenario → Side → ℕ → World → World
with_begun sc me zero w = w
with_begun sc me (suc n) w = moved me n (proceed sc me n) (with_begun sc me n w)

-- no node of kind me has begun in this world, and this is kept of what surrounds the nodes
pub record MayBegin (sc : Scenario) (me : Side) (scene : Scene) (w : World) : Type 0 where
  pub lawful : IsLawful sc
  pub listed : IsListed sc
  pub surrounds : Surrounds sc scene w
  pub fresh : (i : ℕ) → i < count_of me sc.sizes → slice_get (of_kind me w.sites) i ≡ Some (fresh_site sc.sizes me)

-- the first n of them have begun since
pub record HaveBegun (sc : Scenario) (me : Side) (n : ℕ) (kept : List KeptSite) (scene : Scene) (w : World) : Type 0 where
  pub many : length kept ≡ count_of me sc.sizes
  pub surrounds : Surrounds sc scene (with_begun sc me n w)
  pub begun : (i : ℕ) (k : KeptSite) → i < n → slice_get kept i ≡ Some k → IsNode sc me i k (proceed sc me i (fresh_site sc.sizes me))
  pub fresh : (i : ℕ) (k : KeptSite) → n ≤ i → slice_get kept i ≡ Some k → IsFresh sc me i k
  pub rest : (i : ℕ) → n ≤ i → i < count_of me sc.sizes → slice_get (of_kind me (with_begun sc me n w).sites) i ≡ Some (fresh_site sc.sizes me)

-- Calls.

-- the first i nodes of the kind have begun, and the next may
abbrev pub CanBegin : KeptBus → Side → ℕ → List KeptSite → Scene → Type 0
CanBegin bus me i kept scene = (w : World) × HaveBegun (scenario_of bus) me i kept scene w

-- a node that may begin begins
abbrev pub Begins : KeptBus → Side → ℕ → List KeptSite → List KeptSite → Scene → Scene → Type 0
Begins bus me i before after around scene = (w : World) → HaveBegun (scenario_of bus) me i before around w → HaveBegun (scenario_of bus) me (i + 1) after scene w

-- all nodes of the kind may begin
abbrev pub CanBeginAll : KeptBus → Side → Scene → Type 0
CanBeginAll bus me scene = (w : World) × MayBegin (scenario_of bus) me scene w

-- the first n nodes of a kind that may begin have begun
abbrev pub BeginsAll : KeptBus → Side → ℕ → List KeptSite → Scene → Scene → Type 0
BeginsAll bus me n after around scene = (w : World) → MayBegin (scenario_of bus) me around w → HaveBegun (scenario_of bus) me n after scene w
