-- What is kept of a run whose group is asked for.
use Rattle.std.specs.Prelude.{ℕ, ◌≡◌, Some, List, length, slice_get}
use Rattle.rb_base.specs.declared.values.Delivery.{Delivery}
use Rattle.rb_rules.specs.{Book.Record, Goodness.Scenario}
use Rattle.rb_group.specs.{Keeping.{HasHeard, KeptGroup}, Portions.port_deliveries}
use Rattle.rb_world_onset.specs.Faults.{faults_of}
use Rattle.rb_group_run.specs.{declared.asked.Asked.Asked, declared.asked.Scope.Scope, declared.ports.Ports.Ports, Replies.reached}

-- a group of these members holds the values of these deliveries
pub record HoldsPortion (members : ℕ) (deliveries : List Delivery) (g : KeptGroup) : Type 0 where
  pub members_are : g.members ≡ members
  pub heard : HasHeard g deliveries

-- there are 16 groups, and each holds its portion of what was told of its port
pub record HoldPortions (members : ℕ) (told : ℕ → List Delivery) (groups : List KeptGroup) : Type 0 where
  pub many : length groups ≡ 16
  pub each : (i : ℕ) (g : KeptGroup) → slice_get groups i ≡ Some g → HoldsPortion members (told i) g

-- the part of the scenario that decides which receivers are asked
pub record IsScopeOf (sc : Scenario) (scope : Scope) : Type 0 where
  pub sizes_are : scope.shape ≡ sc.sizes
  pub frames_are : scope.frames ≡ sc.frames
  pub onsets_are : scope.onsets ≡ faults_of sc

-- the frame is the one that these records have reached, and what is kept is what they tell of it
pub record HoldsFrame (frames : ℕ) (asked : Asked) (records : List Record) (ports : Ports) : Type 0 where
  pub frame_is : ports.frame ≡ reached frames records
  pub groups_hold : HoldPortions asked.members (λ i. port_deliveries ports.frame i records) ports.groups

-- the ports hold what these records of a run of the scenario tell, and the scope is its own
pub record HasTold (sc : Scenario) (records : List Record) (scope : Scope) (asked : Asked) (ports : Ports) : Type 0 where
  pub scope_is : IsScopeOf sc scope
  pub holds : HoldsFrame sc.frames asked records ports
