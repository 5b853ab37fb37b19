-- A scenario, and which nodes are good in which slot.
use Rattle.std.specs.Prelude.{ℕ, ◌+◌, nat_lt, ◌==◌, ◌&&◌, ◌||◌, Bool, true, Option, Some, None, List, [], get_or}
use Rattle.rb_base.specs.{Nodes.{Side, set_of}, Nodes.Side.{Biu, Rmu}, Sizes.Sizes}
use Rattle.rb_rules.specs.{declared.plan.Plan.Plan, declared.say.Say.Say, Behavior.Behavior, Clock.Timeline, Links.DelayRules, Slots.count_of}

-- a bus and what happens to it. An onset is the frame and the slot from which on a node is not
-- good, if it ever is not
pub record Scenario : Type 0 where
  pub sizes : Sizes
  pub plan : Plan
  pub frames : ℕ
  pub requests : List ℕ  -- how many data slots each BIU asks for
  pub words : List ℕ  -- the state with which each BIU's port begins
  pub apps : List ℕ  -- the application at each BIU
  pub clocks : List Timeline  -- the clocks of the BIUs, then those of the RMUs
  pub delays : DelayRules
  pub biu_onsets : List (Option (ℕ × ℕ))
  pub rmu_onsets : List (Option (ℕ × ℕ))
  pub behavior : Behavior  -- what nodes that are not good do
  pub says : List Say  -- the entries of a document. The program reads them; no rule of the bus does

abbrev pub onsets_of : Side → Scenario → List (Option (ℕ × ℕ))
onsets_of Biu sc = sc.biu_onsets
onsets_of Rmu sc = sc.rmu_onsets

-- a slot of a frame comes before the onset, or there is no onset
abbrev pub is_before : Option (ℕ × ℕ) → ℕ → ℕ → Bool
is_before None frame slot = true
is_before (Some onset) frame slot = nat_lt frame onset.0 || ((frame == onset.0) && nat_lt slot onset.1)

-- node i of a kind is good in this slot of this frame
abbrev pub is_good : Scenario → Side → ℕ → ℕ → ℕ → Bool
is_good sc side i frame slot = nat_lt i (count_of side sc.sizes) && is_before (get_or (onsets_of side sc) i None) frame slot

-- the good nodes of a kind in this slot of this frame
abbrev pub good_at : Scenario → Side → ℕ → ℕ → ℕ
good_at sc side frame slot = set_of (λ i. is_good sc side i frame slot)

-- the place of node i's clock among the clocks
abbrev pub clock_place : Sizes → Side → ℕ → ℕ
clock_place sizes Biu i = i
clock_place sizes Rmu i = sizes.bius + i

-- the clock of node i of a kind, among the clocks of a bus
abbrev pub clock_among : Sizes → List Timeline → Side → ℕ → Timeline
clock_among sizes clocks side i = get_or clocks (clock_place sizes side i) (record { start = 0; segments = [] })

-- the clock of node i of a kind of a scenario's bus
abbrev pub clock_of : Scenario → Side → ℕ → Timeline
clock_of sc side i = clock_among sc.sizes sc.clocks side i
