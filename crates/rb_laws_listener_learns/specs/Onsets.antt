-- Slots to which the run comes, and when the slot of an onset begins by a clock beside the bus.
use Rattle.std.specs.Prelude.{ℕ, ◌≡◌, ◌≤◌, true, List}
use Rattle.rb_base.specs.{Nodes.Side, Nodes.Side.Rmu, Sizes.sync_slot_of}
use Rattle.rb_rules.specs.{Clock.{IsClock, Timeline, time_of}, Goodness.{Scenario, is_good}, Moments.{IsGoodBefore, IsRunning, before_slot, time_in_frame}, NodeState.NodeState, Plan.{longest_of, shortest_of}, Ports.HandIn}
use Rattle.rb_laws_listener_near.specs.Laws.{LieWithin}

-- RMU j is good in each slot to which the run comes before its end
abbrev pub IsGoodThroughout : Scenario → List HandIn → ℕ → Type 0
IsGoodThroughout sc hands j =
    (frame slot : ℕ) → slot ≤ sync_slot_of sc.sizes → IsRunning (before_slot sc hands frame slot) → is_good sc Rmu j frame slot ≡ true

-- a clock as a node's may be begins the frame with this tick, at most p from each good node
pub record BeginsBeside (sc : Scenario) (hands : List HandIn) (clock : Timeline) (frame epoch : ℕ) : Type 0 where
  pub keeps : IsClock (shortest_of sc.plan) (longest_of sc.plan) clock
  pub near : (me : Side) (i : ℕ) (st : NodeState) → IsGoodBefore sc hands frame 0 me i st → LieWithin sc.plan.p (time_of clock epoch) (time_in_frame sc me i st 0)
