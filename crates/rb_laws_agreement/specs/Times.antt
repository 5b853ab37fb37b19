-- What is left of it that the rounds stand for a run of the abstract bus: the times.
use Rattle.std.specs.Prelude.{ℕ, ◌+◌, ◌≤◌, List}
use Rattle.rb_base.specs.{Nodes.Side, Sizes.sync_slot_of}
use Rattle.rb_rules.specs.{Goodness.Scenario, Moments.{IsComplete, IsReached, IsGoodBefore, IsGoodAfter, time_in_frame}, NodeState.NodeState, Ports.HandIn, StandsFor.FrameTakes}

-- good nodes begin a frame that is reached at most p apart, and each frame takes as long as it must
pub record KeepsTime (sc : Scenario) (hands : List HandIn) : Type 0 where
  pub near : (frame : ℕ) → IsReached sc hands frame → (me you : Side) (i j : ℕ) (mine yours : NodeState)
      → IsGoodBefore sc hands frame 0 me i mine → IsGoodBefore sc hands frame 0 you j yours
      → time_in_frame sc me i mine 0 ≤ time_in_frame sc you j yours 0 + sc.plan.p
  pub takes : (frame : ℕ) → IsComplete sc hands frame (sync_slot_of sc.sizes)
      → (me : Side) (i : ℕ) (st : NodeState) → IsGoodAfter sc hands frame (sync_slot_of sc.sizes) me i st → FrameTakes sc.sizes sc.plan me st
