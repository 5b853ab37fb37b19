-- Good nodes begin frames and slots in time, by the first time of each frame.
use Rattle.std.proofs.Common.{ℕ, suc, ◌+◌, ◌*◌, ◌≤◌, List}
use Rattle.rb_base.specs.{Nodes.Side, Sizes.sync_slot_of}
use Rattle.rb_rules.specs.{Goodness.Scenario, Moments.{IsComplete, IsReached, IsSettled, IsGoodBefore, IsGoodAfter, time_in_frame}, NodeState.NodeState, Plan.{shortest_of, longest_of, tail_start_of}, Ports.HandIn, StandsFor.{FrameTakes, IsLow}}

-- a node begins this offset of a frame in the band that begins with the frame's first time
pub record IsInTime (sc : Scenario) (low : ℕ) (me : Side) (i : ℕ) (st : NodeState) (offset : ℕ) : Type 0 where
  pub not_early : low + offset * shortest_of sc.plan ≤ time_in_frame sc me i st offset
  pub not_late : time_in_frame sc me i st offset ≤ low + sc.plan.p + offset * longest_of sc.plan

-- `low` has the first time of each frame, good nodes begin slots within the band of their frame,
-- and frames take as long as they must
pub record BeginsInTime (sc : Scenario) (hands : List HandIn) (low : ℕ → ℕ) : Type 0 where
  pub first : (frame : ℕ) → IsReached sc hands frame → (me : Side) (i : ℕ) (st : NodeState) → IsGoodBefore sc hands frame 0 me i st → IsLow sc hands frame (low frame)
  pub later : (frame : ℕ) → IsComplete sc hands frame (sync_slot_of sc.sizes) → low frame + tail_start_of sc.sizes sc.plan * shortest_of sc.plan ≤ low (suc frame)
  pub in_time : (frame slot : ℕ) → slot ≤ sync_slot_of sc.sizes → IsSettled sc hands frame slot
      → (me : Side) (i : ℕ) (st : NodeState) → IsGoodBefore sc hands frame slot me i st → IsInTime sc (low frame) me i st (3 * slot * sc.plan.l)
  pub takes : (frame : ℕ) → IsComplete sc hands frame (sync_slot_of sc.sizes)
      → (me : Side) (i : ℕ) (st : NodeState) → IsGoodAfter sc hands frame (sync_slot_of sc.sizes) me i st → FrameTakes sc.sizes sc.plan me st
