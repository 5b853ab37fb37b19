-- What is proved of a receiver of the RMUs beside the BIUs, whatever it hears from RMUs that are
-- not good.
use Rattle.std.specs.Prelude.{ℕ, ◌≡◌, ◌+◌, ◌≤◌, Option, Some, None, List}
use Rattle.rb_base.specs.{Nodes.Side, Sizes.sync_slot_of, declared.values.See.See}
use Rattle.rb_rules.specs.{Clock.{IsClock, Timeline, time_of}, ExactStage.{each_node, present}, Goodness.{Scenario, clock_of}, Judging.JudgedStage, Lawful.IsLawful, Middle.middle_of, Moments.{IsComplete, IsGoodAfter, before_stage}, NodeState.NodeState, Plan.{longest_of, shortest_of}, Ports.HandIn, SyncStage.new_epoch_of}
use Rattle.rb_laws_listener_near.specs.{Calls.{AreMostGood, SawTheTimes, TakesTheCalls}, Judged.verdict_with}

-- the two times are at most so far apart
pub record LieWithin (far a b : ℕ) : Type 0 where
  pub before : a ≤ b + far
  pub after : b ≤ a + far

-- If the sync slot is complete, and the premise holds in its stage 2 with this receiver as one
-- more, the receiver's next frame begins at most p from that of each good node, if it counts from
-- the middle of what it accepted as a BIU does
abbrev pub FramesBeginNear : Type 0
FramesBeginNear =
    (sc : Scenario) (hands : List HandIn) → IsLawful sc → (frame : ℕ) → IsComplete sc hands frame (sync_slot_of sc.sizes) → AreMostGood sc frame
    → (clock : Timeline) → IsClock (shortest_of sc.plan) (longest_of sc.plan) clock → (taken : ℕ → Option ℕ) (time : ℕ → ℕ) → TakesTheCalls sc hands frame clock taken time
    → (seen : ℕ → JudgedStage → Option (ℕ → See)) → verdict_with seen (before_stage sc hands frame (sync_slot_of sc.sizes) 3).book.stages ≡ None
    → SawTheTimes (before_stage sc hands frame (sync_slot_of sc.sizes) 3).book.stages taken time seen
    → (middle : ℕ) → middle_of (present (each_node taken)) ≡ Some middle
    → (me : Side) (i : ℕ) (st : NodeState) → IsGoodAfter sc hands frame (sync_slot_of sc.sizes) me i st → (epoch : ℕ) → new_epoch_of sc.plan me st ≡ Some epoch
    → LieWithin sc.plan.p (time_of clock (middle + sc.plan.v + sc.plan.z + sc.plan.c)) (time_of (clock_of sc me i) epoch)
