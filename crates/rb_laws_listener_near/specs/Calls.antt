-- A receiver of the RMUs' calls beside the BIUs: what it takes of them in stage 2 of the sync slot,
-- by its own clock.
use Rattle.std.specs.Prelude.{ℕ, ◌≡◌, ◌+◌, ◌*◌, ◌≤◌, ◌<◌, true, Option, Some, is_some, List, ◌∷◌, length, slice_get}
use Rattle.rb_base.specs.{Nodes.{Side, has, set_of, size}, Nodes.Side.Rmu, Sizes.sync_slot_of, declared.values.See.See}
use Rattle.rb_rules.specs.{Book.of_kind, Clock.{Timeline, stamp_of, time_of}, Goodness.{Scenario, clock_of, is_good}, Hearing.judged_see, Judging.JudgedStage, Moments.before_stage, NodeState.{NodeState, trusted_of}, Ports.HandIn, SyncStage.{call_tick_of, see_time}}

-- node i of a kind is good in the sync slot of the frame, and this is its state before stage 2
pub record IsGoodInSync (sc : Scenario) (hands : List HandIn) (frame : ℕ) (me : Side) (i : ℕ) (st : NodeState) : Type 0 where
  pub good : is_good sc me i frame (sync_slot_of sc.sizes) ≡ true
  pub state : slice_get (of_kind me (before_stage sc hands frame (sync_slot_of sc.sizes) 2).nodes) i ≡ Some st

-- the time lies in the delays of a message that is sent then
pub record ComesAfter (sc : Scenario) (sent time : ℕ) : Type 0 where
  pub least : sent + sc.plan.dmin ≤ time
  pub most : time ≤ sent + sc.plan.dmax

-- the receiver accepts stamps only from RMUs that good nodes trust, each stamp is that of the time,
-- and none is 0; and from each good RMU it accepts the call, which comes within the delays
pub record TakesTheCalls (sc : Scenario) (hands : List HandIn) (frame : ℕ) (clock : Timeline) (taken : ℕ → Option ℕ) (time : ℕ → ℕ) : Type 0 where
  pub trusts : (j : ℕ) → is_some (taken j) ≡ true → (me : Side) (i : ℕ) (st : NodeState) → IsGoodInSync sc hands frame me i st → has (trusted_of Rmu me st) j ≡ true
  pub stamped : (j k : ℕ) → taken j ≡ Some k → (1 ≤ k) × (stamp_of clock (time j) ≡ k)
  pub calls : (j : ℕ) (source : NodeState) (tick : ℕ) → IsGoodInSync sc hands frame Rmu j source → call_tick_of sc.sizes sc.plan source 2 ≡ Some tick
      → (taken j ≡ Some (stamp_of clock (time j))) × ComesAfter sc (time_of (clock_of sc Rmu j) tick) (time j)

-- more than half of all RMUs are good in the sync slot
abbrev pub AreMostGood : Scenario → ℕ → Type 0
AreMostGood sc frame = sc.sizes.rmus < 2 * size (set_of (λ j. is_good sc Rmu j frame (sync_slot_of sc.sizes)))

-- in the newest stage it saw the times of what it took
pub record SawTheTimes (stages : List JudgedStage) (taken : ℕ → Option ℕ) (time : ℕ → ℕ) (seen : ℕ → JudgedStage → Option (ℕ → See)) : Type 0 where
  pub newest : JudgedStage
  pub earlier : List JudgedStage
  pub are : stages ≡ newest ∷ earlier
  pub sight : ℕ → See
  pub here : seen (length earlier) newest ≡ Some sight
  pub is : (j : ℕ) → j < 16 → sight j ≡ judged_see (time j) (see_time (taken j))
