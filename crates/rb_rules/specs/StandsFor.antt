-- When the rounds of a scenario stand for a run of the abstract bus: all good nodes hold what that
-- bus holds.
use Rattle.std.specs.Prelude.{ℕ, ◌≡◌, ◌+◌, ◌*◌, ◌<◌, ◌≤◌, max, Bool, true, false, if◌then◌else◌, Some, List, [], get_or}
use Rattle.rb_base.specs.{Nodes.{Side, other, has}, Nodes.Side.{Biu, Rmu}, Sizes.{Sizes, sync_slot_of}, declared.values.Heard.Heard, declared.values.Heard.TheVariants.Fault}
use Rattle.rb_rules.specs.{declared.plan.Plan.Plan, declared.record.SlotLine.SlotLine, AbstractBus.{AbstractBus, IsRun, trusted_on, sender_on}, Goodness.{Scenario, is_good}, Headline.lines_of, Moments.{before_stage, IsComplete, IsReached, IsGoodBefore, IsGoodAfter, time_in_frame, offered_in}, NodeState.{NodeState, trusted_of}, Plan.{tail_start_of, shortest_of, longest_of}, Ports.HandIn, Slots.{Sender, has_third_stage, role_of, same_side}, Slots.Sender.{Nobody, Node, EachTrusted}, SyncStage.new_epoch_of}

-- The number of steps after which the abstract bus is before this slot of this frame.

abbrev pub steps_to : Sizes → ℕ → ℕ → ℕ
steps_to sizes frame slot = frame * (sync_slot_of sizes + 1) + slot

-- the bus's value of a slot, once it has one
abbrev pub value_on : AbstractBus → ℕ → Heard
value_on bus slot = get_or bus.values slot Fault

-- What holds of a good node.

-- the node begins offset o of the frame in the band of the bus. Two good nodes therefore differ by
-- at most p + 2 r o
pub record IsInBand (sc : Scenario) (bus : AbstractBus) (me : Side) (i : ℕ) (st : NodeState) (o : ℕ) : Type 0 where
  pub not_early : bus.low + o * shortest_of sc.plan ≤ time_in_frame sc me i st o
  pub not_late : time_in_frame sc me i st o ≤ bus.low + sc.plan.p + o * longest_of sc.plan

-- the node trusts the nodes that the bus trusts
pub record HoldsTrusted (bus : AbstractBus) (me : Side) (st : NodeState) : Type 0 where
  pub bius : trusted_of Biu me st ≡ bus.bius
  pub rmus : trusted_of Rmu me st ≡ bus.rmus

-- from the first data slot on the node holds the bus's schedule
abbrev pub HoldsOwners : Scenario → AbstractBus → NodeState → Type 0
HoldsOwners sc bus st = sc.sizes.bius ≤ bus.slot → st.owners ≡ bus.owners

-- a node of this kind votes in the slot. In data slots only BIUs vote
abbrev pub votes_on : Sizes → ℕ → Side → Bool
votes_on sizes slot me = if has_third_stage (role_of sizes slot) then true else same_side me Biu

-- the node's vote on the slot is the value of the bus
abbrev pub HoldsVote : Scenario → ℕ → AbstractBus → Side → NodeState → Type 0
HoldsVote sc slot next me st =
    slot < sync_slot_of sc.sizes → votes_on sc.sizes slot me ≡ true → get_or st.votes slot Fault ≡ value_on next slot

-- no node that is good in the slot is accused by this one
abbrev pub SparesAllGood : Scenario → ℕ → ℕ → Side → NodeState → Type 0
SparesAllGood sc frame slot me st =
    (j : ℕ) → is_good sc (other me) j frame slot ≡ true → (has st.far.direct j ≡ false) × (has st.far.mismatch j ≡ false)

-- after the sync slot the node knows the tick of its next epoch, and that tick is within these
-- bounds after the epoch of this frame, the least included and the greatest not
pub record FrameTakes (sizes : Sizes) (plan : Plan) (me : Side) (st : NodeState) : Type 0 where
  pub epoch : ℕ
  pub known : new_epoch_of plan me st ≡ Some epoch
  pub least : st.epoch + tail_start_of sizes plan ≤ epoch
  pub most : epoch < st.epoch + tail_start_of sizes plan + max plan.z (plan.v + plan.c)

-- a good node before a slot, by the bus's state there
pub record AgreesBefore (sc : Scenario) (bus : AbstractBus) (me : Side) (i : ℕ) (st : NodeState) : Type 0 where
  pub band : IsInBand sc bus me i st (3 * bus.slot * sc.plan.l)
  pub trusted : HoldsTrusted bus me st
  pub owners : HoldsOwners sc bus st

-- a good node after a slot, by the bus's state after it
pub record AgreesAfter (sc : Scenario) (frame slot : ℕ) (next : AbstractBus) (me : Side) (st : NodeState) : Type 0 where
  pub vote : HoldsVote sc slot next me st
  pub spares : SparesAllGood sc frame slot me st
  pub frame_takes : slot ≡ sync_slot_of sc.sizes → FrameTakes sc.sizes sc.plan me st

-- What holds of a slot.

-- what is delivered in a data slot: the value, at each good BIU; nothing if the slot is idle
abbrev pub lines_on : Scenario → ℕ → ℕ → Sender → Heard → List SlotLine
lines_on sc frame slot Nobody value = []
lines_on sc frame slot (Node owner) value = lines_of sc frame slot owner value
lines_on sc frame slot EachTrusted value = []

-- the deliveries of a data slot, which has no third stage, are those of the bus
abbrev pub DeliversOn : Scenario → List HandIn → ℕ → ℕ → AbstractBus → AbstractBus → Type 0
DeliversOn sc hands frame slot bus next =
    has_third_stage (role_of sc.sizes slot) ≡ false
    → (before_stage sc hands frame slot 3).book.lines ≡ lines_on sc frame slot (sender_on sc.sizes bus) (value_on next slot)

-- what all good nodes have in common in a slot between two states of the bus
pub record SlotAgrees (sc : Scenario) (hands : List HandIn) (frame slot : ℕ) (bus next : AbstractBus) : Type 0 where
  pub before : (me : Side) (i : ℕ) (st : NodeState) → IsGoodBefore sc hands frame slot me i st → AgreesBefore sc bus me i st
  pub after : (me : Side) (i : ℕ) (st : NodeState) → IsGoodAfter sc hands frame slot me i st → AgreesAfter sc frame slot next me st
  pub good_are_trusted : (kind : Side) (j : ℕ) → is_good sc kind j frame slot ≡ true → has (trusted_on kind bus) j ≡ true
  pub deliveries : DeliversOn sc hands frame slot bus next

-- What holds of the start of a frame.

-- the bus's `low` in a frame is the time at which some good node begins the frame
pub record IsLow (sc : Scenario) (hands : List HandIn) (frame low : ℕ) : Type 0 where
  pub me : Side
  pub i : ℕ
  pub st : NodeState
  pub begins : IsGoodBefore sc hands frame 0 me i st
  pub time : time_in_frame sc me i st 0 ≡ low

-- what all good nodes have in common at the start of a frame. Its first time is free if no node is
-- good there
pub record FrameAgrees (sc : Scenario) (hands : List HandIn) (frame : ℕ) (bus : AbstractBus) : Type 0 where
  pub good_nodes : (me : Side) (i : ℕ) (st : NodeState) → IsGoodBefore sc hands frame 0 me i st → AgreesBefore sc bus me i st
  pub low : (me : Side) (i : ℕ) (st : NodeState) → IsGoodBefore sc hands frame 0 me i st → IsLow sc hands frame bus.low

-- The run.

-- the rounds stand for a run of the bus: up to each frame that is reached, and up to and including
-- each slot that is complete without a breach, the bus makes its steps, and what all good nodes
-- hold there is what the bus holds
pub record StandsFor (sc : Scenario) (hands : List HandIn) : Type 0 where
  pub bus : ℕ → AbstractBus
  pub run_to_frame : (frame : ℕ) → IsReached sc hands frame → IsRun sc (offered_in sc hands) (steps_to sc.sizes frame 0) bus
  pub frames : (frame : ℕ) → IsReached sc hands frame → FrameAgrees sc hands frame (bus (steps_to sc.sizes frame 0))
  pub run_to_slot : (frame slot : ℕ) → slot ≤ sync_slot_of sc.sizes → IsComplete sc hands frame slot
      → IsRun sc (offered_in sc hands) (steps_to sc.sizes frame slot + 1) bus
  pub slots : (frame slot : ℕ) → slot ≤ sync_slot_of sc.sizes → IsComplete sc hands frame slot
      → SlotAgrees sc hands frame slot (bus (steps_to sc.sizes frame slot)) (bus (steps_to sc.sizes frame slot + 1))
