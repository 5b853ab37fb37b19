-- What the bus promises to those who use it, of the rounds of a scenario up to the first breach of
-- the fault premise.
use Rattle.std.specs.Prelude.{ℕ, ◌≡◌, ◌+◌, ◌*◌, ◌<◌, ◌≤◌, true, false, Option, Some, None, List, [], ◌∷◌, ◌++◌, filter, map}
use Rattle.rb_base.specs.{Counting.numbers, Nodes.{Side, has}, Nodes.Side.Biu, Sizes.sync_slot_of, declared.values.Heard.Heard, declared.values.Heard.TheVariants.Word}
use Rattle.rb_rules.specs.{declared.plan.Plan.Plan, declared.record.SlotLine.SlotLine, Book.Record.Slot, Goodness.{Scenario, is_good}, Moments.{before_slot, after_slot, IsComplete, IsSettled, IsGoodBefore, time_in_frame, offered_in}, NodeState.NodeState, NodeSteps.{convicted_of, owner_at}, Plan.drift_in, Ports.HandIn}

-- Skew.

-- how far apart good nodes may begin an offset of a frame
abbrev pub stated_skew : Plan → ℕ → ℕ
stated_skew plan offset = plan.p + drift_in plan offset

-- any two good nodes begin the slot at most the stated skew apart
abbrev pub BeginSlotsNear : Scenario → List HandIn → Type 0
BeginSlotsNear sc hands =
    (frame slot : ℕ) → slot ≤ sync_slot_of sc.sizes → IsSettled sc hands frame slot
    → (me you : Side) (i j : ℕ) (mine yours : NodeState)
    → IsGoodBefore sc hands frame slot me i mine → IsGoodBefore sc hands frame slot you j yours
    → time_in_frame sc me i mine (3 * slot * sc.plan.l)
    ≤ time_in_frame sc you j yours (3 * slot * sc.plan.l) + stated_skew sc.plan (3 * slot * sc.plan.l)

-- Deliveries.

-- one line for each BIU that is good in the slot, all with one sender and one value
abbrev pub lines_of : Scenario → ℕ → ℕ → ℕ → Heard → List SlotLine
lines_of sc frame slot owner value =
    map (λ i. record { receiver = i; sender = owner; value = value }) (filter (λ i. is_good sc Biu i frame slot) (numbers sc.sizes.bius))

-- the slot gives one record, with these lines
abbrev pub HasRecord : Scenario → List HandIn → ℕ → ℕ → List SlotLine → Type 0
HasRecord sc hands frame slot lines =
    (after_slot sc hands frame slot).book.given ≡ (before_slot sc hands frame slot).book.given ++ Slot frame slot lines ∷ []

-- a data slot with an owner gives each good BIU the same value, and every other slot gives nobody
-- any
abbrev pub DeliversOneValue : Scenario → List HandIn → ℕ → ℕ → Option ℕ → Type 0
DeliversOneValue sc hands frame slot None = HasRecord sc hands frame slot []
DeliversOneValue sc hands frame slot (Some owner) = (value : Heard) × HasRecord sc hands frame slot (lines_of sc frame slot owner value)

-- in each complete slot below the sync slot that has an owner by the schedule of any good node, all
-- good BIUs deliver one value; in every other complete slot below the sync slot they deliver none
abbrev pub DeliverAlike : Scenario → List HandIn → Type 0
DeliverAlike sc hands =
    (frame slot : ℕ) → slot < sync_slot_of sc.sizes → IsComplete sc hands frame slot
    → (me : Side) (i : ℕ) (st : NodeState) → IsGoodBefore sc hands frame slot me i st
    → DeliversOneValue sc hands frame slot (owner_at sc.sizes st slot)

-- in each complete slot with a good owner all good BIUs deliver the word that the owner's
-- application offered
abbrev pub DeliverTheWord : Scenario → List HandIn → Type 0
DeliverTheWord sc hands =
    (frame slot : ℕ) → slot < sync_slot_of sc.sizes → IsComplete sc hands frame slot
    → (me : Side) (i : ℕ) (st : NodeState) → IsGoodBefore sc hands frame slot me i st
    → (owner : ℕ) → owner_at sc.sizes st slot ≡ Some owner → is_good sc Biu owner frame slot ≡ true
    → HasRecord sc hands frame slot (lines_of sc frame slot owner (Word (offered_in sc hands frame slot owner)))

-- Schedules and convictions.

-- from the first data slot on all good nodes hold the same owners
abbrev pub HoldOneSchedule : Scenario → List HandIn → Type 0
HoldOneSchedule sc hands =
    (frame slot : ℕ) → sc.sizes.bius ≤ slot → slot ≤ sync_slot_of sc.sizes → IsComplete sc hands frame slot
    → (me you : Side) (i j : ℕ) (mine yours : NodeState)
    → IsGoodBefore sc hands frame slot me i mine → IsGoodBefore sc hands frame slot you j yours
    → mine.owners ≡ yours.owners

-- all good nodes hold the same nodes of each kind convicted, before each complete slot and at the
-- start of each frame that is reached
abbrev pub ConvictAlike : Scenario → List HandIn → Type 0
ConvictAlike sc hands =
    (frame slot : ℕ) → slot ≤ sync_slot_of sc.sizes → IsSettled sc hands frame slot
    → (me you : Side) (i j : ℕ) (mine yours : NodeState)
    → IsGoodBefore sc hands frame slot me i mine → IsGoodBefore sc hands frame slot you j yours
    → (kind : Side) → convicted_of sc.sizes kind me mine ≡ convicted_of sc.sizes kind you yours

-- no good node holds a good node convicted, before a complete slot or at the start of a frame that
-- is reached
abbrev pub ConvictNoGoodNode : Scenario → List HandIn → Type 0
ConvictNoGoodNode sc hands =
    (frame slot : ℕ) → slot ≤ sync_slot_of sc.sizes → IsSettled sc hands frame slot
    → (me : Side) (i : ℕ) (st : NodeState) → IsGoodBefore sc hands frame slot me i st
    → (kind : Side) (j : ℕ) → is_good sc kind j frame slot ≡ true → has (convicted_of sc.sizes kind me st) j ≡ false

-- the whole promise
pub record Headline (sc : Scenario) (hands : List HandIn) : Type 0 where
  pub skew : BeginSlotsNear sc hands
  pub deliveries : DeliverAlike sc hands
  pub words : DeliverTheWord sc hands
  pub schedules : HoldOneSchedule sc hands
  pub convictions : ConvictAlike sc hands
  pub good_nodes_stay : ConvictNoGoodNode sc hands
