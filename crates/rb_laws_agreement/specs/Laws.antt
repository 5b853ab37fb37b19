-- What holds of every lawful scenario and every list of hand-ins up to the first breach of the
-- premise on faults: in slots that are complete without one, as are all before them. Of clocks only
-- the last two laws speak, by their premise.
use Rattle.std.specs.Prelude.{ℕ, suc, ◌≡◌, ◌+◌, ◌<◌, ◌≤◌, ◌||◌, true, false, Some, List, slice_get}
use Rattle.rb_base.specs.{Nodes.{Side, other, has}, Nodes.Side.Biu, Sizes.sync_slot_of, declared.values.Heard.Heard}
use Rattle.rb_rules.specs.{Book.of_kind, Conviction.{is_valid, voted_vector}, Goodness.{Scenario, is_good}, Headline.{DeliverAlike, DeliverTheWord, HoldOneSchedule, ConvictAlike, ConvictNoGoodNode, Headline}, Hearing.port_at, Judging.is_benign, Lawful.IsLawful, Moments.{before_slot, after_slot, IsComplete, IsSettled, IsGoodBefore, IsGoodAfter}, NodeState.{NodeState, trusted_of}, NodeSteps.convicted_of, Ports.HandIn, Slots.{count_of, first_diagnosis_of}, Standing.Standing, StandsFor.{SparesAllGood, StandsFor}}
use Rattle.rb_laws_agreement.specs.{BusValues.StepsTheBus, Histories.{port_through, port_begun, AreAlike}, Times.KeepsTime, Values.{HasValue, IsGoodSender, value_of_sender}}

-- Agreement.

-- each slot below the sync slot has one value
abbrev pub GoodNodesAgree : Type 0
GoodNodesAgree =
    (sc : Scenario) (hands : List HandIn) → IsLawful sc
    → (frame slot : ℕ) → slot < sync_slot_of sc.sizes → IsComplete sc hands frame slot
    → (value : Heard) × HasValue sc hands frame slot value

-- if the sender is good, the value is the sender's own
abbrev pub GoodSendersAreHeard : Type 0
GoodSendersAreHeard =
    (sc : Scenario) (hands : List HandIn) → IsLawful sc
    → (frame slot : ℕ) → slot < sync_slot_of sc.sizes → IsComplete sc hands frame slot
    → (p : ℕ) (st : NodeState) → IsGoodSender sc hands frame slot p st
    → HasValue sc hands frame slot (value_of_sender sc hands frame slot p st)

-- in each complete slot that has an owner all good BIUs deliver one value, and if the owner is
-- good, it is the word that its application offered
abbrev pub DeliveriesAreRight : Type 0
DeliveriesAreRight = (sc : Scenario) (hands : List HandIn) → IsLawful sc → DeliverAlike sc hands × DeliverTheWord sc hands

-- all good nodes trust the same nodes of each kind, in each complete slot and at the start of each
-- frame
abbrev pub TrustAlike : Scenario → List HandIn → Type 0
TrustAlike sc hands =
    (frame slot : ℕ) → slot ≤ sync_slot_of sc.sizes → IsSettled sc hands frame slot
    → (me you : Side) (i j : ℕ) (mine yours : NodeState)
    → IsGoodBefore sc hands frame slot me i mine → IsGoodBefore sc hands frame slot you j yours
    → (kind : Side) → trusted_of kind me mine ≡ trusted_of kind you yours

-- all good nodes hold one schedule, trust the same nodes, and therefore hold the same ones
-- convicted
pub record HoldTheSame (sc : Scenario) (hands : List HandIn) : Type 0 where
  pub schedules : HoldOneSchedule sc hands
  pub trusted : TrustAlike sc hands
  pub convicted : ConvictAlike sc hands

abbrev pub GoodNodesHoldOneSchedule : Type 0
GoodNodesHoldOneSchedule = (sc : Scenario) (hands : List HandIn) → IsLawful sc → HoldTheSame sc hands

-- Accusation and conviction.

-- no good node accuses a good one after a slot, directly or by mismatch
abbrev pub NoGoodNodeIsAccused : Type 0
NoGoodNodeIsAccused =
    (sc : Scenario) (hands : List HandIn) → IsLawful sc
    → (frame slot : ℕ) → slot ≤ sync_slot_of sc.sizes → IsComplete sc hands frame slot
    → (me : Side) (i : ℕ) (st : NodeState) → IsGoodAfter sc hands frame slot me i st → SparesAllGood sc frame slot me st

-- no good node is convicted, in a complete slot or at the start of a frame
abbrev pub NoGoodNodeIsConvicted : Type 0
NoGoodNodeIsConvicted = (sc : Scenario) (hands : List HandIn) → IsLawful sc → ConvictNoGoodNode sc hands

-- the slot for the vector of node p of a kind
abbrev pub vector_slot_of : Scenario → Side → ℕ → ℕ
vector_slot_of sc kind p = first_diagnosis_of kind sc.sizes + p

-- a node from which no good node accepted anything in the frame so far has no valid vector
abbrev pub GiveUnheardNodesNoVector : Scenario → List HandIn → Type 0
GiveUnheardNodesNoVector sc hands =
    (frame slot : ℕ) → slot ≤ sync_slot_of sc.sizes → IsComplete sc hands frame slot
    → (kind : Side) (p : ℕ) → p < count_of kind sc.sizes → vector_slot_of sc kind p ≤ slot
    → is_benign kind (after_slot sc hands frame slot).book.stages p ≡ true
    → (me : Side) (i : ℕ) (st : NodeState) → IsGoodAfter sc hands frame slot me i st
    → (others : ℕ) → is_valid others (voted_vector sc.sizes kind st p) ≡ false

abbrev pub UnheardNodesHaveNoVector : Type 0
UnheardNodesHaveNoVector = (sc : Scenario) (hands : List HandIn) → IsLawful sc → GiveUnheardNodesNoVector sc hands

-- a node with this standing accuses node j
abbrev pub Accuses : Standing → ℕ → Type 0
Accuses s j = (has s.direct j || has s.mismatch j) ≡ true

-- each node of the other kind that is good in the frame's sync slot accuses node j when it sends
-- its vector
abbrev pub IsAccusedByAll : Scenario → List HandIn → ℕ → Side → ℕ → Type 0
IsAccusedByAll sc hands frame accused j =
    (i : ℕ) (st : NodeState) → is_good sc (other accused) i frame (sync_slot_of sc.sizes) ≡ true
    → slice_get (of_kind (other accused) (before_slot sc hands frame (vector_slot_of sc (other accused) i)).nodes) i ≡ Some st
    → Accuses st.far j

-- whoever all good nodes of the other kind accuse is convicted when the frame has ended
abbrev pub ConvictWhomAllAccuse : Scenario → List HandIn → Type 0
ConvictWhomAllAccuse sc hands =
    (frame : ℕ) → IsComplete sc hands frame (sync_slot_of sc.sizes)
    → (accused : Side) (j : ℕ) → j < count_of accused sc.sizes → IsAccusedByAll sc hands frame accused j
    → (me : Side) (i : ℕ) (st : NodeState) → IsGoodBefore sc hands (frame + 1) 0 me i st
    → has (convicted_of sc.sizes accused me st) j ≡ true

abbrev pub AccusedByAllIsConvicted : Type 0
AccusedByAllIsConvicted = (sc : Scenario) (hands : List HandIn) → IsLawful sc → ConvictWhomAllAccuse sc hands

-- Ports.

-- after each complete slot a good BIU's port is what the bus's values make of it
abbrev pub GoodPortsFollowTheBus : Scenario → List HandIn → Type 0
GoodPortsFollowTheBus sc hands =
    (frame slot : ℕ) → slot ≤ sync_slot_of sc.sizes → IsComplete sc hands frame slot
    → (i : ℕ) → is_good sc Biu i frame slot ≡ true
    → port_at sc (after_slot sc hands frame slot).ports i ≡ port_through sc hands frame (suc slot) (port_begun sc hands i frame)

abbrev pub PortsFollowTheBus : Type 0
PortsFollowTheBus = (sc : Scenario) (hands : List HandIn) → IsLawful sc → GoodPortsFollowTheBus sc hands

-- after each complete slot good BIUs with one application, one first word and equal hand-ins have
-- equal ports
abbrev pub GoodPortsAgree : Scenario → List HandIn → Type 0
GoodPortsAgree sc hands =
    (frame slot : ℕ) → slot ≤ sync_slot_of sc.sizes → IsComplete sc hands frame slot
    → (i j : ℕ) → is_good sc Biu i frame slot ≡ true → is_good sc Biu j frame slot ≡ true → AreAlike sc hands i j
    → port_at sc (after_slot sc hands frame slot).ports i ≡ port_at sc (after_slot sc hands frame slot).ports j

abbrev pub PortsHoldOneState : Type 0
PortsHoldOneState = (sc : Scenario) (hands : List HandIn) → IsLawful sc → GoodPortsAgree sc hands

-- The abstract bus.

-- whatever the times are at which frames begin
abbrev pub RoundsStepTheBus : Type 0
RoundsStepTheBus = (sc : Scenario) (hands : List HandIn) → IsLawful sc → (low : ℕ → ℕ) → StepsTheBus sc hands low

-- if good nodes keep time, the rounds stand for a run of the bus
abbrev pub TimeIsAllThatIsLeft : Type 0
TimeIsAllThatIsLeft = (sc : Scenario) (hands : List HandIn) → IsLawful sc → KeepsTime sc hands → StandsFor sc hands

-- if good nodes keep time, all that the bus promises holds
abbrev pub TimeKeepsThePromise : Type 0
TimeKeepsThePromise = (sc : Scenario) (hands : List HandIn) → IsLawful sc → KeepsTime sc hands → Headline sc hands
