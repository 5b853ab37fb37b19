-- The value of a slot: what all good nodes that vote on it hold, and what the BIUs deliver.
use Rattle.std.specs.Prelude.{ℕ, ◌≡◌, true, Option, Some, None, List, [], get_or, slice_get}
use Rattle.rb_base.specs.{Nodes.Side, declared.values.Heard.Heard, declared.values.Heard.TheVariants.Fault}
use Rattle.rb_rules.specs.{declared.record.SlotLine.SlotLine, Book.of_kind, ExactStage.own_value, Goodness.{Scenario, is_good}, Headline.{lines_of, HasRecord}, Hearing.word_for, Moments.{before_stage, before_slot, IsGoodBefore, IsGoodAfter}, NodeState.{NodeState, sender_at}, NodeSteps.owner_at, Ports.HandIn, Slots.{role_of, sender_kind}, Slots.Sender.Node, StandsFor.votes_on}

-- the kind that sends in stage 1 of a slot, and votes in stage 2
abbrev pub kind_in : Scenario → ℕ → Side
kind_in sc slot = sender_kind (role_of sc.sizes slot)

-- node i of the kind that sends is good in the slot, and this is its state after stage 2
pub record IsGoodVoter (sc : Scenario) (hands : List HandIn) (frame slot i : ℕ) (st : NodeState) : Type 0 where
  pub good : is_good sc (kind_in sc slot) i frame slot ≡ true
  pub state : slice_get (of_kind (kind_in sc slot) (before_stage sc hands frame slot 3).nodes) i ≡ Some st

-- a node's vote on a slot
abbrev pub vote_on : NodeState → ℕ → Heard
vote_on st slot = get_or st.votes slot Fault

-- what is delivered in a slot: if it has an owner the value, at each good BIU
abbrev pub lines_in : Scenario → ℕ → ℕ → Option ℕ → Heard → List SlotLine
lines_in sc frame slot None value = []
lines_in sc frame slot (Some owner) value = lines_of sc frame slot owner value

-- the value is the slot's: the good nodes of the kind that sends have voted for it after stage 2,
-- and after stage 3 all good nodes that vote on the slot; and the slot's record has it, by
-- whichever good node's schedule. There is a good voter, so a slot has one value
pub record HasValue (sc : Scenario) (hands : List HandIn) (frame slot : ℕ) (value : Heard) : Type 0 where
  pub some_voter : (i : ℕ) × ((st : NodeState) × IsGoodVoter sc hands frame slot i st)
  pub voters : (i : ℕ) (st : NodeState) → IsGoodVoter sc hands frame slot i st → vote_on st slot ≡ value
  pub all : (me : Side) (i : ℕ) (st : NodeState) → IsGoodAfter sc hands frame slot me i st → votes_on sc.sizes slot me ≡ true → vote_on st slot ≡ value
  pub record_is : (me : Side) (i : ℕ) (st : NodeState) → IsGoodBefore sc hands frame slot me i st
      → HasRecord sc hands frame slot (lines_in sc frame slot (owner_at sc.sizes st slot) value)

-- node p is good, and the slot's sender as it holds it in this state before the slot
pub record IsGoodSender (sc : Scenario) (hands : List HandIn) (frame slot p : ℕ) (st : NodeState) : Type 0 where
  pub before : IsGoodBefore sc hands frame slot (kind_in sc slot) p st
  pub sends : sender_at sc.sizes (kind_in sc slot) st slot ≡ Node p

-- what such a sender has to say: its request, the word that its application offers, or its vector
abbrev pub value_of_sender : Scenario → List HandIn → ℕ → ℕ → ℕ → NodeState → Heard
value_of_sender sc hands frame slot p st =
    own_value st (role_of sc.sizes slot) (word_for sc (before_slot sc hands frame slot).ports p slot (role_of sc.sizes slot))
