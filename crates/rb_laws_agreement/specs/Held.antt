-- The word that a table holds, and the law that all good BIUs deliver it.
use Rattle.std.specs.Prelude.{ℕ, zero, suc, ◌≡◌, ◌^◌, ◌%◌, ◌<◌, true, Some, List, [], ◌∷◌, get_or}
use Rattle.rb_base.specs.{Nodes.Side, Nodes.Side.Biu, Sizes.sync_slot_of, declared.values.Heard.TheVariants.Word}
use Rattle.rb_rules.specs.{Goodness.{Scenario, is_good}, Headline.{HasRecord, lines_of}, Lawful.IsLawful, Moments.{IsComplete, IsGoodBefore}, NodeState.NodeState, NodeSteps.owner_at, Ports.HandIn}
use Rattle.rb_laws_agreement.specs.Histories.{states_for}

-- the last of `states`, or `state` if the list is empty
abbrev pub last_state : ℕ → List ℕ → ℕ
last_state state [] = state
last_state state (next ∷ states) = last_state next states

-- the state that the table of BIU i holds in a frame: the last one handed to it for this frame or
-- an earlier one, or the scenario's word if none was handed to it
abbrev pub state_held : Scenario → List HandIn → ℕ → ℕ → ℕ
state_held sc hands i zero = last_state (get_or sc.words i 0) (states_for i 0 hands)
state_held sc hands i (suc frame) = last_state (state_held sc hands i frame) (states_for i (suc frame) hands)

-- in each complete slot whose owner is a good BIU with a table, all good BIUs deliver the state
-- that the table holds, as a word. The owner is the one in the schedule of any good node
abbrev pub DeliverTheHeldWord : Scenario → List HandIn → Type 0
DeliverTheHeldWord sc hands =
    (frame slot : ℕ) → slot < sync_slot_of sc.sizes → IsComplete sc hands frame slot
    → (me : Side) (i : ℕ) (st : NodeState) → IsGoodBefore sc hands frame slot me i st
    → (owner : ℕ) → owner_at sc.sizes st slot ≡ Some owner → is_good sc Biu owner frame slot ≡ true → get_or sc.apps owner 0 ≡ 0
    → HasRecord sc hands frame slot (lines_of sc frame slot owner (Word (state_held sc hands owner frame % 2 ^ 32)))

-- the held words are delivered in every lawful scenario, for any hand-ins
abbrev pub HeldWordsAreDelivered : Type 0
HeldWordsAreDelivered = (sc : Scenario) (hands : List HandIn) → IsLawful sc → DeliverTheHeldWord sc hands
