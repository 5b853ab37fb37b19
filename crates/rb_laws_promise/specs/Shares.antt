-- The data slots that each good BIU is sure of.
use Rattle.std.specs.Prelude.{ℕ, ◌≡◌, ◌/◌, ◌≤◌, ◌==◌, min, true, List, get_or}
use Rattle.rb_base.specs.{Counting.count_if, Nodes.Side, Nodes.Side.Biu, Sizes.sync_slot_of}
use Rattle.rb_rules.specs.{Goodness.{Scenario, is_good}, Lawful.IsLawful, Moments.{IsComplete, IsGoodBefore}, NodeState.NodeState, Ports.HandIn}

-- how many of the owners are BIU i
abbrev pub slots_of : ℕ → List ℕ → ℕ
slots_of i owners = count_if (λ owner. owner == i) owners

-- the number of slots that BIU i is sure of: as many as it asks for, but at most an equal share of
-- the data slots, rounded down
abbrev pub share_of : Scenario → ℕ → ℕ
share_of sc i = min (get_or sc.requests i 0) (sc.sizes.data_slots / sc.sizes.bius)

-- from the first data slot of a frame on, in the schedule of each good node, each good BIU owns at
-- least as many data slots as it is sure of, whatever the other BIUs ask for
abbrev pub GetTheirShare : Scenario → List HandIn → Type 0
GetTheirShare sc hands =
    (frame slot : ℕ) → sc.sizes.bius ≤ slot → slot ≤ sync_slot_of sc.sizes → IsComplete sc hands frame slot
    → (me : Side) (j : ℕ) (st : NodeState) → IsGoodBefore sc hands frame slot me j st
    → (i : ℕ) → is_good sc Biu i frame slot ≡ true → share_of sc i ≤ slots_of i st.owners

-- good BIUs get their share in every lawful scenario, for any hand-ins
abbrev pub GoodBiusGetTheirShare : Type 0
GoodBiusGetTheirShare = (sc : Scenario) (hands : List HandIn) → IsLawful sc → GetTheirShare sc hands
