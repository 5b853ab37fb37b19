-- Replicas: what a group of BIUs comes to at every good port.
use Rattle.std.specs.{Prelude.{ℕ, ◌≡◌, ◌+◌, ◌-◌, ◌<◌, ◌≤◌, ◌==◌, ◌&&◌, not, Bool, true, false, if◌then◌else◌, Option, Some, None, is_some, List, [], ◌∷◌}, List.range_with_len}
use Rattle.rb_base.specs.{Counting.{count_if, numbers}, Nodes.{Side, has}, Nodes.Side.Biu, Sizes.Sizes, declared.values.Heard.TheVariants.Word}
use Rattle.rb_rules.specs.{Goodness.{Scenario, is_good}, Lawful.IsLawful, Moments.{IsComplete, IsGoodBefore, offered_in}, NodeState.NodeState, NodeSteps.owner_at, Ports.HandIn, Rounds.records_of}
use Rattle.rb_group.specs.{declared.voters.Which.Which, declared.voters.Which.TheVariants.{Most, Mid}, Portions.value_at}

-- The data slots of a frame.

abbrev pub last_data_slot : Sizes → ℕ
last_data_slot sizes = sizes.bius + sizes.data_slots - 1

-- BIU i is good up to the end of the data slots
abbrev pub IsGoodPort : Scenario → ℕ → ℕ → Type 0
IsGoodPort sc frame i = is_good sc Biu i frame (last_data_slot sc.sizes) ≡ true

-- the data slots are complete without a breach
abbrev pub AreServed : Scenario → List HandIn → ℕ → Type 0
AreServed sc hands frame = IsComplete sc hands frame (last_data_slot sc.sizes)

-- `owner` gives the owner of each data slot of the frame as each node holds it that is good there
abbrev pub IsSchedule : Scenario → List HandIn → ℕ → (ℕ → Option ℕ) → Type 0
IsSchedule sc hands frame owner =
    (slot : ℕ) → sc.sizes.bius ≤ slot → slot ≤ last_data_slot sc.sizes
    → (me : Side) (i : ℕ) (st : NodeState) → IsGoodBefore sc hands frame slot me i st → owner_at sc.sizes st slot ≡ owner slot

-- The owners of slots.

-- the answer is the number i
abbrev pub is_number : ℕ → Option ℕ → Bool
is_number i None = false
is_number i (Some n) = n == i

-- the first of these slots that is BIU i's
abbrev pub first_among : (ℕ → Option ℕ) → ℕ → List ℕ → Option ℕ
first_among owner i [] = None
first_among owner i (slot ∷ slots) = if is_number i (owner slot) then Some slot else first_among owner i slots

-- the first data slot of BIU i, if it owns one
abbrev pub first_slot : Sizes → (ℕ → Option ℕ) → ℕ → Option ℕ
first_slot sizes owner i = first_among owner i (range_with_len sizes.bius sizes.data_slots)

-- what BIU i offers in its first data slot, if it owns one and is good there
abbrev pub offer_in : Scenario → List HandIn → ℕ → ℕ → Option ℕ → Option ℕ
offer_in sc hands frame i None = None
offer_in sc hands frame i (Some slot) = if is_good sc Biu i frame slot then Some (offered_in sc hands frame slot i) else None

abbrev pub offer_of : Scenario → List HandIn → ℕ → (ℕ → Option ℕ) → ℕ → Option ℕ
offer_of sc hands frame owner i = offer_in sc hands frame i (first_slot sc.sizes owner i)

-- Members, with the owners of the data slots.

-- a member that owns a slot
abbrev pub has_slot : Scenario → (ℕ → Option ℕ) → ℕ → ℕ → Bool
has_slot sc owner members i = has members i && is_some (first_slot sc.sizes owner i)

-- a member that is a good owner
abbrev pub is_good_owner : Scenario → List HandIn → ℕ → (ℕ → Option ℕ) → ℕ → ℕ → Bool
is_good_owner sc hands frame owner members i = has members i && is_some (offer_of sc hands frame owner i)

-- a member that is a good owner and offers this word
abbrev pub offers : Scenario → List HandIn → ℕ → (ℕ → Option ℕ) → ℕ → ℕ → ℕ → Bool
offers sc hands frame owner members word i = has members i && is_number word (offer_of sc hands frame owner i)

-- among the 16 BIUs that there may be, more pass the test `chosen` than pass only the test `all`
unfoldable pub Outnumber : (ℕ → Bool) → (ℕ → Bool) → Type 0
Outnumber chosen all = count_if (λ i. not (chosen i) && all i) (numbers 16) < count_if chosen (numbers 16)

-- The laws.

-- good ports find equal values for a group in each frame
abbrev pub PortsFindAlike : Scenario → List HandIn → Which → ℕ → Type 0
PortsFindAlike sc hands which members =
    (frame i j : ℕ) → IsGoodPort sc frame i → IsGoodPort sc frame j
    → value_at which members (records_of sc hands) frame i ≡ value_at which members (records_of sc hands) frame j

abbrev pub GroupsAgree : Type 0
GroupsAgree = (sc : Scenario) (hands : List HandIn) → IsLawful sc → (which : Which) (members : ℕ) → PortsFindAlike sc hands which members

-- each frame with a good port has one schedule
abbrev pub FramesHaveASchedule : Type 0
FramesHaveASchedule =
    (sc : Scenario) (hands : List HandIn) → IsLawful sc → (frame : ℕ) → AreServed sc hands frame → (port : ℕ) → IsGoodPort sc frame port
    → (owner : ℕ → Option ℕ) × IsSchedule sc hands frame owner

-- In each frame whose data slots are served, with the owners of these slots: if the members that
-- offer a word as good owners outnumber the other members that own a slot, every good port finds
-- this word for the group
abbrev pub FindsTheirWord : Scenario → List HandIn → ℕ → Type 0
FindsTheirWord sc hands members =
    (frame : ℕ) → AreServed sc hands frame
    → (owner : ℕ → Option ℕ) → IsSchedule sc hands frame owner → (word : ℕ)
    → Outnumber (offers sc hands frame owner members word) (has_slot sc owner members)
    → (port : ℕ) → IsGoodPort sc frame port → value_at Most members (records_of sc hands) frame port ≡ Word word

abbrev pub MostFindsTheWord : Type 0
MostFindsTheWord = (sc : Scenario) (hands : List HandIn) → IsLawful sc → (members : ℕ) → FindsTheirWord sc hands members

-- the words of the good owners among the members lie between these
abbrev pub OffersAreWithin : Scenario → List HandIn → ℕ → (ℕ → Option ℕ) → ℕ → ℕ → ℕ → Type 0
OffersAreWithin sc hands frame owner members low high =
    (i word : ℕ) → has members i ≡ true → offer_of sc hands frame owner i ≡ Some word → (low ≤ word) × (word ≤ high)

-- In each frame whose data slots are served, with the owners of these slots: if the good owners
-- among the members outnumber the other members that own a slot, every good port finds a word for
-- the group that lies between those of the good owners
abbrev pub StaysBetweenThem : Scenario → List HandIn → ℕ → Type 0
StaysBetweenThem sc hands members =
    (frame : ℕ) → AreServed sc hands frame
    → (owner : ℕ → Option ℕ) → IsSchedule sc hands frame owner
    → Outnumber (is_good_owner sc hands frame owner members) (has_slot sc owner members)
    → (low high : ℕ) → OffersAreWithin sc hands frame owner members low high
    → (port : ℕ) → IsGoodPort sc frame port
    → (word : ℕ) × ((value_at Mid members (records_of sc hands) frame port ≡ Word word) × ((low ≤ word) × (word ≤ high)))

abbrev pub MidStaysBetween : Type 0
MidStaysBetween = (sc : Scenario) (hands : List HandIn) → IsLawful sc → (members : ℕ) → StaysBetweenThem sc hands members

-- what the voter finds of the good members' words
abbrev pub FindsTheMembers : Scenario → List HandIn → Which → ℕ → Type 0
FindsTheMembers sc hands Most members = FindsTheirWord sc hands members
FindsTheMembers sc hands Mid members = StaysBetweenThem sc hands members
