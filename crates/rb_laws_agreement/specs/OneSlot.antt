-- One slot below the sync slot, stage by stage, whatever nodes that are not good do: agreement,
-- validity, and that no good node is accused. There are no clocks, links and bytes in it: what came
-- from a node is its sense, and all bytes have one.
use Rattle.std.specs.Prelude.{ℕ, zero, suc, ◌≡◌, ◌+◌, ◌<◌, ◌≤◌, ◌&&◌, not, Bool, true, false, Option, Some, None, is_some, List, length, ◌⊎◌}
use Rattle.rb_base.specs.{Counting.{count_if, numbers}, Nodes.{Side, other, has}, Nodes.Side.{Biu, Rmu}, Sizes.{Sizes, IsShape, sync_slot_of}, declared.values.Delivery.Delivery, declared.values.Heard.Heard}
use Rattle.rb_rules.specs.{declared.role.Role.TheVariants.Data, declared.sense.Sense.Sense, declared.sense.Sense.TheVariants.{Silent, One}, ExactStage.{Outcome, own_value, says, message_of, keep_sent, close_exact, closing_of}, NodeState.{NodeState, trusted_of, sender_at}, Sense.value_in, Slots.{Sender, count_of, expects, role_of, sender_in, sender_kind}, Slots.Sender.Node, Standing.{Standing, taken_of}, StandsFor.votes_on}
use Rattle.rb_laws_agreement.specs.Values.{vote_on}

-- One stage at one node.

-- the good sources outnumber the other sources from which a node accepts something in a stage
abbrev pub GoodOutnumber : (ℕ → Bool) → (ℕ → Option Heard) → Type 0
GoodOutnumber good takes = count_if (λ j. not (good j) && is_some (takes j)) (numbers 16) < count_if good (numbers 16)

-- validity of a vote: if each good source says this value, and they outnumber the others, it is the
-- vote
abbrev pub VotesAreValid : Type 0
VotesAreValid =
    (s : Standing) (expected : ℕ → Bool) (sense : ℕ → Sense) (good : ℕ → Bool) (value : Heard)
    → ((j : ℕ) → good j ≡ true → taken_of value_in s expected sense j ≡ Some value)
    → GoodOutnumber good (taken_of value_in s expected sense)
    → (closing_of s expected sense).voted ≡ value

-- agreement of votes: two nodes that take the same of each source vote alike
abbrev pub VotesAgree : Type 0
VotesAgree =
    (s t : Standing) (mine yours : ℕ → Bool) (a b : ℕ → Sense)
    → ((j : ℕ) → j < 16 → taken_of value_in s mine a j ≡ taken_of value_in t yours b j)
    → (closing_of s mine a).voted ≡ (closing_of t yours b).voted

-- A slot at all nodes.

-- a slot at all nodes: the good nodes, the state and the word of each node before the slot, and
-- what the nodes get in its stages
pub record Exchange : Type 0 where
  pub sizes : Sizes
  pub slot : ℕ
  pub good : Side → ℕ → Bool
  pub before : Side → ℕ → NodeState
  pub word : ℕ → ℕ  -- what node i says in a schedule or data slot of its own
  pub came : ℕ → Side → ℕ → ℕ → Sense  -- what node i of a kind gets from source j in a stage

-- a node closes a stage on what came; if it is the sender, it keeps what it says
abbrev pub closes_in : Exchange → ℕ → Side → ℕ → NodeState → Outcome
closes_in x stage me i st =
    close_exact x.sizes me i (keep_sent x.sizes me i st x.slot stage (x.word i)) x.slot stage (x.came stage me i)

-- the state of node i of kind me after its first q stages
unfoldable pub state_after : Exchange → ℕ → Side → ℕ → NodeState
state_after x zero me i = x.before me i
state_after x (suc q) me i = (closes_in x (q + 1) me i (state_after x q me i)).state

-- what node i of kind me accepts from source j in the stage after the first q stages
abbrev pub takes_after : Exchange → ℕ → Side → ℕ → ℕ → Option Heard
takes_after x q me i j =
    let st = state_after x q me i in
    taken_of value_in st.far (expects me (role_of x.sizes x.slot) (sender_at x.sizes me st x.slot) st.far.trusted (q + 1))
    (x.came (q + 1) me i) j

-- what came is what a source says in a stage: its message, or nothing
abbrev pub Brings : NodeState → ℕ → ℕ → Option Heard → Sense → Type 0
Brings source slot stage None sense = sense ≡ Silent
Brings source slot stage (Some value) sense = (stamp : ℕ) × (sense ≡ One stamp (message_of source slot stage value))

-- a standing accuses node j in no way
pub record IsSpared (s : Standing) (j : ℕ) : Type 0 where
  pub direct : has s.direct j ≡ false
  pub mismatch : has s.mismatch j ≡ false

-- a good node before the slot trusts the nodes that all good ones trust, holds their owners of data
-- slots, has a place for its vote, and accuses no good node
pub record HoldsAlike (x : Exchange) (trusted : Side → ℕ) (owners : List ℕ) (me : Side) (i : ℕ) : Type 0 where
  pub trusts : (kind : Side) → trusted_of kind me (x.before me i) ≡ trusted kind
  pub owners_are : (x.before me i).owners ≡ owners
  pub has_place : x.slot < length (x.before me i).votes
  pub spares : (j : ℕ) → x.good (other me) j ≡ true → IsSpared (x.before me i).far j

-- all good nodes hold alike and trust the good ones, and get in each stage what good nodes say. Of
-- the others anything may come
pub record IsExchange (x : Exchange) (trusted : Side → ℕ) (owners : List ℕ) : Type 0 where
  pub shape : IsShape x.sizes
  pub below : x.slot < sync_slot_of x.sizes
  pub numbered : (kind : Side) (j : ℕ) → x.good kind j ≡ true → j < count_of kind x.sizes
  pub trusts_good : (kind : Side) (j : ℕ) → x.good kind j ≡ true → has (trusted kind) j ≡ true
  pub holds : (me : Side) (i : ℕ) → x.good me i ≡ true → HoldsAlike x trusted owners me i
  pub hears : (q : ℕ) (me : Side) (i j : ℕ) → q < 3 → x.good me i ≡ true → x.good (other me) j ≡ true
      → Brings (state_after x q (other me) j) x.slot (q + 1)
      (says x.sizes (other me) j (state_after x q (other me) j) x.slot (q + 1) (x.word j)) (x.came (q + 1) me i j)

-- no node of the kind is asymmetric: from each node that is not good all good nodes accept the same
abbrev pub NoneIsAsymmetric : Exchange → Side → Type 0
NoneIsAsymmetric x kind =
    (q a b j : ℕ) → q < 3 → x.good (other kind) a ≡ true → x.good (other kind) b ≡ true → x.good kind j ≡ false
    → takes_after x q (other kind) a j ≡ takes_after x q (other kind) b j

-- the fault premise: in stages 2 and 3 good sources outnumber all others from which a good node
-- accepts something, and of one kind no node is asymmetric
pub record KeepsPremise (x : Exchange) : Type 0 where
  pub most : (q : ℕ) (me : Side) (i : ℕ) → 1 ≤ q → q < 3 → x.good me i ≡ true
      → GoodOutnumber (x.good (other me)) (takes_after x q me i)
  pub one_kind : NoneIsAsymmetric x Biu ⊎ NoneIsAsymmetric x Rmu

-- a node's vote on the slot after all its stages
abbrev pub vote_after : Exchange → Side → ℕ → Heard
vote_after x me i = vote_on (state_after x 3 me i) x.slot

-- agreement: all good nodes that vote on the slot vote alike
abbrev pub VoteAlike : Exchange → Type 0
VoteAlike x =
    (me you : Side) (i j : ℕ) → x.good me i ≡ true → x.good you j ≡ true
    → votes_on x.sizes x.slot me ≡ true → votes_on x.sizes x.slot you ≡ true → vote_after x me i ≡ vote_after x you j

-- the sender in stage 1 of the slot, by the trusted nodes and the owners that all good nodes hold
abbrev pub sender_of : Exchange → (Side → ℕ) → List ℕ → Sender
sender_of x trusted owners = sender_in (trusted Biu) (trusted Rmu) owners (role_of x.sizes x.slot)

-- what node p says as the sender
abbrev pub value_sent : Exchange → ℕ → Heard
value_sent x p =
    let role = role_of x.sizes x.slot in own_value (x.before (sender_kind role) p) role (x.word p)

-- validity: if the sender is good, all vote for what it says
abbrev pub VoteForGoodSender : Exchange → (Side → ℕ) → List ℕ → Type 0
VoteForGoodSender x trusted owners =
    (p : ℕ) → sender_of x trusted owners ≡ Node p → x.good (sender_kind (role_of x.sizes x.slot)) p ≡ true
    → (me : Side) (i : ℕ) → x.good me i ≡ true → votes_on x.sizes x.slot me ≡ true → vote_after x me i ≡ value_sent x p

-- a value of node p, as BIU i delivers it
abbrev pub delivered_by : Exchange → ℕ → ℕ → Heard → Option Delivery
delivered_by x i p value = Some (record { frame = (x.before Biu i).frame; slot = x.slot; sender = p; value = value })

-- in a data slot that has an owner each good BIU delivers its vote with the close of stage 2
abbrev pub DeliverTheirVotes : Exchange → (Side → ℕ) → List ℕ → Type 0
DeliverTheirVotes x trusted owners =
    (n p i : ℕ) → role_of x.sizes x.slot ≡ Data n → sender_of x trusted owners ≡ Node p → x.good Biu i ≡ true
    → (closes_in x 2 Biu i (state_after x 1 Biu i)).closed.delivered ≡ delivered_by x i p (vote_after x Biu i)

-- no good node accuses a good one after any of the stages
abbrev pub AccuseNoGoodNode : Exchange → Type 0
AccuseNoGoodNode x =
    (q : ℕ) → q ≤ 3 → (me : Side) (i j : ℕ) → x.good me i ≡ true → x.good (other me) j ≡ true
    → IsSpared (state_after x q me i).far j

-- what the stages of a slot give
pub record AgreesInSlot (x : Exchange) (trusted : Side → ℕ) (owners : List ℕ) : Type 0 where
  pub agreement : VoteAlike x
  pub validity : VoteForGoodSender x trusted owners
  pub delivery : DeliverTheirVotes x trusted owners
  pub accusation : AccuseNoGoodNode x

abbrev pub OneSlotAgrees : Type 0
OneSlotAgrees =
    (x : Exchange) (trusted : Side → ℕ) (owners : List ℕ) → IsExchange x trusted owners → KeepsPremise x
    → AgreesInSlot x trusted owners
