-- What all good nodes hold before each window of a run that has met no breach.
use Rattle.std.proofs.Common.{◌≡◌, ℕ, ◌+◌, ◌*◌, ◌/◌, ◌<◌, ◌≤◌, min, Bool, true, false, List, length, Some, None, get_or, slice_get}
use Rattle.std.specs.Prelude.{IfSome}
use Rattle.rb_base.specs.{Nodes.{Side, other, has}, Nodes.Side.{Biu, Rmu}, Sizes.{Sizes, sync_slot_of}, declared.values.Heard.Heard, declared.values.Heard.TheVariants.Fault}
use Rattle.rb_rules.specs.{declared.role.Role.Role, declared.role.Role.TheVariants.{Schedule, Data, DiagBiu, DiagRmu, Sync}, Book.of_kind, Conviction.{is_valid, names}, ExactStage.own_value, Goodness.{Scenario, is_good}, Hearing.word_for, Judging.{is_asymmetric, is_benign}, NodeState.{NodeState, trusted_of}, Ports.HandIn, Rounds.{Moment, moment, windows_in}, Slots.{Sender, role_of, sender_kind, sender_in, count_of}, Slots.Sender.{Nobody, Node}, Moments.before_slot, StandsFor.votes_on}
use Rattle.rb_rules.proofs.{RoundStates.Knows, Senses.IsCarried}
use Rattle.rb_laws_agreement.proofs.Premises.{Premise}

-- what all good nodes have in common in a frame
pub record Shared : Type 0 where
  pub trusted : Side → ℕ  -- the nodes that are not convicted
  pub owners : List ℕ  -- of the data slots, once they stand
  pub values : ℕ → Heard  -- of the finished slots

-- the sender of a slot
abbrev pub sender_of : Sizes → Shared → ℕ → Sender
sender_of sizes s slot = sender_in (s.trusted Biu) (s.trusted Rmu) s.owners (role_of sizes slot)

-- the kind that sends in a slot
abbrev pub kind_in : Sizes → ℕ → Side
kind_in sizes slot = sender_kind (role_of sizes slot)

-- the slot of a window; the tail and the end of a frame are the sync slot's
abbrev pub slot_numbered : Sizes → ℕ → ℕ
slot_numbered sizes window = min (window / 3) (sync_slot_of sizes)

abbrev pub is_good_now : Scenario → Moment → Side → ℕ → Bool
is_good_now sc m me i = is_good sc me i m.frame (slot_numbered sc.sizes m.window)

-- node i of a kind is good before the window, and this is its state
pub record IsGoodNode (sc : Scenario) (m : Moment) (me : Side) (i : ℕ) (st : NodeState) : Type 0 where
  pub there : slice_get (of_kind me m.nodes) i ≡ Some st
  pub good : is_good_now sc m me i ≡ true

-- neither set of accusations has a node that is good
pub record SparesGood (sc : Scenario) (m : Moment) (me : Side) (st : NodeState) : Type 0 where
  pub direct : (j : ℕ) → is_good_now sc m (other me) j ≡ true → has st.far.direct j ≡ false
  pub mismatch : (j : ℕ) → is_good_now sc m (other me) j ≡ true → has st.far.mismatch j ≡ false

-- what a good node holds
pub record Holds (sc : Scenario) (m : Moment) (s : Shared) (me : Side) (st : NodeState) : Type 0 where
  pub frame : st.frame ≡ m.frame
  pub trusted : (kind : Side) → trusted_of kind me st ≡ s.trusted kind
  pub owners : st.owners ≡ s.owners
  pub long : length st.votes ≡ sync_slot_of sc.sizes
  pub spares : SparesGood sc m me st
  pub knows : Knows sc.sizes me m.window st

-- the slot is for a vector
abbrev pub is_diagnosis : Role → Bool
is_diagnosis (Schedule i) = false
is_diagnosis (Data n) = false
is_diagnosis (DiagBiu i) = true
is_diagnosis (DiagRmu i) = true
is_diagnosis Sync = false

-- a vector of nodes of a kind that names no good one
pub record IsVector (sc : Scenario) (m : Moment) (accused : Side) (value : Heard) : Type 0 where
  pub valid : is_valid (count_of accused sc.sizes) value ≡ true
  pub spared : (j : ℕ) → is_good_now sc m accused j ≡ true → names j value ≡ false

-- the value is what node p, the slot's sender, said when the slot began
pub record IsOwn (sc : Scenario) (hands : List HandIn) (m : Moment) (slot p : ℕ) (value : Heard) : Type 0 where
  pub said : (st : NodeState) → slice_get (of_kind (kind_in sc.sizes slot) (before_slot sc hands m.frame slot).nodes) p ≡ Some st
      → value ≡ own_value st (role_of sc.sizes slot) (word_for sc (before_slot sc hands m.frame slot).ports p slot (role_of sc.sizes slot))
  pub carried : IsCarried value
  pub vector : is_diagnosis (role_of sc.sizes slot) ≡ true → IsVector sc m (other (kind_in sc.sizes slot)) value

-- what is known of a slot's value
pub record IsValue (sc : Scenario) (hands : List HandIn) (m : Moment) (s : Shared) (slot : ℕ) (value : Heard) : Type 0 where
  pub idle : sender_of sc.sizes s slot ≡ Nobody → value ≡ Fault
  pub own : (p : ℕ) → sender_of sc.sizes s slot ≡ Node p → is_good_now sc m (kind_in sc.sizes slot) p ≡ true → IsOwn sc hands m slot p value
  pub unseen : (p : ℕ) → sender_of sc.sizes s slot ≡ Node p → is_benign (kind_in sc.sizes slot) m.book.stages p ≡ true → value ≡ Fault
  pub carried : IsCarried value

-- the slot is finished, with this value at all good nodes that vote on it
pub record IsFinished (sc : Scenario) (hands : List HandIn) (m : Moment) (s : Shared) (slot : ℕ) (value : Heard) : Type 0 where
  pub is_value : IsValue sc hands m s slot value
  pub held : (me : Side) (i : ℕ) (st : NodeState) → IsGoodNode sc m me i st → votes_on sc.sizes slot me ≡ true → get_or st.votes slot Fault ≡ value

-- after stage 2 the good nodes of the sender's kind have voted
pub record HasVoted (sc : Scenario) (hands : List HandIn) (m : Moment) (s : Shared) (slot : ℕ) : Type 0 where
  pub value : Heard
  pub is_value : IsValue sc hands m s slot value
  pub held : (i : ℕ) (st : NodeState) → IsGoodNode sc m (kind_in sc.sizes slot) i st → get_or st.votes slot Fault ≡ value

-- after stage 1 the good nodes of the other kind have what they relay. A good sender sent one value
-- to all
pub record GoodSent (sc : Scenario) (hands : List HandIn) (m : Moment) (slot p : ℕ) : Type 0 where
  pub value : Heard
  pub own : IsOwn sc hands m slot p value
  pub sent : (st : NodeState) → IsGoodNode sc m (kind_in sc.sizes slot) p st → st.sent ≡ Some value
  pub got : (i : ℕ) (st : NodeState) → IsGoodNode sc m (other (kind_in sc.sizes slot)) i st → st.got ≡ Some value

pub record HasRelays (sc : Scenario) (hands : List HandIn) (m : Moment) (s : Shared) (slot : ℕ) : Type 0 where
  pub own : (p : ℕ) → sender_of sc.sizes s slot ≡ Node p → is_good_now sc m (kind_in sc.sizes slot) p ≡ true → GoodSent sc hands m slot p
  pub alike : (p : ℕ) → sender_of sc.sizes s slot ≡ Node p → is_asymmetric (kind_in sc.sizes slot) m.book.stages p ≡ false
      → (a b : ℕ) (sta stb : NodeState) → IsGoodNode sc m (other (kind_in sc.sizes slot)) a sta → IsGoodNode sc m (other (kind_in sc.sizes slot)) b stb
      → sta.got ≡ stb.got
  pub unseen : (p : ℕ) → sender_of sc.sizes s slot ≡ Node p → is_benign (kind_in sc.sizes slot) m.book.stages p ≡ true
      → (i : ℕ) (st : NodeState) → IsGoodNode sc m (other (kind_in sc.sizes slot)) i st → st.got ≡ None
  pub carried : (i : ℕ) (st : NodeState) → IsGoodNode sc m (other (kind_in sc.sizes slot)) i st → IfSome st.got IsCarried

-- the agreement of all good nodes before window m.window of frame m.frame
pub record Agree (sc : Scenario) (hands : List HandIn) (n : ℕ) (m : Moment) (s : Shared) : Type 0 where
  pub is : m ≡ moment sc hands n
  pub place : n ≡ m.frame * (windows_in sc.sizes + 1) + m.window
  pub window : m.window ≤ windows_in sc.sizes
  pub counts : (me : Side) → length (of_kind me m.nodes) ≡ count_of me sc.sizes
  pub nodes : (me : Side) (i : ℕ) (st : NodeState) → IsGoodNode sc m me i st → Holds sc m s me st
  pub trusted : (kind : Side) (j : ℕ) → is_good_now sc m kind j ≡ true → has (s.trusted kind) j ≡ true
  pub inside : (kind : Side) (j : ℕ) → has (s.trusted kind) j ≡ true → j < count_of kind sc.sizes
  pub owned : (k p : ℕ) → slice_get s.owners k ≡ Some p → has (s.trusted Biu) p ≡ true
  pub finished : (slot : ℕ) → slot < sync_slot_of sc.sizes → 3 * slot + 3 ≤ m.window → IsFinished sc hands m s slot (s.values slot)
  pub relayed : (slot : ℕ) → slot < sync_slot_of sc.sizes → m.window ≡ 3 * slot + 1 → HasRelays sc hands m s slot
  pub voted : (slot : ℕ) → slot < sync_slot_of sc.sizes → m.window ≡ 3 * slot + 2 → HasVoted sc hands m s slot
  pub judged : 3 * sync_slot_of sc.sizes + 3 ≤ m.window → Premise sc m.frame (sync_slot_of sc.sizes) s.trusted m.book.stages
