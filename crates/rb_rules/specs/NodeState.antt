-- The state of one node between windows.
use Rattle.std.specs.Prelude.{ℕ, nat_lt, Option, None, List, [], replicate}
use Rattle.rb_base.specs.{Nodes.{Side, other, set_of}, Nodes.Side.{Biu, Rmu}, Sizes.{Sizes, sync_slot_of}, declared.values.Heard.Heard, declared.values.Heard.TheVariants.Fault}
use Rattle.rb_rules.specs.{Slots.{Sender, count_of, role_of, sender_in}, Standing.{Standing, first_standing}}

pub record NodeState : Type 0 where
  pub frame : ℕ
  pub epoch : ℕ  -- the tick with which the frame began
  pub far : Standing  -- the standing of the nodes of the other kind
  pub near : ℕ  -- the trusted nodes of its own kind
  pub sent : Option Heard  -- what it sent in stage 1 of its own slot, until the close of stage 2
  pub got : Option Heard  -- what it accepted from the slot's sender in stage 1
  pub votes : List Heard  -- the node's votes of the frame, by slot; Fault if there is none
  pub owners : List ℕ  -- the owners of the frame's data slots, once they are known
  pub k1 : Option ℕ  -- the middle stamps of the frame's sync slot, by stage
  pub k2 : Option ℕ
  pub k3 : Option ℕ

-- the state at the start of a frame has no votes, owners or middles
abbrev pub fresh_state : Sizes → ℕ → ℕ → Standing → ℕ → NodeState
fresh_state sizes frame epoch far near = record {
  frame = frame;
  epoch = epoch;
  far = far;
  near = near;
  sent = None;
  got = None;
  votes = replicate (sync_slot_of sizes) Fault;
  owners = [];
  k1 = None;
  k2 = None;
  k3 = None;
}

-- at first all nodes are trusted, and frame 0 begins with tick 0
abbrev pub first_state : Sizes → Side → NodeState
first_state sizes me =
    fresh_state sizes 0 0 (first_standing (count_of (other me) sizes)) (set_of (λ i. nat_lt i (count_of me sizes)))

-- the trusted nodes of a kind, as a node of kind me holds them
abbrev pub trusted_of : Side → Side → NodeState → ℕ
trusted_of Biu Biu st = st.near
trusted_of Biu Rmu st = st.far.trusted
trusted_of Rmu Biu st = st.far.trusted
trusted_of Rmu Rmu st = st.near

-- the sender in stage 1 of a slot, as a node of kind me in state st holds it
abbrev pub sender_at : Sizes → Side → NodeState → ℕ → Sender
sender_at sizes me st slot = sender_in (trusted_of me Biu st) (trusted_of me Rmu st) st.owners (role_of sizes slot)
