-- The stages below the sync slot: what a node says in a stage, and what it makes of the arrivals
-- when it closes the stage.
use Rattle.std.specs.{Prelude.{ℕ, ◌+◌, ◌%◌, ◌==◌, ◌&&◌, not, Bool, false, if◌then◌else◌, Option, Some, None, unwrap_or, is_some, List, map, get_or, slice_set, take}, List.filter_map}
use Rattle.rb_base.specs.{Counting.numbers, Nodes.{Side, other}, Nodes.Side.Biu, Sizes.Sizes, declared.values.Delivery.Delivery, declared.values.Heard.Heard, declared.values.See.See, declared.values.See.TheVariants.{Nothing, Value}}
use Rattle.rb_rules.specs.{declared.closing.Closed.Closed, declared.closing.Closing.Closing, declared.message.Message.Message, declared.role.Role.Role, declared.role.Role.TheVariants.{Schedule, Data, DiagBiu, DiagRmu, Sync}, declared.sense.Sense.Sense, Majority.majority_of, NodeState.{NodeState, trusted_of, sender_at}, Owners.owners_of, Sense.value_in, Slots.{Sender, same_side, sender_kind, listens, expects, role_of}, Slots.Sender.{Nobody, Node, EachTrusted}, Standing.{Standing, taken_of, has_evidence, with_evidence, is_unlike, with_mismatch, vector_of}}
use Rattle.rb_base.specs.declared.values.Heard.TheVariants as heard
use Rattle.rb_rules.specs.declared.message.Tag.TheVariants as tag

-- What a node says.

-- what the sender of a slot says: its request, its word or its vector; `word` is its request or its
-- word
abbrev pub own_value : NodeState → Role → ℕ → Heard
own_value st (Schedule i) word = heard.Word word
own_value st (Data n) word = heard.Word word
own_value st (DiagBiu i) word = heard.Word (vector_of st.far)
own_value st (DiagRmu i) word = heard.Word (vector_of st.far)
own_value st Sync word = heard.Fault

-- node `index` of kind me is the slot's sender
abbrev pub is_sender : Side → ℕ → Role → Sender → Bool
is_sender me index role Nobody = false
is_sender me index role (Node i) = same_side me (sender_kind role) && (index == i)
is_sender me index role EachTrusted = false

-- what a node says in a stage in which its kind may send: in stage 1 its own value, if it is the
-- sender; in stage 2 what it accepted from the slot's sender, or Fault if it accepted nothing; in
-- stage 3 its vote
abbrev pub value_said : Side → ℕ → NodeState → ℕ → Role → Sender → ℕ → ℕ → Option Heard
value_said me index st slot role sender stage word =
    if stage == 1 then (if is_sender me index role sender then Some (own_value st role word) else None)
    else (if stage == 2 then Some (unwrap_or st.got heard.Fault) else Some (get_or st.votes slot heard.Fault))

-- what a node says in a stage, if anything. In an idle slot all are silent
abbrev pub says_of : Side → ℕ → NodeState → ℕ → Role → Sender → ℕ → ℕ → Option Heard
says_of me index st slot role Nobody stage word = None
says_of me index st slot role (Node i) stage word =
    if listens (other me) role stage then value_said me index st slot role (Node i) stage word else None
says_of me index st slot role EachTrusted stage word = None

-- what node `index` of kind me says in a stage of a slot
abbrev pub says : Sizes → Side → ℕ → NodeState → ℕ → ℕ → ℕ → Option Heard
says sizes me index st slot stage word = says_of me index st slot (role_of sizes slot) (sender_at sizes me st slot) stage word

-- a value as a message of this stage of this slot
abbrev pub message_of : NodeState → ℕ → ℕ → Heard → Message
message_of st slot stage (heard.Word word) =
    record { tag = tag.Word; frame = st.frame % 65536; slot = slot; stage = stage; value = word }
message_of st slot stage heard.Fault =
    record { tag = tag.Fault; frame = st.frame % 65536; slot = slot; stage = stage; value = 0 }

-- a sender keeps the value that it says in its own slot
abbrev pub keep_sent : Sizes → Side → ℕ → NodeState → ℕ → ℕ → ℕ → NodeState
keep_sent sizes me index st slot stage word =
    if (stage == 1) && is_some (says sizes me index st slot stage word)
    then record st { sent = says sizes me index st slot stage word }
    else st

-- What a node makes of the arrivals.

-- one value for each of the 16 nodes that there may be
abbrev pub each_node : {X : Type 0} → (ℕ → X) → List X
each_node of_node = map of_node (numbers 16)

-- the values that are there
abbrev pub present : {X : Type 0} → List (Option X) → List X
present values = filter_map (λ v. v) values

-- the value of source j, if it has one
abbrev pub at_source : {X : Type 0} → List (Option X) → ℕ → Option X
at_source taken j = get_or taken j None

-- what the node accepted from each source, and the majority of the accepted values
abbrev pub closing_of : Standing → (ℕ → Bool) → (ℕ → Sense) → Closing
closing_of s expected sense =
    let taken = each_node (taken_of value_in s expected sense) in
    record { taken = taken; voted = majority_of (present taken) }

-- what a relay accepted from the slot's sender
abbrev pub taken_of_sender : Sender → Closing → Option Heard
taken_of_sender Nobody c = None
taken_of_sender (Node i) c = at_source c.taken i
taken_of_sender EachTrusted c = None

-- a node votes in each of the stages 2 and 3 in which it listens. The vote over no values, as in an
-- idle slot, is Fault
abbrev pub votes_in : Side → Role → ℕ → Bool
votes_in me role stage = listens me role stage && not (stage == 1)

-- the value with which a node compares the accepted values: in stage 2, if it is the slot's sender,
-- the value that it sent; in stage 3, if it votes, its vote; otherwise none
abbrev pub reference_value : Side → ℕ → NodeState → Role → Sender → ℕ → Closing → Option Heard
reference_value me index st role sender stage c =
    if (stage == 2) && is_sender me index role sender then st.sent
    else (if (stage == 3) && votes_in me role stage then Some c.voted else None)

-- the standing after a mismatch accusation of each source from which something other than `value`
-- was accepted
abbrev pub with_unlike : Heard → List (Option Heard) → Standing → Standing
with_unlike value taken s = with_mismatch (λ j. is_unlike value (at_source taken j)) s

-- the standing after mismatch accusations by the reference value; unchanged if there is none
abbrev pub compare_with : Option Heard → Closing → Standing → Standing
compare_with None c s = s
compare_with (Some value) c s = with_unlike value c.taken s

-- the standing after the node closes a stage: first direct evidence, then mismatch accusations
abbrev pub standing_after : Side → ℕ → NodeState → Role → Sender → ℕ → (ℕ → Sense) → Closing → Standing
standing_after me index st role sender stage sense c =
    compare_with (reference_value me index st role sender stage c) c
    (with_evidence (has_evidence st.far (expects me role sender st.far.trusted stage) sense) st.far)

-- the votes after the node closes a stage
abbrev pub votes_after : Side → NodeState → ℕ → Role → ℕ → Closing → List Heard
votes_after me st slot role stage c = if votes_in me role stage then slice_set st.votes slot c.voted else st.votes

-- a node has the schedule from the close of the last stage of the last schedule slot on
abbrev pub owners_after : Sizes → Side → NodeState → ℕ → ℕ → List Heard → List ℕ
owners_after sizes me st slot stage votes =
    if (stage == 3) && (slot + 1 == sizes.bius)
    then owners_of sizes (trusted_of me Biu st) (take sizes.bius votes)
    else st.owners

-- in a data slot each BIU delivers its vote at the close of stage 2
abbrev pub delivery_of : Side → NodeState → ℕ → Role → Sender → ℕ → Heard → Option Delivery
delivery_of Biu st slot (Data n) (Node i) stage voted =
    if stage == 2 then Some (record { frame = st.frame; slot = slot; sender = i; value = voted }) else None
delivery_of me st slot role sender stage voted = None

abbrev pub see_value : Option Heard → See
see_value None = Nothing
see_value (Some value) = Value value

-- what a close makes of a node: its new state, and what it shows
pub record Outcome : Type 0 where
  pub state : NodeState
  pub closed : Closed

-- the outcome of closing a stage in which this was accepted
unfoldable pub outcome_of : Sizes → Side → ℕ → NodeState → ℕ → ℕ → Role → Sender → (ℕ → Sense) → Closing → Outcome
outcome_of sizes me index st slot stage role sender sense c =
    let votes = votes_after me st slot role stage c in
    record {
      state = record st {
        far = standing_after me index st role sender stage sense c;
        sent = if stage == 2 then None else st.sent;
        got = if stage == 1 then taken_of_sender sender c else st.got;
        votes = votes;
        owners = owners_after sizes me st slot stage votes;
      };
      closed = record {
        place = record { frame = st.frame; slot = slot; stage = stage };
        sees = map see_value c.taken;
        delivered = delivery_of me st slot role sender stage c.voted;
      };
    }

-- node `index` of kind me closes a stage below the sync slot; `sense` says what came from each
-- source
unfoldable pub close_exact : Sizes → Side → ℕ → NodeState → ℕ → ℕ → (ℕ → Sense) → Outcome
close_exact sizes me index st slot stage sense =
    let role = role_of sizes slot in
    let sender = sender_at sizes me st slot in
    outcome_of sizes me index st slot stage role sender sense
    (closing_of st.far (expects me role sender st.far.trusted stage) sense)
