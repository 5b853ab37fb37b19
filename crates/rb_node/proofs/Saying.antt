-- What a node says at a tick, and whether it says something, whatever its word.
use Rattle.std.proofs.{Common.{◌≡◌, ℕ, ◌==◌, Bool, true, false, refl, ap, sym, ◌∙◌, subst, Option, Some, None, is_some, option_and_then, option_map, unwrap_or, get_or, if◌then◌else◌}, lemmas.Bool.eqb-true, lemmas.Option.same_Some}
use Rattle.rb_base.specs.{Nodes.{Side, other}, Sizes.{Sizes, sync_slot_of}, declared.values.Heard.Heard}
use Rattle.rb_rules.specs.{declared.message.Message.Message, declared.plan.Plan.Plan, declared.role.Role.Role, declared.role.Role.TheVariants.Sync, Core.{if_at, is_tick, state_kept}, ExactStage.{own_value, is_sender, value_said, says_of, says, message_of, keep_sent}, Hearing.{Sending, sending}, NodeState.{NodeState, sender_at}, NodeSteps.message_said, Slots.{Sender, role_of, listens}, Slots.Sender.{Nobody, Node, EachTrusted}, SyncStage.{call_of, calls, send_tick_of}}
use Rattle.rb_rules.proofs.Slots.{nothing-kept, sync_role}
use Rattle.rb_base.specs.declared.values.Heard.TheVariants as heard

-- Whether something is said does not depend on the word.

value-some : (me : Side) (i : ℕ) (st : NodeState) (slot : ℕ) (role : Role) (sender : Sender) (stage a b : ℕ)
    → is_some (value_said me i st slot role sender stage a) ≡ is_some (value_said me i st slot role sender stage b)
value-some me i st slot role sender stage a b = by (stage == 1) (is_sender me i role sender) (stage == 2)
  where
    by : (x y z : Bool)
        → is_some (if x then (if y then Some (own_value st role a) else None) else (if z then Some (unwrap_or st.got heard.Fault) else Some (get_or st.votes slot heard.Fault)))
        ≡ is_some (if x then (if y then Some (own_value st role b) else None) else (if z then Some (unwrap_or st.got heard.Fault) else Some (get_or st.votes slot heard.Fault)))
    by true true z = refl
    by true false z = refl
    by false y true = refl
    by false y false = refl

says-some : (me : Side) (i : ℕ) (st : NodeState) (slot : ℕ) (role : Role) (sender : Sender) (stage a b : ℕ)
    → is_some (says_of me i st slot role sender stage a) ≡ is_some (says_of me i st slot role sender stage b)
says-some me i st slot role Nobody stage a b = refl
says-some me i st slot role (Node j) stage a b = by (listens (other me) role stage)
  where
    by : (x : Bool) → is_some (if x then value_said me i st slot role (Node j) stage a else None) ≡ is_some (if x then value_said me i st slot role (Node j) stage b else None)
    by true = value-some me i st slot role (Node j) stage a b
    by false = refl
says-some me i st slot role EachTrusted stage a b = refl

map-some : (f : Heard → Message) (o : Option Heard) → is_some (option_map f o) ≡ is_some o
map-some f None = refl
map-some f (Some v) = refl

pub message-some : (sizes : Sizes) (me : Side) (i : ℕ) (st : NodeState) (slot stage a b : ℕ)
    → is_some (message_said sizes me i st slot stage a) ≡ is_some (message_said sizes me i st slot stage b)
message-some sizes me i st slot stage a b = by (slot == sync_slot_of sizes)
  where
    by : (x : Bool)
        → is_some (if x then calls sizes me st stage else option_map (message_of st slot stage) (says sizes me i st slot stage a))
        ≡ is_some (if x then calls sizes me st stage else option_map (message_of st slot stage) (says sizes me i st slot stage b))
    by true = refl
    by false =
        map-some (message_of st slot stage) (says sizes me i st slot stage a)
        ∙ says-some me i st slot (role_of sizes slot) (sender_at sizes me st slot) stage a b
        ∙ sym (map-some (message_of st slot stage) (says sizes me i st slot stage b))

-- A message and the tick at which it is sent.

abbrev pub sent_at : Option Message → Option ℕ → Option Sending
sent_at m t = option_and_then (λ m. option_map (λ tick. record { tick = tick; message = m }) t) m

pub sending-is : (sizes : Sizes) (plan : Plan) (me : Side) (i : ℕ) (st : NodeState) (slot stage word : ℕ)
    → sending sizes plan me i st slot stage word ≡ sent_at (message_said sizes me i st slot stage word) (send_tick_of sizes plan st slot stage)
unfolding sending
sending-is sizes plan me i st slot stage word = refl

-- a message goes out at its tick, if there is one
pub goes-out : (k : ℕ) (m : Option Message) (t : Option ℕ) → is_tick t k ≡ true → if_at k (sent_at m t) ≡ m
goes-out k None t h = refl
goes-out k (Some m) None h = cc
goes-out k (Some m) (Some t) h = ap (λ b. elim b as (λ _. Option Message) [ true ↦ Some m | false ↦ None ]) h

pub stays-in : (k : ℕ) (m : Option Message) (t : Option ℕ) → is_tick t k ≡ false → if_at k (sent_at m t) ≡ None
stays-in k None t h = refl
stays-in k (Some m) None h = refl
stays-in k (Some m) (Some t) h = ap (λ b. elim b as (λ _. Option Message) [ true ↦ Some m | false ↦ None ]) h

pub nothing-out : (k : ℕ) (t : Option ℕ) → if_at k (sent_at None t) ≡ None
nothing-out k t = refl

-- A sender keeps what it says in its own slot.

-- in the sync slot a node says no value
sync-says : (sizes : Sizes) (me : Side) (i : ℕ) (st : NodeState) (slot stage word : ℕ) → slot ≡ sync_slot_of sizes
    → says sizes me i st slot stage word ≡ None
sync-says sizes me i st slot stage word e =
    let role : role_of sizes slot ≡ Sync = ap (role_of sizes) e ∙ sync_role sizes in
    rw role refl

-- what a sender keeps is given by the message that it says
pub kept-is : (sizes : Sizes) (me : Side) (i : ℕ) (st : NodeState) (slot stage word : ℕ)
    → state_kept sizes me i st word (message_said sizes me i st slot stage word) ≡ keep_sent sizes me i st slot stage word
kept-is sizes me i st slot stage word = by (slot == sync_slot_of sizes) refl
  where
    call : (b : Bool) → slot ≡ sync_slot_of sizes
        → state_kept sizes me i st word (if b then Some (call_of sizes st stage) else None) ≡ keep_sent sizes me i st slot stage word
    call true e = ap (λ s. keep_sent sizes me i st s stage word) (sym e)
    call false e = sym (nothing-kept sizes me i st slot stage word (sync-says sizes me i st slot stage word e))

    said : (o : Option Heard) → says sizes me i st slot stage word ≡ o
        → state_kept sizes me i st word (option_map (message_of st slot stage) o) ≡ keep_sent sizes me i st slot stage word
    said None e = sym (nothing-kept sizes me i st slot stage word e)
    said (Some (heard.Word w)) e = refl
    said (Some heard.Fault) e = refl

    by : (x : Bool) → (slot == sync_slot_of sizes) ≡ x
        → state_kept sizes me i st word (if x then calls sizes me st stage else option_map (message_of st slot stage) (says sizes me i st slot stage word))
        ≡ keep_sent sizes me i st slot stage word
    by true e = call (listens (other me) Sync stage) (eqb-true slot (sync_slot_of sizes) e)
    by false e = said (says sizes me i st slot stage word) refl

-- A message has the header of its place.

pub record HasPlace (m : Message) (slot stage : ℕ) : Type 0 where
  pub slot_is : m.slot ≡ slot
  pub stage_is : m.stage ≡ stage

value-place : (st : NodeState) (slot stage : ℕ) (o : Option Heard) (m : Message) → option_map (message_of st slot stage) o ≡ Some m → HasPlace m slot stage
value-place st slot stage None m e = cc
value-place st slot stage (Some (heard.Word word)) m e =
    subst (λ m. HasPlace m slot stage) (same_Some (message_of st slot stage (heard.Word word)) m e) (record { slot_is = refl; stage_is = refl })
value-place st slot stage (Some heard.Fault) m e =
    subst (λ m. HasPlace m slot stage) (same_Some (message_of st slot stage heard.Fault) m e) (record { slot_is = refl; stage_is = refl })

pub message-place : (sizes : Sizes) (me : Side) (i : ℕ) (st : NodeState) (slot stage word : ℕ) (m : Message)
    → message_said sizes me i st slot stage word ≡ Some m → HasPlace m slot stage
message-place sizes me i st slot stage word m = by (slot == sync_slot_of sizes) refl
  where
    call : (b : Bool) → slot ≡ sync_slot_of sizes → (if b then Some (call_of sizes st stage) else None) ≡ Some m → HasPlace m slot stage
    call true s e = subst (λ m. HasPlace m slot stage) (same_Some (call_of sizes st stage) m e) (record { slot_is = sym s; stage_is = refl })
    call false s e = cc

    by : (x : Bool) → (slot == sync_slot_of sizes) ≡ x
        → (if x then calls sizes me st stage else option_map (message_of st slot stage) (says sizes me i st slot stage word)) ≡ Some m → HasPlace m slot stage
    by true s e = call (listens (other me) Sync stage) (eqb-true slot (sync_slot_of sizes) s) e
    by false s e = value-place st slot stage (says sizes me i st slot stage word) m e
