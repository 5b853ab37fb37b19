-- For the law that events are rounds: the word that a core is given at a tick is the one that the
-- rounds give the node in the window.
use Rattle.std.proofs.{Common.{◌≡◌, ℕ, ◌+◌, ◌-◌, ◌==◌, ◌&&◌, nat_lt, Bool, true, false, refl, ap, sym, ◌∙◌, subst, arith, Option, Some, None, is_some, option_and_then, option_map, unwrap_or, get_or, if◌then◌else◌, List}, lemmas.Bool.{and_parts, eqb-true}, lemmas.Bool.Decides.nat_tests, lemmas.Option.same_Some}
use Rattle.rb_base.specs.{Nodes.{Side, other}, Nodes.Side.{Biu, Rmu}, Sizes.{Sizes, sync_slot_of}, declared.values.Heard.Heard}
use Rattle.rb_rules.specs.{declared.message.Message.Message, declared.plan.Plan.Plan, declared.role.Role.Role, declared.role.Role.TheVariants.{Schedule, Data, DiagBiu, DiagRmu, Sync}, Core.{if_at, is_tick, slot_wanted, state_kept}, ExactStage.{own_value, is_sender, value_said, says_of, says, message_of, keep_sent}, Goodness.Scenario, Hearing.{Sending, sending, word_for}, NodeState.{NodeState, sender_at}, NodeSteps.message_said, Ports.PortState, Slots.{Sender, first_diagnosis_of, role_of, listens}, Slots.Sender.{Nobody, Node, EachTrusted}, SyncStage.{call_of, calls, send_tick_of}, WorldStep.word_of}
use Rattle.rb_base.specs.declared.values.Heard.TheVariants as heard

-- a word from outside is said in this stage
abbrev pub takes_word : Sizes → ℕ → ℕ → Bool
takes_word sizes slot stage = (stage == 1) && nat_lt slot (first_diagnosis_of Biu sizes)

-- two words come to the same in a stage of a slot
pub record SameWords (sizes : Sizes) (me : Side) (i : ℕ) (st : NodeState) (slot stage a b : ℕ) : Type 0 where
  pub says : says sizes me i st slot stage a ≡ says sizes me i st slot stage b
  pub message : message_said sizes me i st slot stage a ≡ message_said sizes me i st slot stage b
  pub kept : keep_sent sizes me i st slot stage a ≡ keep_sent sizes me i st slot stage b

pub from-says : (sizes : Sizes) (me : Side) (i : ℕ) (st : NodeState) (slot stage a b : ℕ)
    → says sizes me i st slot stage a ≡ says sizes me i st slot stage b → SameWords sizes me i st slot stage a b
from-says sizes me i st slot stage a b e = record {
  says = e;
  message = ap (λ v. if slot == sync_slot_of sizes then calls sizes me st stage else option_map (message_of st slot stage) v) e;
  kept = ap (λ v. if (stage == 1) && is_some v then record st { sent = v } else st) e;
}

-- If no word from outside is said, all words come to the same.

not-below : (a b c : ℕ) → nat_lt a (b + c) ≡ false → nat_lt a b ≡ false
not-below a b c h = grind (arith, nat_tests)

own-free : (sizes : Sizes) (st : NodeState) (slot a b : ℕ) → nat_lt slot (first_diagnosis_of Biu sizes) ≡ false
    → own_value st (role_of sizes slot) a ≡ own_value st (role_of sizes slot) b
own-free sizes st slot a b h =
    let first : nat_lt slot sizes.bius ≡ false = not-below slot sizes.bius sizes.data_slots h in
    let rest : Role = (if nat_lt slot (first_diagnosis_of Rmu sizes) then DiagBiu (slot - first_diagnosis_of Biu sizes)
    else (if nat_lt slot (sync_slot_of sizes) then DiagRmu (slot - first_diagnosis_of Rmu sizes) else Sync)) in
    let role : role_of sizes slot ≡ rest =
    ap (λ t. if t then Schedule slot else (if nat_lt slot (first_diagnosis_of Biu sizes) then Data (slot - sizes.bius) else rest)) first
    ∙ ap (λ t. if t then Data (slot - sizes.bius) else rest) h in
    subst (λ r. own_value st r a ≡ own_value st r b) (sym role) (by (nat_lt slot (first_diagnosis_of Rmu sizes)) (nat_lt slot (sync_slot_of sizes)))
  where
    by : (x y : Bool) → own_value st (if x then DiagBiu (slot - first_diagnosis_of Biu sizes) else (if y then DiagRmu (slot - first_diagnosis_of Rmu sizes) else Sync)) a
        ≡ own_value st (if x then DiagBiu (slot - first_diagnosis_of Biu sizes) else (if y then DiagRmu (slot - first_diagnosis_of Rmu sizes) else Sync)) b
    by true y = refl
    by false true = refl
    by false false = refl

and-none : (a b : Bool) → (a && b) ≡ false → a ≡ true → b ≡ false
and-none true b h e = h
and-none false b h e = cc

value-free : (sizes : Sizes) (me : Side) (i : ℕ) (st : NodeState) (slot stage a b : ℕ) (sender : Sender) → takes_word sizes slot stage ≡ false
    → value_said me i st slot (role_of sizes slot) sender stage a ≡ value_said me i st slot (role_of sizes slot) sender stage b
value-free sizes me i st slot stage a b sender h = by (stage == 1) refl
  where
    by : (t : Bool) → (stage == 1) ≡ t
        → (if t then (if is_sender me i (role_of sizes slot) sender then Some (own_value st (role_of sizes slot) a) else None)
        else (if stage == 2 then Some (unwrap_or st.got heard.Fault) else Some (get_or st.votes slot heard.Fault)))
        ≡ (if t then (if is_sender me i (role_of sizes slot) sender then Some (own_value st (role_of sizes slot) b) else None)
        else (if stage == 2 then Some (unwrap_or st.got heard.Fault) else Some (get_or st.votes slot heard.Fault)))
    by true e =
        ap (λ v. if is_sender me i (role_of sizes slot) sender then Some v else None)
        (own-free sizes st slot a b (and-none (stage == 1) (nat_lt slot (first_diagnosis_of Biu sizes)) h e))
    by false e = refl

says-free : (sizes : Sizes) (me : Side) (i : ℕ) (st : NodeState) (slot stage a b : ℕ) (sender : Sender) → takes_word sizes slot stage ≡ false
    → says_of me i st slot (role_of sizes slot) sender stage a ≡ says_of me i st slot (role_of sizes slot) sender stage b
says-free sizes me i st slot stage a b Nobody h = refl
says-free sizes me i st slot stage a b (Node j) h =
    ap (λ v. if listens (other me) (role_of sizes slot) stage then v else None) (value-free sizes me i st slot stage a b (Node j) h)
says-free sizes me i st slot stage a b EachTrusted h = refl

pub word-free : (sizes : Sizes) (me : Side) (i : ℕ) (st : NodeState) (slot stage a b : ℕ) → takes_word sizes slot stage ≡ false
    → SameWords sizes me i st slot stage a b
word-free sizes me i st slot stage a b h =
    from-says sizes me i st slot stage a b (says-free sizes me i st slot stage a b (sender_at sizes me st slot) h)

-- RMUs say no word from outside.

-- the roles from the diagnosis slots on
abbrev later_role : Sizes → ℕ → Role
later_role sizes slot =
    if nat_lt slot (first_diagnosis_of Rmu sizes) then DiagBiu (slot - first_diagnosis_of Biu sizes)
    else (if nat_lt slot (sync_slot_of sizes) then DiagRmu (slot - first_diagnosis_of Rmu sizes) else Sync)

below-role : (sizes : Sizes) (slot : ℕ) → nat_lt slot (first_diagnosis_of Biu sizes) ≡ true → listens Biu (role_of sizes slot) 1 ≡ false
below-role sizes slot h = by (nat_lt slot sizes.bius)
  where
    by : (t : Bool) → listens Biu (if t then Schedule slot else (if nat_lt slot (first_diagnosis_of Biu sizes) then Data (slot - sizes.bius) else later_role sizes slot)) 1 ≡ false
    by true = refl
    by false = ap (λ t. listens Biu (if t then Data (slot - sizes.bius) else later_role sizes slot) 1) h

rmu-silent : (sizes : Sizes) (i : ℕ) (st : NodeState) (slot word : ℕ) (sender : Sender) → nat_lt slot (first_diagnosis_of Biu sizes) ≡ true
    → says_of Rmu i st slot (role_of sizes slot) sender 1 word ≡ None
rmu-silent sizes i st slot word Nobody h = refl
rmu-silent sizes i st slot word (Node j) h =
    ap (λ b. if b then value_said Rmu i st slot (role_of sizes slot) (Node j) 1 word else None) (below-role sizes slot h)
rmu-silent sizes i st slot word EachTrusted h = refl

one-is : (stage : ℕ) → (stage == 1) ≡ true → 1 ≡ stage
one-is stage h = grind (arith, nat_tests)

pub rmu-words : (sizes : Sizes) (i : ℕ) (st : NodeState) (slot stage a b : ℕ) → SameWords sizes Rmu i st slot stage a b
rmu-words sizes i st slot stage a b = by (takes_word sizes slot stage) refl
  where
    by : (t : Bool) → takes_word sizes slot stage ≡ t → SameWords sizes Rmu i st slot stage a b
    by false e = word-free sizes Rmu i st slot stage a b e
    by true e =
        let parts = and_parts (stage == 1) (nat_lt slot (first_diagnosis_of Biu sizes)) e in
        from-says sizes Rmu i st slot stage a b
        (subst (λ s. says sizes Rmu i st slot s a ≡ says sizes Rmu i st slot s b) (one-is stage parts.0)
        (rmu-silent sizes i st slot a (sender_at sizes Rmu st slot) parts.1 ∙ sym (rmu-silent sizes i st slot b (sender_at sizes Rmu st slot) parts.1)))

-- Whether a message is said does not depend on the word.

none-value : (me : Side) (i : ℕ) (st : NodeState) (slot : ℕ) (role : Role) (sender : Sender) (stage a b : ℕ)
    → value_said me i st slot role sender stage a ≡ None → value_said me i st slot role sender stage b ≡ None
none-value me i st slot role sender stage a b = by (stage == 1) (is_sender me i role sender) (stage == 2)
  where
    by : (x y z : Bool) → (if x then (if y then Some (own_value st role a) else None) else (if z then Some (unwrap_or st.got heard.Fault) else Some (get_or st.votes slot heard.Fault))) ≡ None
        → (if x then (if y then Some (own_value st role b) else None) else (if z then Some (unwrap_or st.got heard.Fault) else Some (get_or st.votes slot heard.Fault))) ≡ None
    by true true z e = cc
    by true false z e = refl
    by false y true e = cc
    by false y false e = cc

none-says : (me : Side) (i : ℕ) (st : NodeState) (slot : ℕ) (role : Role) (sender : Sender) (stage a b : ℕ)
    → says_of me i st slot role sender stage a ≡ None → says_of me i st slot role sender stage b ≡ None
none-says me i st slot role Nobody stage a b e = refl
none-says me i st slot role (Node j) stage a b e = by (listens (other me) role stage) e
  where
    by : (x : Bool) → (if x then value_said me i st slot role (Node j) stage a else None) ≡ None → (if x then value_said me i st slot role (Node j) stage b else None) ≡ None
    by true e = none-value me i st slot role (Node j) stage a b e
    by false e = refl
none-says me i st slot role EachTrusted stage a b e = refl

unmapped : (f : Heard → Message) (o : Option Heard) → option_map f o ≡ None → o ≡ None
unmapped f None e = refl
unmapped f (Some v) e = cc

pub none-message : (sizes : Sizes) (me : Side) (i : ℕ) (st : NodeState) (slot stage a b : ℕ) → message_said sizes me i st slot stage a ≡ None
    → message_said sizes me i st slot stage b ≡ None
none-message sizes me i st slot stage a b = by (slot == sync_slot_of sizes)
  where
    by : (x : Bool) → (if x then calls sizes me st stage else option_map (message_of st slot stage) (says sizes me i st slot stage a)) ≡ None
        → (if x then calls sizes me st stage else option_map (message_of st slot stage) (says sizes me i st slot stage b)) ≡ None
    by true e = e
    by false e =
        ap (option_map (message_of st slot stage)) (none-says me i st slot (role_of sizes slot) (sender_at sizes me st slot) stage a b
        (unmapped (message_of st slot stage) (says sizes me i st slot stage a) e))

-- A message has the header of its place.

pub record HasPlace (m : Message) (slot stage : ℕ) : Type 0 where
  pub slot_is : m.slot ≡ slot
  pub stage_is : m.stage ≡ stage

value-place : (st : NodeState) (slot stage : ℕ) (v : Heard) → HasPlace (message_of st slot stage v) slot stage
value-place st slot stage (heard.Word word) = record { slot_is = refl; stage_is = refl }
value-place st slot stage heard.Fault = record { slot_is = refl; stage_is = refl }

map-place : (st : NodeState) (slot stage : ℕ) (o : Option Heard) {m : _} → option_map (message_of st slot stage) o ≡ Some m → HasPlace m slot stage
map-place st slot stage None e = cc
map-place st slot stage (Some v) {m} e = subst (λ m. HasPlace m slot stage) (same_Some (message_of st slot stage v) m e) (value-place st slot stage v)

pub message-place : (sizes : Sizes) (me : Side) (i : ℕ) (st : NodeState) (slot stage word : ℕ) {m : _}
    → message_said sizes me i st slot stage word ≡ Some m → HasPlace m slot stage
message-place sizes me i st slot stage word {m} = by (slot == sync_slot_of sizes) refl
  where
    call : (b : Bool) → slot ≡ sync_slot_of sizes → (if b then Some (call_of sizes st stage) else None) ≡ Some m → HasPlace m slot stage
    call true s e =
        subst (λ m. HasPlace m slot stage) (same_Some (call_of sizes st stage) m e) (record { slot_is = sym s; stage_is = refl })
    call false s e = cc

    by : (x : Bool) → (slot == sync_slot_of sizes) ≡ x
        → (if x then calls sizes me st stage else option_map (message_of st slot stage) (says sizes me i st slot stage word)) ≡ Some m → HasPlace m slot stage
    by true s e = call (listens (other me) Sync stage) (eqb-true slot (sync_slot_of sizes) s) e
    by false s e = map-place st slot stage (says sizes me i st slot stage word) e

-- What goes out at a tick, by whether it is the message's tick.

abbrev pub at_its_tick : Bool → Option Message → Option Message
at_its_tick b m = elim b [ true ↦ m | false ↦ None ]

never : (b : Bool) → at_its_tick b None ≡ None
never true = refl
never false = refl

if-at-is : (k : ℕ) (m : Option Message) (t : Option ℕ)
    → if_at k (option_and_then (λ m. option_map (λ tick. let x : Sending = record { tick = tick; message = m } in x) t) m) ≡ at_its_tick (is_tick t k) m
if-at-is k None t = sym (never (is_tick t k))
if-at-is k (Some m) None = refl
if-at-is k (Some m) (Some t) = refl

pub said-at-tick : (sizes : Sizes) (plan : Plan) (me : Side) (i : ℕ) (st : NodeState) (slot stage word k : ℕ)
    → if_at k (sending sizes plan me i st slot stage word)
    ≡ at_its_tick (is_tick (send_tick_of sizes plan st slot stage) k) (message_said sizes me i st slot stage word)
unfolding sending
said-at-tick sizes plan me i st slot stage word k = if-at-is k (message_said sizes me i st slot stage word) (send_tick_of sizes plan st slot stage)

-- The word that is wanted is the right one.

pub record WordFits (sizes : Sizes) (me : Side) (i : ℕ) (st : NodeState) (slot stage given right : ℕ) (b : Bool) : Type 0 where
  pub message : at_its_tick b (message_said sizes me i st slot stage given) ≡ at_its_tick b (message_said sizes me i st slot stage right)
  pub kept : state_kept sizes me i st given (at_its_tick b (message_said sizes me i st slot stage given))
      ≡ state_kept sizes me i st right (at_its_tick b (message_said sizes me i st slot stage right))

same-fits : (sizes : Sizes) (me : Side) (i : ℕ) (st : NodeState) (slot stage : ℕ) {given right : ℕ} → given ≡ right
    → WordFits sizes me i st slot stage given right true
same-fits sizes me i st slot stage e = record {
  message = ap (message_said sizes me i st slot stage) e;
  kept = ap (λ word. state_kept sizes me i st word (message_said sizes me i st slot stage word)) e;
}

none-fits : (sizes : Sizes) (me : Side) (i : ℕ) (st : NodeState) (slot stage given right : ℕ) → message_said sizes me i st slot stage given ≡ None
    → WordFits sizes me i st slot stage given right true
none-fits sizes me i st slot stage given right e =
    let f : message_said sizes me i st slot stage right ≡ None = none-message sizes me i st slot stage given right e in
    record {
      message = e ∙ sym f;
      kept = ap (state_kept sizes me i st given) e ∙ sym (ap (state_kept sizes me i st right) f);
    }

pub kept-some : (sizes : Sizes) (me : Side) (i : ℕ) (st : NodeState) {slot stage : ℕ} (word : ℕ) {m : _} → HasPlace m slot stage
    → keep_sent sizes me i st m.slot m.stage word ≡ keep_sent sizes me i st slot stage word
kept-some sizes me i st {slot} word {m} p =
    ap (λ s. keep_sent sizes me i st s m.stage word) p.slot_is ∙ ap (λ s. keep_sent sizes me i st slot s word) p.stage_is

free-fits : {sizes me i st slot stage given right m : _}
    → message_said sizes me i st slot stage given ≡ Some m → SameWords sizes me i st slot stage given right
    → WordFits sizes me i st slot stage given right true
free-fits {sizes} {me} {i} {st} {slot} {stage} {given} {right} {m} e same =
    let p : HasPlace m slot stage = message-place sizes me i st slot stage given e in
    let f : message_said sizes me i st slot stage right ≡ Some m = sym same.message ∙ e in
    record {
      message = same.message;
      kept = ap (state_kept sizes me i st given) e ∙ kept-some sizes me i st given p ∙ same.kept
          ∙ sym (kept-some sizes me i st right p) ∙ sym (ap (state_kept sizes me i st right) f);
    }

-- the word that is wanted for a message, or 0 if none is
abbrev pub word_wanted : Scenario → List PortState → ℕ → Option Message → ℕ
word_wanted sc ports i m = word_of sc ports i (slot_wanted sc.sizes m)

taken-word : (sc : Scenario) (ports : List PortState) (i : ℕ) {slot stage m : _} → HasPlace m slot stage → {b : _}
    → takes_word sc.sizes slot stage ≡ b
    → word_wanted sc ports i (Some m) ≡ (elim b as (λ _. ℕ) [ true ↦ word_for sc ports i slot (role_of sc.sizes slot) | false ↦ 0 ])
taken-word sc ports i {slot} {m} p {b} e =
    let test : takes_word sc.sizes m.slot m.stage ≡ b =
    ap (λ s. takes_word sc.sizes s m.stage) p.slot_is ∙ ap (takes_word sc.sizes slot) p.stage_is ∙ e in
    ap (λ t. word_of sc ports i (elim t as (λ _. Option ℕ) [ true ↦ Some m.slot | false ↦ None ])) test
    ∙ ap (λ s. word_of sc ports i (elim b as (λ _. Option ℕ) [ true ↦ Some s | false ↦ None ])) p.slot_is ∙ by b
  where
    by : (b : Bool) → word_of sc ports i (elim b as (λ _. Option ℕ) [ true ↦ Some slot | false ↦ None ])
        ≡ (elim b as (λ _. ℕ) [ true ↦ word_for sc ports i slot (role_of sc.sizes slot) | false ↦ 0 ])
    by true = refl
    by false = refl

-- at any tick the word that is wanted for what would be said with word 0 is that of the rounds
pub wanted-fits : (sc : Scenario) (ports : List PortState) (me : Side) (i : ℕ) (st : NodeState) (slot stage : ℕ) (b : Bool)
    → WordFits sc.sizes me i st slot stage (word_wanted sc ports i (at_its_tick b (message_said sc.sizes me i st slot stage 0)))
    (word_for sc ports i slot (role_of sc.sizes slot)) b
wanted-fits sc ports me i st slot stage false = record { message = refl; kept = refl }
wanted-fits sc ports me i st slot stage true = by (message_said sc.sizes me i st slot stage 0) refl
  where
    right : ℕ
    right = word_for sc ports i slot (role_of sc.sizes slot)

    some : (m : Message) → message_said sc.sizes me i st slot stage 0 ≡ Some m → (t : Bool) → takes_word sc.sizes slot stage ≡ t
        → WordFits sc.sizes me i st slot stage (word_wanted sc ports i (Some m)) (word_for sc ports i slot (role_of sc.sizes slot)) true
    some m e true h =
        same-fits sc.sizes me i st slot stage
        (taken-word sc ports i (message-place sc.sizes me i st slot stage 0 e) h)
    some m e false h =
        let zero_word : 0 ≡ word_wanted sc ports i (Some m) = sym (taken-word sc ports i (message-place sc.sizes me i st slot stage 0 e) h) in
        subst (λ w. WordFits sc.sizes me i st slot stage w (word_for sc ports i slot (role_of sc.sizes slot)) true) zero_word
        (free-fits e
        (word-free sc.sizes me i st slot stage 0 (word_for sc ports i slot (role_of sc.sizes slot)) h))

    by : (o : Option Message) → message_said sc.sizes me i st slot stage 0 ≡ o
        → WordFits sc.sizes me i st slot stage (word_wanted sc ports i (message_said sc.sizes me i st slot stage 0)) (word_for sc ports i slot (role_of sc.sizes slot)) true
    by None e =
        let z : 0 ≡ word_wanted sc ports i (message_said sc.sizes me i st slot stage 0) = sym (ap (word_wanted sc ports i) e) in
        subst (λ w. WordFits sc.sizes me i st slot stage w (word_for sc ports i slot (role_of sc.sizes slot)) true) z
        (none-fits sc.sizes me i st slot stage 0 (word_for sc ports i slot (role_of sc.sizes slot)) e)
    by (Some m) e =
        subst (λ o. WordFits sc.sizes me i st slot stage (word_wanted sc ports i o) (word_for sc ports i slot (role_of sc.sizes slot)) true) (sym e)
        (some m e (takes_word sc.sizes slot stage) refl)
