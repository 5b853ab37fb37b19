-- What a node wants for its tick, and the word that it is handed.
use Rattle.std.proofs.{Common.{◌≡◌, ℕ, ◌-◌, ◌<◌, ◌^◌, ◌==◌, ◌&&◌, nat_lt, Bool, true, false, Some, None, Option, List, refl, sym, ap, ◌∙◌, subst, arith, inl, inr, if◌then◌else◌}, lemmas.Bool.{and_parts, cases_lt}, lemmas.Bool.Decides.nat_tests, lemmas.Option.none-some}
use Rattle.std.specs.{Prelude.{option_and_then, option_map}, Option.option_or}
use Rattle.rb_base.specs.{Nodes.Side, Nodes.Side.{Biu, Rmu}, Sizes.{Sizes, sync_slot_of}}
use Rattle.rb_rules.specs.{declared.message.Message.Message, declared.plan.Plan.Plan, declared.role.Role.Role, declared.role.Role.TheVariants.{Schedule, Data, DiagBiu, DiagRmu, Sync}, Core.{Act, Core, act_at, if_at, said_at, slot_wanted, state_at, state_kept, tick, wants, window_here}, ExactStage.{message_of, says, says_of}, Goodness.Scenario, Hearing.{Sending, port_at, sending, word_for}, NodeState.{NodeState, sender_at}, NodeSteps.message_said, Ports.{PortState, offered_at}, Slots.{Sender, count_of, first_diagnosis_of, listens, role_of}, Slots.Sender.{Nobody, Node, EachTrusted}, SyncStage.{calls, send_tick_of}, WorldStep.word_of}
use Rattle.rb_node.specs.Wants.{want_for}
use Rattle.rb_node.proofs.Cores.{tick-now, tick-spent}
use Rattle.rb_laws_events.proofs.{NodeTicks.sent-place, NodeWords.HasPlace, NodeActs.act-message}
use Rattle.rb_world.specs.Steps.{CanWant, IsWordSlot}
use Rattle.rb_node.specs.declared.act.Want.TheVariants as want

-- RMUs want nothing.

schedule-role : (sizes : Sizes) (slot : ℕ) → nat_lt slot sizes.bius ≡ true → role_of sizes slot ≡ Schedule slot
schedule-role sizes slot h =
    ap (λ t. if t then Schedule slot else (if nat_lt slot (first_diagnosis_of Biu sizes) then Data (slot - sizes.bius)
    else (if nat_lt slot (first_diagnosis_of Rmu sizes) then DiagBiu (slot - first_diagnosis_of Biu sizes)
    else (if nat_lt slot (sync_slot_of sizes) then DiagRmu (slot - first_diagnosis_of Rmu sizes) else Sync)))) h

data-role : (sizes : Sizes) (slot : ℕ) → nat_lt slot sizes.bius ≡ false → nat_lt slot (first_diagnosis_of Biu sizes) ≡ true
    → role_of sizes slot ≡ Data (slot - sizes.bius)
data-role sizes slot h e =
    let rest : Role = (if nat_lt slot (first_diagnosis_of Rmu sizes) then DiagBiu (slot - first_diagnosis_of Biu sizes)
    else (if nat_lt slot (sync_slot_of sizes) then DiagRmu (slot - first_diagnosis_of Rmu sizes) else Sync)) in
    ap (λ t. if t then Schedule slot else (if nat_lt slot (first_diagnosis_of Biu sizes) then Data (slot - sizes.bius) else rest)) h
    ∙ ap (λ t. if t then Data (slot - sizes.bius) else rest) e

-- an RMU says nothing in stage 1 if no BIU listens there
says-none : (i : ℕ) (st : NodeState) (slot word : ℕ) (role : Role) (sender : Sender) → listens Biu role 1 ≡ false → says_of Rmu i st slot role sender 1 word ≡ None
says-none i st slot word role Nobody h = refl
says-none i st slot word role (Node n) h = rw h refl
says-none i st slot word role EachTrusted h = refl

rmu-says : (sizes : Sizes) (i : ℕ) (st : NodeState) (slot word : ℕ) → nat_lt slot (first_diagnosis_of Biu sizes) ≡ true → says sizes Rmu i st slot 1 word ≡ None
rmu-says sizes i st slot word h = by (nat_lt slot sizes.bius) refl
  where
    by : (b : Bool) → nat_lt slot sizes.bius ≡ b → says sizes Rmu i st slot 1 word ≡ None
    by true e = says-none i st slot word (role_of sizes slot) (sender_at sizes Rmu st slot) (ap (λ r. listens Biu r 1) (schedule-role sizes slot e))
    by false e = says-none i st slot word (role_of sizes slot) (sender_at sizes Rmu st slot) (ap (λ r. listens Biu r 1) (data-role sizes slot e h))

rmu-message : (sizes : Sizes) (i : ℕ) (st : NodeState) (slot word : ℕ) → nat_lt slot (first_diagnosis_of Biu sizes) ≡ true → message_said sizes Rmu i st slot 1 word ≡ None
rmu-message sizes i st slot word h =
    let apart : (slot == sync_slot_of sizes) ≡ false = grind (arith, nat_tests) in
    ap (λ b. if b then calls sizes Rmu st 1 else option_map (message_of st slot 1) (says sizes Rmu i st slot 1 word)) apart
    ∙ ap (option_map (message_of st slot 1)) (rmu-says sizes i st slot word h)

rmu-sending : (sizes : Sizes) (plan : Plan) (i : ℕ) (st : NodeState) (slot word : ℕ) → nat_lt slot (first_diagnosis_of Biu sizes) ≡ true
    → sending sizes plan Rmu i st slot 1 word ≡ None
unfolding sending
rmu-sending sizes plan i st slot word h =
    ap (option_and_then (λ m. option_map (λ tick. let x : Sending = record { tick = tick; message = m } in x) (send_tick_of sizes plan st slot 1))) (rmu-message sizes i st slot word h)

wants-sent : (sizes : Sizes) (plan : Plan) (i : ℕ) (st : NodeState) (slot stage word : ℕ) (s : Sending) → sending sizes plan Rmu i st slot stage word ≡ Some s
    → slot_wanted sizes (Some s.message) ≡ None
wants-sent sizes plan i st slot stage word s e = by ((s.message.stage == 1) && nat_lt s.message.slot (first_diagnosis_of Biu sizes)) refl
  where
    place : HasPlace s.message slot stage
    place = sent-place sizes plan Rmu i st slot stage word e

    by : (b : Bool) → ((s.message.stage == 1) && nat_lt s.message.slot (first_diagnosis_of Biu sizes)) ≡ b
        → (elim b as (λ _. Option ℕ) [ true ↦ Some s.message.slot | false ↦ None ]) ≡ None
    by false h = refl
    by true h =
        let both = and_parts (s.message.stage == 1) (nat_lt s.message.slot (first_diagnosis_of Biu sizes)) h in
        let first : (s.message.stage == 1) ≡ true = both.0 in
        let one : s.message.stage ≡ 1 = grind (arith, nat_tests) in
        let stage_one : stage ≡ 1 = sym place.stage_is ∙ one in
        let low : nat_lt slot (first_diagnosis_of Biu sizes) ≡ true = subst (λ n. nat_lt n (first_diagnosis_of Biu sizes) ≡ true) place.slot_is both.1 in
        let sent : sending sizes plan Rmu i st slot 1 word ≡ Some s = subst (λ n. sending sizes plan Rmu i st slot n word ≡ Some s) stage_one e in
        absurd (none-some s (sym (rmu-sending sizes plan i st slot word low) ∙ sent))

wants-if : (sizes : Sizes) (plan : Plan) (i : ℕ) (st : NodeState) (slot stage word k : ℕ) → slot_wanted sizes (if_at k (sending sizes plan Rmu i st slot stage word)) ≡ None
wants-if sizes plan i st slot stage word k = by (sending sizes plan Rmu i st slot stage word) refl
  where
    at : (s : Sending) → slot_wanted sizes (Some s.message) ≡ None → (b : Bool)
        → slot_wanted sizes (elim b as (λ _. Option Message) [ true ↦ Some s.message | false ↦ None ]) ≡ None
    at s h true = h
    at s h false = refl

    by : (o : Option Sending) → sending sizes plan Rmu i st slot stage word ≡ o → slot_wanted sizes (if_at k o) ≡ None
    by None e = refl
    by (Some s) e = at s (wants-sent sizes plan i st slot stage word s e) (s.tick == k)

wants-or : (sizes : Sizes) (a b : Option Message) → slot_wanted sizes a ≡ None → slot_wanted sizes b ≡ None → slot_wanted sizes (option_or a b) ≡ None
wants-or sizes None b ha hb = hb
wants-or sizes (Some m) b ha hb = ha

said-wants : (sizes : Sizes) (plan : Plan) (i : ℕ) (st : NodeState) (word k : ℕ) → slot_wanted sizes (said_at sizes plan Rmu i st word k) ≡ None
unfolding said_at
said-wants sizes plan i st word k =
    let slot : ℕ = (window_here sizes plan Rmu st k).slot in
    wants-or sizes (if_at k (sending sizes plan Rmu i st slot 1 word))
    (option_or (if_at k (sending sizes plan Rmu i st slot 2 word)) (if_at k (sending sizes plan Rmu i st slot 3 word)))
    (wants-if sizes plan i st slot 1 word k)
    (wants-or sizes (if_at k (sending sizes plan Rmu i st slot 2 word)) (if_at k (sending sizes plan Rmu i st slot 3 word))
    (wants-if sizes plan i st slot 2 word k) (wants-if sizes plan i st slot 3 word k))

act-wants : (sizes : Sizes) (plan : Plan) (i : ℕ) (c : Core) → slot_wanted sizes (act_at sizes plan Rmu i c 0).message ≡ None
unfolding act_at
act-wants sizes plan i c =
    let st : NodeState = state_at sizes plan Rmu c.state c.had in
    let m : Option Message = said_at sizes plan Rmu i st 0 c.had in
    ap (slot_wanted sizes) (act-message sizes plan Rmu i c st m (state_kept sizes Rmu i st 0 m)) ∙ said-wants sizes plan i st 0 c.had

pub rmu-wants : (sizes : Sizes) (plan : Plan) (i : ℕ) (c : Core) → wants sizes plan Rmu i c ≡ None
unfolding wants
rmu-wants sizes plan i c = elim (cases_lt c.had (2 ^ 31)) [
  | inl lt ↦ ap (λ (x : Act). slot_wanted sizes x.message) (tick-now sizes plan Rmu i c 0 lt) ∙ act-wants sizes plan i c
  | inr ge ↦ ap (λ (x : Act). slot_wanted sizes x.message) (tick-spent sizes plan Rmu i c 0 ge)
]

-- A word is wanted in slots of words alone.

pub wanted-slot : (sizes : Sizes) (o : Option Message) → IsWordSlot sizes (slot_wanted sizes o)
wanted-slot sizes None = tt
wanted-slot sizes (Some m) = by ((m.stage == 1) && nat_lt m.slot (first_diagnosis_of Biu sizes)) refl
  where
    by : (b : Bool) → ((m.stage == 1) && nat_lt m.slot (first_diagnosis_of Biu sizes)) ≡ b
        → IsWordSlot sizes (elim b as (λ _. Option ℕ) [ true ↦ Some m.slot | false ↦ None ])
    by false h = tt
    by true h =
        let low : nat_lt m.slot (first_diagnosis_of Biu sizes) ≡ true = (and_parts (m.stage == 1) (nat_lt m.slot (first_diagnosis_of Biu sizes)) h).1 in
        let lt : m.slot < first_diagnosis_of Biu sizes = grind (arith, nat_tests) in lt

pub wants-words : (sizes : Sizes) (plan : Plan) (me : Side) (i : ℕ) (c : Core) → IsWordSlot sizes (wants sizes plan me i c)
unfolding wants
wants-words sizes plan me i c = wanted-slot sizes (tick sizes plan me i c 0).message

pub can-want : (sc : Scenario) (me : Side) (i : ℕ) (c : Core) → i < count_of me sc.sizes → CanWant sc i (want_for sc.sizes (wants sc.sizes sc.plan me i c))
can-want sc Rmu i c h = subst (λ o. CanWant sc i (want_for sc.sizes o)) (sym (rmu-wants sc.sizes sc.plan i c)) tt
can-want sc Biu i c h = by (wants sc.sizes sc.plan Biu i c)
  where
    at : (n : ℕ) (b : Bool) → CanWant sc i (if b then want.Request else want.Data n)
    at n true = h
    at n false = h

    by : (o : Option ℕ) → CanWant sc i (want_for sc.sizes o)
    by None = tt
    by (Some n) = at n (nat_lt n sc.sizes.bius)

-- The word.

data-same : (m n : ℕ) → want.Data m ≡ want.Data n → m ≡ n
data-same m n e = cc

pub word-data : (sc : Scenario) (states : List PortState) (i m : ℕ) (slot : Option ℕ) → IsWordSlot sc.sizes slot → want.Data m ≡ want_for sc.sizes slot
    → offered_at (port_at sc states i) m ≡ word_of sc states i slot
word-data sc states i m None low e = cc
word-data sc states i m (Some n) low e = by (nat_lt n sc.sizes.bius) refl e
  where
    by : (b : Bool) → nat_lt n sc.sizes.bius ≡ b → want.Data m ≡ (if b then want.Request else want.Data n) → offered_at (port_at sc states i) m ≡ word_of sc states i (Some n)
    by true h e = cc
    by false h e =
        let lt : n < first_diagnosis_of Biu sc.sizes = low in
        let is : nat_lt n (first_diagnosis_of Biu sc.sizes) ≡ true = grind (arith, nat_tests) in
        ap (offered_at (port_at sc states i)) (data-same m n e) ∙ sym (ap (word_for sc states i n) (data-role sc.sizes n h is))
