-- Single parts of a tick.
use Rattle.std.proofs.{Common.{◌≡◌, ℕ, zero, suc, ◌<◌, ◌≤◌, ◌==◌, ◌&&◌, not, nat_lt, Bool, true, false, refl, ap, sym, ◌∙◌, subst, arith, Option, Some, None, IfSome, is_some, List, option_map, if◌then◌else◌}, lemmas.Bool.Decides.nat_tests}
use Rattle.std.specs.Option.{option_or}
use Rattle.rb_base.specs.{Nodes.{Side, has, other, set_of}, Nodes.Side.{Biu, Rmu}, Sizes.{IsShape, Sizes, sync_slot_of}, declared.values.Heard.Heard}
use Rattle.rb_base.proofs.{Plain.{eq_self, none-from}, Sets.{has-set_of, same_set_of}}
use Rattle.rb_rules.specs.{declared.message.Message.Message, declared.plan.Window.Window, declared.record.Epoch.Epoch, declared.role.Role.TheVariants.Sync, Core.{epoch_at, if_at, is_tick, state_kept}, ExactStage.{keep_sent, message_of, says}, Hearing.epoch_of, NodeState.NodeState, NodeSteps.{convicted_of, message_said}, Sense.sense_of, NodeSteps.expect_of, Slots.{count_of, listens}, SyncStage.{call_of, send_tick_of}}
use Rattle.rb_rules.proofs.RoundStates.{Stays, close-stays}
use Rattle.rb_eligible.specs.Inboxes.{Received, arrivals_of}
use Rattle.rb_slot.specs.Engines.{IsSameFrame, Seated, is_active, kept_by, outcome_on, said_by}
use Rattle.rb_node.specs.{Acts.IsSendable, Aheads.{SaysIn, tick_said}, Aheads.SaysIn.{Silent, First, Second, Third}, Saids.said_in}
use Rattle.rb_node.proofs.{Busy.{said, stage_at, unsaid}, Cores.stage-some, Saying.{goes-out, kept-is, sending-is}}
use Rattle.rb_base.specs.declared.values.Heard.TheVariants as heard

-- What is said.

active : (v : Seated) → v.index < 16 → is_active v ≡ true
active v h = grind (arith, nat_tests)

pub says-active : (me : Side) (v : Seated) (slot stage word : ℕ) → v.index < 16
    → said_by me v slot stage word ≡ message_said v.sizes me v.index v.state slot stage word
says-active me v slot stage word h = ap (λ b. if b then message_said v.sizes me v.index v.state slot stage word else None) (active v h)

or-first : (a b : Option Message) → is_some a ≡ true → option_or a b ≡ a
or-first None b h = cc
or-first (Some m) b h = refl

or-later : (a b : Option Message) → a ≡ None → option_or a b ≡ b
or-later a b h = ap (λ x. option_or x b) h

-- at another tick than its own the message of a stage is not said, whatever the word
not-due : (me : Side) (v : Seated) (slot stage word k : ℕ) → is_tick (tick_said me v slot stage) k ≡ false → stage_at me v slot stage word k ≡ None
not-due me v slot stage word k h = none-from _ (stage-some me v slot stage word 0 k ∙ ap is_some (unsaid me v slot stage k h))

-- a message that is due at tick `k` has that tick as its own
pub due-parts : (k : ℕ) (m : Option Message) (t : Option ℕ) → is_tick (elim (is_some m) as (λ _. Option ℕ) [ true ↦ t | false ↦ None ]) k ≡ true
    → is_tick t k ≡ true
due-parts k None t h = cc
due-parts k (Some m) t h = h

due : (me : Side) (v : Seated) (slot stage word k : ℕ) → is_tick (tick_said me v slot stage) k ≡ true
    → stage_at me v slot stage word k ≡ message_said v.sizes me v.index v.state slot stage word
due me v slot stage word k h =
    ap (if_at k) (sending-is v.sizes v.plan me v.index v.state slot stage word)
    ∙ goes-out k (message_said v.sizes me v.index v.state slot stage word) (send_tick_of v.sizes v.plan v.state slot stage)
    (due-parts k (message_said v.sizes me v.index v.state slot stage 0) (send_tick_of v.sizes v.plan v.state slot stage) h)

some-due : (me : Side) (v : Seated) (slot stage word k : ℕ) → is_tick (tick_said me v slot stage) k ≡ true
    → is_some (stage_at me v slot stage word k) ≡ true
some-due me v slot stage word k h = stage-some me v slot stage word 0 k ∙ said me v slot stage k h

-- the message of the stage that is due is the one that is said
pub says-stage : (me : Side) (v : Seated) (slot stage word k : ℕ) → SaysIn me v slot k stage → (stage ≡ 0 → ⊥)
    → message_said v.sizes me v.index v.state slot stage word ≡ said_in me v slot k word
says-stage me v slot stage word k (Silent z a b c) some = absurd (some z)
says-stage me v slot stage word k (First z a) some =
    ap (λ s. message_said v.sizes me v.index v.state slot s word) z
    ∙ sym (or-first (stage_at me v slot 1 word k) (option_or (stage_at me v slot 2 word k) (stage_at me v slot 3 word k)) (some-due me v slot 1 word k a)
    ∙ due me v slot 1 word k a)
says-stage me v slot stage word k (Second z a b) some =
    ap (λ s. message_said v.sizes me v.index v.state slot s word) z
    ∙ sym (or-later (stage_at me v slot 1 word k) (option_or (stage_at me v slot 2 word k) (stage_at me v slot 3 word k)) (not-due me v slot 1 word k a)
    ∙ or-first (stage_at me v slot 2 word k) (stage_at me v slot 3 word k) (some-due me v slot 2 word k b) ∙ due me v slot 2 word k b)
says-stage me v slot stage word k (Third z a b c) some =
    ap (λ s. message_said v.sizes me v.index v.state slot s word) z
    ∙ sym (or-later (stage_at me v slot 1 word k) (option_or (stage_at me v slot 2 word k) (stage_at me v slot 3 word k)) (not-due me v slot 1 word k a)
    ∙ or-later (stage_at me v slot 2 word k) (stage_at me v slot 3 word k) (not-due me v slot 2 word k b) ∙ due me v slot 3 word k c)

zero-not : (stage n : ℕ) (o : Option Message) → stage ≡ n → (0 == n) ≡ false → stage ≡ 0 → None ≡ o
zero-not stage n o e h none = let same : (0 == n) ≡ true = grind (arith, nat_tests) in cc

-- if no stage is due, nothing is said
pub says-none : (me : Side) (v : Seated) (slot stage word k : ℕ) → SaysIn me v slot k stage → stage ≡ 0 → None ≡ said_in me v slot k word
says-none me v slot stage word k (Silent z a b c) none =
    sym (or-later (stage_at me v slot 1 word k) (option_or (stage_at me v slot 2 word k) (stage_at me v slot 3 word k)) (not-due me v slot 1 word k a)
    ∙ or-later (stage_at me v slot 2 word k) (stage_at me v slot 3 word k) (not-due me v slot 2 word k b) ∙ not-due me v slot 3 word k c)
says-none me v slot stage word k (First z a) none = zero-not stage 1 (said_in me v slot k word) z refl none
says-none me v slot stage word k (Second z a b) none = zero-not stage 2 (said_in me v slot k word) z refl none
says-none me v slot stage word k (Third z a b c) none = zero-not stage 3 (said_in me v slot k word) z refl none

-- a stage that is due is one of the three
pub stage-most : (me : Side) (v : Seated) (slot stage k : ℕ) → SaysIn me v slot k stage → stage ≤ 3
stage-most me v slot stage k (Silent z a b c) = omega arith
stage-most me v slot stage k (First z a) = omega arith
stage-most me v slot stage k (Second z a b) = omega arith
stage-most me v slot stage k (Third z a b c) = omega arith

pub keeps-now : (me : Side) (v : Seated) (slot stage word : ℕ) (m : Option Message) → v.index < 16 → m ≡ said_by me v slot stage word
    → kept_by me v slot stage word ≡ state_kept v.sizes me v.index v.state word m
keeps-now me v slot stage word m index said =
    ap (λ b. if b then keep_sent v.sizes me v.index v.state slot stage word else v.state) (active v index)
    ∙ sym (kept-is v.sizes me v.index v.state slot stage word)
    ∙ ap (state_kept v.sizes me v.index v.state word) (sym (said ∙ says-active me v slot stage word index))

-- a message can be spelled
value-sendable : (st : NodeState) (slot stage : ℕ) (o : Option Heard) → 1 ≤ stage → stage ≤ 3 → IfSome (option_map (message_of st slot stage) o) IsSendable
value-sendable st slot stage None some most = tt
value-sendable st slot stage (Some (heard.Word word)) some most = record { some_stage = some; most_stages = most; value = tt }
value-sendable st slot stage (Some heard.Fault) some most = record { some_stage = some; most_stages = most; value = refl }

pub message-sendable : (sizes : Sizes) (me : Side) (i : ℕ) (st : NodeState) (slot stage word : ℕ) → 1 ≤ stage → stage ≤ 3
    → IfSome (message_said sizes me i st slot stage word) IsSendable
message-sendable sizes me i st slot stage word some most = by (slot == sync_slot_of sizes) (listens (other me) Sync stage)
  where
    by : (x y : Bool)
        → IfSome (if x then (if y then Some (call_of sizes st stage) else None) else option_map (message_of st slot stage) (says sizes me i st slot stage word)) IsSendable
    by true true = record { some_stage = some; most_stages = most; value = refl }
    by true false = tt
    by false y = value-sendable st slot stage (says sizes me i st slot stage word) some most

pub said-sendable : (me : Side) (v : Seated) (slot stage word : ℕ) (m : Option Message) → v.index < 16 → 1 ≤ stage → stage ≤ 3
    → m ≡ said_by me v slot stage word → IfSome m IsSendable
said-sendable me v slot stage word m index some most e =
    subst (λ o. IfSome o IsSendable) (sym (e ∙ says-active me v slot stage word index)) (message-sendable v.sizes me v.index v.state slot stage word some most)

-- What is told of a frame.

pub convicted-is : (count trusted first : ℕ) → first ≡ set_of (λ i. nat_lt i count)
    → set_of (λ i. has first i && not (has trusted i)) ≡ set_of (λ i. nat_lt i count && not (has trusted i))
convicted-is count trusted first is =
    same_set_of (λ i. has first i && not (has trusted i)) (λ i. nat_lt i count && not (has trusted i))
    (λ i below. ap (λ b. b && not (has trusted i)) (ap (λ s. has s i) is ∙ has-set_of i (λ i. nat_lt i count) below))

pub begun-is : (sizes : Sizes) (me : Side) (st : NodeState) (k frame biu rmu : ℕ) → st.epoch ≡ k → frame ≡ st.frame
    → biu ≡ convicted_of sizes Biu me st → rmu ≡ convicted_of sizes Rmu me st
    → Some (let e : Epoch = record { frame = frame; tick = k; biu = biu; rmu = rmu } in e) ≡ epoch_at sizes me st k
begun-is sizes me st k frame biu rmu e f b r =
    ap (λ x. Some (let e : Epoch = record { frame = x; tick = k; biu = biu; rmu = rmu } in e)) f
    ∙ ap (λ x. Some (let e : Epoch = record { frame = st.frame; tick = k; biu = x; rmu = rmu } in e)) b
    ∙ ap (λ x. Some (let e : Epoch = record { frame = st.frame; tick = k; biu = convicted_of sizes Biu me st; rmu = x } in e)) r
    ∙ ap (λ x. Some (let e : Epoch = record { frame = st.frame; tick = x; biu = convicted_of sizes Biu me st; rmu = convicted_of sizes Rmu me st } in e)) (sym e)
    ∙ sym (ap (λ b. elim b as (λ _. Option Epoch) [ true ↦ Some (epoch_of sizes me st) | false ↦ None ]) (ap (λ x. x == k) e ∙ eq_self k))

-- A close changes neither frame nor epoch.

pub closes-same : (me : Side) (v v3 : Seated) (w : Window) (received : List Received)
    → v3 ≡ record v { state = (outcome_on me v w received).state } → IsSameFrame v v3
closes-same me v v3 w received is =
    let stays : Stays v.state (outcome_on me v w received).state =
    close-stays v.sizes me v.index v.state w.slot w.stage w.first
    (λ j. sense_of (expect_of v.sizes v.plan.version v.state w.slot w.stage) (arrivals_of j received)) in
    subst (IsSameFrame v) (sym is) (record { sizes = refl; plan = refl; index = refl; frame = stays.frame; epoch = stays.epoch })

pub some-stage : (stage : ℕ) → (stage ≡ 0 → ⊥) → 1 ≤ stage
some-stage zero h = absurd (h refl)
some-stage (suc stage) h = omega arith

-- there are at most sixteen nodes of a kind
pub few-nodes : (me : Side) (sizes : Sizes) → IsShape sizes → count_of me sizes ≤ 16
few-nodes Biu sizes shape = shape.most_bius
few-nodes Rmu sizes shape = shape.most_rmus
