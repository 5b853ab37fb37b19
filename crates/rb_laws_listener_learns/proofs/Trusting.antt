-- Whom a listener trusts by its records a good RMU trusts on the bus: it sent something in that
-- node's slot.
use Rattle.std.proofs.{Common.{◌≡◌, ℕ, ◌+◌, ◌-◌, ◌*◌, ◌<◌, ◌≤◌, ◌==◌, ◌&&◌, nat_lt, Bool, true, false, Option, Some, None, option_map, List, slice_get, if◌then◌else◌, inl, inr, refl, sym, ◌∙◌, ap, subst, arith}, lemmas.Bool.{cases_lt, ltb-true}, lemmas.Bool.Decides.nat_tests}
use Rattle.rb_base.specs.{Nodes.{Side, has, set_of}, Nodes.Side.{Biu, Rmu}, Sizes.{Sizes, sync_slot_of}, declared.values.Heard.Heard}
use Rattle.rb_base.proofs.{Plain.{and_first, and_second}, Sets.has-set_of}
use Rattle.rb_rules.specs.{declared.message.Message.Message, declared.role.Role.TheVariants.{Schedule, DiagRmu}, declared.sense.Sense.Sense, declared.sense.Sense.TheVariants.{Silent, One, Bad}, Book.of_kind, ExactStage.{message_of, says, says_of}, Goodness.{Scenario, is_good}, Lawful.IsLawful, Moments.IsRunning, NodeState.{NodeState, sender_at, trusted_of}, NodeSteps.message_said, Ports.HandIn, Rounds.{Moment, moment, windows_in}, Sense.is_one, Slots.{first_diagnosis_of, if_trusted, role_of, sender_in}, Slots.Sender.{Nobody, Node}}
use Rattle.rb_rules.proofs.Slots.{schedule_role}
use Rattle.rb_laws_agreement.proofs.{Agreement.{IsAgreed, agreement}, Goodnesses.slot_here, NodeWindows.{Windows, exact_windows, word_at}, Tests.Passing}
use Rattle.rb_laws_synchrony.proofs.TimelyWindows.{IsSent, sent_parts}
use Rattle.rb_listen.specs.{Lessons.{ones_in, record_of, stage_recorded, trusts_biu, trusts_rmu}, Passes.are_most, declared.search.Search.Search}
use Rattle.rb_laws_listener_learns.specs.{Ears.{Ear, HearsTheRun, IsEar, SendsIn, is_always_good, listening_at}, Learned.{IsTrustedIn, TrustsTheTrusted}, Records.{CameOf, IsOfPlace, IsTrueRecord}}
use Rattle.rb_laws_listener_learns.proofs.{CallsSent.sends-at, Inside.{IsInside, kept-inside}, Meeting.meet, Seeks.always-counts, Sendings.{IsInPlace, in-place}, TrueRecords.records-true, Walks.{HoldsIn, always}}
use Rattle.rb_listen.specs.Listening as now

-- Who sends something holds the slot's node trusted.

says-some : (sizes : Sizes) (j : ℕ) (st : NodeState) (slot stage word : ℕ) (o : Option Heard) {x : _} → o ≡ says sizes Rmu j st slot stage word
    → option_map (message_of st slot stage) o ≡ Some x → sender_at sizes Rmu st slot ≡ Nobody → ⊥
says-some sizes j st slot stage word None is h nobody = cc
says-some sizes j st slot stage word (Some v) is h nobody =
    let none : says sizes Rmu j st slot stage word ≡ None = ap (λ s. says_of Rmu j st slot (role_of sizes slot) s stage word) nobody in
    let both : Some v ≡ None = is ∙ none in cc

if-not-nobody : (set i : ℕ) → (if_trusted set i ≡ Nobody → ⊥) → has set i ≡ true
if-not-nobody set i h = by (has set i) refl
  where
    by : (b : Bool) → has set i ≡ b → has set i ≡ true
    by true e = e
    by false e = absurd (h (ap (λ b. if b then Node i else Nobody) e))

-- A record of a good RMU in the slot.

pub record IsRecordedOne (sc : Scenario) (hands : List HandIn) (ear : Ear) (frame slot : ℕ) : Type 0 where
  pub j : ℕ
  pub at : ℕ
  pub message : Message
  pub came : CameOf sc hands ear j at message
  pub place : IsOfPlace sc frame slot message

one-true : {sc hands ear frame slot : _} (j : ℕ) (r : Sense) → is_one r ≡ true → IsTrueRecord sc hands ear frame slot j r
    → IsRecordedOne sc hands ear frame slot
one-true j Silent one h = cc
one-true j (One at m) one h = record { j = j; at = at; message = m; came = h.0; place = h.1 }
one-true j Bad one h = absurd h

not-silent : {r : _} → is_one r ≡ true → r ≡ Silent → ⊥
not-silent one e = let both : true ≡ false = sym one ∙ ap is_one e in cc

one-of-most : {sc hands : _} → IsLawful sc → {ear : _} → IsEar sc ear → HearsTheRun sc hands ear → (k : ℕ) → k < ear.ticks → (s : Search)
    → listening_at sc ear k ≡ now.Searching s → s.learns ≡ true → (slot : ℕ) → are_most sc.sizes (ones_in s.lesson.records slot) ≡ true
    → IsRecordedOne sc hands ear s.lesson.frame slot
one-of-most {sc} {hands} law {ear} is run k in_time s at learns slot most =
    by (meet sc.sizes (set_of (is_always_good sc hands)) (ones_in s.lesson.records slot) law.sizes.most_rmus good-inside ones-inside run.most_good most)
  where
    good-at : (j : ℕ) → j < 16 → has (set_of (is_always_good sc hands)) j ≡ true → is_always_good sc hands j ≡ true
    good-at j below h = sym (has-set_of j (is_always_good sc hands) below) ∙ h

    good-inside : (j : ℕ) → j < 16 → has (set_of (is_always_good sc hands)) j ≡ true → j < sc.sizes.rmus
    good-inside j below h = always-counts sc hands j (good-at j below h)

    one-at : (j : ℕ) → j < 16 → has (ones_in s.lesson.records slot) j ≡ true → is_one (record_of s.lesson.records slot j) ≡ true
    one-at j below h = sym (has-set_of j (λ i. is_one (record_of s.lesson.records slot i)) below) ∙ h

    inside : (n : ℕ) × HoldsIn (IsInside sc k n) (listening_at sc ear k)
    inside = always (IsInside sc) (kept-inside law.sizes is) k in_time

    here : IsInside sc k inside.0 s
    here = subst (HoldsIn (IsInside sc k inside.0)) at inside.1

    ones-inside : (j : ℕ) → j < 16 → has (ones_in s.lesson.records slot) j ≡ true → j < sc.sizes.rmus
    ones-inside j below h =
        elim (cases_lt j sc.sizes.rmus) [
          | inl within ↦ within
          | inr out ↦ absurd (not-silent (one-at j below h) (here.none j out below slot))
        ]

    by : Passing (λ j. has (set_of (is_always_good sc hands)) j && has (ones_in s.lesson.records slot) j) 0 16 → IsRecordedOne sc hands ear s.lesson.frame slot
    by c =
        let below : c.at < 16 = omega (arith, c.high) in
        let good : is_always_good sc hands c.at ≡ true = good-at c.at below (and_first (has (set_of (is_always_good sc hands)) c.at) (has (ones_in s.lesson.records slot) c.at) c.passes) in
        let one : is_one (record_of s.lesson.records slot c.at) ≡ true =
        one-at c.at below (and_second (has (set_of (is_always_good sc hands)) c.at) (has (ones_in s.lesson.records slot) c.at) c.passes) in
        one-true c.at (record_of s.lesson.records slot c.at) one (records-true sc hands law ear is run k in_time s at learns c.at good slot)

-- The RMU was in that slot and stage, and trusted the slot's node.

trusted-in : {sc hands : _} → IsLawful sc → {ear frame slot stage : _} (i : ℕ) (kind : Side) → slot < sync_slot_of sc.sizes → 1 ≤ stage → stage ≤ 3
    → stage_recorded (role_of sc.sizes slot) ≡ stage
    → ((st : NodeState) → sender_at sc.sizes Rmu st slot ≡ if_trusted (trusted_of kind Rmu st) i) → IsRecordedOne sc hands ear frame slot
    → IsTrustedIn sc hands frame slot stage kind i
trusted-in {sc} {hands} law {frame} {slot} {stage} i kind below some few staged sender r = record {
  frame = now.frame;
  number_is = sym r.place.frame_is ∙ ap (λ x. x.frame) (sym r.came.is) ∙ put.frame;
  running = subst (λ k. IsRunning (moment sc hands k)) number sent.running;
  some_good = (r.came.coming.from, good_there);
  trust = λ me j st good there.
      subst (λ x. has x i ≡ true) (mine ∙ sym (theirs me j st good (ap (λ k. slice_get (of_kind me (moment sc hands k).nodes) j) number ∙ there)))
      (if-not-nobody (trusted_of kind Rmu sent.state) i (λ none. silent (sender sent.state ∙ none)));
}
  where
    sent : SendsIn sc hands r.came.good.n r.came.coming.from r.came.good.sending
    sent = r.came.good.sent

    now : Moment
    now = moment sc hands r.came.good.n

    put : IsInPlace sc (moment sc hands r.came.good.n) r.came.good.sending.message
    put = in-place law r.came.good.sent

    slot_is : r.came.good.sending.message.slot ≡ slot
    slot_is = ap (λ x. x.slot) r.came.is ∙ r.place.slot_is

    stage_is : r.came.good.sending.message.stage ≡ stage
    stage_is = ap (λ x. x.stage) r.came.is ∙ r.place.stage_is ∙ staged

    window : now.window ≡ 3 * slot + (stage - 1)
    window = omega (arith, put.window, slot_is, stage_is, some)

    number : r.came.good.n ≡ now.frame * (windows_in sc.sizes + 1) + 3 * slot + stage - 1
    number = omega (arith, (agreement hands law r.came.good.n sent.running).agree.place, window, some)

    ws : Windows sc now slot (stage - 1 + 1)
    ws = exact_windows sc now slot (stage - 1) below (omega (arith, some, few)) window

    good_there : is_good sc Rmu r.came.coming.from now.frame slot ≡ true
    good_there = ap (is_good sc Rmu r.came.coming.from now.frame) (sym (ap (λ w. w.slot) (ws.are Rmu sent.state))) ∙ sent.good.1

    agreed : IsAgreed sc hands r.came.good.n
    agreed = agreement hands law r.came.good.n sent.running

    theirs : (me : Side) (j : ℕ) (st : NodeState) → is_good sc me j now.frame slot ≡ true → slice_get (of_kind me now.nodes) j ≡ Some st
        → trusted_of kind me st ≡ agreed.shared.trusted kind
    theirs me j st good there =
        (agreed.agree.nodes me j st (record {
          there = there;
          good = ap (is_good sc me j now.frame) (slot_here sc.sizes slot (stage - 1) below (omega (arith, some, few)) window) ∙ good;
        })).trusted kind

    mine : trusted_of kind Rmu sent.state ≡ agreed.shared.trusted kind
    mine = theirs Rmu r.came.coming.from sent.state good_there sent.good.0

    word : ℕ
    word = word_at sc now slot r.came.coming.from

    parts : IsSent sc.sizes sc.plan Rmu r.came.coming.from sent.state slot (stage - 1 + 1) word r.came.good.sending
    parts = sent_parts sc.sizes sc.plan Rmu r.came.coming.from sent.state slot (stage - 1 + 1) word
        (sends-at sent ws)

    away : (slot == sync_slot_of sc.sizes) ≡ false
    away = grind (arith, nat_tests, below)

    said : message_said sc.sizes Rmu r.came.coming.from sent.state slot (stage - 1 + 1) word
        ≡ option_map (message_of sent.state slot (stage - 1 + 1)) (says sc.sizes Rmu r.came.coming.from sent.state slot (stage - 1 + 1) word)
    said = rw away refl

    silent : sender_at sc.sizes Rmu sent.state slot ≡ Nobody → ⊥
    silent =
        says-some sc.sizes r.came.coming.from sent.state slot (stage - 1 + 1) word (says sc.sizes Rmu r.came.coming.from sent.state slot (stage - 1 + 1) word) refl (sym said ∙ parts.message)

-- Both kinds.

pub diagnosis-role : (sizes : Sizes) (i : ℕ) → i < sizes.rmus → role_of sizes (first_diagnosis_of Rmu sizes + i) ≡ DiagRmu i
diagnosis-role sizes i below =
    let slot : ℕ = 2 * sizes.bius + sizes.data_slots + i in
    let a : nat_lt (2 * sizes.bius + sizes.data_slots + i) sizes.bius ≡ false = grind (arith, nat_tests) in
    let b : nat_lt (2 * sizes.bius + sizes.data_slots + i) (sizes.bius + sizes.data_slots) ≡ false = grind (arith, nat_tests) in
    let c : nat_lt (2 * sizes.bius + sizes.data_slots + i) (2 * sizes.bius + sizes.data_slots) ≡ false = grind (arith, nat_tests) in
    let d : nat_lt (2 * sizes.bius + sizes.data_slots + i) (2 * sizes.bius + sizes.rmus + sizes.data_slots) ≡ true = grind (arith, nat_tests, below) in
    let e : 2 * sizes.bius + sizes.data_slots + i - (2 * sizes.bius + sizes.data_slots) ≡ i = omega arith in
    rw (a, b, c, d, e) refl

pub trusts-the-trusted : (sc : Scenario) (hands : List HandIn) → IsLawful sc → (ear : Ear) → IsEar sc ear → HearsTheRun sc hands ear → (k : ℕ) → k < ear.ticks
    → TrustsTheTrusted sc hands ear k
trusts-the-trusted sc hands law ear is run k in_time s at learns i = (biu, rmu)
  where
    biu : trusts_biu sc.sizes s.lesson.records i ≡ true → IsTrustedIn sc hands s.lesson.frame i 2 Biu i
    biu h =
        let within : i < sc.sizes.bius = ltb-true i sc.sizes.bius (and_first (nat_lt i sc.sizes.bius) (are_most sc.sizes (ones_in s.lesson.records i)) h) in
        let role : role_of sc.sizes i ≡ Schedule i = schedule_role sc.sizes i within in
        trusted-in law i Biu (omega (arith, within)) (omega arith) (omega arith) (ap stage_recorded role)
        (λ st. ap (sender_in (trusted_of Biu Rmu st) (trusted_of Rmu Rmu st) st.owners) role)
        (one-of-most law is run k in_time s at learns i (and_second (nat_lt i sc.sizes.bius) (are_most sc.sizes (ones_in s.lesson.records i)) h))

    rmu : trusts_rmu sc.sizes s.lesson.records i ≡ true → IsTrustedIn sc hands s.lesson.frame (first_diagnosis_of Rmu sc.sizes + i) 3 Rmu i
    rmu h =
        let slot : ℕ = first_diagnosis_of Rmu sc.sizes + i in
        let within : i < sc.sizes.rmus =
        ltb-true i sc.sizes.rmus (and_first (nat_lt i sc.sizes.rmus) (are_most sc.sizes (ones_in s.lesson.records (first_diagnosis_of Rmu sc.sizes + i))) h) in
        let role : role_of sc.sizes (first_diagnosis_of Rmu sc.sizes + i) ≡ DiagRmu i = diagnosis-role sc.sizes i within in
        trusted-in law i Rmu (omega (arith, within)) (omega arith) (omega arith) (ap stage_recorded role)
        (λ st. ap (sender_in (trusted_of Biu Rmu st) (trusted_of Rmu Rmu st) st.owners) role)
        (one-of-most law is run k in_time s at learns (first_diagnosis_of Rmu sc.sizes + i)
        (and_second (nat_lt i sc.sizes.rmus) (are_most sc.sizes (ones_in s.lesson.records (first_diagnosis_of Rmu sc.sizes + i))) h))
