-- What the listener hears of a good RMU as a call is the RMU's call of a frame of the bus.
use Rattle.std.proofs.{Common.{◌≡◌, ℕ, ◌+◌, ◌-◌, ◌*◌, ◌/◌, ◌%◌, ◌<◌, ◌==◌, ◌&&◌, nat_le, Bool, true, false, Option, Some, None, option_map, if◌then◌else◌, List, slice_index, slice_range, inl, inr, refl, sym, ◌∙◌, ap, subst, arith}, lemmas.Bool.{cases_lt, eqb-true}, lemmas.Bool.Decides.nat_tests, lemmas.Option.same_Some}
use Rattle.std.specs.Int.{from_be_bytes, w16, w32}
use Rattle.rb_base.specs.{Nodes.Side.{Biu, Rmu}, Sizes.{Sizes, sync_slot_of}, declared.values.Heard.Heard}
use Rattle.rb_base.proofs.Plain.{and_first}
use Rattle.rb_rules.specs.{declared.message.Message.Message, declared.message.Tag.Tag, declared.message.Tag.TheVariants.{Word, Fault, Sync}, declared.message.Version.Version, declared.message.Version.TheVariants.{One, Two}, ExactStage.{message_of, says}, Goodness.{Scenario, is_good}, Hearing.{Coming, sending}, Lawful.IsLawful, Moments.IsRunning, NodeState.NodeState, NodeSteps.message_said, Ports.HandIn, Rounds.{Moment, moment, sending_in, window_in, windows_in}, Slots.listens, Spelling.{IsMessage, has_form, may_have, message_in, message_with, spelling_of, tag_byte, tag_in}, SyncStage.{call_of, calls}}
use Rattle.rb_rules.proofs.{Slots.few_slots, Spellings.read_back}
use Rattle.rb_laws_agreement.proofs.{Agreement.{IsAgreed, agreement}, Goodnesses.slot_last, Invariant.IsGoodNode, NodeWindows.{Windows, exact_windows, sync_windows_are, tail_windows, word_at}}
use Rattle.rb_laws_synchrony.proofs.{TakenCalls.call_sent, TimelyWindows.{IsSent, sent_parts}}
use Rattle.rb_listen.specs.Passes.{is_call, is_sync}
use Rattle.rb_laws_listener_learns.specs.{Ears.{IsOfGood, SendsIn}, Seeking.HasCalls}
use Rattle.rb_base.specs.declared.values.Heard.TheVariants as heard
use Rattle.rb_rules.specs.declared.role.Role.TheVariants as role

-- the tag of what is read is that of what was spelled

tag-back : (t : Tag) → tag_in (tag_byte t) ≡ Some t
tag-back Word = refl
tag-back Fault = refl
tag-back Sync = refl

with-tag : (o : Option Tag) (frame slot stage value : ℕ) {t m : _} → o ≡ Some t → message_with o frame slot stage value ≡ Some m → m.tag ≡ t
with-tag None frame slot stage value e h = cc
with-tag (Some u) frame slot stage value {t} {m} e h = go (nat_le 1 stage && nat_le stage 3 && may_have u value) h
  where
    go : (b : Bool) → (if b then Some (let x : Message = record { tag = u; frame = frame; slot = slot; stage = stage; value = value } in x) else None) ≡ Some m → m.tag ≡ t
    go true p = cc
    go false p = cc

through : (pass : Bool) (read : Option Message) {m : _} → (if pass then read else None) ≡ Some m → read ≡ Some m
through true read h = h
through false read h = cc

spelled-tag : (version : Version) (a : Message) {m : _} → message_in version (spelling_of version a) ≡ Some m → m.tag ≡ a.tag
unfolding message_in
spelled-tag One a h =
    let bytes : List ℕ = spelling_of One a in
    with-tag (tag_in (slice_index bytes 0)) (from_be_bytes w16 (slice_range bytes 1 3)) (from_be_bytes w16 (slice_range bytes 3 5)) (slice_index bytes 5)
    (from_be_bytes w32 (slice_range bytes 6 10)) (tag-back a.tag)
    (through (has_form One bytes) (message_with (tag_in (slice_index bytes 0)) (from_be_bytes w16 (slice_range bytes 1 3)) (from_be_bytes w16 (slice_range bytes 3 5))
    (slice_index bytes 5) (from_be_bytes w32 (slice_range bytes 6 10))) h)
spelled-tag (Two bus) a h =
    let bytes : List ℕ = spelling_of (Two bus) a in
    with-tag (tag_in (slice_index bytes 0)) (from_be_bytes w16 (slice_range bytes 1 3)) (from_be_bytes w16 (slice_range bytes 3 5)) (slice_index bytes 5)
    (from_be_bytes w32 (slice_range bytes 6 10)) (tag-back a.tag)
    (through (has_form (Two bus) bytes) (message_with (tag_in (slice_index bytes 0)) (from_be_bytes w16 (slice_range bytes 1 3)) (from_be_bytes w16 (slice_range bytes 3 5))
    (slice_index bytes 5) (from_be_bytes w32 (slice_range bytes 6 10))) h)

-- what is said below the sync slot is no call

not-sync : (st : NodeState) (slot stage : ℕ) (o : Option Heard) {m : _} → option_map (message_of st slot stage) o ≡ Some m → is_sync m.tag ≡ false
not-sync st slot stage None h = cc
not-sync st slot stage (Some (heard.Word word)) {m} h = ap (λ x. is_sync x.tag) (sym (same_Some (message_of st slot stage (heard.Word word)) m h))
not-sync st slot stage (Some heard.Fault) {m} h = ap (λ x. is_sync x.tag) (sym (same_Some (message_of st slot stage heard.Fault) m h))

exact-is-no-call : (sizes : Sizes) (plan-slot : ℕ) (j : ℕ) (st : NodeState) (stage word : ℕ) {m : _} → plan-slot < sync_slot_of sizes
    → message_said sizes Rmu j st plan-slot stage word ≡ Some m → is_sync m.tag ≡ false
exact-is-no-call sizes slot j st stage word below h =
    let away : (slot == sync_slot_of sizes) ≡ false = grind (arith, nat_tests, below) in
    let same : message_said sizes Rmu j st slot stage word ≡ option_map (message_of st slot stage) (says sizes Rmu j st slot stage word) = rw away refl in
    not-sync st slot stage (says sizes Rmu j st slot stage word) (sym same ∙ h)

-- what is said in the sync slot is the call

pub call-is : (sizes : Sizes) (j : ℕ) (st : NodeState) (stage word : ℕ) {m : _} → message_said sizes Rmu j st (sync_slot_of sizes) stage word ≡ Some m → m ≡ call_of sizes st stage
call-is sizes j st stage word {m} h =
    let here : (sync_slot_of sizes == sync_slot_of sizes) ≡ true = grind (arith, nat_tests) in
    let same : message_said sizes Rmu j st (sync_slot_of sizes) stage word ≡ calls sizes Rmu st stage = rw here refl in
    go (listens Biu role.Sync stage) (sym same ∙ h)
  where
    go : (b : Bool) → (if b then Some (call_of sizes st stage) else None) ≡ Some m → m ≡ call_of sizes st stage
    go true p = sym (same_Some (call_of sizes st stage) m p)
    go false p = cc

-- A frame of the bus in which the RMUs called, by the number that messages have of it.

pub record IsCalled (sc : Scenario) (hands : List HandIn) (number : ℕ) : Type 0 where
  pub frame : ℕ
  pub has_calls : HasCalls sc hands frame
  pub number_is : number ≡ frame % 65536

-- what an RMU sends at a moment, with the slot and the stage of the window
pub sends-at : {sc hands n j s : _} (sent : SendsIn sc hands n j s) {slot stage : ℕ} (ws : Windows sc (moment sc hands n) slot stage)
    → sending sc.sizes sc.plan Rmu j sent.state slot stage (word_at sc (moment sc hands n) slot j) ≡ Some s
sends-at {sc} {hands} {n} {j} {s} sent ws =
    subst (λ w. sending_in sc (moment sc hands n) Rmu j sent.state w ≡ Some s) (ws.are Rmu sent.state) sent.sends

pub call-of-frame : {sc hands : _} → IsLawful sc → {n j s : _} → SendsIn sc hands n j s → {m : _}
    → message_in sc.plan.version (spelling_of sc.plan.version s.message) ≡ Some m → is_sync m.tag ≡ true → IsCalled sc hands m.frame
call-of-frame {sc} {hands} law {n} {j} {s} sent {m} read call =
    elim (cases_lt now.window (3 * sync_slot_of sc.sizes)) [
      | inl exact ↦ in-exact exact
      | inr late ↦ elim (cases_lt (now.window - 3 * sync_slot_of sc.sizes) 3) [
        | inl stage ↦ in-stage (now.window - 3 * sync_slot_of sc.sizes) stage (omega (arith, late))
        | inr tail ↦ in-tail (omega (arith, late, tail, sent.in_frame))
      ]
    ]
  where
    now : Moment
    now = moment sc hands n

    agreed : IsAgreed sc hands n
    agreed = agreement hands law n sent.running

    tag : m.tag ≡ s.message.tag
    tag = spelled-tag sc.plan.version s.message read

    in-exact : now.window < 3 * sync_slot_of sc.sizes → IsCalled sc hands m.frame
    in-exact below =
        let slot : ℕ = now.window / 3 in
        let q : ℕ = now.window % 3 in
        let within : slot < sync_slot_of sc.sizes = omega (arith, below) in
        let ws : Windows sc now slot (q + 1) = exact_windows sc now slot q within (omega arith) (omega arith) in
        let parts : IsSent sc.sizes sc.plan Rmu j sent.state slot (q + 1) (word_at sc now slot j) s =
        sent_parts sc.sizes sc.plan Rmu j sent.state slot (q + 1) (word_at sc now slot j) (sends-at sent ws) in
        let none : is_sync s.message.tag ≡ false = exact-is-no-call sc.sizes slot j sent.state (q + 1) (word_at sc now slot j) within parts.message in
        let both : true ≡ false = sym call ∙ ap is_sync tag ∙ none in cc

    in-tail : now.window ≡ 3 * sync_slot_of sc.sizes + 3 → IsCalled sc hands m.frame
    in-tail at =
        let sends = sends-at sent (tail_windows sc now at) in
        let heard : listens Biu role.Sync 4 ≡ true = (call_sent sc.sizes sc.plan Rmu j sent.state 4 (word_at sc now (sync_slot_of sc.sizes) j) sends).1 in cc

    in-stage : (q : ℕ) → q < 3 → now.window ≡ 3 * sync_slot_of sc.sizes + q → IsCalled sc hands m.frame
    in-stage q small at =
        let sync : ℕ = sync_slot_of sc.sizes in
        let ws : Windows sc now sync (q + 1) = sync_windows_are sc now q small at in
        let word : ℕ = word_at sc now sync j in
        let sends : sending sc.sizes sc.plan Rmu j sent.state sync (q + 1) word ≡ Some s = sends-at sent ws in
        let parts : IsSent sc.sizes sc.plan Rmu j sent.state sync (q + 1) word s = sent_parts sc.sizes sc.plan Rmu j sent.state sync (q + 1) word sends in
        let heard : listens Biu role.Sync (q + 1) ≡ true = (call_sent sc.sizes sc.plan Rmu j sent.state (q + 1) word sends).1 in
        let second : q + 1 ≡ 2 = eqb-true (q + 1) 2 heard in
        let is : s.message ≡ call_of sc.sizes sent.state (q + 1) = call-is sc.sizes j sent.state (q + 1) word parts.message in
        let fits : IsMessage (call_of sc.sizes sent.state (q + 1)) =
        record { frame = omega arith; slot = omega (arith, few_slots sc.sizes law.sizes); some_stage = omega arith; most_stages = omega (arith, small); value = refl } in
        let back : Some (call_of sc.sizes sent.state (q + 1)) ≡ Some m =
        sym (read_back sc.plan.version (call_of sc.sizes sent.state (q + 1)) fits) ∙ ap (λ x. message_in sc.plan.version (spelling_of sc.plan.version x)) (sym is) ∙ read in
        let same : call_of sc.sizes sent.state (q + 1) ≡ m = same_Some (call_of sc.sizes sent.state (q + 1)) m back in
        let slot_is : (window_in sc now Rmu sent.state).slot ≡ sync = ap (λ w. w.slot) (ws.are Rmu sent.state) in
        let good : is_good sc Rmu j now.frame sync ≡ true = ap (is_good sc Rmu j now.frame) (sym slot_is) ∙ sent.good.1 in
        let node : IsGoodNode sc now Rmu j sent.state =
        record { there = sent.good.0; good = ap (is_good sc Rmu j now.frame) (slot_last sc.sizes q at) ∙ good } in
        let frame : sent.state.frame ≡ now.frame = (agreed.agree.nodes Rmu j sent.state node).frame in
        let number : n ≡ now.frame * (windows_in sc.sizes + 1) + 3 * sync + 2 - 1 = omega (arith, agreed.agree.place, at, second) in
        record {
          frame = now.frame;
          has_calls = subst (λ k. IsRunning (moment sc hands k)) number sent.running;
          number_is = ap (λ x. x.frame) (sym same) ∙ ap (λ f. f % 65536) frame;
        }

pub called : {sc hands : _} → IsLawful sc → {ear c : _} → IsOfGood sc hands ear c → {m : _}
    → message_in sc.plan.version c.bytes ≡ Some m → is_call sc.sizes m ≡ true → IsCalled sc hands m.frame
called {sc} law good {m} read is =
    call-of-frame law good.sent
    (ap (λ (x : Coming). message_in sc.plan.version x.bytes) (sym good.is) ∙ read)
    (and_first (is_sync m.tag) (m.slot == sync_slot_of sc.sizes) (and_first (is_sync m.tag && (m.slot == sync_slot_of sc.sizes)) (m.stage == 2) is))
