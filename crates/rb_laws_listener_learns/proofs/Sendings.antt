-- What a good RMU sends in a window is one message of the window's place, with a tag that suits it.
use Rattle.std.proofs.{Common.{◌≡◌, ℕ, zero, suc, ◌+◌, ◌-◌, ◌*◌, ◌/◌, ◌%◌, ◌<◌, ◌≤◌, ◌==◌, true, false, Option, Some, None, option_map, unwrap_or, get_or, inl, inr, refl, sym, ◌∙◌, ap, subst, arith}, lemmas.Bool.cases_lt, lemmas.Bool.Decides.nat_tests, lemmas.Option.same_Some}
use Rattle.rb_base.specs.{Nodes.{Side, other}, Nodes.Side.{Biu, Rmu}, Sizes.{Sizes, sync_slot_of}, declared.values.Heard.Heard, declared.values.Heard.TheVariants.{Word, Fault}}
use Rattle.rb_rules.specs.{declared.message.Message.Message, ExactStage.{message_of, own_value, says}, Goodness.{Scenario, is_good}, Hearing.sending, Lawful.IsLawful, NodeState.NodeState, NodeSteps.message_said, Rounds.{Moment, moment}, Sense.tag_suits, Slots.{listens, role_of, sender_kind}, Spelling.IsMessage, SyncStage.call_of}
use Rattle.rb_rules.proofs.{Senses.{IsCarried, value_is_message}, Slots.few_slots}
use Rattle.rb_laws_agreement.proofs.{Agreement.{IsAgreed, agreement}, Goodnesses.{slot_here, slot_last}, Invariant.{Agree, HasRelays, HasVoted, IsGoodNode, slot_numbered}, NodeWindows.{Windows, exact_windows, sync_windows_are, tail_windows, word_at}, SecondStages.unwrap-fits, Speaking.{listens_second, listens_third, only-some, own_fits, says_got, says_nothing, says_own, says_vote, word_fits}, Tests.true_or_false}
use Rattle.rb_laws_synchrony.proofs.{TakenCalls.call_sent, TimelyWindows.{IsSent, sent_parts}}
use Rattle.rb_laws_listener_learns.specs.Ears.{SendsIn}
use Rattle.rb_laws_listener_learns.proofs.CallsSent.{call-is, sends-at}
use Rattle.rb_rules.specs.declared.role.Role.TheVariants as role

-- `x` is a message for the place of the moment's window
pub record IsInPlace (sc : Scenario) (m : Moment) (x : Message) : Type 0 where
  pub fits : IsMessage x
  pub frame : x.frame ≡ m.frame % 65536
  pub slot : x.slot ≤ sync_slot_of sc.sizes
  pub window : m.window + 1 ≡ 3 * x.slot + x.stage
  pub suits : tag_suits (x.slot == sync_slot_of sc.sizes) x.tag ≡ true

-- Below the sync slot.

-- the value that is said is one that messages carry

speaks : (sizes : Sizes) (j : ℕ) (st : NodeState) (slot stage word : ℕ) {v : _} → says sizes Rmu j st slot stage word ≡ Some v → listens Biu (role_of sizes slot) stage ≡ true
speaks sizes j st slot stage word {v} said =
    elim (true_or_false (listens Biu (role_of sizes slot) stage)) [
      | inl is ↦ is
      | inr deaf ↦ let both : None ≡ Some v = sym (says_nothing sizes Rmu j st slot stage word deaf) ∙ said in cc
    ]

said-carried : {sc hands n m s : _} → IsLawful sc → Agree sc hands n m s → {j st : _} → IsGoodNode sc m Rmu j st
    → (slot q : ℕ) → slot < sync_slot_of sc.sizes → q < 3 → m.window ≡ 3 * slot + q → {v : _}
    → says sc.sizes Rmu j st slot (q + 1) (word_at sc m slot j) ≡ Some v → IsCarried v
said-carried {sc} {m} law agree {j} {st} node slot zero below small at {v} said =
    let is : v ≡ own_value st (role_of sc.sizes slot) (word_at sc m slot j) =
    only-some (says_own sc.sizes Rmu j st slot (word_at sc m slot j)) said in
    subst IsCarried (sym is) (own_fits st (role_of sc.sizes slot) (word_at sc m slot j) (word_fits m.ports j slot (role_of sc.sizes slot) law))
said-carried {sc} {hands} {m} {s} law agree {j} {st} node slot (suc zero) below small at {v} said =
    let is : v ≡ unwrap_or st.got Fault = only-some (says_got sc.sizes Rmu j st slot (word_at sc m slot j)) said in
    let kind : Biu ≡ sender_kind (role_of sc.sizes slot) = listens_second Biu (role_of sc.sizes slot) (speaks sc.sizes j st slot 2 (word_at sc m slot j) said) in
    let relays : HasRelays sc hands m s slot = agree.relayed slot below at in
    subst IsCarried (sym is) (unwrap-fits st.got (relays.carried j st (subst (λ k. IsGoodNode sc m (other k) j st) kind node)))
said-carried {sc} {hands} {m} {s} law agree {j} {st} node slot (suc (suc zero)) below small at {v} said =
    let is : v ≡ get_or st.votes slot Fault = only-some (says_vote sc.sizes Rmu j st slot (word_at sc m slot j)) said in
    let kind : Biu ≡ other (sender_kind (role_of sc.sizes slot)) = listens_third Biu (role_of sc.sizes slot) (speaks sc.sizes j st slot 3 (word_at sc m slot j) said) in
    let voted : HasVoted sc hands m s slot = agree.voted slot below at in
    let mine : IsGoodNode sc m (sender_kind (role_of sc.sizes slot)) j st = subst (λ k. IsGoodNode sc m k j st) (own-kind (sender_kind (role_of sc.sizes slot)) kind) node in
    subst IsCarried (sym (is ∙ voted.held j st mine)) voted.is_value.carried
  where
    own-kind : (k : Side) → Biu ≡ other k → Rmu ≡ k
    own-kind Biu e = cc
    own-kind Rmu e = refl
said-carried law agree node slot (suc (suc (suc q))) below small at said = absurd (omega (arith, small))

-- a value that is said is in its place

value-in-place : {sc : _} (m : Moment) (st : NodeState) (slot q : ℕ) (v : Heard) → IsLawful sc → st.frame ≡ m.frame → slot < sync_slot_of sc.sizes → q < 3
    → m.window ≡ 3 * slot + q → IsCarried v → IsInPlace sc m (message_of st slot (q + 1) v)
value-in-place {sc} m st slot q v law frame below small at carried = by v (value_is_message st slot (q + 1) v (omega (arith, few_slots sc.sizes law.sizes, below)) (omega arith) (omega (arith, small)) carried)
  where
    away : (slot == sync_slot_of sc.sizes) ≡ false
    away = grind (arith, nat_tests, below)

    by : (v : Heard) → IsMessage (message_of st slot (q + 1) v) → IsInPlace sc m (message_of st slot (q + 1) v)
    by (Word w) fits = record { fits = fits; frame = ap (λ f. f % 65536) frame; slot = omega (arith, below); window = omega (arith, at); suits = rw away refl }
    by Fault fits = record { fits = fits; frame = ap (λ f. f % 65536) frame; slot = omega (arith, below); window = omega (arith, at); suits = rw away refl }

exact-in-place : (sc : Scenario) (m : Moment) (st : NodeState) (slot q : ℕ) (o : Option Heard) {x : _} → ((v : Heard) → o ≡ Some v → IsInPlace sc m (message_of st slot (q + 1) v))
    → option_map (message_of st slot (q + 1)) o ≡ Some x → IsInPlace sc m x
exact-in-place sc m st slot q None is h = cc
exact-in-place sc m st slot q (Some v) {x} is h = subst (IsInPlace sc m) (same_Some (message_of st slot (q + 1) v) x h) (is v refl)

-- All windows.

pub in-place : {sc hands : _} → IsLawful sc → {n j s : _} → SendsIn sc hands n j s → IsInPlace sc (moment sc hands n) s.message
in-place {sc} {hands} law {n} {j} {s} sent =
    elim (cases_lt now.window (3 * sync_slot_of sc.sizes)) [
      | inl exact ↦ in-exact (now.window / 3) (now.window % 3) (omega (arith, exact)) (omega arith) (omega arith)
      | inr late ↦ elim (cases_lt (now.window - 3 * sync_slot_of sc.sizes) 3) [
        | inl stage ↦ in-stage (now.window - 3 * sync_slot_of sc.sizes) stage (omega (arith, late))
        | inr tail ↦ in-tail (omega (arith, late, tail, sent.in_frame))
      ]
    ]
  where
    now : Moment
    now = moment sc hands n

    agreed : IsAgreed sc hands n
    agreed = agreement hands law n sent.running

    node : (slot stage : ℕ) → Windows sc (moment sc hands n) slot stage → slot_numbered sc.sizes (moment sc hands n).window ≡ slot → IsGoodNode sc (moment sc hands n) Rmu j sent.state
    node slot stage ws slot_is = record {
      there = sent.good.0;
      good = ap (is_good sc Rmu j (moment sc hands n).frame) (slot_is ∙ sym (ap (λ w. w.slot) (ws.are Rmu sent.state))) ∙ sent.good.1;
    }

    in-exact : (slot q : ℕ) → slot < sync_slot_of sc.sizes → q < 3 → (moment sc hands n).window ≡ 3 * slot + q → IsInPlace sc (moment sc hands n) s.message
    in-exact slot q below small at =
        let ws : Windows sc (moment sc hands n) slot (q + 1) = exact_windows sc (moment sc hands n) slot q below small at in
        let word : ℕ = word_at sc (moment sc hands n) slot j in
        let here : IsGoodNode sc (moment sc hands n) Rmu j sent.state = node slot (q + 1) ws (slot_here sc.sizes slot q below small at) in
        let parts : IsSent sc.sizes sc.plan Rmu j sent.state slot (q + 1) word s =
        sent_parts sc.sizes sc.plan Rmu j sent.state slot (q + 1) word (sends-at sent ws) in
        let away : (slot == sync_slot_of sc.sizes) ≡ false = grind (arith, nat_tests, below) in
        let same : message_said sc.sizes Rmu j sent.state slot (q + 1) word ≡ option_map (message_of sent.state slot (q + 1)) (says sc.sizes Rmu j sent.state slot (q + 1) word) =
        rw away refl in
        exact-in-place sc (moment sc hands n) sent.state slot q (says sc.sizes Rmu j sent.state slot (q + 1) word)
        (λ v said. value-in-place (moment sc hands n) sent.state slot q v law (agreed.agree.nodes Rmu j sent.state here).frame below small at
        (said-carried law agreed.agree here slot q below small at said))
        (sym same ∙ parts.message)

    in-tail : (moment sc hands n).window ≡ 3 * sync_slot_of sc.sizes + 3 → IsInPlace sc (moment sc hands n) s.message
    in-tail at =
        let sends = sends-at sent (tail_windows sc (moment sc hands n) at) in
        let heard : listens Biu role.Sync 4 ≡ true = (call_sent sc.sizes sc.plan Rmu j sent.state 4 (word_at sc (moment sc hands n) (sync_slot_of sc.sizes) j) sends).1 in cc

    in-stage : (q : ℕ) → q < 3 → (moment sc hands n).window ≡ 3 * sync_slot_of sc.sizes + q → IsInPlace sc (moment sc hands n) s.message
    in-stage q small at =
        let sync : ℕ = sync_slot_of sc.sizes in
        let ws : Windows sc (moment sc hands n) sync (q + 1) = sync_windows_are sc (moment sc hands n) q small at in
        let word : ℕ = word_at sc (moment sc hands n) sync j in
        let sends : sending sc.sizes sc.plan Rmu j sent.state sync (q + 1) word ≡ Some s = sends-at sent ws in
        let parts : IsSent sc.sizes sc.plan Rmu j sent.state sync (q + 1) word s = sent_parts sc.sizes sc.plan Rmu j sent.state sync (q + 1) word sends in
        let is : s.message ≡ call_of sc.sizes sent.state (q + 1) = call-is sc.sizes j sent.state (q + 1) word parts.message in
        let here : IsGoodNode sc (moment sc hands n) Rmu j sent.state = node sync (q + 1) ws (slot_last sc.sizes q at) in
        let self : (sync_slot_of sc.sizes == sync_slot_of sc.sizes) ≡ true = grind (arith, nat_tests) in
        subst (IsInPlace sc (moment sc hands n)) (sym is) (record {
          fits = record { frame = omega arith; slot = omega (arith, few_slots sc.sizes law.sizes); some_stage = omega arith; most_stages = omega (arith, small); value = refl };
          frame = ap (λ f. f % 65536) (agreed.agree.nodes Rmu j sent.state here).frame;
          slot = omega arith;
          window = omega (arith, at);
          suits = self;
        })
