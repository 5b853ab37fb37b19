-- If good nodes begin frames and slots in time, the rounds stand for a run of the abstract bus.
use Rattle.std.proofs.{Common.{◌≡◌, ℕ, zero, suc, ◌+◌, ◌*◌, ◌<◌, ◌≤◌, nat_lt, true, false, List, inl, inr, refl, sym, ◌∙◌, ap, subst, arith}, lemmas.Bool.{cases_lt, le-ltb, lt-ltb}}
use Rattle.rb_base.specs.{Nodes.{Side, has}, Nodes.Side.{Biu, Rmu}, Sizes.{Sizes, sync_slot_of}, declared.values.Heard.Heard}
use Rattle.rb_rules.specs.{AbstractBus.{AbstractBus, trusted_on, SlotStep, FrameStep, IsStep, IsRun, bus_after_frame}, Goodness.{Scenario, is_good}, Lawful.IsLawful, Moments.{before_slot, IsRunning, IsComplete, IsReached, IsSettled, IsGoodBefore, IsGoodAfter, time_in_frame, offered_in}, NodeState.NodeState, Plan.{shortest_of, longest_of, tail_start_of}, Ports.HandIn, Slots.{has_third_stage, first_diagnosis_of, role_of}, StandsFor.{steps_to, IsInBand, AgreesBefore, AgreesAfter, SlotAgrees, DeliversOn, IsLow, FrameAgrees, StandsFor}}
use Rattle.rb_laws_agreement.specs.BusValues.{value_in_rounds, bus_in_rounds, bus_before, bus_then, IsBusBefore, IsBusSlot}
use Rattle.rb_laws_agreement.proofs.{BeginTimes.{IsInTime, BeginsInTime}, Places.complete_before, FrameBegins.{settled_before, reached}, SlotLaws.none_accused, PortHistories.{slot-follows, reached_from}, BusRuns.{IsHeld, held_at}, BusLaws.{bus-before, bus-slot-step, bus-frame-step}}

-- One step.

-- a step is a slot below the sync slot, or the start of a frame
step-by : (sc : Scenario) (offered : ℕ → ℕ → ℕ → ℕ) (before after : AbstractBus) {b : _} → nat_lt before.slot (sync_slot_of sc.sizes) ≡ b
    → elim b as (λ _. Type 0) [ true ↦ (value : Heard) × SlotStep sc (offered before.frame before.slot) value before after | false ↦ FrameStep sc before after ]
    → IsStep sc offered before after
step-by sc offered before after {b} e s =
    subst (λ b. elim b as (λ _. Type 0) [ true ↦ (value : Heard) × SlotStep sc (offered before.frame before.slot) value before after | false ↦ FrameStep sc before after ]) (sym e) s

slot-step : {sc : _} (hands : List HandIn) → IsLawful sc → (low : ℕ → ℕ) (frame : ℕ) {slot : ℕ} → slot < sync_slot_of sc.sizes → IsComplete sc hands frame slot
    → IsStep sc (offered_in sc hands) (bus_before sc hands low frame slot) (bus_then sc hands low frame slot)
slot-step {sc} hands law low frame {slot} below complete =
    let bus : AbstractBus = bus_before sc hands low frame slot in
    let b : IsBusBefore sc hands frame slot bus = bus-before law low frame slot (omega arith) (inl complete) in
    let x : IsBusSlot sc hands frame slot bus (bus_then sc hands low frame slot) = bus-slot-step law low frame slot below complete in
    let at : offered_in sc hands bus.frame bus.slot ≡ offered_in sc hands frame slot =
    ap (λ f. offered_in sc hands f bus.slot) b.frame_is ∙ ap (offered_in sc hands frame) b.slot_is in
    step-by sc (offered_in sc hands) bus (bus_then sc hands low frame slot) (ap (λ k. nat_lt k (sync_slot_of sc.sizes)) b.slot_is ∙ lt-ltb slot (sync_slot_of sc.sizes) below) (
      value_in_rounds sc hands frame slot,
      subst (λ (o : ℕ → ℕ). SlotStep sc o (value_in_rounds sc hands frame slot) bus (bus_then sc hands low frame slot)) (sym at) x.step,
    )

frame-step : {sc hands : _} → IsLawful sc → {low : _} → BeginsInTime sc hands low → (frame : ℕ) → IsComplete sc hands frame (sync_slot_of sc.sizes)
    → IsStep sc (offered_in sc hands) (bus_before sc hands low frame (sync_slot_of sc.sizes)) (bus_then sc hands low frame (sync_slot_of sc.sizes))
frame-step {sc} {hands} law {low} times frame complete =
    let s : ℕ = sync_slot_of sc.sizes in
    let bus : AbstractBus = bus_before sc hands low frame s in
    let next : AbstractBus = bus_then sc hands low frame s in
    let b : IsBusBefore sc hands frame s bus = bus-before law low frame s (omega arith) (inl complete) in
    let then_is : next ≡ bus_after_frame sc.sizes (low (frame + 1)) bus = bus-frame-step hands law low frame complete in
    let one : frame + 1 ≡ suc frame = omega arith in
    let h : IsHeld sc hands (low frame) frame s bus = held_at hands law low frame s (omega arith) (complete_before sc hands frame s 1 (omega arith) complete) in
    let at : next ≡ bus_before sc hands low (suc frame) 0 = ap (bus_in_rounds sc hands low) (index frame s) in
    let low_is : next.low ≡ low (suc frame) = ap (λ x. x.low) then_is ∙ ap low one in
    let n : IsBusBefore sc hands (suc frame) 0 (bus_before sc hands low (suc frame) 0) = bus-before law low (suc frame) 0 (omega arith) (inr complete) in
    step-by sc (offered_in sc hands) bus next (ap (λ k. nat_lt k s) b.slot_is ∙ le-ltb s s (omega arith)) (record {
      later = on_time bus.low next.low (low frame) (low (suc frame)) (tail_start_of sc.sizes sc.plan * shortest_of sc.plan) h.low_is low_is (times.later frame complete);
      after_is = then_is ∙ ap (λ l. bus_after_frame sc.sizes l bus) (ap low one ∙ sym low_is);
      good_stay = λ side j good.
          ap (λ x. has (trusted_on side x) j) at
          ∙ n.good_are_trusted side j (ap (λ f. is_good sc side j f 0) (sym (ap (λ x. x.frame) at ∙ n.frame_is)) ∙ good);
    })
  where
    index : (f s : ℕ) → f * (s + 1) + s + 1 ≡ suc f * (s + 1) + 0
    index f s = omega arith

    on_time : (a b c d t : ℕ) → a ≡ c → b ≡ d → c + t ≤ d → a + t ≤ b
    on_time a b c d t p q h = omega arith

-- All steps.

AreSteps : Scenario → List HandIn → (ℕ → ℕ) → ℕ → Type 0
AreSteps sc hands low steps = (n : ℕ) → n < steps → IsStep sc (offered_in sc hands) (bus_in_rounds sc hands low n) (bus_in_rounds sc hands low (suc n))

more-steps : (sc : Scenario) (hands : List HandIn) (low : ℕ → ℕ) (steps : ℕ) → AreSteps sc hands low steps
    → IsStep sc (offered_in sc hands) (bus_in_rounds sc hands low steps) (bus_in_rounds sc hands low (suc steps)) → AreSteps sc hands low (suc steps)
unfolding AreSteps
more-steps sc hands low steps all last n lt =
    elim (cases_lt n steps) [
      | inl before ↦ all n before
      | inr late ↦ let same : steps ≡ n = omega arith in subst (λ n. IsStep sc (offered_in sc hands) (bus_in_rounds sc hands low n) (bus_in_rounds sc hands low (suc n))) same last
    ]

through : {sc : _} (hands : List HandIn) → IsLawful sc → (low : ℕ → ℕ) (frame : ℕ) → AreSteps sc hands low (steps_to sc.sizes frame 0)
    → (slot : ℕ) → slot ≤ sync_slot_of sc.sizes → IsRunning (before_slot sc hands frame slot) → AreSteps sc hands low (steps_to sc.sizes frame slot)
through hands law low frame begun zero le running = begun
through {sc} hands law low frame begun (suc slot) le running =
    let complete : IsComplete sc hands frame slot = ap (λ m. m.book.ended) (sym (slot-follows sc hands frame slot)) ∙ running in
    let before : AreSteps sc hands low (steps_to sc.sizes frame slot) =
    through hands law low frame begun slot (omega arith) (complete_before sc hands frame slot 1 (omega arith) complete) in
    let next : steps_to sc.sizes frame slot + 1 ≡ suc (steps_to sc.sizes frame slot) = one (steps_to sc.sizes frame slot) in
    let last : IsStep sc (offered_in sc hands) (bus_before sc hands low frame slot) (bus_in_rounds sc hands low (suc (steps_to sc.sizes frame slot))) =
    subst (λ k. IsStep sc (offered_in sc hands) (bus_before sc hands low frame slot) (bus_in_rounds sc hands low k)) next (slot-step hands law low frame (omega arith) complete) in
    subst (AreSteps sc hands low) (index (frame * (sync_slot_of sc.sizes + 1)) slot) (more-steps sc hands low (steps_to sc.sizes frame slot) before last)
  where
    one : (a : ℕ) → a + 1 ≡ suc a
    one a = omega arith

    index : (a slot : ℕ) → suc (a + slot) ≡ a + suc slot
    index a slot = omega arith

none-yet : (sc : Scenario) (hands : List HandIn) (low : ℕ → ℕ) {steps : ℕ} → steps ≡ 0 → AreSteps sc hands low steps
unfolding AreSteps
none-yet sc hands low e n lt = absurd (omega arith)

begun : {sc hands : _} → IsLawful sc → {low : _} → BeginsInTime sc hands low → (frame : ℕ) → IsReached sc hands frame → AreSteps sc hands low (steps_to sc.sizes frame 0)
begun {sc} {hands} law {low} times zero h = none-yet sc hands low (omega arith)
begun {sc} {hands} law {low} times (suc frame) complete =
    let s : ℕ = sync_slot_of sc.sizes in
    let before : AreSteps sc hands low (steps_to sc.sizes frame s) =
    through hands law low frame (begun law times frame (reached_from sc hands frame s complete)) s (omega arith) (complete_before sc hands frame s 1 (omega arith) complete) in
    let last : IsStep sc (offered_in sc hands) (bus_before sc hands low frame s) (bus_in_rounds sc hands low (suc (steps_to sc.sizes frame s))) =
    subst (λ k. IsStep sc (offered_in sc hands) (bus_before sc hands low frame s) (bus_in_rounds sc hands low k)) (one (steps_to sc.sizes frame s)) (frame-step law times frame complete) in
    subst (AreSteps sc hands low) (index frame s) (more-steps sc hands low (steps_to sc.sizes frame s) before last)
  where
    one : (a : ℕ) → a + 1 ≡ suc a
    one a = omega arith

    index : (f s : ℕ) → suc (f * (s + 1) + s) ≡ suc f * (s + 1) + 0
    index f s = omega arith

run-of : (sc : Scenario) (hands : List HandIn) (low : ℕ → ℕ) (steps : ℕ) → AreSteps sc hands low steps → IsRun sc (offered_in sc hands) steps (bus_in_rounds sc hands low)
unfolding AreSteps
run-of sc hands low steps all = record { first = refl; each_step = all }

-- up to and with a complete slot the steps of the bus are steps of the run
run-to-slot : {sc hands : _} → IsLawful sc → {low : _} → BeginsInTime sc hands low → (frame : ℕ) {slot : ℕ} → slot ≤ sync_slot_of sc.sizes → IsComplete sc hands frame slot
    → AreSteps sc hands low (steps_to sc.sizes frame slot + 1)
run-to-slot {sc} {hands} law {low} times frame {slot} le complete =
    let before : AreSteps sc hands low (steps_to sc.sizes frame slot) =
    through hands law low frame (begun law times frame (reached_from sc hands frame slot complete)) slot le (complete_before sc hands frame slot 1 (omega arith) complete) in
    let one : steps_to sc.sizes frame slot + 1 ≡ suc (steps_to sc.sizes frame slot) = plus (steps_to sc.sizes frame slot) in
    let last : IsStep sc (offered_in sc hands) (bus_before sc hands low frame slot) (bus_then sc hands low frame slot) =
    elim (cases_lt slot (sync_slot_of sc.sizes)) [
      | inl below ↦ slot-step hands law low frame below complete
      | inr late ↦
          let same : sync_slot_of sc.sizes ≡ slot = omega arith in
          subst (λ k. IsComplete sc hands frame k → IsStep sc (offered_in sc hands) (bus_before sc hands low frame k) (bus_then sc hands low frame k)) same
          (frame-step law times frame) complete
    ] in
    subst (AreSteps sc hands low) (sym one)
    (more-steps sc hands low (steps_to sc.sizes frame slot) before
    (subst (λ k. IsStep sc (offered_in sc hands) (bus_before sc hands low frame slot) (bus_in_rounds sc hands low k)) one last))
  where
    plus : (a : ℕ) → a + 1 ≡ suc a
    plus a = omega arith

-- What is held.

agrees-before : {sc hands : _} → IsLawful sc → {low : _} → BeginsInTime sc hands low → {frame slot : ℕ} → slot ≤ sync_slot_of sc.sizes → IsSettled sc hands frame slot
    → (me : Side) (i : ℕ) (st : NodeState) → IsGoodBefore sc hands frame slot me i st → AgreesBefore sc (bus_before sc hands low frame slot) me i st
agrees-before {sc} {hands} law {low} times {frame} {slot} le settled me i st g =
    let bus : AbstractBus = bus_before sc hands low frame slot in
    let b : IsBusBefore sc hands frame slot bus = bus-before law low frame slot le settled in
    let h : IsHeld sc hands (low frame) frame slot bus = held_at hands law low frame slot le (settled_before hands law frame slot settled) in
    let t : IsInTime sc (low frame) me i st (3 * slot * sc.plan.l) = times.in_time frame slot le settled me i st g in
    let band : IsInBand sc bus me i st (3 * slot * sc.plan.l) =
    record {
      not_early = subst (λ x. x + 3 * slot * sc.plan.l * shortest_of sc.plan ≤ time_in_frame sc me i st (3 * slot * sc.plan.l)) (sym h.low_is) t.not_early;
      not_late = subst (λ x. time_in_frame sc me i st (3 * slot * sc.plan.l) ≤ x + sc.plan.p + 3 * slot * sc.plan.l * longest_of sc.plan) (sym h.low_is) t.not_late;
    } in
    record {
      band = subst (λ k. IsInBand sc bus me i st (3 * k * sc.plan.l)) (sym b.slot_is) band;
      trusted = (b.good_nodes me i st g).trusted;
      owners = (b.good_nodes me i st g).owners;
    }

agrees-after : {sc hands : _} → IsLawful sc → {low : _} → BeginsInTime sc hands low → {frame slot : ℕ} → slot ≤ sync_slot_of sc.sizes → IsComplete sc hands frame slot
    → (me : Side) (i : ℕ) (st : NodeState) → IsGoodAfter sc hands frame slot me i st → AgreesAfter sc frame slot (bus_then sc hands low frame slot) me st
agrees-after {sc} {hands} law {low} times {frame} {slot} le complete me i st g = record {
  vote = λ below votes. (bus-slot-step law low frame slot below complete).votes me i st g below votes;
  spares = none_accused sc hands law frame slot le complete me i st g;
  frame_takes = λ last.
      times.takes frame (subst (IsComplete sc hands frame) last complete) me i st (subst (λ k. IsGoodAfter sc hands frame k me i st) last g);
}

-- the sync slot is no data slot
third-in-sync : (sizes : Sizes) → has_third_stage (role_of sizes (sync_slot_of sizes)) ≡ true
third-in-sync sizes =
    let s : ℕ = sync_slot_of sizes in
    let a : nat_lt s sizes.bius ≡ false = le-ltb s sizes.bius (omega arith) in
    let b : nat_lt s (first_diagnosis_of Biu sizes) ≡ false = le-ltb s (first_diagnosis_of Biu sizes) (omega arith) in
    let c : nat_lt s (first_diagnosis_of Rmu sizes) ≡ false = le-ltb s (first_diagnosis_of Rmu sizes) (omega arith) in
    let d : nat_lt s s ≡ false = le-ltb s s (omega arith) in
    rw (a, b, c, d) refl

delivers : {sc : _} (hands : List HandIn) → IsLawful sc → (low : ℕ → ℕ) (frame : ℕ) {slot : ℕ} → slot ≤ sync_slot_of sc.sizes → IsComplete sc hands frame slot
    → DeliversOn sc hands frame slot (bus_before sc hands low frame slot) (bus_then sc hands low frame slot)
delivers {sc} hands law low frame {slot} le complete data_slot =
    elim (cases_lt slot (sync_slot_of sc.sizes)) [
      | inl below ↦ (bus-slot-step law low frame slot below complete).deliveries data_slot
      | inr late ↦
          let same : sync_slot_of sc.sizes ≡ slot = omega arith in
          let both : true ≡ false = sym (third-in-sync sc.sizes) ∙ ap (λ k. has_third_stage (role_of sc.sizes k)) same ∙ data_slot in cc
    ]

slot-agrees : {sc hands : _} → IsLawful sc → {low : _} → BeginsInTime sc hands low → (frame slot : ℕ) → slot ≤ sync_slot_of sc.sizes → IsComplete sc hands frame slot
    → SlotAgrees sc hands frame slot (bus_before sc hands low frame slot) (bus_then sc hands low frame slot)
slot-agrees {hands} law {low} times frame slot le complete = record {
  before = agrees-before law times le (inl complete);
  after = agrees-after law times le complete;
  good_are_trusted = (bus-before law low frame slot le (inl complete)).good_are_trusted;
  deliveries = delivers hands law low frame le complete;
}

frame-agrees : {sc hands : _} → IsLawful sc → {low : _} → BeginsInTime sc hands low → (frame : ℕ) → IsReached sc hands frame
    → FrameAgrees sc hands frame (bus_before sc hands low frame 0)
frame-agrees {sc} {hands} law {low} times frame is_reached = record {
  good_nodes = agrees-before law times (omega arith) (inr is_reached);
  low = λ me i st g.
      subst (IsLow sc hands frame) (sym (held_at hands law low frame 0 (omega arith) (reached hands law frame is_reached)).low_is) (times.first frame is_reached me i st g);
}

-- the times are all that is left
pub stands_in_time : {sc hands : _} → IsLawful sc → {low : _} → BeginsInTime sc hands low → StandsFor sc hands
stands_in_time {sc} {hands} law {low} times = record {
  bus = bus_in_rounds sc hands low;
  run_to_frame = λ frame is_reached. run-of sc hands low (steps_to sc.sizes frame 0) (begun law times frame is_reached);
  frames = frame-agrees law times;
  run_to_slot = λ frame slot le complete. run-of sc hands low (steps_to sc.sizes frame slot + 1) (run-to-slot law times frame le complete);
  slots = slot-agrees law times;
}
