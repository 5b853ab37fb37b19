-- What good nodes hold is what the abstract bus holds, and each slot is a step of it.
use Rattle.std.proofs.Common.{◌≡◌, ℕ, suc, ◌+◌, ◌-◌, ◌*◌, ◌<◌, ◌≤◌, Bool, true, false, List, slice_get, get_or, if◌then◌else◌, refl, sym, ◌∙◌, ap, subst, arith}
use Rattle.rb_base.specs.{Nodes.{Side, other, has}, Nodes.Side.{Biu, Rmu}, Sizes.sync_slot_of, declared.values.Heard.Heard, declared.values.Heard.TheVariants.{Word, Fault}}
use Rattle.rb_rules.specs.{declared.role.Role.Role, declared.role.Role.TheVariants.{Schedule, Data, DiagBiu, DiagRmu, Sync}, AbstractBus.{AbstractBus, sender_on, IsOfGood, MayHave, bus_after_slot, bus_after_frame}, Book.of_kind, ExactStage.own_value, Goodness.{Scenario, is_good}, Hearing.word_for, Lawful.IsLawful, Moments.{before_slot, IsComplete, IsSettled, offered_in}, NodeState.NodeState, Ports.HandIn, Rounds.Moment, Slots.{Sender, has_third_stage, sender_kind, if_trusted, role_of, sender_in}, Slots.Sender.{Nobody, Node, EachTrusted}, StandsFor.{value_on, lines_on}}
use Rattle.rb_laws_agreement.specs.{BusValues.{value_in_rounds, bus_in_rounds, bus_before, bus_then, IsBusBefore, IsBusSlot}, Laws.RoundsStepTheBus, Values.{kind_in, lines_in}}
use Rattle.rb_laws_agreement.proofs.{Tests.Present, Invariant.{sender_of, is_good_now, slot_numbered, is_diagnosis, IsVector, IsOwn, HasVoted, Holds}, Senders.same_node, Settings.good_state, ThirdStages.voted, NextMoments.next, Places.{IsPlaced, complete_before, good_before_slot}, SlotRuns.{IsSlot, slot_runs_from, slot_runs-shared, good_in_stage, third_frame}, SlotValues.{value_of_slot, has_value, slot-lines}, FrameBegins.settled_before, Deliveries.owner_sending, SharedBuses.{IsBusOf, bus-sender, get-last}, BusRuns.{IsHeld, as_placed, held_at, value-read, bus-over-slot, bus-over-frame}}

-- Before a slot.

pub bus-before : {sc hands : _} → IsLawful sc → (low : ℕ → ℕ) (frame slot : ℕ) → slot ≤ sync_slot_of sc.sizes → IsSettled sc hands frame slot
    → IsBusBefore sc hands frame slot (bus_before sc hands low frame slot)
bus-before {sc} {hands} law low frame slot le settled =
    let h : IsHeld sc hands (low frame) frame slot (bus_before sc hands low frame slot) = held_at hands law low frame slot le (settled_before hands law frame slot settled) in
    let p : IsPlaced sc hands frame slot 1 = as_placed h in
    let m : Moment = before_slot sc hands frame slot in
    record {
      frame_is = h.bus_is.frame_is;
      slot_is = h.bus_is.slot_is;
      good_nodes = λ me i st g.
          let holds : Holds sc m h.shared me st = h.agree.nodes me i st (good_before_slot le p g) in
          record {
            trusted = record { bius = holds.trusted Biu ∙ h.bus_is.trusted Biu; rmus = holds.trusted Rmu ∙ h.bus_is.trusted Rmu };
            owners = λ late. holds.owners ∙ h.bus_is.owners;
          };
      good_are_trusted = λ kind j good.
          ap (λ t. has t j) (sym (h.bus_is.trusted kind))
          ∙ h.agree.trusted kind j (ap (λ f. is_good sc kind j f (slot_numbered sc.sizes m.window)) h.frame_is ∙ ap (is_good sc kind j frame) (here m.window h.window_is) ∙ good);
    }
  where
    here : (window : ℕ) → window ≡ 3 * slot + (1 - 1) → slot_numbered sc.sizes window ≡ slot
    here window e = omega arith

-- The value of a slot.

-- a good sender's value is what it may be
of-good : (sc : Scenario) (m : Moment) (bus : AbstractBus) (offered : ℕ → ℕ) (role : Role) (i word : ℕ) (st : NodeState) {value : _}
    → sender_in bus.bius bus.rmus bus.owners role ≡ Node i → value ≡ own_value st role word
    → (is_diagnosis role ≡ true → IsVector sc m (other (sender_kind role)) value)
    → ((kind : Side) (j : ℕ) → is_good sc kind j bus.frame bus.slot ≡ true → is_good_now sc m kind j ≡ true)
    → ((j : ℕ) → role ≡ Schedule j → word ≡ get_or sc.requests i 0) → ((n : ℕ) → role ≡ Data n → word ≡ offered i)
    → IsOfGood sc bus (offered i) role value
of-good sc m bus offered (Schedule j) i word st sender is vector good request offer =
    is ∙ ap Word (request j refl) ∙ ap (λ k. Word (get_or sc.requests k 0)) (sym (own-slot bus.bius j i sender))
  where
    own-slot : (trusted j i : ℕ) → if_trusted trusted j ≡ Node i → j ≡ i
    own-slot trusted j i h = go (has trusted j) h
      where
        go : (b : Bool) → (if b then Node j else Nobody) ≡ Node i → j ≡ i
        go true h = same_node j i h
        go false h = cc
of-good sc m bus offered (Data n) i word st sender is vector good request offer = is ∙ ap Word (offer n refl)
of-good sc m bus offered (DiagBiu k) i word st {value} sender is vector good request offer =
    let v : IsVector sc m Rmu value = vector refl in record { valid = v.valid; spared = λ j g. v.spared j (good Rmu j g) }
of-good sc m bus offered (DiagRmu k) i word st {value} sender is vector good request offer =
    let v : IsVector sc m Biu value = vector refl in record { valid = v.valid; spared = λ j g. v.spared j (good Biu j g) }
of-good sc m bus offered Sync i word st sender is vector good request offer = tt

may-have : {sc hands frame slot bus : _} (r : IsSlot sc hands frame slot) → IsBusOf r.shared frame slot bus
    → {value : _} → value ≡ value_of_slot r
    → MayHave sc bus (offered_in sc hands frame slot) (role_of sc.sizes bus.slot) (sender_on sc.sizes bus) value
may-have {sc} {hands} {frame} {slot} {bus} r b {value} is =
    subst (λ k. MayHave sc bus (offered_in sc hands frame slot) (role_of sc.sizes k) (sender_in bus.bius bus.rmus bus.owners (role_of sc.sizes k)) value) (sym b.slot_is)
    (go (sender_in bus.bius bus.rmus bus.owners (role_of sc.sizes slot)) refl)
  where
    sender-is : sender_of sc.sizes r.shared slot ≡ sender_in bus.bius bus.rmus bus.owners (role_of sc.sizes slot)
    sender-is = bus-sender sc.sizes b ∙ ap (λ k. sender_in bus.bius bus.rmus bus.owners (role_of sc.sizes k)) b.slot_is

    go : (sender : Sender) → sender_in bus.bius bus.rmus bus.owners (role_of sc.sizes slot) ≡ sender
        → MayHave sc bus (offered_in sc hands frame slot) (role_of sc.sizes slot) sender value
    go EachTrusted e = tt
    go Nobody e =
        let m3 : Moment = next sc (next sc (before_slot sc hands frame slot)) in
        let v : HasVoted sc hands m3 r.shared slot = voted sc hands (suc (suc r.steps)) m3 r.shared slot r.third in
        is ∙ v.is_value.idle (sender-is ∙ e)
    go (Node i) e = λ good.
        let m1 : Moment = before_slot sc hands frame slot in
        let m3 : Moment = next sc (next sc m1) in
        let role : Role = role_of sc.sizes slot in
        let k : Side = kind_in sc slot in
        let n : ℕ = suc (suc r.steps) in
        let v : HasVoted sc hands m3 r.shared slot = voted sc hands n m3 r.shared slot r.third in
        let frame_is : m3.frame ≡ frame = third_frame r in
        let place : (kind : Side) (j : ℕ) → is_good sc kind j bus.frame bus.slot ≡ true → is_good sc kind j frame slot ≡ true =
        λ kind j g. ap (λ f. is_good sc kind j f slot) (sym b.frame_is) ∙ ap (is_good sc kind j bus.frame) (sym b.slot_is) ∙ g in
        let here : is_good sc k i frame slot ≡ true = place k i good in
        let own : IsOwn sc hands m3 slot i v.value = v.is_value.own i (sender-is ∙ e) (good_in_stage r.third frame_is k i here) in
        let st : Present (slice_get (of_kind k m1.nodes) i) =
        good_state r.first.agree k i (good_in_stage r.first r.frame_is k i here) in
        let word : ℕ = word_for sc m1.ports i slot role in
        let said : value ≡ own_value st.value role word =
        is ∙ own.said st.value (ap (λ f. slice_get (of_kind k (before_slot sc hands f slot).nodes) i) frame_is ∙ st.is)
        ∙ ap (λ f. own_value st.value role (word_for sc (before_slot sc hands f slot).ports i slot role)) frame_is in
        of-good sc m3 bus (offered_in sc hands frame slot) role i word st.value e said
        (λ d. subst (IsVector sc m3 (other k)) (sym is) (own.vector d))
        (λ kind j g. good_in_stage r.third frame_is kind j (place kind j g))
        (λ j q. ap (word_for sc m1.ports i slot) q) (λ n q. ap (word_for sc m1.ports i slot) q)

-- A slot.

lines-on : (sc : Scenario) (frame slot : ℕ) (role : Role) (sender : Sender) (value : Heard) → has_third_stage role ≡ false
    → lines_in sc frame slot (owner_sending role sender) value ≡ lines_on sc frame slot sender value
lines-on sc frame slot (Schedule i) sender value h = cc
lines-on sc frame slot (Data n) Nobody value h = refl
lines-on sc frame slot (Data n) (Node p) value h = refl
lines-on sc frame slot (Data n) EachTrusted value h = refl
lines-on sc frame slot (DiagBiu i) sender value h = cc
lines-on sc frame slot (DiagRmu i) sender value h = cc
lines-on sc frame slot Sync sender value h = cc

pub bus-slot-step : {sc hands : _} → IsLawful sc → (low : ℕ → ℕ) (frame slot : ℕ) → slot < sync_slot_of sc.sizes → IsComplete sc hands frame slot
    → IsBusSlot sc hands frame slot (bus_before sc hands low frame slot) (bus_then sc hands low frame slot)
bus-slot-step {sc} {hands} law low frame slot below complete =
    let bus : AbstractBus = bus_before sc hands low frame slot in
    let value : Heard = value_in_rounds sc hands frame slot in
    let h : IsHeld sc hands (low frame) frame slot bus = held_at hands law low frame slot (omega arith) (complete_before sc hands frame slot 1 (omega arith) complete) in
    let p : IsPlaced sc hands frame slot 1 = as_placed h in
    let r : IsSlot sc hands frame slot = slot_runs_from law below complete p in
    let b : IsBusOf r.shared frame slot bus = subst (λ s. IsBusOf s frame slot bus) (sym (slot_runs-shared law below complete p)) h.bus_is in
    let read : value ≡ value_of_slot r = value-read law r in
    let after : bus_then sc hands low frame slot ≡ bus_after_slot sc.sizes value bus =
    ap (bus_in_rounds sc hands low) (index (frame * (sync_slot_of sc.sizes + 1)) slot) ∙ bus-over-slot low h below in
    let last : value_on (bus_then sc hands low frame slot) slot ≡ value =
    ap (λ x. get_or x.values slot Fault) after ∙ get-last bus.values value slot (sym b.long) in
    record {
      step = record { may_have = may-have r b read; after_is = after };
      votes = λ me i st g below_sync votes. (has_value r).all me i st g votes ∙ sym read ∙ sym last;
      deliveries = λ data_slot.
          ap (λ m. m.book.lines) (sym r.after_second) ∙ slot-lines r
          ∙ lines-on sc frame slot (role_of sc.sizes slot) (sender_of sc.sizes r.shared slot) (value_of_slot r) data_slot
          ∙ ap (λ x. lines_on sc frame slot x (value_of_slot r)) (bus-sender sc.sizes b)
          ∙ ap (lines_on sc frame slot (sender_on sc.sizes bus)) (sym read ∙ sym last);
    }
  where
    index : (a slot : ℕ) → a + slot + 1 ≡ a + suc slot
    index a slot = omega arith

pub bus-frame-step : {sc : _} (hands : List HandIn) → IsLawful sc → (low : ℕ → ℕ) (frame : ℕ) → IsComplete sc hands frame (sync_slot_of sc.sizes)
    → bus_then sc hands low frame (sync_slot_of sc.sizes) ≡ bus_after_frame sc.sizes (low (frame + 1)) (bus_before sc hands low frame (sync_slot_of sc.sizes))
bus-frame-step {sc} hands law low frame complete =
    let s : ℕ = sync_slot_of sc.sizes in
    let h : IsHeld sc hands (low frame) frame s (bus_before sc hands low frame s) = held_at hands law low frame s (omega arith) (complete_before sc hands frame s 1 (omega arith) complete) in
    let one : suc frame ≡ frame + 1 = omega arith in
    ap (bus_in_rounds sc hands low) (index frame s) ∙ bus-over-frame low h ∙ ap (λ f. bus_after_frame sc.sizes (low f) (bus_before sc hands low frame s)) one
  where
    index : (f s : ℕ) → f * (s + 1) + s + 1 ≡ suc f * (s + 1) + 0
    index f s = omega arith

pub steps_the_bus : RoundsStepTheBus
steps_the_bus sc hands law low = record {
  before = bus-before law low;
  slots = bus-slot-step law low;
  frames = bus-frame-step hands law low;
}
