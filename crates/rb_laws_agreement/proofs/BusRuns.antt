-- The rounds make a run of the abstract bus: in each slot that is settled all good nodes hold what
-- it holds.
use Rattle.std.proofs.{Common.{◌≡◌, ℕ, zero, suc, ◌+◌, ◌-◌, ◌*◌, ◌<◌, ◌≤◌, ◌||◌, nat_lt, Bool, true, false, List, [], ◌∷◌, Some, slice_get, if◌then◌else◌, lit<, refl, sym, ◌∙◌, ap, subst, arith}, lemmas.Bool.{le-ltb, lt-ltb}}
use Rattle.std.specs.List.{list_any}
use Rattle.rb_base.specs.{Counting.numbers, Nodes.Side, Sizes.sync_slot_of, declared.values.Heard.Heard}
use Rattle.rb_rules.specs.{AbstractBus.{AbstractBus, bus_after_slot, bus_after_frame}, Book.of_kind, Goodness.{Scenario, is_good}, Lawful.IsLawful, Moments.{before_stage, before_slot, after_slot, IsRunning, IsComplete}, NodeState.first_state, Ports.HandIn, Rounds.{Moment, moment, first_moment, step, next_frame, windows_in}, StandsFor.steps_to}
use Rattle.rb_laws_agreement.specs.{BusValues.{first_passing, value_in_rounds, bus_goes, bus_in_rounds, bus_before}, Values.{kind_in, vote_on}}
use Rattle.rb_laws_agreement.proofs.{Tests.{passes_at, get-some, Present}, Goodnesses.good_below_16, Invariant.{Shared, is_good_now, Agree}, ExactAgrees.{with_value, agree_3}, FrameAgrees.{first_shared, shared_next, begin-frame, begin-window, agree_first, agree_frame}, FrameTurns.AtEnd, JudgedWindows.{rows_of, IsPassed, passed}, NextMoments.next, Settings.good_state, SyncAgrees.{agree_sync, book_sync, stage_setting, tail_setting}, Places.{IsPlaced, placed, complete_before, running_earlier}, SlotRuns.{IsSlot, slot_runs_from, slot_runs-shared, good_in_stage, stage_next, next-frame, next-window, third_frame}, SlotValues.{value_of_slot, has_value}, FrameBegins.{IsTurn, frame_turns, turn-index}, PortHistories.{IsSyncStage, sync-stage, slot-follows}, SharedBuses.{IsBusOf, bus-first, bus-slot, bus-frame}}

-- The value of a slot.

first-passes : (p : ℕ → Bool) (is : List ℕ) → list_any p is ≡ true → p (first_passing p is) ≡ true
first-passes p [] h = cc
first-passes p (i ∷ is) h = go (p i) refl (first-passes p is) h
  where
    go : (b : Bool) → p i ≡ b → (list_any p is ≡ true → p (first_passing p is) ≡ true) → (b || list_any p is) ≡ true → p (if b then i else first_passing p is) ≡ true
    go true e rest h = e
    go false e rest h = rest h

-- the vote that is read is the value of the slot
pub value-read : {sc hands : _} → IsLawful sc → {frame slot : ℕ} (r : IsSlot sc hands frame slot) → value_in_rounds sc hands frame slot ≡ value_of_slot r
value-read {sc} {hands} law {frame} {slot} r =
    let me : Side = kind_in sc slot in
    let p : ℕ → Bool = λ i. is_good sc me i frame slot in
    let voter = (has_value r).some_voter in
    let some : list_any p (numbers 16) ≡ true = passes_at p voter.0 (good_below_16 sc law.sizes me voter.0 frame slot voter.1.1.good) voter.1.1.good in
    let i : ℕ = first_passing p (numbers 16) in
    let good : is_good sc me i frame slot ≡ true = first-passes p (numbers 16) some in
    let m3 : Moment = next sc (next sc (before_slot sc hands frame slot)) in
    let now : is_good_now sc m3 me i ≡ true = good_in_stage r.third (third_frame r) me i good in
    let st : Present (slice_get (of_kind me m3.nodes) i) = good_state r.third.agree me i now in
    let there : slice_get (of_kind me (before_stage sc hands frame slot 3).nodes) i ≡ Some st.value = ap (λ m. slice_get (of_kind me m.nodes) i) (sym r.after_second) ∙ st.is in
    ap (λ st. vote_on st slot) (get-some (of_kind me (before_stage sc hands frame slot 3).nodes) i (first_state sc.sizes me) there)
    ∙ (has_value r).voters i st.value (record { good = good; state = there })

-- What is held before a slot.

pub record IsHeld (sc : Scenario) (hands : List HandIn) (low frame slot : ℕ) (bus : AbstractBus) : Type 0 where
  pub shared : Shared
  pub steps : ℕ
  pub agree : Agree sc hands steps (before_slot sc hands frame slot) shared
  pub frame_is : (before_slot sc hands frame slot).frame ≡ frame
  pub window_is : (before_slot sc hands frame slot).window ≡ 3 * slot + (1 - 1)
  pub bus_is : IsBusOf shared frame slot bus
  pub low_is : bus.low ≡ low

abbrev pub as_placed : {sc hands low frame slot bus : _} → IsHeld sc hands low frame slot bus → IsPlaced sc hands frame slot 1
as_placed h = record { shared = h.shared; steps = h.steps; agree = h.agree; frame_is = h.frame_is; window_is = h.window_is }

-- after a complete slot the nodes hold the bus with the slot's value
pub held_slot : {sc hands : _} (law : IsLawful sc) {low frame slot bus : _} (h : IsHeld sc hands low frame slot bus)
    → (below : slot < sync_slot_of sc.sizes) (complete : IsComplete sc hands frame slot)
    → IsHeld sc hands low frame (suc slot) (bus_after_slot sc.sizes (value_in_rounds sc hands frame slot) bus)
held_slot {sc} {hands} law {frame} {slot} {bus} h below complete =
    let p : IsPlaced sc hands frame slot 1 = as_placed h in
    let r : IsSlot sc hands frame slot = slot_runs_from law below complete p in
    let m3 : Moment = next sc (next sc (before_slot sc hands frame slot)) in
    let value : Heard = value_of_slot r in
    let onward : next sc m3 ≡ before_slot sc hands frame (suc slot) = r.after_third ∙ sym (slot-follows sc hands frame slot) in
    let at : m3.window ≡ 3 * slot + 2 = r.third.at in
    let one : slot + 1 ≡ suc slot = omega arith in
    let held : IsBusOf r.shared frame slot bus = subst (λ s. IsBusOf s frame slot bus) (sym (slot_runs-shared law below complete p)) h.bus_is in
    record {
      shared = with_value sc r.shared slot value;
      steps = suc (suc (suc r.steps));
      agree = subst (λ m. Agree sc hands (suc (suc (suc r.steps))) m (with_value sc r.shared slot value)) onward
          (agree_3 r.third r.steps_on);
      frame_is = ap (λ m. m.frame) (sym onward) ∙ next-frame sc m3 ∙ third_frame r;
      window_is = ap (λ m. m.window) (sym onward) ∙ next-window sc m3 ∙ ap (λ w. w + 1) at ∙ three slot;
      bus_is = subst (λ v. IsBusOf (with_value sc r.shared slot value) frame (suc slot) (bus_after_slot sc.sizes v bus)) (sym (value-read law r))
          (subst (λ k. IsBusOf (with_value sc r.shared slot value) frame k (bus_after_slot sc.sizes value bus)) one (bus-slot sc value held));
      low_is = h.low_is;
    }
  where
    three : (slot : ℕ) → 3 * slot + 2 + 1 ≡ 3 * suc slot + (1 - 1)
    three slot = omega arith

-- after a complete stage of the sync slot all good nodes still agree
agree-stage : {sc hands : _} → IsLawful sc → (frame q : ℕ) {n s : _} → q < 3 → IsComplete sc hands frame (sync_slot_of sc.sizes)
    → Agree sc hands n (before_stage sc hands frame (sync_slot_of sc.sizes) (q + 1)) s → Agree sc hands (suc n) (before_stage sc hands frame (sync_slot_of sc.sizes) (q + 2)) s
agree-stage {sc} {hands} law frame q {n} {s} small complete agree =
    let slot : ℕ = sync_slot_of sc.sizes in
    let m : Moment = before_stage sc hands frame slot (q + 1) in
    let g : IsSyncStage sc hands frame q = sync-stage law q small complete in
    let through : IsPassed sc (record { frame = m.frame; slot = slot; stage = q + 1 }) (rows_of sc m) m.book =
    passed sc (record { frame = m.frame; slot = slot; stage = q + 1 }) (rows_of sc m) m.book
    (ap (λ b. b.ended) (sym (book_sync sc m q small g.at)) ∙ ap (λ m. m.book.ended) g.onward ∙ g.runs) in
    let two : before_stage sc hands frame slot (q + 1 + 1) ≡ before_stage sc hands frame slot (q + 2) = ap (before_stage sc hands frame slot) (plus q) in
    let is : next sc m ≡ moment sc hands (suc n) = g.onward ∙ sym two ∙ sym (stage_next sc hands frame slot (q + 1) (omega arith)) ∙ ap (step sc hands) agree.is in
    subst (λ m. Agree sc hands (suc n) m s) g.onward
    (agree_sync (stage_setting q small g.at law agree through) is)
  where
    plus : (q : ℕ) → q + 1 + 1 ≡ q + 2
    plus q = omega arith

-- after a complete frame the nodes hold the bus after that frame
pub held_frame : {sc hands : _} (law : IsLawful sc) {frame now : ℕ} (low : ℕ) {bus : _} → IsHeld sc hands now frame (sync_slot_of sc.sizes) bus
    → IsComplete sc hands frame (sync_slot_of sc.sizes) → IsHeld sc hands low (suc frame) 0 (bus_after_frame sc.sizes low bus)
held_frame {sc} {hands} law {frame} low {bus} h complete =
    let slot : ℕ = sync_slot_of sc.sizes in
    let a : Moment = after_slot sc hands frame slot in
    let t : IsTurn sc hands frame = frame_turns law complete in
    let n : ℕ = suc (suc (suc h.steps)) in
    let a2 : Agree sc hands (suc h.steps) (before_stage sc hands frame slot 2) h.shared = agree-stage law frame 0 (lit< tt) complete h.agree in
    let a3 : Agree sc hands (suc (suc h.steps)) (before_stage sc hands frame slot 3) h.shared = agree-stage law frame 1 (lit< tt) complete a2 in
    let a4 : Agree sc hands n a h.shared = agree-stage law frame 2 (lit< tt) complete a3 in
    let p4 : IsPlaced sc hands frame slot 4 = placed hands law frame slot 4 (omega arith) (omega arith) (omega arith) complete in
    let at : a.window ≡ 3 * slot + 3 = p4.window_is in
    let tail : next sc a ≡ moment sc hands (suc n) = t.tail ∙ ap (step sc hands) a4.is in
    let b : Agree sc hands (suc n) (next sc a) h.shared = agree_sync (tail_setting at law a4) tail in
    let at_end : AtEnd sc hands (suc n) (next sc a) h.shared =
    record { law = law; agree = b; at = next-window sc a ∙ ap (λ w. w + 1) at ∙ four (3 * slot) } in
    let index : before_slot sc hands (suc frame) 0 ≡ step sc hands (next sc a) =
    ap (moment sc hands) (sym (turn-index frame slot)) ∙ ap (step sc hands) (sym t.tail) in
    let turned : next_frame sc hands (next sc a) ≡ moment sc hands (suc (suc n)) = t.turn ∙ index ∙ ap (step sc hands) b.is in
    let p : IsPlaced sc hands (suc frame) 0 1 = placed hands law (suc frame) 0 1 (omega arith) (omega arith) (omega arith) t.running in
    let one : frame + 1 ≡ suc frame = omega arith in
    record {
      shared = shared_next sc.sizes h.shared;
      steps = suc (suc n);
      agree = subst (λ m. Agree sc hands (suc (suc n)) m (shared_next sc.sizes h.shared)) t.turn (agree_frame at_end turned);
      frame_is = p.frame_is;
      window_is = p.window_is;
      bus_is = subst (λ f. IsBusOf (shared_next sc.sizes h.shared) f 0 (bus_after_frame sc.sizes low bus)) one (bus-frame sc low h.agree.inside h.bus_is);
      low_is = refl;
    }
  where
    four : (a : ℕ) → a + 3 + 1 ≡ a + 4
    four a = omega arith

-- The run of the bus.

goes : (sc : Scenario) (hands : List HandIn) (low : ℕ → ℕ) (bus : AbstractBus) → Bool → AbstractBus
goes sc hands low bus b =
    elim b [
      | true ↦ bus_after_slot sc.sizes (value_in_rounds sc hands bus.frame bus.slot) bus
      | false ↦ bus_after_frame sc.sizes (low (bus.frame + 1)) bus
    ]

goes-slot : (sc : Scenario) (hands : List HandIn) (low : ℕ → ℕ) {frame slot : ℕ} (bus : AbstractBus) → bus.frame ≡ frame → bus.slot ≡ slot → slot < sync_slot_of sc.sizes
    → bus_goes sc hands low bus ≡ bus_after_slot sc.sizes (value_in_rounds sc hands frame slot) bus
unfolding goes
goes-slot sc hands low {frame} {slot} bus f s below =
    ap (goes sc hands low bus) (ap (λ k. nat_lt k (sync_slot_of sc.sizes)) s ∙ lt-ltb slot (sync_slot_of sc.sizes) below)
    ∙ ap (λ f. bus_after_slot sc.sizes (value_in_rounds sc hands f bus.slot) bus) f ∙ ap (λ k. bus_after_slot sc.sizes (value_in_rounds sc hands frame k) bus) s

goes-frame : (sc : Scenario) (hands : List HandIn) (low : ℕ → ℕ) {frame : ℕ} (bus : AbstractBus) → bus.frame ≡ frame → bus.slot ≡ sync_slot_of sc.sizes
    → bus_goes sc hands low bus ≡ bus_after_frame sc.sizes (low (suc frame)) bus
unfolding goes
goes-frame sc hands low {frame} bus f s =
    let one : frame + 1 ≡ suc frame = omega arith in
    ap (goes sc hands low bus) (ap (λ k. nat_lt k (sync_slot_of sc.sizes)) s ∙ le-ltb (sync_slot_of sc.sizes) (sync_slot_of sc.sizes) (omega arith))
    ∙ ap (λ f. bus_after_frame sc.sizes (low (f + 1)) bus) f ∙ ap (λ f. bus_after_frame sc.sizes (low f) bus) one

-- the bus before the next slot is the bus after the step of this slot
pub bus-over-slot : {sc hands : _} (low : ℕ → ℕ) {frame slot : ℕ} → IsHeld sc hands (low frame) frame slot (bus_before sc hands low frame slot) → slot < sync_slot_of sc.sizes
    → bus_before sc hands low frame (suc slot) ≡ bus_after_slot sc.sizes (value_in_rounds sc hands frame slot) (bus_before sc hands low frame slot)
bus-over-slot {sc} {hands} low {frame} {slot} h below =
    let e : steps_to sc.sizes frame (suc slot) ≡ suc (steps_to sc.sizes frame slot) = index (frame * (sync_slot_of sc.sizes + 1)) slot in
    ap (bus_in_rounds sc hands low) e ∙ goes-slot sc hands low (bus_before sc hands low frame slot) h.bus_is.frame_is h.bus_is.slot_is below
  where
    index : (a slot : ℕ) → a + suc slot ≡ suc (a + slot)
    index a slot = omega arith

pub bus-over-frame : {sc hands : _} (low : ℕ → ℕ) {frame : ℕ} → IsHeld sc hands (low frame) frame (sync_slot_of sc.sizes) (bus_before sc hands low frame (sync_slot_of sc.sizes))
    → bus_before sc hands low (suc frame) 0 ≡ bus_after_frame sc.sizes (low (suc frame)) (bus_before sc hands low frame (sync_slot_of sc.sizes))
bus-over-frame {sc} {hands} low {frame} h =
    let s : ℕ = sync_slot_of sc.sizes in
    let e : steps_to sc.sizes (suc frame) 0 ≡ suc (steps_to sc.sizes frame s) = index frame s in
    ap (bus_in_rounds sc hands low) e ∙ goes-frame sc hands low (bus_before sc hands low frame s) h.bus_is.frame_is h.bus_is.slot_is
  where
    index : (f s : ℕ) → suc f * (s + 1) + 0 ≡ suc (f * (s + 1) + s)
    index f s = omega arith

-- in a frame at whose start the nodes hold the bus, they hold it before each slot of the run
held-through : {sc hands : _} (law : IsLawful sc) (low : ℕ → ℕ) {frame : ℕ} → IsHeld sc hands (low frame) frame 0 (bus_before sc hands low frame 0)
    → (slot : ℕ) → slot ≤ sync_slot_of sc.sizes → IsRunning (before_slot sc hands frame slot) → IsHeld sc hands (low frame) frame slot (bus_before sc hands low frame slot)
held-through law low begun zero le running = begun
held-through {sc} {hands} law low {frame} begun (suc slot) le running =
    let complete : IsComplete sc hands frame slot = ap (λ m. m.book.ended) (sym (slot-follows sc hands frame slot)) ∙ running in
    let h : IsHeld sc hands (low frame) frame slot (bus_before sc hands low frame slot) =
    held-through law low begun slot (omega arith) (complete_before sc hands frame slot 1 (omega arith) complete) in
    subst (IsHeld sc hands (low frame) frame (suc slot)) (sym (bus-over-slot low h (omega arith)))
    (held_slot law h (omega arith) complete)

first-held : {sc : _} (hands : List HandIn) (law : IsLawful sc) (low : ℕ → ℕ) → IsHeld sc hands (low 0) 0 0 (bus_before sc hands low 0 0)
first-held {sc} hands law low =
    let e : 0 * (windows_in sc.sizes + 1) + 3 * 0 + 1 - 1 ≡ 0 = omega arith in
    let k : steps_to sc.sizes 0 0 ≡ 0 = omega arith in
    let is : before_slot sc hands 0 0 ≡ first_moment sc hands = ap (moment sc hands) e in
    let a : Agree sc hands 0 (before_slot sc hands 0 0) (first_shared sc) = subst (λ m. Agree sc hands 0 m (first_shared sc)) (sym is) (agree_first hands law) in
    record {
      shared = first_shared sc;
      steps = 0;
      agree = a;
      frame_is = ap (λ m. m.frame) is ∙ begin-frame sc hands;
      window_is = ap (λ m. m.window) is ∙ begin-window sc hands;
      bus_is = subst (IsBusOf (first_shared sc) 0 0) (ap (bus_in_rounds sc hands low) (sym k)) (bus-first sc (low 0));
      low_is = ap (λ x. (bus_in_rounds sc hands low x).low) k;
    }

held-begun : {sc : _} (hands : List HandIn) (law : IsLawful sc) (low : ℕ → ℕ) (frame : ℕ) → IsRunning (before_slot sc hands frame 0) → IsHeld sc hands (low frame) frame 0 (bus_before sc hands low frame 0)
held-begun hands law low zero running = first-held hands law low
held-begun {sc} hands law low (suc frame) running =
    let s : ℕ = sync_slot_of sc.sizes in
    let complete : IsComplete sc hands frame s =
    running_earlier sc hands (frame * (windows_in sc.sizes + 1) + 3 * s + 4 - 1) (suc frame * (windows_in sc.sizes + 1) + 3 * 0 + 1 - 1) (later frame s) running in
    let begun : IsHeld sc hands (low frame) frame 0 (bus_before sc hands low frame 0) =
    held-begun hands law low frame (running_earlier sc hands (frame * (windows_in sc.sizes + 1) + 3 * 0 + 1 - 1) (frame * (windows_in sc.sizes + 1) + 3 * s + 4 - 1) (begins (frame * (windows_in sc.sizes + 1)) s) complete) in
    let h : IsHeld sc hands (low frame) frame s (bus_before sc hands low frame s) =
    held-through law low begun s (omega arith) (complete_before sc hands frame s 1 (omega arith) complete) in
    subst (IsHeld sc hands (low (suc frame)) (suc frame) 0) (sym (bus-over-frame low h)) (held_frame law (low (suc frame)) h complete)
  where
    later : (f s : ℕ) → f * (3 * s + 4 + 1) + 3 * s + 4 - 1 ≤ suc f * (3 * s + 4 + 1) + 3 * 0 + 1 - 1
    later f s = omega arith

    begins : (a s : ℕ) → a + 3 * 0 + 1 - 1 ≤ a + 3 * s + 4 - 1
    begins a s = omega arith

-- the nodes hold the bus before each slot of the run
pub held_at : {sc : _} (hands : List HandIn) (law : IsLawful sc) (low : ℕ → ℕ) (frame slot : ℕ) → slot ≤ sync_slot_of sc.sizes → IsRunning (before_slot sc hands frame slot)
    → IsHeld sc hands (low frame) frame slot (bus_before sc hands low frame slot)
held_at {sc} hands law low frame slot le running =
    held-through law low
    (held-begun hands law low frame (running_earlier sc hands (frame * (windows_in sc.sizes + 1) + 3 * 0 + 1 - 1) (frame * (windows_in sc.sizes + 1) + 3 * slot + 1 - 1) (begins (frame * (windows_in sc.sizes + 1)) slot) running))
    slot le running
  where
    begins : (a slot : ℕ) → a + 3 * 0 + 1 - 1 ≤ a + 3 * slot + 1 - 1
    begins a slot = omega arith
