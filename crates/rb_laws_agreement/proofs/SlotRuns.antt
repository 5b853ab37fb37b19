-- A complete slot below the sync slot, stage by stage: all good nodes hold the same through it.
use Rattle.std.proofs.{Common.{◌≡◌, ℕ, suc, ◌+◌, ◌-◌, ◌*◌, ◌<◌, ◌≤◌, true, List, Some, slice_get, inl, inr, refl, sym, ◌∙◌, ap, arith}, lemmas.Option.same_Some}
use Rattle.rb_base.specs.{Nodes.Side, Sizes.sync_slot_of}
use Rattle.rb_rules.specs.{Book.of_kind, Goodness.{Scenario, is_good}, Lawful.IsLawful, Moments.{before_stage, before_slot, after_slot, IsRunning, IsComplete}, NodeState.NodeState, Ports.HandIn, Rounds.{Moment, after_window, step, moment, windows_in}}
use Rattle.rb_rules.proofs.RoundStates.{state-after}
use Rattle.rb_laws_agreement.proofs.{Tests.Present, Invariant.{Shared, IsGoodNode, is_good_now, Agree}, NextMoments.next, Settings.{Setting, good_here, good_state, after}, ExactAgrees.{agree_1, agree_2}, Agreement.{step_is, exact-setting}, Places.{IsPlaced, placed, complete_before}}

-- the step through a window is the window
pub step_through : (sc : Scenario) (hands : List HandIn) (m : Moment) → m.window < windows_in sc.sizes → IsRunning (step sc hands m) → step sc hands m ≡ next sc m
step_through sc hands m below running =
    elim (step_is sc hands m running) [
      | inl window ↦ window.1
      | inr turn ↦ let over : windows_in sc.sizes ≤ m.window = turn.0 in absurd (omega arith)
    ]

-- the moments before the stages follow each other
pub stage_next : (sc : Scenario) (hands : List HandIn) (frame slot stage : ℕ) → 1 ≤ stage → step sc hands (before_stage sc hands frame slot stage) ≡ before_stage sc hands frame slot (stage + 1)
stage_next sc hands frame slot stage some =
    ap (moment sc hands) (index (frame * (windows_in sc.sizes + 1) + 3 * slot) stage some)
  where
    index : (a stage : ℕ) → 1 ≤ stage → suc (a + stage - 1) ≡ a + (stage + 1) - 1
    index a stage some = omega arith

pub record IsSlot (sc : Scenario) (hands : List HandIn) (frame slot : ℕ) : Type 0 where
  pub shared : Shared
  pub steps : ℕ
  pub first : Setting sc hands steps (before_slot sc hands frame slot) shared slot 0
  pub second : Setting sc hands (suc steps) (next sc (before_slot sc hands frame slot)) shared slot 1
  pub third : Setting sc hands (suc (suc steps)) (next sc (next sc (before_slot sc hands frame slot))) shared slot 2
  pub frame_is : (before_slot sc hands frame slot).frame ≡ frame
  pub after_first : next sc (before_slot sc hands frame slot) ≡ before_stage sc hands frame slot 2
  pub after_second : next sc (next sc (before_slot sc hands frame slot)) ≡ before_stage sc hands frame slot 3
  pub after_third : next sc (next sc (next sc (before_slot sc hands frame slot))) ≡ after_slot sc hands frame slot
  pub steps_on : next sc (next sc (next sc (before_slot sc hands frame slot))) ≡ moment sc hands (suc (suc (suc steps)))

pub next-window : (sc : Scenario) (m : Moment) → (next sc m).window ≡ m.window + 1
unfolding after_window
next-window sc m = refl

pub slot_runs_from : {sc hands : _} → IsLawful sc → {frame slot : ℕ} → slot < sync_slot_of sc.sizes → IsComplete sc hands frame slot → IsPlaced sc hands frame slot 1
    → IsSlot sc hands frame slot
slot_runs_from {sc} {hands} law {frame} {slot} below complete p =
    let m1 : Moment = before_slot sc hands frame slot in
    let m2 : Moment = next sc m1 in
    let m3 : Moment = next sc m2 in
    let m4 : Moment = next sc m3 in
    let at_1 : m1.window ≡ 3 * slot + 0 = p.window_is in
    let step_1 : step sc hands m1 ≡ before_stage sc hands frame slot 2 = stage_next sc hands frame slot 1 (omega arith) in
    let run_2 : IsRunning (before_stage sc hands frame slot 2) = complete_before sc hands frame slot 2 (omega arith) complete in
    let is_2 : m2 ≡ before_stage sc hands frame slot 2 =
    sym (step_through sc hands m1 (omega arith) (ap (λ m. m.book.ended) step_1 ∙ run_2)) ∙ step_1 in
    let c1 : Setting sc hands p.steps m1 p.shared slot 0 =
    exact-setting slot 0 law p.agree below (omega arith) at_1 (ap (λ m. m.book.ended) is_2 ∙ run_2) in
    let then_2 : m2 ≡ moment sc hands (suc p.steps) = is_2 ∙ sym step_1 ∙ ap (step sc hands) p.agree.is in
    let a2 : Agree sc hands (suc p.steps) m2 p.shared = agree_1 c1 then_2 in
    let at_2 : m2.window ≡ 3 * slot + 1 = next-window sc m1 ∙ ap (λ w. w + 1) at_1 ∙ shift (3 * slot) 0 in
    let step_2 : step sc hands (before_stage sc hands frame slot 2) ≡ before_stage sc hands frame slot 3 = stage_next sc hands frame slot 2 (omega arith) in
    let run_3 : IsRunning (before_stage sc hands frame slot 3) = complete_before sc hands frame slot 3 (omega arith) complete in
    let is_3 : m3 ≡ before_stage sc hands frame slot 3 =
    sym (step_through sc hands m2 (omega arith) (ap (λ m. (step sc hands m).book.ended) is_2 ∙ ap (λ m. m.book.ended) step_2 ∙ run_3)) ∙ ap (step sc hands) is_2 ∙ step_2 in
    let c2 : Setting sc hands (suc p.steps) m2 p.shared slot 1 =
    exact-setting slot 1 law a2 below (omega arith) at_2 (ap (λ m. m.book.ended) is_3 ∙ run_3) in
    let then_3 : m3 ≡ moment sc hands (suc (suc p.steps)) = is_3 ∙ sym step_2 ∙ ap (step sc hands) (sym is_2 ∙ then_2) in
    let a3 : Agree sc hands (suc (suc p.steps)) m3 p.shared = agree_2 c2 then_3 in
    let at_3 : m3.window ≡ 3 * slot + 2 = next-window sc m2 ∙ ap (λ w. w + 1) at_2 ∙ shift (3 * slot) 1 in
    let step_3 : step sc hands (before_stage sc hands frame slot 3) ≡ after_slot sc hands frame slot = stage_next sc hands frame slot 3 (omega arith) in
    let is_4 : m4 ≡ after_slot sc hands frame slot =
    sym (step_through sc hands m3 (omega arith) (ap (λ m. (step sc hands m).book.ended) is_3 ∙ ap (λ m. m.book.ended) step_3 ∙ complete)) ∙ ap (step sc hands) is_3 ∙ step_3 in
    let c3 : Setting sc hands (suc (suc p.steps)) m3 p.shared slot 2 =
    exact-setting slot 2 law a3 below (omega arith) at_3 (ap (λ m. m.book.ended) is_4 ∙ complete) in
    record {
      shared = p.shared;
      steps = p.steps;
      first = c1;
      second = c2;
      third = c3;
      frame_is = p.frame_is;
      after_first = is_2;
      after_second = is_3;
      after_third = is_4;
      steps_on = is_4 ∙ sym step_3 ∙ ap (step sc hands) (sym is_3 ∙ then_3);
    }
  where
    shift : (a b : ℕ) → a + b + 1 ≡ a + (b + 1)
    shift a b = omega arith

-- what all good nodes share stays the same through a slot
pub slot_runs-shared : {sc hands : _} (law : IsLawful sc) {frame slot : ℕ} (below : slot < sync_slot_of sc.sizes) (complete : IsComplete sc hands frame slot) (p : IsPlaced sc hands frame slot 1) → (slot_runs_from law below complete p).shared ≡ p.shared
unfolding slot_runs_from
slot_runs-shared law below complete p = refl

pub slot_runs : {sc hands : _} → IsLawful sc → {frame slot : ℕ} → slot < sync_slot_of sc.sizes → IsComplete sc hands frame slot → IsSlot sc hands frame slot
slot_runs {sc} {hands} law {frame} {slot} below complete =
    slot_runs_from law below complete
    (placed hands law frame slot 1 (omega arith) (omega arith) (omega arith) (complete_before sc hands frame slot 1 (omega arith) complete))

-- Good nodes of the slot.

pub next-frame : (sc : Scenario) (m : Moment) → (next sc m).frame ≡ m.frame
unfolding after_window
next-frame sc m = refl

-- a node that is good in the slot is good before each of its stages
pub good_in_stage : {sc hands n m s frame slot q : _} → Setting sc hands n m s slot q → m.frame ≡ frame
    → (me : Side) (i : ℕ) → is_good sc me i frame slot ≡ true → is_good_now sc m me i ≡ true
good_in_stage {sc} {slot} c frame_is me i good =
    good_here c me i ∙ ap (λ f. is_good sc me i f slot) frame_is ∙ good

-- `now` is the state of a good node after the window
pub record StateFrom (sc : Scenario) (m : Moment) (me : Side) (i : ℕ) (now : NodeState) : Type 0 where
  pub st : NodeState
  pub was : IsGoodNode sc m me i st
  pub is : after sc m me i st ≡ now

pub state_from : {sc hands n m s : _} → Agree sc hands n m s → (me : Side) (i : ℕ) {now : _}
    → is_good_now sc m me i ≡ true → slice_get (of_kind me (next sc m).nodes) i ≡ Some now → StateFrom sc m me i now
state_from {sc} {m} agree me i {now} good there =
    let old : Present (slice_get (of_kind me m.nodes) i) = good_state agree me i good in
    record {
      st = old.value;
      was = record { there = old.is; good = good };
      is = same_Some (after sc m me i old.value) now (sym (state-after sc m me i old.value old.is) ∙ there);
    }

-- the third stage of a slot is in the frame of the slot
pub third_frame : {sc hands frame slot : _} → IsSlot sc hands frame slot → (next sc (next sc (before_slot sc hands frame slot))).frame ≡ frame
third_frame {sc} {hands} {frame} {slot} r =
    next-frame sc (next sc (before_slot sc hands frame slot)) ∙ next-frame sc (before_slot sc hands frame slot) ∙ r.frame_is

pub second_frame : {sc hands frame slot : _} → IsSlot sc hands frame slot → (next sc (before_slot sc hands frame slot)).frame ≡ frame
second_frame {sc} {hands} {frame} {slot} r = next-frame sc (before_slot sc hands frame slot) ∙ r.frame_is

-- a node that is good before stage 2 is good before stage 3
pub next-slot-good : {sc hands n m s slot : _} → Setting sc hands n m s slot 1 → {k : ℕ} → Setting sc hands k (next sc m) s slot 2
    → (me : Side) (i : ℕ) → is_good_now sc m me i ≡ true → is_good_now sc (next sc m) me i ≡ true
next-slot-good {sc} {m} {slot} c d me i good =
    good_here d me i ∙ ap (λ f. is_good sc me i f slot) (next-frame sc m)
    ∙ sym (good_here c me i) ∙ good
