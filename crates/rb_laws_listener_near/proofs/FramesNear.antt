-- The next frame of a receiver of the calls, from stage 2 of the sync slot to its end.
use Rattle.std.proofs.{Common.{◌≡◌, ℕ, suc, ◌+◌, ◌-◌, ◌*◌, ◌<◌, ◌≤◌, true, false, List, ◌∷◌, length, slice_get, inl, inr, refl, sym, ◌∙◌, ap, subst, arith}, lemmas.Option.same_Some}
use Rattle.rb_base.specs.{Nodes.{Side, has, set_of, size}, Nodes.Side.{Biu, Rmu}, Sizes.sync_slot_of}
use Rattle.rb_base.proofs.{Plain.and_second, SetSizes.size_same, Sets.has-set_of}
use Rattle.rb_rules.specs.{Book.{judged_of, of_kind}, Clock.{IsClock, time_of}, Goodness.{Scenario, clock_of, is_good}, Judging.JudgedStage, Lawful.IsLawful, Moments.{IsRunning, after_slot, before_stage}, NodeState.NodeState, Plan.{longest_of, shortest_of}, Ports.HandIn, Rounds.{Moment, moment, step, windows_in}}
use Rattle.rb_rules.proofs.{Drift.{HasLengths, drift, has_lengths, stamp_near}, Middles.IsBetween}
use Rattle.rb_laws_agreement.proofs.{Tests.Passing, Numbers.{how_many-is, one_of_many}, Premises.is_sound, Agreement.step_is, Goodnesses.slot_last, Invariant.{Agree, IsGoodNode, Shared, is_good_now}, JudgedWindows.{IsPassed, passed, rows_of}, NextMoments.next, Places.{IsPlaced, complete_before, placed}, Settings.good_state, SlotRuns.{next-frame, next-window}, SyncAgrees.{agree_sync, book_sync, stage_setting}, Tests.Present}
use Rattle.rb_laws_synchrony.proofs.{CallSights.{place_of, stages_with}, LaterStages.near_second, PlanNumbers.drift_of, SyncSteps.{IsPassedStage, passed_stage}, Synchronous.{KnowsEpoch, Synchronous}, Synchrony.{IsSynchronous, synchrony}, TakenCalls.IsStage, Times.{Steady, lawful_fits, plan_fits}}
use Rattle.rb_laws_listener_near.specs.{Calls.{AreMostGood, IsGoodInSync, SawTheTimes, TakesTheCalls}, Judged.verdict_with, Laws.{FramesBeginNear, LieWithin}}
use Rattle.rb_laws_listener_near.proofs.{ListenerMiddles.{MostGood, TakesCalls}, ListenerNear.{IsCalled, SawTimes, calls_near_bius}, NextEpochs.{BeginTogether, MiddleIsNear, begin_together}}

-- a receiver's clock is steady
pub steady_clock : {sc : _} → IsLawful sc → {clock : _} → IsClock (shortest_of sc.plan) (longest_of sc.plan) clock → Steady (shortest_of sc.plan) (drift_of sc.plan) clock
steady_clock {sc} law {clock} is = record {
  moves = λ tick. omega (arith, (lengths tick).0, fit.some);
  not_early = λ tick n. (drift clock (shortest_of sc.plan) (longest_of sc.plan) lengths tick n).0;
  not_late = λ tick n.
      subst (λ g. time_of clock (tick + n) ≤ time_of clock tick + n * g) fit.longest (drift clock (shortest_of sc.plan) (longest_of sc.plan) lengths tick n).1;
  stamped = λ time tick at. subst (λ g. time_of clock (suc tick) < time + g) fit.longest (stamp_near clock (longest_of sc.plan) (λ k. (lengths k).1) time tick at);
}
  where
    fit : plan_fits sc
    fit = lawful_fits law

    lengths : HasLengths (shortest_of sc.plan) (longest_of sc.plan) clock
    lengths = has_lengths (shortest_of sc.plan) (longest_of sc.plan) clock is

-- ---- a stage of the sync slot that passes

record StageAt (sc : Scenario) (hands : List HandIn) (n : ℕ) (m : Moment) (s : Shared) (q : ℕ) : Type 0 where
  pub next_is : next sc m ≡ moment sc hands (suc n)
  pub through : IsPassed sc (record { frame = m.frame; slot = sync_slot_of sc.sizes; stage = q + 1 }) (rows_of sc m) m.book
  pub passes : IsPassedStage sc hands n m s q

stage_at : {sc hands : _} → IsLawful sc → {n m s : _} (q : ℕ) → Agree sc hands n m s → q < 3 → m.window ≡ 3 * sync_slot_of sc.sizes + q
    → IsRunning (moment sc hands (suc n)) → StageAt sc hands n m s q
stage_at {sc} {hands} law {n} {m} {s} q agree small at running =
    let on : IsRunning (step sc hands m) = ap (λ x. (step sc hands x).book.ended) agree.is ∙ running in
    elim (step_is sc hands m on) [
      | inl window ↦
          let goes : (next sc m).book.ended ≡ false = ap (λ x. x.book.ended) (sym window.1) ∙ on in
          let through : IsPassed sc (record { frame = m.frame; slot = sync_slot_of sc.sizes; stage = q + 1 }) (rows_of sc m) m.book =
          passed sc (record { frame = m.frame; slot = sync_slot_of sc.sizes; stage = q + 1 }) (rows_of sc m) m.book (ap (λ b. b.ended) (sym (book_sync sc m q small at)) ∙ goes) in
          let stage : IsStage sc hands n m s q = record { law = law; agree = agree; small = small; at = at } in
          record {
            next_is = sym window.1 ∙ ap (step sc hands) agree.is;
            through = through;
            passes = passed_stage stage through;
          }
      | inr turn ↦ let over : windows_in sc.sizes ≤ m.window = turn.0 in absurd (omega (arith, over, at, small))
    ]

-- ---- stage 2, by the definitions

takes_calls : {sc hands frame n m s : _} → m ≡ before_stage sc hands frame (sync_slot_of sc.sizes) 2 → m.frame ≡ frame
    → (c : IsPassedStage sc hands n m s 1) → {clock taken time : _} → TakesTheCalls sc hands frame clock taken time → TakesCalls sc m s clock taken time
takes_calls {sc} {hands} {frame} {m} {s} is frame_is c t = record {
  trusts = λ j some.
      let one : Passing (is_sound sc Biu m.frame (sync_slot_of sc.sizes) s.trusted) 0 16 = one_of_many (is_sound sc Biu m.frame (sync_slot_of sc.sizes) s.trusted) (omega (arith, c.premise.most Biu)) in
      let good : is_good sc Biu one.at m.frame (sync_slot_of sc.sizes) ≡ true = and_second (has (s.trusted Biu) one.at) (is_good sc Biu one.at m.frame (sync_slot_of sc.sizes)) one.passes in
      let now : is_good_now sc m Biu one.at ≡ true = ap (is_good sc Biu one.at m.frame) (slot_last sc.sizes 1 c.stage.at) ∙ good in
      let there : Present (slice_get (of_kind Biu m.nodes) one.at) = good_state c.stage.agree Biu one.at now in
      let node : IsGoodNode sc m Biu one.at there.value = record { there = there.is; good = now } in
      ap (λ x. has x j) (sym ((c.stage.agree.nodes Biu one.at there.value node).trusted Rmu)) ∙ t.trusts j some Biu one.at there.value (in_sync Biu one.at there.value node);
  stamped = t.stamped;
  calls = λ j source tick there at.
      let called = t.calls j source tick (in_sync Rmu j source there) at in
      (called.0, record { least = called.1.least; most = called.1.most });
}
  where
    in_sync : (me : Side) (i : ℕ) (st : NodeState) → IsGoodNode sc m me i st → IsGoodInSync sc hands frame me i st
    in_sync me i st h = record {
      good = ap (λ f. is_good sc me i f (sync_slot_of sc.sizes)) (sym frame_is) ∙ ap (is_good sc me i m.frame) (sym (slot_last sc.sizes 1 c.stage.at)) ∙ h.good;
      state = ap (λ x. slice_get (of_kind me x.nodes) i) (sym is) ∙ h.there;
    }

most_good : (sc : Scenario) {frame : ℕ} (m : Moment) → m.frame ≡ frame → m.window ≡ 3 * sync_slot_of sc.sizes + 1 → AreMostGood sc frame → MostGood sc m
most_good sc {frame} m is at most =
    let same : size (set_of (is_good_now sc m Rmu)) ≡ size (set_of (λ j. is_good sc Rmu j frame (sync_slot_of sc.sizes))) =
    size_same (set_of (is_good_now sc m Rmu)) (set_of (λ j. is_good sc Rmu j frame (sync_slot_of sc.sizes))) (λ i below.
    has-set_of i (is_good_now sc m Rmu) below ∙ ap (is_good sc Rmu i m.frame) (slot_last sc.sizes 1 at) ∙ ap (λ f. is_good sc Rmu i f (sync_slot_of sc.sizes)) is
    ∙ sym (has-set_of i (λ j. is_good sc Rmu j frame (sync_slot_of sc.sizes)) below)) in
    omega (arith, most, same, how_many-is (is_good_now sc m Rmu))

saw_times : (sc : Scenario) (m : Moment) {stages taken time seen : _} → stages ≡ stages_with sc m 1
    → SawTheTimes stages taken time seen → SawTimes sc m taken time seen
saw_times sc m {seen} are saw =
    let both : saw.newest ∷ saw.earlier ≡ judged_of sc (place_of sc m 1) (rows_of sc m) ∷ m.book.stages = sym saw.are ∙ are in
    let first : saw.newest ≡ judged_of sc (place_of sc m 1) (rows_of sc m) = same_head both in
    let rest : saw.earlier ≡ m.book.stages = same_tail both in
    record {
      sight = saw.sight;
      here = ap (λ l. seen (length l) (judged_of sc (place_of sc m 1) (rows_of sc m))) (sym rest) ∙ ap (seen (length saw.earlier)) (sym first) ∙ saw.here;
      is = saw.is;
    }
  where
    same_head : {x y : JudgedStage} {xs ys : List JudgedStage} → x ∷ xs ≡ y ∷ ys → x ≡ y
    same_head e = cc

    same_tail : {x y : JudgedStage} {xs ys : List JudgedStage} → x ∷ xs ≡ y ∷ ys → xs ≡ ys
    same_tail e = cc

pub within : {later : ℕ} (p : ℕ) {a b : ℕ} → IsBetween later (later + p) a → IsBetween later (later + p) b → LieWithin p a b
within p x y = record { before = omega (arith, x.most, y.least); after = omega (arith, x.least, y.most) }

pub frames_near : FramesBeginNear
frames_near sc hands law frame complete most clock is_clock taken time t seen none saw middle found me i st good epoch known =
    within sc.plan.p together.listener
    (subst (λ x. IsBetween together.later (together.later + sc.plan.p) (time_of (clock_of sc me i) x)) (same_Some at_end.takes.epoch epoch (sym at_end.takes.known ∙ known)) at_end.between)
  where
    slot : ℕ
    slot = sync_slot_of sc.sizes

    n : ℕ
    n = frame * (windows_in sc.sizes + 1) + 3 * sync_slot_of sc.sizes + 2 - 1

    m : Moment
    m = moment sc hands (frame * (windows_in sc.sizes + 1) + 3 * sync_slot_of sc.sizes + 2 - 1)

    p : IsPlaced sc hands frame (sync_slot_of sc.sizes) 2
    p = placed hands law frame (sync_slot_of sc.sizes) 2 (omega arith) (omega arith) (omega arith) (complete_before sc hands frame (sync_slot_of sc.sizes) 2 (omega arith) complete)

    x : IsSynchronous sc hands (frame * (windows_in sc.sizes + 1) + 3 * sync_slot_of sc.sizes + 2 - 1)
    x = synchrony hands law n (complete_before sc hands frame (sync_slot_of sc.sizes) 2 (omega arith) complete)

    at : m.window ≡ 3 * sync_slot_of sc.sizes + 1
    at = p.window_is

    third_is : suc (frame * (windows_in sc.sizes + 1) + 3 * sync_slot_of sc.sizes + 2 - 1) ≡ frame * (windows_in sc.sizes + 1) + 3 * sync_slot_of sc.sizes + 3 - 1
    third_is = omega arith

    fourth_is : suc (suc (frame * (windows_in sc.sizes + 1) + 3 * sync_slot_of sc.sizes + 2 - 1)) ≡ frame * (windows_in sc.sizes + 1) + 3 * sync_slot_of sc.sizes + 4 - 1
    fourth_is = omega arith

    second : StageAt sc hands n m x.shared 1
    second =
        stage_at law 1 x.agree (omega arith) at
        (subst (λ k. IsRunning (moment sc hands k)) (sym third_is) (complete_before sc hands frame (sync_slot_of sc.sizes) 3 (omega arith) complete))

    agree_next : Agree sc hands (suc n) (next sc m) x.shared
    agree_next = agree_sync (stage_setting 1 (omega arith) at law x.agree second.through) second.next_is

    near_next : Synchronous sc (next sc m) x.shared x.low
    near_next = near_second second.passes x.near

    at_next : (next sc m).window ≡ 3 * sync_slot_of sc.sizes + 2
    at_next = omega (arith, next-window sc m, at)

    third : StageAt sc hands (suc n) (next sc m) x.shared 2
    third =
        stage_at law 2 agree_next (omega arith) at_next
        (subst (λ k. IsRunning (moment sc hands k)) (sym fourth_is) complete)

    stages_are : (before_stage sc hands frame (sync_slot_of sc.sizes) 3).book.stages ≡ stages_with sc m 1
    stages_are = ap (λ k. (moment sc hands k).book.stages) (sym third_is) ∙ ap (λ y. y.book.stages) (sym second.next_is) ∙ second.passes.stages

    called : IsCalled sc m x.shared clock taken time seen
    called = record {
      most = most_good sc m p.frame_is at most;
      steady = steady_clock law is_clock;
      takes = takes_calls refl p.frame_is second.passes t;
      judged = second.through.no_cause;
      none = ap (verdict_with seen) (sym stages_are) ∙ none;
      saw = saw_times sc m stages_are saw;
    }

    near : MiddleIsNear sc (next sc m) clock middle
    near = calls_near_bius second.passes x.near called found

    together : BeginTogether sc (next sc (next sc m)) clock (middle + sc.plan.v + sc.plan.z + sc.plan.c)
    together = begin_together third.passes near_next (steady_clock law is_clock) middle near

    last_is : next sc (next sc m) ≡ after_slot sc hands frame (sync_slot_of sc.sizes)
    last_is = third.next_is ∙ ap (moment sc hands) fourth_is

    frame_now : (next sc (next sc m)).frame ≡ frame
    frame_now = next-frame sc (next sc m) ∙ next-frame sc m ∙ p.frame_is

    window_now : (next sc (next sc m)).window ≡ 3 * sync_slot_of sc.sizes + 3
    window_now = omega (arith, next-window sc (next sc m), at_next)

    node : IsGoodNode sc (next sc (next sc m)) me i st
    node = record {
      there = ap (λ y. slice_get (of_kind me y.nodes) i) last_is ∙ good.state;
      good = ap (is_good sc me i (next sc (next sc m)).frame) (slot_last sc.sizes 3 window_now)
          ∙ ap (λ f. is_good sc me i f (sync_slot_of sc.sizes)) frame_now ∙ good.good;
    }

    at_end : KnowsEpoch sc me i st together.later
    at_end = together.good me i st node
