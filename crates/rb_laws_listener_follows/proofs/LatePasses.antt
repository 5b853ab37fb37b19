-- From stage 2 of the sync slot a listener goes through stage 3 and the tail to the first window of
-- the next frame.
use Rattle.std.proofs.{Common.{◌≡◌, ℕ, suc, ◌+◌, ◌-◌, ◌*◌, ◌≤◌, true, List, slice_get, refl, sym, ◌∙◌, ap, subst, arith}, lemmas.Option.same_Some}
use Rattle.rb_base.specs.{Nodes.has, Nodes.Side.{Biu, Rmu}, Sizes.{Sizes, sync_slot_of}}
use Rattle.rb_base.proofs.Plain.{and_second}
use Rattle.rb_rules.specs.{declared.plan.Plan.Plan, declared.sense.Sense.Sense, Clock.IsStamp, Goodness.{Scenario, is_good}, Hearing.window_numbered, Lawful.IsLawful, Moments.IsComplete, NodeState.NodeState, Plan.{f0_of, shortest_of, tail_start_of}, Ports.HandIn, Rounds.{Moment, moment, windows_in}, SyncStage.{close_sync, new_epoch_of, sync_outcome_of}, Book.of_kind}
use Rattle.rb_rules.proofs.WindowNumbers.{sync-numbered}
use Rattle.rb_laws_agreement.proofs.{Agreement.{IsAgreed, agreement}, ExactAgrees.has_ticks, Goodnesses.{good_before, slot_last}, Tests.{Passing, Present}, Numbers.one_of_many, Premises.is_sound, Settings.good_state, Invariant.{IsGoodNode, Shared, is_good_now, slot_numbered}, NextMoments.next}
use Rattle.rb_laws_events.proofs.TurnTicks.{not-yet}
use Rattle.rb_laws_synchrony.proofs.{SyncSteps.IsPassedStage, LastStage.near_third, LaterStages.near_second, PlanNumbers.drift_of, Synchronous.Synchronous, Times.Steady}
use Rattle.rb_laws_listener_near.proofs.{NextEpochs.{BeginTogether, MiddleIsNear, begin_together}, SyncTracks.IsLike}
use Rattle.rb_laws_listener_learns.specs.Ears.{Ear, SendsIn, coming_to}
use Rattle.rb_laws_listener_learns.proofs.{SyncStages.{StageIs, stage_is}, Together.steady-ear}
use Rattle.rb_laws_listener_follows.proofs.{ExactPasses.IsHeldTo, FirstCalls.{IsSpan, sense_span, span_window}, FollowerRuns.{IsWindow, Stands}, HeardExact.{Beside, comes}, HeardLast.NextBegins, HeardSync.{called_between, calls_in_time}, LateSteps.{CallsAreOver, IsDeaf, PassesLate, SparesNext, StandsLate, passes_late}, NextBegin.next_begins, SeenWindows.NoneSeen, SyncPasses.{IsInSync, PassesAtSecond, SpanSees, in_sync, span_sees, sync_moment}}

-- ---- the frame that it is in

-- if a stage of the sync slot passes, a state like those of the good BIUs is in the frame of the
-- bus
pub record Like (sc : Scenario) (m : Moment) (s : Shared) (st : NodeState) : Type 0 where
  pub frame : st.frame ≡ m.frame

pub like_one : {sc hands n s q : _} → IsPassedStage sc hands n (moment sc hands n) s q → {st : _} → IsLike sc (moment sc hands n) st → Like sc (moment sc hands n) s st
like_one {sc} {hands} {n} {s} {q} c like =
    let m : Moment = moment sc hands n in
    let one : Passing (is_sound sc Biu m.frame (sync_slot_of sc.sizes) s.trusted) 0 16 = one_of_many (is_sound sc Biu m.frame (sync_slot_of sc.sizes) s.trusted) (omega (arith, c.premise.most Biu)) in
    let good : is_good sc Biu one.at m.frame (sync_slot_of sc.sizes) ≡ true = and_second (has (s.trusted Biu) one.at) (is_good sc Biu one.at m.frame (sync_slot_of sc.sizes)) one.passes in
    let now : is_good_now sc m Biu one.at ≡ true = ap (is_good sc Biu one.at m.frame) (slot_last sc.sizes q c.stage.at) ∙ good in
    let there : Present (slice_get (of_kind Biu m.nodes) one.at) = good_state c.stage.agree Biu one.at now in
    let node : IsGoodNode sc m Biu one.at there.value = record { there = there.is; good = now } in
    record { frame = (like one.at there.value node).frame ∙ (c.stage.agree.nodes Biu one.at there.value node).frame }

-- ---- the calls are over

calls_over : {sc hands ear n epoch low s : _} → Beside sc hands ear n epoch low s → (moment sc hands n).window ≡ 3 * sync_slot_of sc.sizes + 1
    → (k : ℕ) → (moment sc hands k).frame ≡ (moment sc hands n).frame → CallsAreOver sc hands ear k epoch
calls_over {sc} {hands} {ear} {n} b at k same j q x sent frame window t stamp =
    let other : IsAgreed sc hands q = agreement hands b.law q sent.running in
    let g : (moment sc hands q).frame * (windows_in sc.sizes + 1) ≡ (moment sc hands n).frame * (windows_in sc.sizes + 1) = ap (λ f. f * (windows_in sc.sizes + 1)) (frame ∙ same) in
    let here : q ≡ n = omega (arith, other.agree.place, b.agree.place, g, window, at) in
    let sent_here : SendsIn sc hands n j x = subst (λ r. SendsIn sc hands r j x) here sent in
    let stamp_here : IsStamp ear.clock (coming_to sc ear j (moment sc hands n).frame x).time t = subst (λ r. IsStamp ear.clock (coming_to sc ear j (moment sc hands r).frame x).time t) here stamp in
    let arrives = comes b.is j (moment sc hands n).frame x in
    let called_at = called_between b.law sent_here at b.near in
    (calls_in_time b at
    (record { least = omega (arith, arrives.least, called_at.least); most = omega (arith, arrives.most, called_at.most) }) stamp_here).1

-- ---- stage 3

third_keeps : (sizes : Sizes) (plan : Plan) (st : NodeState) (first : ℕ) (sense : ℕ → Sense) → new_epoch_of plan Biu (close_sync sizes Biu st 3 first sense).state ≡ new_epoch_of plan Biu st
unfolding close_sync sync_outcome_of
third_keeps sizes plan st first sense = refl

pub tail_keeps : (sizes : Sizes) (plan : Plan) (st : NodeState) (first : ℕ) (sense : ℕ → Sense) → new_epoch_of plan Biu (close_sync sizes Biu st 4 first sense).state ≡ new_epoch_of plan Biu st
unfolding close_sync sync_outcome_of
tail_keeps sizes plan st first sense = refl

pub third_span : (sc : Scenario) (st : NodeState) {w : ℕ} → w ≡ 3 * sync_slot_of sc.sizes + 2 → 1 ≤ sc.plan.z
    → IsSpan sc st w (sync_slot_of sc.sizes) 3 (f0_of sc.sizes sc.plan + sc.plan.l + sc.plan.v) sc.plan.z
third_span sc st at some = record {
  window = ap (window_numbered sc.sizes sc.plan Biu st) at ∙ sync-numbered sc.sizes sc.plan Biu st 2;
  in_frame = omega (arith, at);
  some = some;
}

-- the listener stands before the tail
pub record StandsAtTail (sc : Scenario) (hands : List HandIn) (ear : Ear) (frame epoch low next_epoch later : ℕ) : Type 0 where
  pub shared : Shared
  pub st : NodeState
  pub late : StandsLate sc hands ear (suc (suc (suc (sync_moment sc frame)))) epoch low shared st (tail_start_of sc.sizes sc.plan) next_epoch later
  pub none : NoneSeen sc ear frame (suc (suc (suc (3 * sync_slot_of sc.sizes)))) (epoch + tail_start_of sc.sizes sc.plan)
  pub start : epoch + tail_start_of sc.sizes sc.plan ≤ next_epoch

-- the tick with which the listener begins its next frame
abbrev pub next_epoch_of : {sc hands ear frame epoch low x : _} → PassesAtSecond sc hands ear frame epoch low x → ℕ
next_epoch_of {sc} p = p.through.middle + sc.plan.v + sc.plan.z + sc.plan.c

-- the listener stands before stage 3 of the sync slot
pub record StandsAtThird (sc : Scenario) (hands : List HandIn) (ear : Ear) (frame epoch low next_epoch : ℕ) (s : Shared) (st : NodeState) : Type 0 where
  pub later : ℕ
  pub late : StandsLate sc hands ear (suc (suc (sync_moment sc frame))) epoch low s st (f0_of sc.sizes sc.plan + sc.plan.l + sc.plan.v) next_epoch later

pub to_third : {sc hands ear learned records f last epoch low : _} → IsHeldTo sc hands ear learned records f last
    → {x : _} → (p : PassesAtSecond sc hands ear (suc f) epoch low x) → IsComplete sc hands (suc f) (sync_slot_of sc.sizes)
    → StandsAtThird sc hands ear (suc f) epoch low (next_epoch_of p) x.shared p.through.now
to_third {sc} {hands} {ear} {f} {epoch} {low} h {x} p complete = record {
  later = together.later;
  late = record {
    beside = record {
      law = law;
      is = b.is;
      run = b.run;
      running = at.running;
      agree = second.agree;
      near = near;
      began = b.began;
      past = b.past;
    };
    next = subst (λ g. NextBegins sc hands ear g (next_epoch_of p) together.later) frames
        (next_begins law ear third.agree after.window together);
    over = calls_over b before.window (suc n) (at.frame_is ∙ sym before.frame_is);
    stands = p.through.stands;
    like = like;
    spares = λ j good. p.through.tracks.spares j (good_now j good);
    epoch_is = p.through.epoch_is;
    known = p.through.known;
  };
}
  where
    n : ℕ
    n = suc (sync_moment sc (suc f))

    b : Beside sc hands ear (suc (sync_moment sc (suc f))) epoch low x.shared
    b = x.second.beside

    law : IsLawful sc
    law = x.second.beside.law

    before : IsInSync sc hands (suc f) (suc (sync_moment sc (suc f))) 1
    before = in_sync law h.complete complete 1 (omega arith) (omega arith)

    at : IsInSync sc hands (suc f) (suc (suc (sync_moment sc (suc f)))) 2
    at = in_sync law h.complete complete 2 (omega arith) (omega arith)

    after : IsInSync sc hands (suc f) (suc (suc (suc (sync_moment sc (suc f))))) 3
    after = in_sync law h.complete complete 3 (omega arith) (omega arith)

    second : StageIs sc hands (suc (sync_moment sc (suc f))) x.shared 1
    second = stage_is law 1 b.agree (omega arith) before.window at.running

    third : StageIs sc hands (suc (suc (sync_moment sc (suc f)))) x.shared 2
    third = stage_is law 2 second.agree (omega arith) at.window after.running

    near : Synchronous sc (moment sc hands (suc (suc (sync_moment sc (suc f))))) x.shared low
    near = subst (λ m. Synchronous sc m x.shared low) second.next_is (near_second second.passes b.near)

    clock : Steady (shortest_of sc.plan) (drift_of sc.plan) ear.clock
    clock = steady-ear law b.is

    middle : MiddleIsNear sc (moment sc hands (suc (suc (sync_moment sc (suc f))))) ear.clock p.through.middle
    middle = subst (λ m. MiddleIsNear sc m ear.clock p.through.middle) second.next_is p.through.near

    together : BeginTogether sc (moment sc hands (suc (suc (suc (sync_moment sc (suc f)))))) ear.clock (next_epoch_of p)
    together =
        subst (λ m. BeginTogether sc m ear.clock (next_epoch_of p)) third.next_is
        (begin_together third.passes near clock p.through.middle middle)

    frames : (moment sc hands (suc (suc (suc (sync_moment sc (suc f)))))).frame ≡ (moment sc hands (suc (suc (sync_moment sc (suc f))))).frame
    frames = after.frame_is ∙ sym at.frame_is

    like : IsLike sc (moment sc hands (suc (suc (sync_moment sc (suc f))))) p.through.now
    like = subst (λ m. IsLike sc m p.through.now) second.next_is p.through.tracks.like

    good_now : (j : ℕ) → is_good sc Rmu j ((moment sc hands (suc (suc (sync_moment sc (suc f))))).frame + 1) 0 ≡ true → is_good_now sc (next sc (moment sc hands (suc (sync_moment sc (suc f))))) Rmu j ≡ true
    good_now j good =
        subst (λ m. is_good_now sc m Rmu j ≡ true) (sym second.next_is)
        (good_before sc Rmu j (moment sc hands (suc n)).frame ((moment sc hands (suc n)).frame + 1) (slot_numbered sc.sizes (moment sc hands (suc n)).window) 0 (omega arith) good)

pub to_tail : {sc hands ear learned records f last epoch low : _} → IsHeldTo sc hands ear learned records f last
    → {x : _} → (p : PassesAtSecond sc hands ear (suc f) epoch low x) → IsComplete sc hands (suc f) (sync_slot_of sc.sizes)
    → (third : StandsAtThird sc hands ear (suc f) epoch low (next_epoch_of p) x.shared p.through.now) → epoch + tail_start_of sc.sizes sc.plan ≤ ear.ticks
    → StandsAtTail sc hands ear (suc f) epoch low (next_epoch_of p) third.later
to_tail {sc} {hands} {ear} {f} {epoch} {low} h {x} p complete third in_time = record {
  shared = x.shared;
  st = through.now;
  late = record {
    beside = record {
      law = law;
      is = x.second.beside.is;
      run = x.second.beside.run;
      running = after.running;
      agree = stage.agree;
      near = subst (λ m. Synchronous sc m x.shared low) stage.next_is (near_third stage.passes third.late.beside.near);
      began = x.second.beside.began;
      past = x.second.beside.past;
    };
    next = subst (λ g. NextBegins sc hands ear g next_epoch third.later) frames third.late.next;
    over = λ j q y sent frame window k stamp. third.late.over j q y sent (frame ∙ sym frames) window k stamp;
    stands = subst (Stands sc ear through.now) end through.stands;
    like = subst (λ m. IsLike sc m through.now) stage.next_is through.like;
    spares = subst (λ g. SparesNext sc g through.now) frames through.spares;
    epoch_is = through.epoch_is;
    known = through.known;
  };
  none = subst (NoneSeen sc ear (suc f) (suc (suc (suc (3 * sync_slot_of sc.sizes))))) end sees.later;
  start = omega (arith, p.through.least);
}
  where
    n : ℕ
    n = suc (suc (sync_moment sc (suc f)))

    next_epoch : ℕ
    next_epoch = next_epoch_of p

    law : IsLawful sc
    law = x.second.beside.law

    a : ℕ
    a = f0_of sc.sizes sc.plan + sc.plan.l + sc.plan.v

    at : IsInSync sc hands (suc f) (suc (suc (sync_moment sc (suc f)))) 2
    at = in_sync law h.complete complete 2 (omega arith) (omega arith)

    after : IsInSync sc hands (suc f) (suc (suc (suc (sync_moment sc (suc f))))) 3
    after = in_sync law h.complete complete 3 (omega arith) (omega arith)

    stage : StageIs sc hands (suc (suc (sync_moment sc (suc f)))) x.shared 2
    stage = stage_is law 2 third.late.beside.agree (omega arith) at.window after.running

    frames : (moment sc hands (suc (suc (sync_moment sc (suc f))))).frame ≡ (moment sc hands (suc (suc (suc (sync_moment sc (suc f)))))).frame
    frames = at.frame_is ∙ sym after.frame_is

    st : NodeState
    st = p.through.now

    deaf : IsDeaf sc hands ear (suc (suc (sync_moment sc (suc f)))) epoch p.through.now (2 + 1) (f0_of sc.sizes sc.plan + sc.plan.l + sc.plan.v) sc.plan.z (next_epoch_of p)
    deaf = record {
      window = omega (arith, at.window);
      span = third_span sc st at.window law.plan.z.0;
      expects = λ j. refl;
      keeps = third_keeps sc.sizes sc.plan st;
      after = omega arith;
      before = omega (arith, p.through.least);
      in_time = omega (arith, in_time);
    }

    through : PassesLate sc hands ear (suc (suc (sync_moment sc (suc f)))) epoch p.through.now (f0_of sc.sizes sc.plan + sc.plan.l + sc.plan.v) sc.plan.z (next_epoch_of p)
    through =
        passes_late third.late stage.set deaf

    none : NoneSeen sc ear (suc f) (suc (suc (3 * sync_slot_of sc.sizes))) (epoch + (f0_of sc.sizes sc.plan + sc.plan.l + sc.plan.v))
    none = p.none

    frame : p.through.now.frame ≡ suc f
    frame =
        let one : Like sc (moment sc hands n) x.shared st = like_one stage.passes third.late.like in
        one.frame ∙ at.frame_is

    here : IsWindow sc.sizes sc.plan p.through.now p.through.now (epoch + (f0_of sc.sizes sc.plan + sc.plan.l + sc.plan.v)) (sc.plan.z - 1)
    here =
        span_window st deaf.span (has_ticks law) p.through.epoch_is
        (not-yet sc.sizes sc.plan Biu st (epoch + a) p.through.known (omega (arith, deaf.before, law.plan.z.0)))
        (λ y known. let same : next_epoch ≡ y = same_Some next_epoch y (sym p.through.known ∙ known) in omega (arith, same, deaf.before)) (omega (arith, in_time, x.second.beside.is.ticks))

    sees : SpanSees sc ear (suc f) (suc (suc (3 * sync_slot_of sc.sizes)))
        (close_sync sc.sizes Biu p.through.now (2 + 1) (p.through.now.epoch + (f0_of sc.sizes sc.plan + sc.plan.l + sc.plan.v))
        (sense_span sc ear (epoch + (f0_of sc.sizes sc.plan + sc.plan.l + sc.plan.v)) sc.plan.z p.through.now (sync_slot_of sc.sizes) (2 + 1))).closed
        (epoch + (f0_of sc.sizes sc.plan + sc.plan.l + sc.plan.v) + sc.plan.z)
    sees =
        span_sees 2 (third_span sc st (omega arith) law.plan.z.0) (has_ticks law)
        p.through.epoch_is frame (omega arith) (omega arith) here p.through.stands through.closes none

    end : epoch + (f0_of sc.sizes sc.plan + sc.plan.l + sc.plan.v) + sc.plan.z ≡ epoch + tail_start_of sc.sizes sc.plan
    end = omega arith
