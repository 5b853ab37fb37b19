-- A listener goes through stage 2 of the sync slot: it keeps the middle of the calls, from which
-- its next frame begins near the good nodes.
use Rattle.std.proofs.Common.{◌≡◌, ℕ, suc, ◌+◌, ◌-◌, ◌*◌, ◌<◌, ◌≤◌, ◌&&◌, not, Bool, true, false, List, Option, Some, None, is_some, option_map, unwrap_or, if◌then◌else◌, refl, sym, ◌∙◌, ap, subst, arith}
use Rattle.rb_base.specs.{Nodes.has, Nodes.Side.{Biu, Rmu}, Sizes.{Sizes, sync_slot_of}}
use Rattle.rb_rules.specs.{declared.sense.Sense.Sense, Clock.{IsStamp, stamp_of, time_of}, Core.state_at, ExactStage.{each_node, present}, Goodness.{Scenario, clock_of, is_good}, Hearing.window_numbered, Judging.verdict_of, Middle.middle_of, NodeState.NodeState, Plan.{f0_of, shortest_of}, Ports.HandIn, Rounds.{after_window, moment}, Sense.stamp_in, Standing.{Standing, does_wrong, taken_of}, SyncStage.{call_tick_of, close_sync, expects_call, new_epoch_of, sync_outcome_of}}
use Rattle.rb_rules.proofs.{Stamps.{one_stamp, stamp_of-is}, WindowNumbers.sync-numbered}
use Rattle.rb_laws_agreement.proofs.{ExactAgrees.has_ticks, Goodnesses.slot_last, Invariant.{IsGoodNode, Shared, is_good_now}, NextMoments.{next, was_good}, NodeWindows.sync_windows_are, SyncAgrees.SyncSetting}
use Rattle.rb_laws_synchrony.proofs.{CallSights.stages_with, PlanNumbers.{drift_of, last_plus, second_early, second_late}, StageMiddles.{IsCaller, caller, tick_of}, SyncSteps.IsPassedStage, Synchronous.{from_2, to_2}, Times.{Steady, lawful_fits, plan_fits, tick_le}}
use Rattle.rb_laws_listener_learns.specs.Ears.{Ear, coming_to}
use Rattle.rb_laws_listener_learns.proofs.Together.{steady-ear}
use Rattle.rb_laws_listener_near.specs.Judged.{verdict_with}
use Rattle.rb_laws_listener_near.proofs.{ListenerMiddles.{FindsMiddle, MostGood, TakesCalls}, ListenerNear.{IsCalled, SawTimes, calls_found, calls_near_bius, heard-second}, NextEpochs.MiddleIsNear, SyncTracks.tracks_sync, Tracking.{Held, Tracks, stays_good}}
use Rattle.rb_laws_listener_follows.proofs.{FirstCalls.{IsSpan, keeps_epoch, sense_span, span_closing, span_window}, FollowerRuns.{ClosesWindow, IsWindow, Stands, closes_window, closing}, HeardExact.{Beside, comes, ear_time}, SecondCalls.{TakesCall, taken_second, takes_call}}

-- ---- what it takes

-- `time` has the times of what the listener takes: that of a good RMU's call, and else one with the
-- stamp
pub record HasTimes (sc : Scenario) (hands : List HandIn) (ear : Ear) (n epoch : ℕ) (st : NodeState) (time : ℕ → ℕ) : Type 0 where
  pub stamped : (j k : ℕ) → taken_second sc ear epoch st j ≡ Some k → (1 ≤ k) × IsStamp ear.clock (time j) k
  pub of_good : (j tick : ℕ) → (t : TakesCall sc hands ear n epoch st j tick) → time j ≡ (coming_to sc ear j (moment sc hands n).frame t.sending).time

taken-trusted : (part : Sense → Option ℕ) (s : Standing) (expected : ℕ → Bool) (sense : ℕ → Sense) (j : ℕ) → is_some (taken_of part s expected sense j) ≡ true → has s.trusted j ≡ true
taken-trusted part s expected sense j h = go (expected j) (has s.trusted j) (not (has s.direct j)) refl h
  where
    go : (a b c : Bool) → has s.trusted j ≡ b → is_some (if a && (b && c) then part (sense j) else None) ≡ true → has s.trusted j ≡ true
    go true true c e h = e
    go true false c e h = cc
    go false b c e h = cc

-- the listener stands before stage 2
pub record StandsSecond (sc : Scenario) (hands : List HandIn) (ear : Ear) (n epoch low : ℕ) (s : Shared) (st : NodeState) : Type 0 where
  pub beside : Beside sc hands ear n epoch low s
  pub passed : IsPassedStage sc hands n (moment sc hands n) s 1
  pub stands : Stands sc ear st (epoch + (f0_of sc.sizes sc.plan + sc.plan.l))
  pub turns : state_at sc.sizes sc.plan Biu st (epoch + (f0_of sc.sizes sc.plan + sc.plan.l)) ≡ st
  pub epoch_is : st.epoch ≡ epoch
  pub unknown : new_epoch_of sc.plan Biu st ≡ None
  pub tracks : Tracks sc (moment sc hands n) st
  pub held : Held sc (moment sc hands n) s st
  pub in_time : epoch + (f0_of sc.sizes sc.plan + sc.plan.l) + sc.plan.v ≤ ear.ticks

call_taken : {sc hands ear n epoch low s st : _} → StandsSecond sc hands ear n epoch low s st
    → {j source tick : _} → IsGoodNode sc (moment sc hands n) Rmu j source → call_tick_of sc.sizes sc.plan source 2 ≡ Some tick → TakesCall sc hands ear n epoch st j tick
call_taken {st} a {j} there at =
    takes_call a.beside a.passed.stage.at a.in_time st a.held.frame there at
    (ap (λ x. has x j) a.held.far ∙ a.beside.agree.trusted Rmu j there.good) (a.tracks.spares j there.good)

takes_all : {sc hands ear n epoch low s st : _} → StandsSecond sc hands ear n epoch low s st → {time : _} → HasTimes sc hands ear n epoch st time
    → TakesCalls sc (moment sc hands n) s ear.clock (taken_second sc ear epoch st) time
takes_all {sc} {hands} {ear} {n} {epoch} {st} a {time} h = record {
  trusts = λ j some.
      ap (λ x. has x j) (sym a.held.far)
      ∙ taken-trusted stamp_in st.far (expects_call Biu st 2) (sense_span sc ear (epoch + (f0_of sc.sizes sc.plan + sc.plan.l)) sc.plan.v st (sync_slot_of sc.sizes) 2) j some;
  stamped = λ j k is. ((h.stamped j k is).0, one_stamp ear.clock (time j) (stamp_of ear.clock (time j)) k (stamp_of-is ear.clock clock.moves (time j)) (h.stamped j k is).1);
  calls = λ j source tick there at.
      let t : TakesCall sc hands ear n epoch st j tick = call_taken a there at in
      let e : time j ≡ (coming_to sc ear j (moment sc hands n).frame t.sending).time = h.of_good j tick t in
      let arrives = comes a.beside.is j (moment sc hands n).frame t.sending in
      let f : time_of (clock_of sc Rmu j) t.sending.tick ≡ time_of (clock_of sc Rmu j) tick = ap (time_of (clock_of sc Rmu j)) t.at in (
        t.taken ∙ ap (λ k. Some k) (one_stamp ear.clock (time j) t.stamp (stamp_of ear.clock (time j)) (subst (λ x. IsStamp ear.clock x t.stamp) (sym e) t.stamped) (stamp_of-is ear.clock clock.moves (time j))),
        record { least = omega (arith, e, f, arrives.least); most = omega (arith, e, f, arrives.most) },
      );
}
  where
    clock : Steady (shortest_of sc.plan) (drift_of sc.plan) ear.clock
    clock = steady-ear a.beside.law a.beside.is

-- ---- the close

pub second_span : (sc : Scenario) (st : NodeState) {w : ℕ} → w ≡ 3 * sync_slot_of sc.sizes + 1 → 1 ≤ sc.plan.v
    → IsSpan sc st w (sync_slot_of sc.sizes) 2 (f0_of sc.sizes sc.plan + sc.plan.l) sc.plan.v
second_span sc st at some = record {
  window = ap (window_numbered sc.sizes sc.plan Biu st) at ∙ sync-numbered sc.sizes sc.plan Biu st 1;
  in_frame = omega (arith, at);
  some = some;
}

-- stage 2 keeps the middle of what was taken
keeps_second : (sizes : Sizes) (st : NodeState) (first : ℕ) {middle : ℕ} (sense : ℕ → Sense) → middle_of (present (each_node (taken_of stamp_in st.far (expects_call Biu st 2) sense))) ≡ Some middle
    → (close_sync sizes Biu st 2 first sense).state.k2 ≡ Some middle
unfolding close_sync sync_outcome_of
keeps_second sizes st first sense found = ap (λ o. Some (unwrap_or o first)) found

-- with the last tick of stage 2 the listener knows when its next frame begins, and its middle is
-- near those of the good BIUs
pub record PassesSecond (sc : Scenario) (hands : List HandIn) (ear : Ear) (n epoch : ℕ) (st : NodeState) : Type 0 where
  pub closes : ClosesWindow sc ear st st (epoch + (f0_of sc.sizes sc.plan + sc.plan.l)) (sc.plan.v - 1)
  pub now : NodeState
  pub is : (closing sc ear st (epoch + (f0_of sc.sizes sc.plan + sc.plan.l)) (sc.plan.v - 1)).state ≡ now
  pub stands : Stands sc ear now (epoch + (f0_of sc.sizes sc.plan + sc.plan.l + sc.plan.v))
  pub tracks : Tracks sc (next sc (moment sc hands n)) now
  pub epoch_is : now.epoch ≡ epoch
  pub middle : ℕ
  pub known : new_epoch_of sc.plan Biu now ≡ Some (middle + sc.plan.v + sc.plan.z + sc.plan.c)
  pub least : epoch + (f0_of sc.sizes sc.plan + sc.plan.l) ≤ middle
  pub most : middle < epoch + (f0_of sc.sizes sc.plan + sc.plan.l + sc.plan.v)
  pub near : MiddleIsNear sc (next sc (moment sc hands n)) ear.clock middle

pub passes_second : {sc hands ear n epoch low s st : _} → (a : StandsSecond sc hands ear n epoch low s st)
    → SyncSetting sc hands n (moment sc hands n) s 1 (sync_windows_are sc (moment sc hands n) 1 a.passed.stage.small a.passed.stage.at)
    → MostGood sc (moment sc hands n) → verdict_of (stages_with sc (moment sc hands n) 1) ≡ None
    → {time : _} → HasTimes sc hands ear n epoch st time → {seen : _} → verdict_with seen (stages_with sc (moment sc hands n) 1) ≡ None
    → SawTimes sc (moment sc hands n) (taken_second sc ear epoch st) time seen
    → PassesSecond sc hands ear n epoch st
unfolding after_window
passes_second {sc} {hands} {ear} {n} {epoch} {low} {s} {st} a set most judged {time} times {seen} none saw = record {
  closes = x;
  now = now;
  is = ap (λ o. o.state) is;
  stands = subst (λ k. Stands sc ear now k) tick (subst (λ o. Stands sc ear o.state (suc (epoch + (f0_of sc.sizes sc.plan + sc.plan.l) + (sc.plan.v - 1)))) is x.stands);
  tracks = tracks_sync set a.tracks
      (st.epoch + (f0_of sc.sizes sc.plan + sc.plan.l)) sense right;
  epoch_is = keeps_epoch sc.sizes st 2 (st.epoch + (f0_of sc.sizes sc.plan + sc.plan.l)) sense ∙ a.epoch_is;
  middle = found.tick;
  known = ap (option_map (λ k2. k2 + sc.plan.v + sc.plan.z + sc.plan.c)) (keeps_second sc.sizes st (st.epoch + (f0_of sc.sizes sc.plan + sc.plan.l)) sense found.found);
  least = tick_le ear.clock clock.moves (epoch + (f0_of sc.sizes sc.plan + sc.plan.l)) found.tick
      (omega (arith, (ear_time a.beside (f0_of sc.sizes sc.plan + sc.plan.l)).most, early, found.not_early));
  most = omega (
    arith,
    last,
    found.in_time (epoch + (f0_of sc.sizes sc.plan + sc.plan.l + sc.plan.v - 1))
        (omega (arith, (ear_time a.beside (f0_of sc.sizes sc.plan + sc.plan.l + sc.plan.v - 1)).least, late)),
  );
  near = calls_near_bius a.passed a.beside.near called found.found;
}
  where
    f : ℕ
    f = f0_of sc.sizes sc.plan

    fit : plan_fits sc
    fit = lawful_fits a.beside.law

    at : (moment sc hands n).window ≡ 3 * sync_slot_of sc.sizes + 1
    at = a.passed.stage.at

    clock : Steady (shortest_of sc.plan) (drift_of sc.plan) ear.clock
    clock = steady-ear a.beside.law a.beside.is

    called : IsCalled sc (moment sc hands n) s ear.clock (taken_second sc ear epoch st) time seen
    called = record { most = most; steady = clock; takes = takes_all a times; judged = judged; none = none; saw = saw }

    found : FindsMiddle sc ear.clock (taken_second sc ear epoch st) (from_2 sc low) (to_2 sc low)
    found = calls_found a.passed a.beside.near called

    early : low + sc.plan.p + (f0_of sc.sizes sc.plan + sc.plan.l) * tick_of sc.plan ≤ from_2 sc low + sc.plan.dmin
    early = second_early low sc.plan.p f sc.plan.h sc.plan.l (shortest_of sc.plan) (drift_of sc.plan) sc.plan.dmin fit.before_2

    last : f0_of sc.sizes sc.plan + sc.plan.l + sc.plan.v - 1 + 1 ≡ f0_of sc.sizes sc.plan + sc.plan.l + sc.plan.v
    last = last_plus (f + sc.plan.l) sc.plan.v a.beside.law.plan.v.0

    late : to_2 sc low + sc.plan.dmax ≤ low + (f0_of sc.sizes sc.plan + sc.plan.l + sc.plan.v - 1) * shortest_of sc.plan
    late = second_late low sc.plan.p f sc.plan.h sc.plan.l sc.plan.v (f + sc.plan.l + sc.plan.v - 1) (shortest_of sc.plan) (drift_of sc.plan) sc.plan.dmax last fit.after_2

    span : IsSpan sc st (moment sc hands n).window (sync_slot_of sc.sizes) 2 (f0_of sc.sizes sc.plan + sc.plan.l) sc.plan.v
    span = second_span sc st at a.beside.law.plan.v.0

    sense : ℕ → Sense
    sense = sense_span sc ear (epoch + (f0_of sc.sizes sc.plan + sc.plan.l)) sc.plan.v st (sync_slot_of sc.sizes) 2

    now : NodeState
    now = (close_sync sc.sizes Biu st 2 (st.epoch + (f0_of sc.sizes sc.plan + sc.plan.l)) (sense_span sc ear (epoch + (f0_of sc.sizes sc.plan + sc.plan.l)) sc.plan.v st (sync_slot_of sc.sizes) 2)).state

    is : closing sc ear st (epoch + (f0_of sc.sizes sc.plan + sc.plan.l)) (sc.plan.v - 1)
        ≡ close_sync sc.sizes Biu st 2 (st.epoch + (f0_of sc.sizes sc.plan + sc.plan.l)) (sense_span sc ear (epoch + (f0_of sc.sizes sc.plan + sc.plan.l)) sc.plan.v st (sync_slot_of sc.sizes) 2)
    is = span_closing ear span (has_ticks a.beside.law) a.epoch_is

    here : IsWindow sc.sizes sc.plan st st (epoch + (f0_of sc.sizes sc.plan + sc.plan.l)) (sc.plan.v - 1)
    here =
        span_window st span (has_ticks a.beside.law) a.epoch_is a.turns
        (λ x known. let both : None ≡ Some x = sym a.unknown ∙ known in cc) (omega (arith, a.in_time, a.beside.is.ticks))

    x : ClosesWindow sc ear st st (epoch + (f0_of sc.sizes sc.plan + sc.plan.l)) (sc.plan.v - 1)
    x = closes_window here a.stands

    tick : suc (epoch + (f0_of sc.sizes sc.plan + sc.plan.l) + (sc.plan.v - 1)) ≡ epoch + (f0_of sc.sizes sc.plan + sc.plan.l + sc.plan.v)
    tick = omega (arith, a.beside.law.plan.v.0)

    right : (j : ℕ) → stays_good sc (moment sc hands n) j ≡ true
        → does_wrong (expects_call Biu st 2 j) (sense_span sc ear (epoch + (f0_of sc.sizes sc.plan + sc.plan.l)) sc.plan.v st (sync_slot_of sc.sizes) 2 j) ≡ false
    right j good =
        let was : is_good_now sc (moment sc hands n) Rmu j ≡ true = was_good sc (moment sc hands n) Rmu j good in
        let by : IsCaller sc (moment sc hands n) Rmu 2 j =
        caller (heard-second a.passed) j (ap (is_good sc Rmu j (moment sc hands n).frame) (sym (slot_last sc.sizes 1 at)) ∙ was) in
        let t : TakesCall sc hands ear n epoch st j by.tick = call_taken a by.here by.at in
        let expected : expects_call Biu st 2 j ≡ true = ap (λ x. has x j) a.held.far ∙ a.beside.agree.trusted Rmu j was in
        ap (λ b. does_wrong b (sense j)) expected ∙ ap (does_wrong true) t.sense
