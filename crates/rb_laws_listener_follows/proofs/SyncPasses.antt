-- In the first two stages of the sync slot of a frame that it follows, a listener goes from one to
-- the next, and keeps the middle of the calls.
use Rattle.std.proofs.Common.{◌≡◌, ℕ, suc, ◌+◌, ◌-◌, ◌*◌, ◌/◌, ◌%◌, ◌<◌, ◌≤◌, List, length, map, Some, None, get_or, refl, sym, ◌∙◌, ap, subst, arith}
use Rattle.rb_base.specs.{Nodes.Side.Biu, Sizes.{Sizes, sync_slot_of}, declared.values.See.TheVariants.Nothing}
use Rattle.rb_rules.specs.{declared.closing.Closed.Closed, declared.sense.Sense.Sense, Core.state_at, ExactStage.each_node, Goodness.Scenario, Lawful.IsLawful, Moments.{IsComplete, IsRunning}, NodeState.NodeState, Plan.f0_of, Ports.HandIn, Rounds.{moment, windows_in}, Sense.stamp_in, Standing.taken_of, SyncStage.{close_sync, expects_call, see_time, sync_outcome_of}}
use Rattle.rb_rules.proofs.RoundStates.{HasTicks}
use Rattle.rb_laws_agreement.proofs.{ExactAgrees.has_ticks, Invariant.Shared, Places.running_earlier, SyncAgrees.stage_setting}
use Rattle.rb_laws_synchrony.proofs.CallSights.{get-see, stages_with}
use Rattle.rb_laws_listener_near.specs.Judged.{verdict_with}
use Rattle.rb_laws_listener_near.proofs.ListenerNear.{SawTimes}
use Rattle.rb_laws_listener_learns.specs.{Ears.Ear, Receivers.{seen_by, seen_closed, timed_see}}
use Rattle.rb_laws_listener_learns.proofs.{FrameStages.{IsAtWindow, at-window, first_of_frame}, SyncStages.{StageIs, stage_is}}
use Rattle.rb_laws_listener_follows.proofs.{CallTimes.{has_times, time_second}, ExactPasses.{IsHeldTo, StandsAt}, FirstCalls.{IsSpan, PassesFirst, first_span, passes_first, sense_span, span_closing, span_window}, FollowerRuns.{ClosesWindow, IsWindow, Stands, closes_window, closing}, SecondCalls.taken_second, SecondSteps.{PassesSecond, StandsSecond, passes_second, second_span}, SeenPremise.{holds_following, most_now, place_synced, seen_following}, SeenWindows.{IsPlaceOf, NoneSeen, SeesWindow, seen_stays, sees_window}, SyncRuns.{held_in_sync, stands_second}}

-- moment `k` is before stage q + 1 of a frame's sync slot, or before its tail
pub record IsInSync (sc : Scenario) (hands : List HandIn) (frame k q : ℕ) : Type 0 where
  pub window : (moment sc hands k).window ≡ 3 * sync_slot_of sc.sizes + q
  pub frame_is : (moment sc hands k).frame ≡ frame
  pub long : length (moment sc hands k).book.stages ≡ 3 * sync_slot_of sc.sizes + q
  pub running : IsRunning (moment sc hands k)

pub in_sync : {sc hands : _} → IsLawful sc → {f : ℕ} → IsComplete sc hands f (sync_slot_of sc.sizes) → IsComplete sc hands (suc f) (sync_slot_of sc.sizes)
    → {k : ℕ} (q : ℕ) → k ≡ 3 * sync_slot_of sc.sizes + q + first_of_frame sc (suc f) → q ≤ 3 → IsInSync sc hands (suc f) k q
in_sync {sc} {hands} law {f} before complete {k} q is small =
    let running : IsRunning (moment sc hands k) =
    running_earlier sc hands k (suc f * (windows_in sc.sizes + 1) + 3 * sync_slot_of sc.sizes + 4 - 1) (omega (arith, is, small)) complete in
    let at : IsAtWindow sc hands (suc f) (3 * sync_slot_of sc.sizes + q) =
    at-window law before (3 * sync_slot_of sc.sizes + q) (omega (arith, small)) (subst (λ x. IsRunning (moment sc hands x)) is running) in
    record {
      window = ap (λ x. (moment sc hands x).window) is ∙ at.window_is;
      frame_is = ap (λ x. (moment sc hands x).frame) is ∙ at.frame_is;
      long = ap (λ x. length (moment sc hands x).book.stages) is ∙ at.long;
      running = running;
    }

-- ---- what is closed in it

-- a window of the sync slot is closed with its last tick
pub record SpanSees (sc : Scenario) (ear : Ear) (frame w : ℕ) (c : Closed) (k : ℕ) : Type 0 where
  pub seen : seen_by sc ear frame w k ≡ Some c
  pub later : NoneSeen sc ear frame (suc w) k

pub span_sees : {sc ear before st w : _} (q : ℕ) {a ticks epoch frame : ℕ} → IsSpan sc st w (sync_slot_of sc.sizes) (q + 1) a ticks → HasTicks sc.plan → st.epoch ≡ epoch → st.frame ≡ frame
    → w ≡ 3 * sync_slot_of sc.sizes + q → q < 3 → IsWindow sc.sizes sc.plan before st (epoch + a) (ticks - 1) → Stands sc ear before (epoch + a) → ClosesWindow sc ear before st (epoch + a) (ticks - 1)
    → NoneSeen sc ear frame w (epoch + a)
    → SpanSees sc ear frame w (close_sync sc.sizes Biu st (q + 1) (st.epoch + a) (sense_span sc ear (epoch + a) ticks st (sync_slot_of sc.sizes) (q + 1))).closed (epoch + a + ticks)
span_sees {sc} {ear} {st} {w} q {a} {ticks} {epoch} {frame} span has epoch_is frame_is at small here stands closes none = record {
  seen = ap (seen_by sc ear frame w) (sym end) ∙ sees.here ∙ ap (λ o. Some o.closed) is;
  later = subst (λ v. NoneSeen sc ear frame v (epoch + a + ticks)) more (subst (NoneSeen sc ear frame (w + 1)) end sees.later);
}
  where
    is : closing sc ear st (epoch + a) (ticks - 1) ≡ close_sync sc.sizes Biu st (q + 1) (st.epoch + a) (sense_span sc ear (epoch + a) ticks st (sync_slot_of sc.sizes) (q + 1))
    is = span_closing ear span has epoch_is

    slot : sync_slot_of sc.sizes ≡ w / 3
    slot = omega (arith, at, small)

    stage : q ≡ w % 3
    stage = omega (arith, at, small)

    place : IsPlaceOf (closing sc ear st (epoch + a) (ticks - 1)).closed frame w
    place =
        ap (λ o. o.closed.place) is ∙ place_synced sc.sizes st (q + 1) (st.epoch + a) (sense_span sc ear (epoch + a) ticks st (sync_slot_of sc.sizes) (q + 1))
        ∙ ap (λ f. record { frame = f; slot = sync_slot_of sc.sizes; stage = q + 1 }) frame_is
        ∙ ap (λ k. record { frame = frame; slot = k; stage = q + 1 }) slot ∙ ap (λ k. record { frame = frame; slot = w / 3; stage = k + 1 }) stage

    sees : SeesWindow sc ear frame w (closing sc ear st (epoch + a) (ticks - 1)).closed (epoch + a + (ticks - 1))
    sees = sees_window here stands closes none place

    end : suc (epoch + a + (ticks - 1)) ≡ epoch + a + ticks
    end = omega (arith, span.some)

    more : w + 1 ≡ suc w
    more = omega arith

-- ---- stage 1

-- the moment before stage 1 of the sync slot
abbrev pub sync_moment : Scenario → ℕ → ℕ
sync_moment sc frame = 3 * sync_slot_of sc.sizes + first_of_frame sc frame

-- the listener stands before stage 2
pub record StandsAtSecond (sc : Scenario) (hands : List HandIn) (ear : Ear) (frame epoch low : ℕ) : Type 0 where
  pub shared : Shared
  pub st : NodeState
  pub second : StandsSecond sc hands ear (suc (sync_moment sc frame)) epoch low shared st
  pub none : NoneSeen sc ear frame (suc (3 * sync_slot_of sc.sizes)) (epoch + (f0_of sc.sizes sc.plan + sc.plan.l))

pub to_second : {sc hands ear learned records f last epoch low : _} → IsHeldTo sc hands ear learned records f last
    → (x : StandsAt sc hands ear (suc f) (3 * sync_slot_of sc.sizes) epoch low) → IsComplete sc hands (suc f) (sync_slot_of sc.sizes)
    → epoch + (f0_of sc.sizes sc.plan + sc.plan.l) + sc.plan.v ≤ ear.ticks → StandsAtSecond sc hands ear (suc f) epoch low
to_second {sc} {hands} {ear} {f} {epoch} h x complete in_time = record {
  shared = x.shared;
  st = first.now;
  second = stands_second x.abides stage.passes stage.set stage.next_is now.running first second.passes in_time;
  none = subst (NoneSeen sc ear (suc f) (suc (3 * sync_slot_of sc.sizes))) end sees.later;
}
  where
    law : IsLawful sc
    law = x.abides.beside.law

    n : ℕ
    n = sync_moment sc (suc f)

    at : IsInSync sc hands (suc f) (sync_moment sc (suc f)) 0
    at = in_sync law h.complete complete 0 (omega arith) (omega arith)

    now : IsInSync sc hands (suc f) (suc (sync_moment sc (suc f))) 1
    now = in_sync law h.complete complete 1 (omega arith) (omega arith)

    after : IsInSync sc hands (suc f) (suc (suc (sync_moment sc (suc f)))) 2
    after = in_sync law h.complete complete 2 (omega arith) (omega arith)

    stage : StageIs sc hands (sync_moment sc (suc f)) x.shared 0
    stage = stage_is law 0 x.abides.beside.agree (omega arith) at.window now.running

    second : StageIs sc hands (suc (sync_moment sc (suc f))) x.shared 1
    second = stage_is law 1 stage.agree (omega arith) now.window after.running

    first : PassesFirst sc hands ear (sync_moment sc (suc f)) epoch x.before x.st
    first = passes_first x.abides stage.passes stage.set stage.next_is (omega (arith, in_time))

    f0 : ℕ
    f0 = f0_of sc.sizes sc.plan

    span : IsSpan sc x.st (3 * sync_slot_of sc.sizes) (sync_slot_of sc.sizes) (0 + 1) (f0_of sc.sizes sc.plan) sc.plan.l
    span = first_span sc x.st (omega arith) law.plan.l.0

    same : (moment sc hands (sync_moment sc (suc f))).window * sc.plan.l ≡ f0_of sc.sizes sc.plan
    same = ap (λ k. k * sc.plan.l) x.at.window_is

    stands : Stands sc ear x.before (epoch + f0_of sc.sizes sc.plan)
    stands = subst (λ k. Stands sc ear x.before (epoch + k)) same x.abides.stands

    turns : state_at sc.sizes sc.plan Biu x.before (epoch + f0_of sc.sizes sc.plan) ≡ x.st
    turns = subst (λ k. state_at sc.sizes sc.plan Biu x.before (epoch + k) ≡ x.st) same x.abides.turns

    here : IsWindow sc.sizes sc.plan x.before x.st (epoch + f0_of sc.sizes sc.plan) (sc.plan.l - 1)
    here =
        span_window x.before span (has_ticks law) x.abides.epoch_is turns
        (λ y known. let both : None ≡ Some y = sym x.abides.unknown ∙ known in cc) (omega (arith, in_time, x.abides.beside.is.ticks))

    frame : x.st.frame ≡ suc f
    frame = (held_in_sync stage.passes x.abides.tracks).frame ∙ at.frame_is

    sees : SpanSees sc ear (suc f) (3 * sync_slot_of sc.sizes)
        (close_sync sc.sizes Biu x.st (0 + 1) (x.st.epoch + f0_of sc.sizes sc.plan) (sense_span sc ear (epoch + f0_of sc.sizes sc.plan) sc.plan.l x.st (sync_slot_of sc.sizes) (0 + 1))).closed
        (epoch + f0_of sc.sizes sc.plan + sc.plan.l)
    sees =
        span_sees 0 span (has_ticks law) x.abides.epoch_is frame (omega arith) (omega arith) here stands first.closes
        x.none

    end : epoch + f0_of sc.sizes sc.plan + sc.plan.l ≡ epoch + (f0_of sc.sizes sc.plan + sc.plan.l)
    end = omega arith

-- what all good nodes have in common stays
pub second_shared : {sc hands ear learned records f last epoch low : _} → (h : IsHeldTo sc hands ear learned records f last)
    → (x : StandsAt sc hands ear (suc f) (3 * sync_slot_of sc.sizes) epoch low) → (complete : IsComplete sc hands (suc f) (sync_slot_of sc.sizes))
    → (in_time : epoch + (f0_of sc.sizes sc.plan + sc.plan.l) + sc.plan.v ≤ ear.ticks) → (to_second h x complete in_time).shared ≡ x.shared
unfolding to_second
second_shared h x complete in_time = refl

-- ---- stage 2

sees_second : (sizes : Sizes) (st : NodeState) (first : ℕ) (sense : ℕ → Sense)
    → (close_sync sizes Biu st 2 first sense).closed.sees ≡ map see_time (each_node (taken_of stamp_in st.far (expects_call Biu st 2) sense))
unfolding close_sync sync_outcome_of
sees_second sizes st first sense = refl

-- the listener goes through stage 2 of the sync slot, and has closed no later window
pub record PassesAtSecond (sc : Scenario) (hands : List HandIn) (ear : Ear) (frame epoch low : ℕ) (x : StandsAtSecond sc hands ear frame epoch low) : Type 0 where
  pub through : PassesSecond sc hands ear (suc (sync_moment sc frame)) epoch x.st
  pub none : NoneSeen sc ear frame (suc (suc (3 * sync_slot_of sc.sizes))) (epoch + (f0_of sc.sizes sc.plan + sc.plan.l + sc.plan.v))

pub through_second : {sc hands ear learned records f last epoch low : _} → IsHeldTo sc hands ear learned records f last
    → (x : StandsAtSecond sc hands ear (suc f) epoch low) → IsComplete sc hands (suc f) (sync_slot_of sc.sizes) → suc (suc (sync_moment sc (suc f))) ≤ last
    → PassesAtSecond sc hands ear (suc f) epoch low x
through_second {sc} {hands} {ear} {records} {f} {epoch} h x complete le = record {
  through = through;
  none = subst (NoneSeen sc ear (suc f) (suc (suc (3 * sync_slot_of sc.sizes)))) end sees.later;
}
  where
    law : IsLawful sc
    law = x.second.beside.law

    n : ℕ
    n = suc (sync_moment sc (suc f))

    f0 : ℕ
    f0 = f0_of sc.sizes sc.plan

    at : IsInSync sc hands (suc f) (suc (sync_moment sc (suc f))) 1
    at = in_sync law h.complete complete 1 (omega arith) (omega arith)

    after : IsInSync sc hands (suc f) (suc (suc (sync_moment sc (suc f)))) 2
    after = in_sync law h.complete complete 2 (omega arith) (omega arith)

    stage : StageIs sc hands (suc (sync_moment sc (suc f))) x.shared 1
    stage = stage_is law 1 x.second.beside.agree (omega arith) at.window after.running

    frame : x.st.frame ≡ suc f
    frame = x.second.held.frame ∙ at.frame_is

    w : ℕ
    w = suc (3 * sync_slot_of sc.sizes)

    span : IsSpan sc x.st (suc (3 * sync_slot_of sc.sizes)) (sync_slot_of sc.sizes) (1 + 1) (f0_of sc.sizes sc.plan + sc.plan.l) sc.plan.v
    span = second_span sc x.st (omega arith) law.plan.v.0

    here : IsWindow sc.sizes sc.plan x.st x.st (epoch + (f0_of sc.sizes sc.plan + sc.plan.l)) (sc.plan.v - 1)
    here =
        span_window x.st span (has_ticks law) x.second.epoch_is x.second.turns
        (λ y known. let both : None ≡ Some y = sym x.second.unknown ∙ known in cc) (omega (arith, x.second.in_time, x.second.beside.is.ticks))

    closes : ClosesWindow sc ear x.st x.st (epoch + (f0_of sc.sizes sc.plan + sc.plan.l)) (sc.plan.v - 1)
    closes = closes_window here x.second.stands

    sense : ℕ → Sense
    sense = sense_span sc ear (epoch + (f0_of sc.sizes sc.plan + sc.plan.l)) sc.plan.v x.st (sync_slot_of sc.sizes) 2

    c : Closed
    c = (close_sync sc.sizes Biu x.st (1 + 1) (x.st.epoch + (f0_of sc.sizes sc.plan + sc.plan.l)) (sense_span sc ear (epoch + (f0_of sc.sizes sc.plan + sc.plan.l)) sc.plan.v x.st (sync_slot_of sc.sizes) (1 + 1))).closed

    sees : SpanSees sc ear (suc f) (suc (3 * sync_slot_of sc.sizes)) c (epoch + (f0_of sc.sizes sc.plan + sc.plan.l) + sc.plan.v)
    sees =
        span_sees 1 span (has_ticks law) x.second.epoch_is frame (omega arith) (omega arith) here x.second.stands closes x.none

    end : epoch + (f0_of sc.sizes sc.plan + sc.plan.l) + sc.plan.v ≡ epoch + (f0_of sc.sizes sc.plan + sc.plan.l + sc.plan.v)
    end = omega arith

    seen_end : seen_by sc ear (suc f) (suc (3 * sync_slot_of sc.sizes)) ear.ticks ≡ Some c
    seen_end =
        let k : ℕ = epoch + (f0 + sc.plan.l) + sc.plan.v in
        let e : ear.ticks - k + k ≡ ear.ticks = omega (arith, x.second.in_time) in
        ap (seen_by sc ear (suc f) w) (sym e) ∙ seen_stays sc ear (suc f) w k sees.seen (ear.ticks - k)

    number : length (moment sc hands (suc (sync_moment sc (suc f)))).book.stages ≡ suc (3 * sync_slot_of sc.sizes)
    number = omega (arith, at.long)

    saw : SawTimes sc (moment sc hands (suc (sync_moment sc (suc f)))) (taken_second sc ear epoch x.st) (time_second sc ear epoch x.st) (seen_following sc ear (suc f))
    saw = record {
      sight = λ j. timed_see sc ear (suc f) j (get_or c.sees j Nothing);
      here = ap (λ k. seen_closed sc ear (suc f) (seen_by sc ear (suc f) k ear.ticks)) number ∙ ap (seen_closed sc ear (suc f)) seen_end;
      is = λ j small.
          ap (timed_see sc ear (suc f) j) (ap (λ l. get_or l j Nothing) (sees_second sc.sizes x.st (x.st.epoch + (f0 + sc.plan.l)) sense) ∙ get-see (taken_second sc ear epoch x.st) j small)
          ∙ ap (λ g. timed_see sc ear g j (see_time (taken_second sc ear epoch x.st j))) (sym frame);
    }

    judged : verdict_with (seen_following sc ear (suc f)) (stages_with sc (moment sc hands (suc (sync_moment sc (suc f)))) 1) ≡ None
    judged =
        ap (verdict_with (seen_following sc ear (suc f))) (sym stage.passes.stages ∙ ap (λ m. m.book.stages) stage.next_is)
        ∙ holds_following sc hands ear records h.holds (suc n) le after.frame_is h.later (omega (arith, after.window))

    through : PassesSecond sc hands ear (suc (sync_moment sc (suc f))) epoch x.st
    through =
        passes_second x.second (stage_setting 1 x.second.passed.stage.small x.second.passed.stage.at law x.second.beside.agree stage.through)
        (most_now law x.second.beside.run n at.running) stage.through.no_cause (has_times x.second) judged saw
