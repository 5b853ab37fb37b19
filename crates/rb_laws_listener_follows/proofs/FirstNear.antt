-- A listener that has learned begins its first frame near all good nodes.
use Rattle.std.proofs.{Common.{◌≡◌, ℕ, suc, ◌+◌, ◌-◌, ◌*◌, ◌/◌, ◌%◌, ◌<◌, ◌≤◌, ◌==◌, not, Bool, true, false, List, [], ◌∷◌, Option, Some, None, is_some, length, if◌then◌else◌, refl, sym, ◌∙◌, ap, subst, arith}, lemmas.Bool.{eq-eqb, ltb-true}, lemmas.Option.same_Some}
use Rattle.rb_base.specs.{Nodes.{has, set_of, size}, Nodes.Side, Nodes.Side.{Biu, Rmu}, Sizes.sync_slot_of, declared.values.See.TheVariants.Nothing}
use Rattle.rb_base.proofs.{Plain.{and_first, eq_self, some-from}, Sets.has-set_of, SetSizes.size_within}
use Rattle.rb_rules.specs.{declared.sense.Sense.Sense, Clock.{IsStamp, stamp_of, time_of}, Goodness.{Scenario, clock_of, is_good}, Hearing.{judged_see, sending}, Judging.{JudgedStage, good_now, is_suspect}, Lawful.{IsDelay, IsLawful}, Moments.{IsComplete, IsGoodBefore, IsRunning, before_slot, before_stage, time_in_frame}, NodeState.{NodeState, trusted_of}, Plan.shortest_of, Ports.HandIn, Rounds.{Moment, moment, windows_in}, Sense.{stamp_in, value_in}, ExactStage.see_value, Slots.{role_of, sender_in}, SyncStage.{call_of, call_tick_of, see_time}, Book.judged_of}
use Rattle.rb_rules.proofs.{Stamps.{one_stamp, stamp_of-is}, Slots.sync_role}
use Rattle.rb_laws_agreement.proofs.{Agreement.{IsAgreed, agreement}, Goodnesses.slot_last, Invariant.{IsGoodNode, is_good_now}, JudgedWindows.rows_of, NodeWindows.{Windows, sync_windows_are, word_at}, Places.{IsPlaced, complete_before, placed, running_earlier}}
use Rattle.rb_laws_synchrony.proofs.{PlanNumbers.drift_of, Times.Steady}
use Rattle.rb_listen.specs.Lessons.{record_of, recorded_of, stage_recorded, trusted_rmus}
use Rattle.rb_laws_listener_near.specs.{Calls.{AreMostGood, ComesAfter, IsGoodInSync, SawTheTimes, TakesTheCalls}, Judged.verdict_with, Laws.LieWithin}
use Rattle.rb_laws_listener_near.proofs.FramesNear.{frames_near}
use Rattle.rb_laws_listener_learns.specs.{Deciding.DecidesBy, Ears.{Ear, HearsTheRun, IsEar, SendsIn, coming_to, is_always_good}, Learned.{HasCall, HasLearned}, Receivers.{IsCalm, call_time, is_idle, is_nobody, see_learned, see_recorded, seen_learned, stamp_seen, timed_see}}
use Rattle.rb_laws_listener_learns.proofs.{Calling.call-sending, CallsSent.sends-at, FrameStages.{IsStepped, at-window, first_of_frame, place_at, stepped, told-now}, Fresh.always-good-in, Learns.{learned-verdict, learns}, Together.steady-ear, TrustedSets.{GoodThere, IsIn, KnowsAt, good-there, knows-at}}
use Rattle.rb_laws_listener_follows.specs.{InTime.BeginsNear, Laws.FirstFramesBeginNear}
use Rattle.rb_laws_listener_follows.proofs.{Begun.{HasBegun, has_begun}, TrustedSights.{only_of, seen_of, sight_of, verdict_same}}

-- What it took, and when.

abbrev taken_learned : Scenario → List Sense → ℕ → Option ℕ
taken_learned sc records = recorded_of stamp_in records (trusted_rmus sc.sizes records) (sync_slot_of sc.sizes)

abbrev time_learned : Scenario → Ear → ℕ → List Sense → ℕ → ℕ
time_learned sc ear learned records j = call_time sc ear learned j (stamp_seen (see_time (taken_learned sc records j)))

stamp-seen : {o k : _} → o ≡ Some k → stamp_seen (see_time o) ≡ k
stamp-seen e = ap (λ x. stamp_seen (see_time x)) e

-- the listener trusts the RMU from which it took something, and that is recorded
record IsTakenOf (sc : Scenario) (records : List Sense) (j k : ℕ) : Type 0 where
  pub trusts : has (trusted_rmus sc.sizes records) j ≡ true
  pub recorded : stamp_in (record_of records (sync_slot_of sc.sizes) j) ≡ Some k

taken-of : (sc : Scenario) (records : List Sense) (j : ℕ) {k : ℕ} → taken_learned sc records j ≡ Some k → IsTakenOf sc records j k
taken-of sc records j {k} e = go (has (trusted_rmus sc.sizes records) j) refl e
  where
    go : (b : Bool) → has (trusted_rmus sc.sizes records) j ≡ b → (if b then stamp_in (record_of records (sync_slot_of sc.sizes) j) else None) ≡ Some k → IsTakenOf sc records j k
    go true t e = record { trusts = t; recorded = e }
    go false t e = cc

-- What it saw.

sight-is : (sc : Scenario) (ear : Ear) (learned : ℕ) (records : List Sense) (j : ℕ)
    → sight_of (trusted_rmus sc.sizes records) (λ j. timed_see sc ear learned j (see_time (stamp_in (record_of records (sync_slot_of sc.sizes) j)))) j
    ≡ judged_see (time_learned sc ear learned records j) (see_time (taken_learned sc records j))
sight-is sc ear learned records j = go (has (trusted_rmus sc.sizes records) j) (stamp_in (record_of records (sync_slot_of sc.sizes) j))
  where
    go : (b : Bool) (o : Option ℕ) → (if b then timed_see sc ear learned j (see_time o) else Nothing)
        ≡ judged_see (call_time sc ear learned j (stamp_seen (see_time (if b then o else None)))) (see_time (if b then o else None))
    go true o = refl
    go false o = refl

saw-in-sync : (sc : Scenario) (ear : Ear) (learned : ℕ) (records : List Sense) {window : ℕ} (s : JudgedStage) → window ≡ 3 * sync_slot_of sc.sizes + 1
    → seen_learned sc ear learned records window s ≡ Some (λ j. timed_see sc ear learned j (see_time (stamp_in (record_of records (sync_slot_of sc.sizes) j))))
saw-in-sync sc ear learned records {window} s is =
    let at : window / 3 ≡ sync_slot_of sc.sizes = omega (arith, is) in
    let stage : window % 3 + 1 ≡ 2 = omega (arith, is) in
    let test : (window % 3 + 1 == stage_recorded (role_of sc.sizes (window / 3))) ≡ true =
    eq-eqb (window % 3 + 1) (stage_recorded (role_of sc.sizes (window / 3))) (stage ∙ sym (ap (λ x. stage_recorded (role_of sc.sizes x)) at ∙ ap stage_recorded (sync_role sc.sizes))) in
    ap (λ b. if b then Some (see_learned sc ear learned records (window / 3) s) else None) test
    ∙ ap (λ x. Some (see_learned sc ear learned records x s)) at
    ∙ ap (λ (b : Bool). Some (λ j. if b then Nothing else timed_see sc ear learned j (see_recorded sc.sizes records (sync_slot_of sc.sizes) j))) idle
    ∙ ap (λ (b : Bool). Some (λ j. timed_see sc ear learned j
    (if b then see_time (stamp_in (record_of records (sync_slot_of sc.sizes) j)) else see_value (value_in (record_of records (sync_slot_of sc.sizes) j))))) (eq_self (sync_slot_of sc.sizes))
  where
    idle : is_idle sc.sizes s (sync_slot_of sc.sizes) ≡ false
    idle = ap (λ r. is_nobody (sender_in (s.trusted Biu) (s.trusted Rmu) [] r)) (sync_role sc.sizes)

-- More than half of all RMUs are good.

most-good : {sc hands ear : _} → IsLawful sc → HearsTheRun sc hands ear → (frame : ℕ) → IsRunning (before_slot sc hands frame (sync_slot_of sc.sizes)) → AreMostGood sc frame
most-good {sc} {hands} law run frame running =
    let most : sc.sizes.rmus < 2 * size (set_of (is_always_good sc hands)) = ltb-true sc.sizes.rmus (2 * size (set_of (is_always_good sc hands))) run.most_good in
    let fewer : size (set_of (is_always_good sc hands)) ≤ size (set_of (λ j. is_good sc Rmu j frame (sync_slot_of sc.sizes))) =
    size_within (set_of (is_always_good sc hands)) (set_of (λ j. is_good sc Rmu j frame (sync_slot_of sc.sizes))) (λ j below h.
    has-set_of j (λ j. is_good sc Rmu j frame (sync_slot_of sc.sizes)) below ∙ always-good-in hands law j frame (sync_slot_of sc.sizes) running (sym (has-set_of j (is_always_good sc hands) below) ∙ h)) in
    omega (arith, most, fewer)

-- before stage 2 of the sync slot of a frame after the first, all stages of the frame so far were
-- judged
long-stages : {sc : _} (hands : List HandIn) → IsLawful sc → (f : ℕ) → IsRunning (before_stage sc hands (suc f) (sync_slot_of sc.sizes) 2)
    → length (before_stage sc hands (suc f) (sync_slot_of sc.sizes) 2).book.stages ≡ 3 * sync_slot_of sc.sizes + 1
long-stages {sc} hands law f running =
    subst (λ x. length (moment sc hands x).book.stages ≡ 3 * sync_slot_of sc.sizes + 1) place
    (at-window law complete (3 * sync_slot_of sc.sizes + 1) (omega arith) (subst (λ x. IsRunning (moment sc hands x)) (sym place) running)).long
  where
    place : 3 * sync_slot_of sc.sizes + 1 + first_of_frame sc (suc f) ≡ suc f * (windows_in sc.sizes + 1) + 3 * sync_slot_of sc.sizes + 2 - 1
    place = omega arith

    complete : IsComplete sc hands f (sync_slot_of sc.sizes)
    complete =
        running_earlier sc hands (f * (windows_in sc.sizes + 1) + 3 * sync_slot_of sc.sizes + 4 - 1) (suc f * (windows_in sc.sizes + 1) + 3 * sync_slot_of sc.sizes + 2 - 1) (omega arith) running

-- The whole.

pub first_near : {sc hands : _} → IsLawful sc → {ear : _} → IsEar sc ear → HearsTheRun sc hands ear → {learned tick s : _} → DecidesBy sc hands ear learned tick s
    → IsCalm sc hands ear learned s.lesson.records learned (sync_slot_of sc.sizes) → {first : _} → HasLearned sc hands ear learned tick s.lesson.records first → BeginsNear sc hands ear (learned + 1) first.epoch
first_near {sc} {hands} law {ear} is run {learned} {tick} {s} decides calm {first} l = record {
  past = omega (arith, l.ahead);
  near = λ me i st h. near me i st (subst (λ f. IsGoodBefore sc hands f 0 me i st) (let e : learned + 1 ≡ suc learned = omega arith in e) h);
}
  where
    slot : ℕ
    slot = sync_slot_of sc.sizes

    records : List Sense
    records = s.lesson.records

    n : ℕ
    n = learned * (windows_in sc.sizes + 1) + 3 * sync_slot_of sc.sizes + 2 - 1

    m : Moment
    m = moment sc hands (learned * (windows_in sc.sizes + 1) + 3 * sync_slot_of sc.sizes + 2 - 1)

    third_is : suc (learned * (windows_in sc.sizes + 1) + 3 * sync_slot_of sc.sizes + 2 - 1) ≡ learned * (windows_in sc.sizes + 1) + 3 * sync_slot_of sc.sizes + 3 - 1
    third_is = omega arith

    running : IsRunning (before_stage sc hands learned (sync_slot_of sc.sizes) 2)
    running = complete_before sc hands learned (sync_slot_of sc.sizes) 2 (omega arith) calm.complete

    p : IsPlaced sc hands learned (sync_slot_of sc.sizes) 2
    p = placed hands law learned (sync_slot_of sc.sizes) 2 (omega arith) (omega arith) (omega arith) running

    at : (before_stage sc hands learned (sync_slot_of sc.sizes) 2).window ≡ 3 * sync_slot_of sc.sizes + 1
    at = p.window_is

    a : IsAgreed sc hands (learned * (windows_in sc.sizes + 1) + 3 * sync_slot_of sc.sizes + 2 - 1)
    a = agreement hands law (learned * (windows_in sc.sizes + 1) + 3 * sync_slot_of sc.sizes + 2 - 1) running

    k : KnowsAt sc hands ear learned s.lesson.records
    k = knows-at law is run decides

    here : IsIn sc hands learned (learned * (windows_in sc.sizes + 1) + 3 * sync_slot_of sc.sizes + 2 - 1)
    here = record { running = running; frame_is = p.frame_is }

    g : GoodThere sc hands (learned * (windows_in sc.sizes + 1) + 3 * sync_slot_of sc.sizes + 2 - 1) k.some_good.j
    g = good-there hands law n k.some_good.j running k.some_good.good

    set_is : trusted_rmus sc.sizes s.lesson.records ≡ a.shared.trusted Rmu
    set_is = sym (k.trust n here Rmu k.some_good.j g.st g.node Rmu) ∙ (a.agree.nodes Rmu k.some_good.j g.st g.node).trusted Rmu

    window_good : (me : Side) (i : ℕ) → is_good sc me i learned (sync_slot_of sc.sizes) ≡ true → is_good_now sc (before_stage sc hands learned (sync_slot_of sc.sizes) 2) me i ≡ true
    window_good me i good =
        ap (is_good sc me i (before_stage sc hands learned (sync_slot_of sc.sizes) 2).frame) (slot_last sc.sizes 1 at)
        ∙ ap (λ f. is_good sc me i f (sync_slot_of sc.sizes)) p.frame_is ∙ good

    node : (me : Side) (i : ℕ) (st : NodeState) → IsGoodInSync sc hands learned me i st → IsGoodNode sc (before_stage sc hands learned (sync_slot_of sc.sizes) 2) me i st
    node me i st h = record { there = h.state; good = window_good me i h.good }

    trusts : (j : ℕ) → is_some (taken_learned sc s.lesson.records j) ≡ true → (me : Side) (i : ℕ) (st : NodeState) → IsGoodInSync sc hands learned me i st → has (trusted_of Rmu me st) j ≡ true
    trusts j some me i st h =
        let found : (k : ℕ) × (taken_learned sc s.lesson.records j ≡ Some k) = some-from (taken_learned sc s.lesson.records j) some in
        ap (λ x. has x j) (k.trust n here me i st (node me i st h) Rmu) ∙ (taken-of sc s.lesson.records j found.1).trusts

    stamped : (j t : ℕ) → taken_learned sc s.lesson.records j ≡ Some t → (1 ≤ t) × (stamp_of ear.clock (time_learned sc ear learned s.lesson.records j) ≡ t)
    stamped j t e =
        let o : IsTakenOf sc s.lesson.records j t = taken-of sc s.lesson.records j e in
        let within : j < sc.sizes.rmus = a.agree.inside Rmu j (ap (λ x. has x j) (sym set_is) ∙ o.trusts) in
        let both = l.stamped j t within o.recorded in
        let time : call_time sc ear learned j (stamp_seen (see_time (taken_learned sc s.lesson.records j))) ≡ call_time sc ear learned j t =
        ap (call_time sc ear learned j) (stamp-seen e) in
        (both.0, ap (stamp_of ear.clock) time ∙ stamped-is (call_time sc ear learned j t) t both.1)
      where
        clock : Steady (shortest_of sc.plan) (drift_of sc.plan) ear.clock
        clock = steady-ear law is

        stamped-is : (time t : ℕ) → IsStamp ear.clock time t → stamp_of ear.clock time ≡ t
        stamped-is time t stamp = one_stamp ear.clock time (stamp_of ear.clock time) t (stamp_of-is ear.clock clock.moves time) stamp

    calls : (j : ℕ) (source : NodeState) (at_tick : ℕ) → IsGoodInSync sc hands learned Rmu j source → call_tick_of sc.sizes sc.plan source 2 ≡ Some at_tick
        → (taken_learned sc s.lesson.records j ≡ Some (stamp_of ear.clock (time_learned sc ear learned s.lesson.records j)))
        × ComesAfter sc (time_of (clock_of sc Rmu j) at_tick) (time_learned sc ear learned s.lesson.records j)
    calls j source at_tick h called = (
      taken ∙ ap (λ x. Some x) (sym (stamped j c.stamp taken).1),
      record { least = omega (arith, came, ticks, delay.least); most = omega (arith, came, ticks, delay.greatest) },
    )
      where
        c : HasCall sc hands ear learned s.lesson.records j
        c = l.calls j h.good

        in_set : has (trusted_rmus sc.sizes s.lesson.records) j ≡ true
        in_set = ap (λ x. has x j) set_is ∙ a.agree.trusted Rmu j (window_good Rmu j h.good)

        taken : taken_learned sc s.lesson.records j ≡ Some c.stamp
        taken = ap (λ b. if b then stamp_in (record_of s.lesson.records (sync_slot_of sc.sizes) j) else None) in_set ∙ c.recorded

        came : time_learned sc ear learned s.lesson.records j ≡ (coming_to sc ear j learned c.sending).time
        came = ap (call_time sc ear learned j) (stamp-seen taken) ∙ c.time

        delay : IsDelay sc.plan (ear.delay j (record { frame = learned; slot = c.sending.message.slot; stage = c.sending.message.stage }))
        delay = is.delays j (record { frame = learned; slot = c.sending.message.slot; stage = c.sending.message.stage })

        sent : SendsIn sc hands (learned * (windows_in sc.sizes + 1) + 3 * sync_slot_of sc.sizes + 2 - 1) j c.sending
        sent = subst (λ x. SendsIn sc hands x j c.sending) (let e : learned * (windows_in sc.sizes + 1) + (3 * sync_slot_of sc.sizes + 1) ≡ learned * (windows_in sc.sizes + 1) + 3 * sync_slot_of sc.sizes + 2 - 1 = omega arith in e) c.sent

        states : sent.state ≡ source
        states = same_Some sent.state source (sym sent.good.0 ∙ h.state)

        ws : Windows sc (moment sc hands (learned * (windows_in sc.sizes + 1) + 3 * sync_slot_of sc.sizes + 2 - 1)) (sync_slot_of sc.sizes) 2
        ws = sync_windows_are sc m 1 (omega arith) at

        sends : record { tick = at_tick; message = call_of sc.sizes source 2 } ≡ c.sending
        sends =
            same_Some (record { tick = at_tick; message = call_of sc.sizes source 2 }) c.sending
            (sym (call-sending sc.sizes sc.plan j source (word_at sc m (sync_slot_of sc.sizes) j) called)
            ∙ ap (λ x. sending sc.sizes sc.plan Rmu j x (sync_slot_of sc.sizes) 2 (word_at sc m (sync_slot_of sc.sizes) j)) (sym states)
            ∙ sends-at sent ws)

        ticks : time_of (clock_of sc Rmu j) at_tick ≡ time_of (clock_of sc Rmu j) c.sending.tick
        ticks = ap (λ x. time_of (clock_of sc Rmu j) x.tick) sends

    takes : TakesTheCalls sc hands learned ear.clock (taken_learned sc s.lesson.records) (time_learned sc ear learned s.lesson.records)
    takes = record { trusts = trusts; stamped = stamped; calls = calls }

    -- the step through the judged stage
    step : IsStepped sc hands (learned * (windows_in sc.sizes + 1) + 3 * sync_slot_of sc.sizes + 2 - 1)
    step =
        stepped sc hands n (omega (arith, at))
        (subst (λ x. IsRunning (moment sc hands x)) (sym third_is) (complete_before sc hands learned (sync_slot_of sc.sizes) 3 (omega arith) calm.complete))

    stages_are : (before_stage sc hands learned (sync_slot_of sc.sizes) 3).book.stages ≡ judged_of sc (place_at sc m) (rows_of sc m) ∷ m.book.stages
    stages_are = ap (λ x. (moment sc hands x).book.stages) (sym third_is) ∙ ap (λ x. x.book.stages) step.is ∙ step.judged.stages

    told : (judged_of sc (place_at sc m) (rows_of sc m)).trusted Rmu ≡ trusted_rmus sc.sizes s.lesson.records
    told =
        told-now (sync_windows_are sc m 1 (omega arith) at) (place_at sc m) a.shared.trusted
        (λ me i st there good kind.
        (a.agree.nodes me i st (record { there = there; good = ap (is_good sc me i m.frame) (slot_last sc.sizes 1 at) ∙ good })).trusted kind)
        step.judged.none Rmu ∙ sym set_is

    all_in : (j : ℕ) → is_suspect Rmu (before_stage sc hands learned (sync_slot_of sc.sizes) 3).book.stages j ≡ true → has (trusted_rmus sc.sizes s.lesson.records) j ≡ true
    all_in j suspect =
        let now : is_suspect Rmu (judged_of sc (place_at sc m) (rows_of sc m) ∷ m.book.stages) j ≡ true = subst (λ x. is_suspect Rmu x j ≡ true) stages_are suspect in
        ap (λ x. has x j) (sym told) ∙ and_first (has ((judged_of sc (place_at sc m) (rows_of sc m)).trusted Rmu) j) (not (has (good_now Rmu (judged_of sc (place_at sc m) (rows_of sc m) ∷ m.book.stages)) j)) now

    p3 : IsPlaced sc hands learned (sync_slot_of sc.sizes) 3
    p3 = placed hands law learned (sync_slot_of sc.sizes) 3 (omega arith) (omega arith) (omega arith) (complete_before sc hands learned (sync_slot_of sc.sizes) 3 (omega arith) calm.complete)

    none : verdict_with (only_of (trusted_rmus sc.sizes s.lesson.records) (seen_learned sc ear learned s.lesson.records)) (before_stage sc hands learned (sync_slot_of sc.sizes) 3).book.stages ≡ None
    none =
        verdict_same (trusted_rmus sc.sizes s.lesson.records) (seen_learned sc ear learned s.lesson.records) (before_stage sc hands learned (sync_slot_of sc.sizes) 3).book.stages all_in
        ∙ learned-verdict sc ear s.lesson.records (before_stage sc hands learned (sync_slot_of sc.sizes) 3).book.stages p3.frame_is
        (calm.holds (learned * (windows_in sc.sizes + 1) + 3 * sync_slot_of sc.sizes + 3 - 1) (omega arith) (omega (arith, p3.frame_is)) (omega (arith, p3.window_is)))

    long : length m.book.stages ≡ 3 * sync_slot_of sc.sizes + 1
    long =
        subst (λ x. length (before_stage sc hands x (sync_slot_of sc.sizes) 2).book.stages ≡ 3 * sync_slot_of sc.sizes + 1) (sym k.learned_is)
        (long-stages hands law k.frame_before (subst (λ x. IsRunning (before_stage sc hands x (sync_slot_of sc.sizes) 2)) k.learned_is running))

    saw : SawTheTimes (before_stage sc hands learned (sync_slot_of sc.sizes) 3).book.stages (taken_learned sc s.lesson.records) (time_learned sc ear learned s.lesson.records)
        (only_of (trusted_rmus sc.sizes s.lesson.records) (seen_learned sc ear learned s.lesson.records))
    saw = record {
      newest = judged_of sc (place_at sc m) (rows_of sc m);
      earlier = m.book.stages;
      are = stages_are;
      sight = sight_of (trusted_rmus sc.sizes s.lesson.records) (λ j. timed_see sc ear learned j (see_time (stamp_in (record_of s.lesson.records (sync_slot_of sc.sizes) j))));
      here = ap (seen_of (trusted_rmus sc.sizes s.lesson.records)) (saw-in-sync sc ear learned s.lesson.records (judged_of sc (place_at sc m) (rows_of sc m)) long);
      is = λ j below. sight-is sc ear learned s.lesson.records j;
    }

    near : (me : Side) (i : ℕ) (st : NodeState) → IsGoodBefore sc hands (suc learned) 0 me i st → LieWithin sc.plan.p (time_of ear.clock first.epoch) (time_in_frame sc me i st 0)
    near me i st h =
        let b : HasBegun sc hands learned me i st = has_begun law calm.complete h in
        let together : LieWithin sc.plan.p (time_of ear.clock (l.middle + sc.plan.v + sc.plan.z + sc.plan.c)) (time_of (clock_of sc me i) b.epoch) =
        frames_near sc hands law learned calm.complete (most-good law run learned (complete_before sc hands learned (sync_slot_of sc.sizes) 1 (omega arith) calm.complete)) ear.clock is.clock (taken_learned sc s.lesson.records) (time_learned sc ear learned s.lesson.records) takes
        (only_of (trusted_rmus sc.sizes s.lesson.records) (seen_learned sc ear learned s.lesson.records)) none saw l.middle l.middle_is me i b.st b.after b.epoch b.known in
        let epoch : b.epoch ≡ st.epoch + 0 = omega (arith, b.epoch_is) in
        subst (λ x. LieWithin sc.plan.p (time_of ear.clock x) (time_of (clock_of sc me i) (st.epoch + 0))) (sym l.epoch_is)
        (subst (λ x. LieWithin sc.plan.p (time_of ear.clock (l.middle + sc.plan.v + sc.plan.z + sc.plan.c)) (time_of (clock_of sc me i) x)) epoch together)

pub first_frames : FirstFramesBeginNear
first_frames sc hands law ear is run learned tick s decides calm =
    let l = learns sc hands law ear is run learned tick s decides calm in (l.0, (l.1.0, first_near law is run decides calm l.1.1))
