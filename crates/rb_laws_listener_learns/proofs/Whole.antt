-- At a decision all is recorded that the RMUs sent which were good up to the calls of the learned
-- frame.
use Rattle.std.proofs.{Common.{◌≡◌, ℕ, zero, suc, ◌+◌, ◌-◌, ◌*◌, ◌%◌, ◌<◌, ◌≤◌, ◌==◌, ◌&&◌, ◌||◌, nat_lt, true, false, Some, None, List, get_or, slice_get, inl, inr, refl, sym, ◌∙◌, ap, subst, arith}, lemmas.Bool.{cases_lt, eq-eqb, le-leb, ltb-true, or_cases}, lemmas.Option.same_Some, Math.Nat.mul-le-mul_right}
use Rattle.rb_base.specs.{Nodes.Side.Rmu, Sizes.sync_slot_of}
use Rattle.rb_rules.specs.{declared.message.Message.Message, declared.role.Role.Role, declared.role.Role.TheVariants.{Schedule, Data, DiagBiu, DiagRmu, Sync}, Core.is_tick, declared.sense.Sense.Sense, declared.sense.Sense.TheVariants.{Silent, One, Bad}, Clock.{IsStamp, stamp_of, time_of}, Goodness.{Scenario, clock_of, is_before, is_good}, Headline.stated_skew, Hearing.{Coming, Sending}, Lawful.{IsDelay, IsLawful}, Moments.{IsRunning, before_slot, time_in_frame}, Plan.{f0_of, shortest_of}, Ports.HandIn, Rounds.{moment, windows_in}, Sense.tag_suits, Slots.role_of, Spelling.message_in}
use Rattle.rb_base.proofs.Plain.{and_first, and_second}
use Rattle.rb_rules.proofs.{Drift.times_rise_to, Slots.sync_role, Spellings.read_back, Stamps.{one_stamp, stamp_of-is}}
use Rattle.rb_laws_agreement.proofs.{Agreement.agreement, Invariant.IsGoodNode, Places.{IsPlaced, good_before_slot, running_earlier}, Places.placed as place-of}
use Rattle.rb_laws_synchrony.proofs.{EpochTicks.within_run, PlanNumbers.{drift_of, eps_of}, Synchronous.to_2, Synchrony.{IsSynchronous, synchrony}, Times.{lawful_fits, plan_fits}}
use Rattle.rb_listen.specs.{Lessons.{has_place, record_of, stage_recorded}, Passes.reach_of, declared.search.Search.Search}
use Rattle.rb_laws_listener_learns.specs.{Calling.IsHeardToCall, Deciding.DecidesBy, Ears.{Ear, HearsTheRun, IsEar, IsHeard, IsOfFaulty, IsOfGood, SendsIn, coming_to, listening_at}, Records.{IsOfPlace, RecordsAreWhole}}
use Rattle.rb_laws_listener_learns.proofs.{Apart.{AllWereAt, WasAt, all-were-at, come-apart}, Begins.{begins-later, begins_from, skew-fits}, Calling.heard-to-call, Deciding.{IsAfterCall, IsHeardCall}, Fresh.{next-frame-number, onset-in, same-frame-number, same-moment}, Latest.{earlier-le, whole-earlier}, Learning.{IsFixed, IsFresh, LearnsFrom, fresh-at, ticked}, Moments.{same-coming, same-frame}, Noting.{IsNotedBy, IsPlacedAt, IsSpoilt, IsSpoiltBy}, Recorded.{IsEarlier, placed, reads-sent}, Sendings.{IsInPlace, in-place}, Together.{call-time, come-together, steady-ear}, Walks.{HoldsAt, HoldsIn}, Within.{IsExactAt, after-calls, before-call}}

-- What an RMU sends that turns faulty in a later frame comes after the decision.

-- a later frame begins later, by the skew too, than z ticks of a pass after the calls
begins-late : (low p f h l v z u d least : ℕ) {most : ℕ} (eps w skew : ℕ) → most ≡ least + eps → skew + d * h ≤ h * u + least
    → p + d * (f + h) + 3 * most + 2 * (u + d) + d * (l + v) + (1 + h) * u ≤ z * u → w * u ≤ v * u → w * d ≤ v * d
    → low + p + (f + h) * (u + d) + most + (u + d) + l * (u + d) + most + (u + d) + w * (u + d) + u + skew ≤ low + (f + h) * u + least + l * u + least + (v + z) * u
begins-late low p f h l v z u d least eps w skew e fits c6 wu wd = omega (arith, e, fits, c6, wu, wd)

later-onset : (learned sync f s : ℕ) → (nat_lt learned f || ((learned == f) && nat_lt sync s)) ≡ true → s ≤ sync → learned < f
later-onset learned sync f s h le =
    elim (or_cases (nat_lt learned f) ((learned == f) && nat_lt sync s) h) [
      | inl less ↦ ltb-true learned f less
      | inr same ↦ absurd (omega (arith, le, ltb-true sync s (and_second (learned == f) (nat_lt sync s) same)))
    ]

slot-in-run : {sc : _} → IsLawful sc → (j learned f s : ℕ) → is_good sc Rmu j learned (sync_slot_of sc.sizes) ≡ true → get_or sc.rmu_onsets j None ≡ Some (f, s) → s ≤ sync_slot_of sc.sizes
slot-in-run {sc} law j learned f s good onset =
    onset-in law j f s (ltb-true j sc.sizes.rmus (and_first (nat_lt j sc.sizes.rmus) (is_before (get_or sc.rmu_onsets j None) learned (sync_slot_of sc.sizes)) good)) onset

onset-later : {sc : _} → IsLawful sc → (j learned f s : ℕ) → is_good sc Rmu j learned (sync_slot_of sc.sizes) ≡ true → get_or sc.rmu_onsets j None ≡ Some (f, s) → learned < f
onset-later {sc} law j learned f s good onset =
    later-onset learned (sync_slot_of sc.sizes) f s
    (ap (λ o. is_before o learned (sync_slot_of sc.sizes)) (sym onset) ∙ and_second (nat_lt j sc.sizes.rmus) (is_before (get_or sc.rmu_onsets j None) learned (sync_slot_of sc.sizes)) good)
    (slot-in-run law j learned f s good onset)

pub not-faulty : {sc : Scenario} {hands : List HandIn} → IsLawful sc → {ear : Ear} → IsEar sc ear → {i number b : ℕ} (c : IsHeardCall sc hands ear i number b) {j : ℕ}
    → is_good sc Rmu j (moment sc hands c.n).frame (sync_slot_of sc.sizes) ≡ true → (k : ℕ) → k ≤ b + reach_of sc.plan → {x : Coming} → x.from ≡ j → {at : ℕ} → at ≤ k
    → IsStamp ear.clock x.time at → IsOfFaulty sc hands x → ⊥
not-faulty {sc} {hands} law {ear} is {i} {b} c {j} good k soon {x} from {at} le stamped faulty =
    omega (arith, faulty.not_early, begins, by_then, reached, to, room)
  where
    u : ℕ
    u = shortest_of sc.plan

    d : ℕ
    d = drift_of sc.plan

    w : ℕ
    w = reach_of sc.plan

    fit : plan_fits sc
    fit = lawful_fits law

    first : IsSynchronous sc hands c.n
    first = synchrony hands law c.n c.sent.running

    onset : get_or sc.rmu_onsets j None ≡ Some (faulty.frame, faulty.slot)
    onset = ap (λ t. get_or sc.rmu_onsets t None) (sym from) ∙ faulty.onset

    later : (moment sc hands c.n).frame < faulty.frame
    later = onset-later law j (moment sc hands c.n).frame faulty.frame faulty.slot good onset

    slots : faulty.slot ≤ sync_slot_of sc.sizes
    slots = slot-in-run law j (moment sc hands c.n).frame faulty.frame faulty.slot good onset

    p : IsPlaced sc hands faulty.frame faulty.slot 1
    p = place-of hands law faulty.frame faulty.slot 1 slots (omega arith) (omega arith) faulty.running

    node : IsGoodNode sc (before_slot sc hands faulty.frame faulty.slot) faulty.me faulty.i faulty.state
    node = good_before_slot slots p faulty.good

    -- the first moment of the frame after the calls
    turn : ℕ
    turn = suc (suc (suc (suc c.n)))

    before : suc (suc (suc (suc c.n))) ≤ faulty.frame * (windows_in sc.sizes + 1) + 3 * faulty.slot + 1 - 1
    before =
        let le : ((moment sc hands c.n).frame + 1) * (windows_in sc.sizes + 1) ≤ faulty.frame * (windows_in sc.sizes + 1) = mul-le-mul_right (windows_in sc.sizes + 1) (omega (arith, later)) in
        omega (arith, first.agree.place, c.window_is, le)

    gap : (faulty.frame * (windows_in sc.sizes + 1) + 3 * faulty.slot + 1 - 1 - suc (suc (suc (suc c.n)))) + suc (suc (suc (suc c.n))) ≡ faulty.frame * (windows_in sc.sizes + 1) + 3 * faulty.slot + 1 - 1
    gap = omega (arith, before)

    was : WasAt sc hands (suc (suc (suc (suc c.n)))) (before_slot sc hands faulty.frame faulty.slot) faulty.me faulty.i faulty.state
    was =
        subst (λ t. AllWereAt sc hands turn (moment sc hands t)) gap
        (all-were-at hands law turn (faulty.frame * (windows_in sc.sizes + 1) + 3 * faulty.slot + 1 - 1 - turn) (subst (λ t. IsRunning (moment sc hands t)) (sym gap) faulty.running))
        faulty.me faulty.i faulty.state node

    rises : time_of (clock_of sc faulty.me faulty.i) was.st.epoch ≤ time_in_frame sc faulty.me faulty.i faulty.state (3 * faulty.slot * sc.plan.l)
    rises = times_rise_to (clock_of sc faulty.me faulty.i) was.st.epoch (faulty.state.epoch + 3 * faulty.slot * sc.plan.l) (omega (arith, earlier))
      where
        earlier : was.st.epoch ≤ faulty.state.epoch
        earlier =
            elim (cases_lt (moment sc hands (suc (suc (suc (suc c.n))))).frame (before_slot sc hands faulty.frame faulty.slot).frame) [
              | inl less ↦ omega (arith, was.later less)
              | inr ge ↦
                  let same : (moment sc hands (suc (suc (suc (suc c.n))))).frame ≡ (before_slot sc hands faulty.frame faulty.slot).frame = omega (arith, ge, was.order) in
                  omega (arith, was.same same)
            ]

    begins : begins_from sc first.low ≤ time_in_frame sc faulty.me faulty.i faulty.state (3 * faulty.slot * sc.plan.l)
    begins =
        let from : begins_from sc first.low ≤ time_of (clock_of sc faulty.me faulty.i) was.st.epoch =
        begins-later law first c.window_is
        (running_earlier sc hands turn (faulty.frame * (windows_in sc.sizes + 1) + 3 * faulty.slot + 1 - 1) before faulty.running) was.was in
        omega (arith, from, rises)

    by_then : x.time ≤ time_of ear.clock (b + reach_of sc.plan)
    by_then = omega (arith, stamped.reached, times_rise_to ear.clock at (b + reach_of sc.plan) (omega (arith, le, soon)))

    reached : time_of ear.clock (b + reach_of sc.plan) ≤ (coming_to sc ear i (moment sc hands c.n).frame c.sending).time + (u + d) + w * (u + d)
    reached = omega (arith, (steady-ear law is).not_late b w, near-stamp b c.some c.stamped)
      where
        near-stamp : (t : ℕ) → 1 ≤ t → IsStamp ear.clock (coming_to sc ear i (moment sc hands c.n).frame c.sending).time t
            → time_of ear.clock t ≤ (coming_to sc ear i (moment sc hands c.n).frame c.sending).time + (shortest_of sc.plan + drift_of sc.plan)
        near-stamp zero some s = absurd (omega (arith, some))
        near-stamp (suc t) some s = omega (arith, (steady-ear law is).stamped (coming_to sc ear i (moment sc hands c.n).frame c.sending).time t s)

    delay : IsDelay sc.plan (ear.delay i (record { frame = (moment sc hands c.n).frame; slot = c.sending.message.slot; stage = c.sending.message.stage }))
    delay = is.delays i (record { frame = (moment sc hands c.n).frame; slot = c.sending.message.slot; stage = c.sending.message.stage })

    to : (coming_to sc ear i (moment sc hands c.n).frame c.sending).time ≤ to_2 sc first.low + sc.plan.dmax
    to = omega (arith, (call-time law c.window_is c.sent first).most, delay.greatest)

    in_v : w ≤ sc.plan.v
    in_v = omega arith

    room : to_2 sc first.low + sc.plan.dmax + (u + d) + w * (u + d) + u + stated_skew sc.plan (3 * faulty.slot * sc.plan.l) ≤ begins_from sc first.low
    room =
        begins-late first.low sc.plan.p (f0_of sc.sizes sc.plan) sc.plan.h sc.plan.l sc.plan.v sc.plan.z u d sc.plan.dmin (eps_of sc.plan) w
        (stated_skew sc.plan (3 * faulty.slot * sc.plan.l)) fit.delays (skew-fits law faulty.slot slots) fit.after_3
        (mul-le-mul_right u in_v) (mul-le-mul_right d in_v)

-- The decision.

-- what is known when a listener decides: it has what came since soon after the calls of the frame
-- before, and until the calls of the learned frame had come
pub record HasLesson (sc : Scenario) (hands : List HandIn) (ear : Ear) (learned k n : ℕ) (s : Search) : Type 0 where
  pub whole : slice_get (ear.heard k) n ≡ None
  pub from : LearnsFrom sc hands ear k n s.lesson
  pub after : IsAfterCall sc hands ear s.lesson.frame k
  pub fixed : IsFixed sc hands ear s.lesson.frame k
  pub frame : (moment sc hands fixed.call.call.call.n).frame ≡ learned
  pub same : after.call.n ≡ fixed.call.call.call.n
  pub before : (moment sc hands from.call.call.n).frame < learned

pub has-lesson : {sc hands : _} → IsLawful sc → {ear : _} → IsEar sc ear → HearsTheRun sc hands ear → {learned k s : _} → DecidesBy sc hands ear learned k s
    → (n : ℕ) × HasLesson sc hands ear learned k n s
has-lesson {sc} {hands} law {ear} is run {learned} {k} {s} h = (
  at.n,
  record {
    whole = at.whole;
    from = from;
    after = after;
    fixed = fixed;
    frame = frame;
    same = same-moment law after.call fixed.call.call.call
        (same-frame-number law after.call fixed.call.call.call refl);
    before = omega (arith, frame, next-frame-number law from.call.call fixed.call.call.call from.next);
  },
)
  where
    at : HoldsAt ear (IsFresh sc hands ear) k (listening_at sc ear k)
    at = fresh-at law is run k h.in_time

    here : IsFresh sc hands ear k at.n s
    here = subst (HoldsIn (IsFresh sc hands ear k at.n)) h.searching at.holds

    from : LearnsFrom sc hands ear k at.n s.lesson
    from = here.learns.lesson (and_first s.learns (is_tick s.lesson.decides s.had) h.deciding)

    at_k : s.lesson.decides ≡ Some k
    at_k = ticked s.lesson.decides s.had (and_second s.learns (is_tick s.lesson.decides s.had) h.deciding) ∙ ap (λ t. Some t) here.well.had

    after : IsAfterCall sc hands ear s.lesson.frame k
    after = here.well.decides k at_k

    fixed : IsFixed sc hands ear s.lesson.frame k
    fixed = from.fixed k at_k

    run_to : IsPlaced sc hands learned (sync_slot_of sc.sizes) 2
    run_to = place-of hands law learned (sync_slot_of sc.sizes) 2 (omega arith) (omega arith) (omega arith) h.called

    in_run : learned ≤ sc.frames
    in_run = subst (λ f. f ≤ sc.frames) run_to.frame_is (within_run sc hands (learned * (windows_in sc.sizes + 1) + 3 * sync_slot_of sc.sizes + 2 - 1) h.called)

    frame : (moment sc hands fixed.call.call.call.n).frame ≡ learned
    frame =
        same-frame (moment sc hands fixed.call.call.call.n).frame learned sc.frames (within_run sc hands fixed.call.call.call.n fixed.call.call.call.sent.running) in_run law.frames.1
        (sym fixed.call.call.call.number_is ∙ h.lesson)

-- What is heard of an RMU that was good up to the calls.

pub all-good : {sc hands : _} → IsLawful sc → {ear : _} → IsEar sc ear → HearsTheRun sc hands ear → {learned k n s : _} → k < ear.ticks
    → HasLesson sc hands ear learned k n s → {j : ℕ} → is_good sc Rmu j learned (sync_slot_of sc.sizes) ≡ true → (at : ℕ) (c : Coming) → at ≤ k → c.from ≡ j → IsHeard ear at c → IsOfGood sc hands ear c
all-good {sc} law is run {learned} {k} in_time l {j} good at c le from heard =
    elim (run.only at c (omega (arith, le, in_time)) heard (subst (λ x. x < sc.sizes.rmus) (sym from) within)) [
      | inl of_good ↦ of_good
      | inr faulty ↦
          absurd (not-faulty law is l.fixed.call.call.call
          (subst (λ f. is_good sc Rmu j f (sync_slot_of sc.sizes) ≡ true) (sym l.frame) good) k (omega (arith, l.fixed.tick_is, l.fixed.call.late)) from le
          (is.stamps at c (omega (arith, le, in_time)) heard) faulty)
    ]
  where
    within : j < sc.sizes.rmus
    within = ltb-true j sc.sizes.rmus (and_first (nat_lt j sc.sizes.rmus) (is_before (get_or sc.rmu_onsets j None) learned (sync_slot_of sc.sizes)) good)

-- two messages of one place are one
pub same-place-of : {sc hands : _} → IsLawful sc → {ear : _} → IsEar sc ear → HearsTheRun sc hands ear → {frame slot j at i b o m x : _}
    → (p : IsPlacedAt sc ear frame slot j at i m) (q : IsPlacedAt sc ear frame slot j b o x) → at < ear.ticks → b < ear.ticks → IsOfGood sc hands ear p.coming → IsOfGood sc hands ear q.coming
    → (at ≡ b) × (i ≡ o)
same-place-of {sc} law {ear} is run {frame} {at} {i} {b} {o} {m} {x} p q in_at in_b good_p good_q = (stamps, nth)
  where
    sent_p : good_p.sending.message ≡ m
    sent_p = reads-sent law good_p p.reads

    sent_q : good_q.sending.message ≡ x
    sent_q = reads-sent law good_q q.reads

    here : IsOfPlace sc frame m.slot m
    here = placed sc frame m p.place

    there : IsOfPlace sc frame x.slot x
    there = placed sc frame x q.place

    slots : m.slot ≡ x.slot
    slots = p.slot_is ∙ sym q.slot_is

    same : p.coming ≡ q.coming
    same =
        same-coming law good_p good_q (p.from ∙ sym q.from)
        (ap (λ y. y.frame) sent_p ∙ here.frame_is ∙ sym there.frame_is ∙ ap (λ y. y.frame) (sym sent_q))
        (ap (λ y. y.slot) sent_p ∙ slots ∙ ap (λ y. y.slot) (sym sent_q))
        (ap (λ y. y.stage) sent_p ∙ here.stage_is ∙ ap (λ t. stage_recorded (role_of sc.sizes t)) slots ∙ sym there.stage_is ∙ ap (λ y. y.stage) (sym sent_q))

    at_there : slice_get (ear.heard at) i ≡ Some q.coming
    at_there = p.there ∙ ap (λ c. Some c) same

    stamps : at ≡ b
    stamps = one_stamp ear.clock q.coming.time at b (is.stamps at q.coming in_at (record { nth = i; there = at_there })) (is.stamps b q.coming in_b (record { nth = o; there = q.there }))

    nth : i ≡ o
    nth = run.once b i o q.coming in_b good_q (ap (λ t. slice_get (ear.heard t) i) (sym stamps) ∙ at_there) q.there

never-spoilt : {sc hands : _} → IsLawful sc → {ear : _} → IsEar sc ear → HearsTheRun sc hands ear → {k n frame slot j : ℕ} → k < ear.ticks
    → ((at : ℕ) (c : Coming) → at ≤ k → c.from ≡ j → IsHeard ear at c → IsOfGood sc hands ear c) → IsSpoilt sc ear k n frame slot j → ⊥
never-spoilt {sc} {hands} law {ear} is run {k} {n} {frame} {slot} {j} in_time good h = by h.by
  where
    le : h.at ≤ k
    le = earlier-le h.at h.i k n h.earlier

    mine : IsOfGood sc hands ear h.placed.coming
    mine = good h.at h.placed.coming le h.placed.from (record { nth = h.i; there = h.placed.there })

    suits : tag_suits (h.message.slot == sync_slot_of sc.sizes) h.message.tag ≡ true
    suits =
        subst (λ x. tag_suits (x.slot == sync_slot_of sc.sizes) x.tag ≡ true) (reads-sent law mine h.placed.reads)
        (in-place law mine.sent).suits

    by : IsSpoiltBy sc ear frame slot j h.at h.i h.message → ⊥
    by (inl unsuited) = let both : true ≡ false = sym suits ∙ unsuited in cc
    by (inr other) =
        let le_b : other.0 ≤ h.at = earlier-le other.0 other.1.0 h.at h.i other.1.1.1.1 in
        let their : IsOfGood sc hands ear other.1.1.1.0.coming =
        good other.0 other.1.1.1.0.coming (omega (arith, le_b, le)) other.1.1.1.0.from (record { nth = other.1.0; there = other.1.1.1.0.there }) in
        let same : (h.at ≡ other.0) × (h.i ≡ other.1.0) =
        same-place-of law is run h.placed other.1.1.1.0 (omega (arith, le, in_time)) (omega (arith, le, le_b, in_time)) mine their in
        apart other.1.1.1.1 same
      where
        apart : {b o : ℕ} → IsEarlier b o h.at h.i → (h.at ≡ b) × (h.i ≡ o) → ⊥
        apart (inl less) same = omega (arith, less, same.0)
        apart (inr before) same = omega (arith, before.1, same.1)

-- Records.

-- a message that came since then is the one that is recorded at its place
recorded-one : {sc hands : _} → IsLawful sc → {ear : _} → IsEar sc ear → HearsTheRun sc hands ear → {since k n frame slot j : ℕ} → k < ear.ticks
    → ((at : ℕ) (c : Coming) → at ≤ k → c.from ≡ j → IsHeard ear at c → IsOfGood sc hands ear c) → {at i m : _} → since < at → IsEarlier at i k n
    → IsPlacedAt sc ear frame slot j at i m → (r : Sense) → IsNotedBy sc ear since k n frame slot j r → r ≡ One at m
recorded-one law is run in_time good {at} {i} {m} late earlier p Silent h = absurd (h at i m (late, earlier) p)
recorded-one {sc} law {ear} is run in_time good {at} {i} {m} late earlier p (One b x) h =
    let here : (at ≡ b) × (i ≡ h.i) = h.only at i m (late, earlier) p in
    let same : h.placed.coming ≡ p.coming =
    same_Some h.placed.coming p.coming (sym h.placed.there ∙ ap (slice_get (ear.heard b)) (sym here.1) ∙ ap (λ t. slice_get (ear.heard t) i) (sym here.0) ∙ p.there) in
    let read : x ≡ m = same_Some x m (sym h.placed.reads ∙ ap (λ (c : Coming). message_in sc.plan.version c.bytes) same ∙ p.reads) in
    ap (λ t. One t x) (sym here.0) ∙ ap (One at) read
recorded-one law is run in_time good late earlier p Bad h =
    absurd (never-spoilt law is run in_time good h)

pub has-place : (sc : Scenario) {frame : ℕ} (m : Message) → m.frame ≡ frame → m.slot ≤ sync_slot_of sc.sizes → m.stage ≡ stage_recorded (role_of sc.sizes m.slot) → has_place sc.sizes frame m ≡ true
has-place sc {frame} m f s t = rw (eq-eqb m.frame frame f, le-leb m.slot (sync_slot_of sc.sizes) s, eq-eqb m.stage (stage_recorded (role_of sc.sizes m.slot)) t) refl

-- the message comes after tick `since` and at most with tick `k`
pub record ComesInTime (sc : Scenario) (hands : List HandIn) (ear : Ear) (since k n j : ℕ) (t : Sending) : Type 0 where
  pub stamp : ℕ
  pub stamped : IsStamp ear.clock (coming_to sc ear j (moment sc hands n).frame t).time stamp
  pub late : since < stamp
  pub early : stamp ≤ k

-- the stage that is recorded of a slot is 2 or 3, or 0 for none
stage-late : (r : Role) → (1 ≤ stage_recorded r → 2 ≤ stage_recorded r) × (stage_recorded r ≤ 3)
stage-late (Schedule i) = (λ h. omega arith, omega arith)
stage-late (Data i) = (λ h. omega (arith, h), omega arith)
stage-late (DiagBiu i) = (λ h. omega arith, omega arith)
stage-late (DiagRmu i) = (λ h. omega arith, omega arith)
stage-late Sync = (λ h. omega arith, omega arith)

-- each good RMU's call of the frame has come
pub come-by : {sc hands : _} → IsLawful sc → {ear : _} → IsEar sc ear → {learned k o s : _} (l : HasLesson sc hands ear learned k o s) → {j x : _}
    → SendsIn sc hands l.fixed.call.call.call.n j x → {b : ℕ} → IsStamp ear.clock (coming_to sc ear j (moment sc hands l.fixed.call.call.call.n).frame x).time b → b ≤ k
come-by {sc} {hands} law {ear} is l {j} {x} sends {b} at =
    omega (
      arith,
      l.after.late,
      come-together sc hands law ear is l.after.call.n l.after.j j l.after.call.sending x l.after.call.window_is l.after.call.sent
          (subst (λ t. SendsIn sc hands t j x) (sym l.same) sends) l.after.at b l.after.call.some l.after.call.stamped
          (subst (λ t. IsStamp ear.clock (coming_to sc ear j (moment sc hands t).frame x).time b) (sym l.same) at),
    )

in-time : {sc hands : _} → IsLawful sc → {ear : _} → IsEar sc ear → HearsTheRun sc hands ear → {learned k o s : _} (l : HasLesson sc hands ear learned k o s)
    → {j : ℕ} → is_good sc Rmu j learned (sync_slot_of sc.sizes) ≡ true → {n t : _} → SendsIn sc hands n j t → (moment sc hands n).frame ≡ learned
    → t.message.stage ≡ stage_recorded (role_of sc.sizes t.message.slot) → ComesInTime sc hands ear l.from.since k n j t
in-time {sc} {hands} law {ear} is run {k} {s} l {j} good {n} {t} sent frame staged =
    elim (cases_lt t.message.slot (sync_slot_of sc.sizes)) [ inl below ↦ exact below | inr sync ↦ call (omega (arith, sync, put.slot)) ]
  where
    c : IsHeardCall sc hands ear l.fixed.call.call.j s.lesson.frame l.fixed.call.at
    c = l.fixed.call.call.call

    put : IsInPlace sc (moment sc hands n) t.message
    put = in-place law sent

    stamp : ℕ
    stamp = stamp_of ear.clock (coming_to sc ear j (moment sc hands n).frame t).time

    stamped : IsStamp ear.clock (coming_to sc ear j (moment sc hands n).frame t).time (stamp_of ear.clock (coming_to sc ear j (moment sc hands n).frame t).time)
    stamped = stamp_of-is ear.clock (steady-ear law is).moves (coming_to sc ear j (moment sc hands n).frame t).time

    -- each call of the frame has come
    come : (x : Sending) → SendsIn sc hands l.fixed.call.call.call.n j x → (b : ℕ) → IsStamp ear.clock (coming_to sc ear j (moment sc hands l.fixed.call.call.call.n).frame x).time b → b ≤ k
    come x sends b at = come-by law is l sends at

    earlier : (moment sc hands l.from.call.call.n).frame < (moment sc hands n).frame
    earlier = omega (arith, l.before, frame)

    calls : IsHeardToCall sc hands ear l.fixed.call.call.call.n j
    calls =
        heard-to-call sc hands law ear run l.fixed.call.call.call.n j l.fixed.call.call.call.sent.running l.fixed.call.call.call.window_is
        (subst (λ f. is_good sc Rmu j f (sync_slot_of sc.sizes) ≡ true) (sym l.frame) good)

    exact : t.message.slot < sync_slot_of sc.sizes → ComesInTime sc hands ear l.from.since k n j t
    exact below =
        let late : (1 ≤ stage_recorded (role_of sc.sizes t.message.slot) → 2 ≤ stage_recorded (role_of sc.sizes t.message.slot)) × (stage_recorded (role_of sc.sizes t.message.slot) ≤ 3) =
        stage-late (role_of sc.sizes t.message.slot) in
        let second : 2 ≤ t.message.stage = omega (arith, staged, late.0 (omega (arith, staged, put.fits.some_stage))) in
        let third : t.message.stage ≤ 3 = omega (arith, staged, late.1) in
        let e : IsExactAt sc hands n t.message.slot (t.message.stage - 1) =
        record { below = below; small = omega (arith, third); at = omega (arith, put.window, second) } in
        let after : l.from.at + reach_of sc.plan < stamp_of ear.clock (coming_to sc ear j (moment sc hands n).frame t).time =
        after-calls law is l.from.call.call e (omega (arith, second)) sent earlier stamped in
        let b : ℕ = stamp_of ear.clock (coming_to sc ear j (moment sc hands l.fixed.call.call.call.n).frame calls.sending).time in
        let at_b : IsStamp ear.clock (coming_to sc ear j (moment sc hands l.fixed.call.call.call.n).frame calls.sending).time
        (stamp_of ear.clock (coming_to sc ear j (moment sc hands l.fixed.call.call.call.n).frame calls.sending).time) =
        stamp_of-is ear.clock (steady-ear law is).moves (coming_to sc ear j (moment sc hands l.fixed.call.call.call.n).frame calls.sending).time in
        let by_call : stamp_of ear.clock (coming_to sc ear j (moment sc hands n).frame t).time ≤ stamp_of ear.clock (coming_to sc ear j (moment sc hands l.fixed.call.call.call.n).frame calls.sending).time =
        before-call law is e l.fixed.call.call.call.window_is sent calls.sent (frame ∙ sym l.frame) stamped at_b in
        record {
          stamp = stamp_of ear.clock (coming_to sc ear j (moment sc hands n).frame t).time;
          stamped = stamped;
          late = omega (arith, after, l.from.soon);
          early = omega (arith, by_call, come calls.sending calls.sent (stamp_of ear.clock (coming_to sc ear j (moment sc hands l.fixed.call.call.call.n).frame calls.sending).time) at_b);
        }

    call : t.message.slot ≡ sync_slot_of sc.sizes → ComesInTime sc hands ear l.from.since k n j t
    call slot =
        let second : t.message.stage ≡ 2 = staged ∙ ap (λ x. stage_recorded (role_of sc.sizes x)) slot ∙ ap stage_recorded (sync_role sc.sizes) in
        let window : (moment sc hands n).window ≡ 3 * sync_slot_of sc.sizes + 1 = omega (arith, put.window, slot, second) in
        let one : n ≡ l.fixed.call.call.call.n =
        (agreement hands law n sent.running).agree.place
        ∙ ap (λ f. f * (windows_in sc.sizes + 1) + (moment sc hands n).window) (frame ∙ sym l.frame)
        ∙ ap (λ w. (moment sc hands l.fixed.call.call.call.n).frame * (windows_in sc.sizes + 1) + w) (window ∙ sym l.fixed.call.call.call.window_is)
        ∙ sym (agreement hands law l.fixed.call.call.call.n l.fixed.call.call.call.sent.running).agree.place in
        let after : l.from.at + reach_of sc.plan < stamp_of ear.clock (coming_to sc ear j (moment sc hands n).frame t).time =
        come-apart sc hands law ear is l.from.call.call.n n l.from.call.j j l.from.call.call.sending t l.from.call.call.window_is window earlier l.from.call.call.sent sent
        l.from.at (stamp_of ear.clock (coming_to sc ear j (moment sc hands n).frame t).time) l.from.call.call.some l.from.call.call.stamped stamped in
        record {
          stamp = stamp_of ear.clock (coming_to sc ear j (moment sc hands n).frame t).time;
          stamped = stamped;
          late = omega (arith, after, l.from.soon);
          early =
              come t (subst (λ x. SendsIn sc hands x j t) one sent) (stamp_of ear.clock (coming_to sc ear j (moment sc hands n).frame t).time)
              (subst (λ x. IsStamp ear.clock (coming_to sc ear j (moment sc hands x).frame t).time (stamp_of ear.clock (coming_to sc ear j (moment sc hands n).frame t).time)) one stamped);
        }

pub records-whole : (sc : Scenario) (hands : List HandIn) → IsLawful sc → (ear : Ear) → IsEar sc ear → HearsTheRun sc hands ear → (learned k : ℕ) (s : Search) → DecidesBy sc hands ear learned k s
    → RecordsAreWhole sc hands ear learned s.lesson.records
records-whole sc hands law ear is run learned k s decides j good n t sent frame staged = record {
  stamp = comes.stamp;
  some = omega (arith, comes.late);
  stamped = comes.stamped;
  is =
      recorded-one law is run decides.in_time (all-good law is run decides.in_time l.1 good) comes.late
      (whole-earlier ear comes.stamp heard.nth k l.0 heard.there l.1.whole comes.early) there
      (record_of s.lesson.records t.message.slot j) (l.1.from.noted j within t.message.slot put.slot);
}
  where
    l : (o : ℕ) × HasLesson sc hands ear learned k o s
    l = has-lesson law is run decides

    comes : ComesInTime sc hands ear l.1.from.since k n j t
    comes = in-time law is run l.1 good sent frame staged

    put : IsInPlace sc (moment sc hands n) t.message
    put = in-place law sent

    heard : IsHeard ear comes.stamp (coming_to sc ear j (moment sc hands n).frame t)
    heard = run.each n j t sent comes.stamp (omega (arith, comes.late)) (omega (arith, comes.early, decides.in_time)) comes.stamped

    within : j < sc.sizes.rmus
    within = ltb-true j sc.sizes.rmus (and_first (nat_lt j sc.sizes.rmus) (is_before (get_or sc.rmu_onsets j None) learned (sync_slot_of sc.sizes)) good)

    there : IsPlacedAt sc ear s.lesson.frame t.message.slot j comes.stamp heard.nth t.message
    there = record {
      coming = coming_to sc ear j (moment sc hands n).frame t;
      there = heard.there;
      from = refl;
      reads = read_back sc.plan.version t.message put.fits;
      place = has-place sc t.message (put.frame ∙ ap (λ f. f % 65536) frame ∙ sym decides.lesson) put.slot staged;
      slot_is = refl;
    }
