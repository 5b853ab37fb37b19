-- What a listener hears of good RMUs in a window below the sync slot: what they send in it, and
-- nothing else.
use Rattle.std.proofs.{Common.{◌≡◌, ℕ, ◌+◌, ◌-◌, ◌*◌, ◌/◌, ◌%◌, ◌<◌, ◌≤◌, ◌==◌, ◌&&◌, ◌||◌, nat_lt, true, false, List, Some, None, get_or, ◌⊎◌, inl, inr, refl, sym, ◌∙◌, ap, subst, arith}, lemmas.Bool.{cases_lt, cases_order, eqb-true, ltb-true, or_cases}, lemmas.Option.same_Some, Math.Nat.{mul-le-mul_left, mul-le-mul_right}}
use Rattle.rb_base.specs.{Nodes.Side.{Biu, Rmu}, Sizes.sync_slot_of}
use Rattle.rb_base.proofs.Plain.{and_first, and_second, less-differs}
use Rattle.rb_rules.specs.{declared.role.Role.TheVariants.Sync, Clock.{IsStamp, time_of}, Goodness.{Scenario, clock_of, is_before, is_good}, Headline.stated_skew, Hearing.{Coming, Sending, sending}, Lawful.{IsDelay, IsLawful}, Moments.IsRunning, NodeState.NodeState, Plan.{f0_of, shortest_of, tail_start_of}, Ports.HandIn, Rounds.{Moment, moment, windows_in}, Slots.listens, SyncStage.{call_tick_of, send_tick_of}, Windows.send_offset_of}
use Rattle.rb_rules.proofs.{Drift.times_rise_to, Middles.IsBetween, Stamps.stamp_le}
use Rattle.rb_laws_agreement.proofs.{Agreement.{IsAgreed, agreement}, Goodnesses.{good_counts, slot_here, slot_last}, Invariant.{Agree, IsGoodNode, Shared, slot_numbered}, NodeWindows.{Windows, exact_windows, sync_windows_are, tail_windows, word_at}, Places.{IsPlaced, good_before_slot, placed}}
use Rattle.rb_laws_synchrony.proofs.{PlanNumbers.{drift_of, exact_early, exact_late, last_plus}, StageCalls.{clock_now, second_calls}, StageMiddles.tick_of, Synchronous.{Synchronous, at_offset}, Synchrony.{IsSynchronous, synchrony}, TakenCalls.call_sent, TimelyWindows.{IsSent, sent_parts}, Times.{Steady, lawful_fits, plan_fits, tick_le}}
use Rattle.rb_laws_listener_learns.specs.Ears.{Ear, HearsTheRun, IsEar, IsHeard, IsOfFaulty, IsOfGood, SendsIn, coming_to}
use Rattle.rb_laws_listener_learns.proofs.{Apart.{WasAt, all-were-at}, Begins.skew-fits, CallsSent.sends-at, Fresh.onset-in, Together.steady-ear}

-- ---- when an RMU sends

-- what a node sends in its window goes out at the window's offset below the sync slot, and else in
-- stage 2
pub record SendsThen (sc : Scenario) (m : Moment) (j : ℕ) (st : NodeState) (s : Sending) : Type 0 where
  pub node : IsGoodNode sc m Rmu j st
  pub tick : ((m.window < 3 * sync_slot_of sc.sizes) × (s.tick ≡ st.epoch + (m.window * sc.plan.l + sc.plan.h)))
      ⊎ ((m.window ≡ 3 * sync_slot_of sc.sizes + 1) × ((st.epoch + (f0_of sc.sizes sc.plan + sc.plan.l) ≤ s.tick) × (s.tick < st.epoch + (f0_of sc.sizes sc.plan + sc.plan.l + sc.plan.v))))

exact-tick : (sc : Scenario) (m : Moment) (slot q : ℕ) (i : ℕ) (st : NodeState) (word : ℕ) {s : _} → slot < sync_slot_of sc.sizes → m.window ≡ 3 * slot + q
    → sending sc.sizes sc.plan Rmu i st slot (q + 1) word ≡ Some s → s.tick ≡ st.epoch + (m.window * sc.plan.l + sc.plan.h)
exact-tick sc m slot q i st word {s} below at is =
    let parts : IsSent sc.sizes sc.plan Rmu i st slot (q + 1) word s = sent_parts sc.sizes sc.plan Rmu i st slot (q + 1) word is in
    let away : (slot == sync_slot_of sc.sizes) ≡ false = less-differs slot (sync_slot_of sc.sizes) below in
    let tick : send_tick_of sc.sizes sc.plan st slot (q + 1) ≡ Some (st.epoch + send_offset_of sc.plan slot (q + 1)) = rw away refl in
    let e : st.epoch + send_offset_of sc.plan slot (q + 1) ≡ s.tick = same_Some (st.epoch + send_offset_of sc.plan slot (q + 1)) s.tick (sym tick ∙ parts.tick) in
    let w : 3 * slot + (q + 1) - 1 ≡ m.window = omega arith in
    sym e ∙ ap (λ w. st.epoch + (w * sc.plan.l + sc.plan.h)) w

pub sends_then : {sc hands : _} → IsLawful sc → {n j s : _} → (sent : SendsIn sc hands n j s) → SendsThen sc (moment sc hands n) j sent.state s
sends_then {sc} {hands} law {n} {j} {s} sent =
    elim (cases_lt (moment sc hands n).window (3 * sync_slot_of sc.sizes)) [
      | inl exact ↦ in-exact ((moment sc hands n).window / 3) ((moment sc hands n).window % 3) (omega (arith, exact)) (omega arith) (omega arith)
      | inr late ↦ elim (cases_lt ((moment sc hands n).window - 3 * sync_slot_of sc.sizes) 3) [
        | inl stage ↦ in-stage ((moment sc hands n).window - 3 * sync_slot_of sc.sizes) stage (omega (arith, late))
        | inr tail ↦ in-tail (omega (arith, late, tail, sent.in_frame))
      ]
    ]
  where
    node : (slot stage : ℕ) → Windows sc (moment sc hands n) slot stage → slot_numbered sc.sizes (moment sc hands n).window ≡ slot → IsGoodNode sc (moment sc hands n) Rmu j sent.state
    node slot stage ws slot_is = record {
      there = sent.good.0;
      good = ap (is_good sc Rmu j (moment sc hands n).frame) (slot_is ∙ sym (ap (λ w. w.slot) (ws.are Rmu sent.state))) ∙ sent.good.1;
    }

    in-exact : (slot q : ℕ) → slot < sync_slot_of sc.sizes → q < 3 → (moment sc hands n).window ≡ 3 * slot + q → SendsThen sc (moment sc hands n) j sent.state s
    in-exact slot q below small at =
        let ws : Windows sc (moment sc hands n) slot (q + 1) = exact_windows sc (moment sc hands n) slot q below small at in
        record {
          node = node slot (q + 1) ws (slot_here sc.sizes slot q below small at);
          tick = inl (omega (arith, at, below, small), exact-tick sc (moment sc hands n) slot q j sent.state (word_at sc (moment sc hands n) slot j) below at (sends-at sent ws));
        }

    in-tail : (moment sc hands n).window ≡ 3 * sync_slot_of sc.sizes + 3 → SendsThen sc (moment sc hands n) j sent.state s
    in-tail at =
        let sends = sends-at sent (tail_windows sc (moment sc hands n) at) in
        let heard : listens Biu Sync 4 ≡ true = (call_sent sc.sizes sc.plan Rmu j sent.state 4 (word_at sc (moment sc hands n) (sync_slot_of sc.sizes) j) sends).1 in cc

    in-stage : (q : ℕ) → q < 3 → (moment sc hands n).window ≡ 3 * sync_slot_of sc.sizes + q → SendsThen sc (moment sc hands n) j sent.state s
    in-stage q small at =
        let ws : Windows sc (moment sc hands n) (sync_slot_of sc.sizes) (q + 1) = sync_windows_are sc (moment sc hands n) q small at in
        let sends = call_sent sc.sizes sc.plan Rmu j sent.state (q + 1) (word_at sc (moment sc hands n) (sync_slot_of sc.sizes) j) (sends-at sent ws) in
        let second : q + 1 ≡ 2 = eqb-true (q + 1) 2 sends.1 in
        let here : IsGoodNode sc (moment sc hands n) Rmu j sent.state = node (sync_slot_of sc.sizes) (q + 1) ws (slot_last sc.sizes q at) in
        let synced : IsSynchronous sc hands n = synchrony hands law n sent.running in
        let one : q ≡ 1 = omega (arith, second) in
        let at_one : (moment sc hands n).window ≡ 3 * sync_slot_of sc.sizes + 1 = omega (arith, at, one) in
        let tick : call_tick_of sc.sizes sc.plan sent.state 2 ≡ Some s.tick = ap (call_tick_of sc.sizes sc.plan sent.state) (sym second) ∙ sends.0 in
        record { node = here; tick = inr (at_one, (second_calls law synced.near at_one).own j sent.state s.tick here tick) }

-- ---- the numbers

-- a message of a later window comes after the last tick of window a to a + l, wherever it was sent
-- from a + l + h on
too_late : (low p a f h l u d least x t k : ℕ) → a + l ≤ f → p + d * (f + h) ≤ h * u + least → 1 ≤ u → low + (a + l + h) * u + least ≤ x → x ≤ t
    → t ≤ k → k + (u + d) ≤ low + p + (a + l) * (u + d) → ⊥
too_late low p a f h l u d least x t k le c1 some sent reached at last =
    absurd (omega (arith, c1, some, sent, reached, at, last, mul-le-mul_left d le))

-- what is sent in an earlier frame comes before the tick before its first
too_early : (low p z u d most f h l v x before : ℕ) → p + d * (f + h) + 3 * most + 2 * (u + d) + d * (l + v) + (1 + h) * u ≤ z * u → x + (z + 1) * u ≤ low + p + most
    → low ≤ before + (u + d) → x ≤ before
too_early low p z u d most f h l v x before c6 sent at = omega (arith, c6, sent, at)

-- what a node says just after it has turned faulty comes after the window too
too_soon : (low p a f h l u d least most skew x t k : ℕ) → a + l ≤ f → least ≤ most → skew + d * h ≤ h * u + least → p + d * (f + h) + most + (1 + h) * u ≤ l * u
    → low + (a + l + l) * u ≤ x → x < t + u + skew → t ≤ k → k + (u + d) ≤ low + p + (a + l) * (u + d) → ⊥
too_soon low p a f h l u d least most skew x t k le delays fits c2 sent reached at last =
    absurd (omega (arith, delays, fits, c2, sent, reached, at, last, mul-le-mul_left d le))

-- ---- a listener beside the run

-- the run has come to moment `n`, whose frame the listener began with tick `epoch`, together with
-- the good nodes
pub record Beside (sc : Scenario) (hands : List HandIn) (ear : Ear) (n epoch low : ℕ) (s : Shared) : Type 0 where
  pub law : IsLawful sc
  pub is : IsEar sc ear
  pub run : HearsTheRun sc hands ear
  pub running : IsRunning (moment sc hands n)
  pub agree : Agree sc hands n (moment sc hands n) s
  pub near : Synchronous sc (moment sc hands n) s low
  pub began : IsBetween low (low + sc.plan.p) (time_of ear.clock epoch)
  pub past : 1 ≤ epoch

-- an offset of the listener's frame comes between its earliest and its latest time
pub ear_time : {sc hands ear n epoch low s : _} → Beside sc hands ear n epoch low s → (o : ℕ)
    → IsBetween (low + o * shortest_of sc.plan) (low + sc.plan.p + o * tick_of sc.plan) (time_of ear.clock (epoch + o))
ear_time {sc} {epoch} b o =
    at_offset (steady-ear b.law b.is) sc.plan.p epoch o refl b.began

-- two moments of one run by their places
pub place_order : (size f w g v : ℕ) {a b : ℕ} → a ≡ f * size + w → b ≡ g * size + v → w < size → v < size → a < b → (f < g) ⊎ ((f ≡ g) × (w < v))
place_order size f w g v e1 e2 sw sv lt =
    elim (cases_order f g) [
      | inl same ↦ (let p : f * size ≡ g * size = ap (λ x. x * size) same in inr (same, omega (arith, e1, e2, lt, p)))
      | inr order ↦ elim order [
        | inl less ↦ inl less
        | inr more ↦
            let le : (g + 1) * size ≤ f * size = mul-le-mul_right size (omega (arith, more)) in
            absurd (omega (arith, e1, e2, lt, le, sw, sv))
      ]
    ]

-- a node that is good at the later of two moments, at the earlier one
pub was_at : {sc : _} (hands : List HandIn) → IsLawful sc → (a b : ℕ) → a ≤ b → IsRunning (moment sc hands b) → {me i st : _}
    → IsGoodNode sc (moment sc hands b) me i st → WasAt sc hands a (moment sc hands b) me i st
was_at {sc} hands law a b le running {me} {i} {st} node =
    let gap : (b - a) + a ≡ b = omega (arith, le) in
    subst (λ k. (st : NodeState) → IsGoodNode sc (moment sc hands k) me i st → WasAt sc hands a (moment sc hands k) me i st) gap
    (λ st h. all-were-at hands law a (b - a) (subst (λ k. IsRunning (moment sc hands k)) (sym gap) running) me i st h) st node

-- a message comes between the least and the greatest delay after it was sent
pub comes : {sc ear : _} → IsEar sc ear → (j frame : ℕ) (s : Sending)
    → IsBetween (time_of (clock_of sc Rmu j) s.tick + sc.plan.dmin) (time_of (clock_of sc Rmu j) s.tick + sc.plan.dmax) (coming_to sc ear j frame s).time
comes {sc} {ear} is j frame s =
    let delay : IsDelay sc.plan (ear.delay j (record { frame = frame; slot = s.message.slot; stage = s.message.stage })) = is.delays j (record { frame = frame; slot = s.message.slot; stage = s.message.stage }) in
    record { least = omega (arith, delay.least); most = omega (arith, delay.greatest) }

pub one_more : (o : ℕ) {n : ℕ} (g : ℕ) → o + 1 ≡ n → o * g + g ≡ n * g
one_more o {n} g e = let p : (o + 1) * g ≡ n * g = ap (λ x. x * g) e in omega (arith, p)

-- ---- its own message

-- `k` is a tick of window `w` of the listener's frame
abbrev pub IsTickOf : Scenario → ℕ → ℕ → ℕ → Type 0
IsTickOf sc epoch w k = (epoch + w * sc.plan.l ≤ k) × (k + 1 ≤ epoch + w * sc.plan.l + sc.plan.l)

pub window_within : (sc : Scenario) (w : ℕ) → w < 3 * sync_slot_of sc.sizes → w * sc.plan.l + sc.plan.l ≤ f0_of sc.sizes sc.plan
window_within sc w below =
    let le : (w + 1) * sc.plan.l ≤ f0_of sc.sizes sc.plan = mul-le-mul_right sc.plan.l (omega (arith, below)) in omega (arith, le)

pub own_in_time : {sc hands ear n epoch low s : _} → Beside sc hands ear n epoch low s → (moment sc hands n).window < 3 * sync_slot_of sc.sizes
    → {j x : _} → SendsIn sc hands n j x → {k : ℕ} → IsStamp ear.clock (coming_to sc ear j (moment sc hands n).frame x).time k → IsTickOf sc epoch (moment sc hands n).window k
own_in_time {sc} {hands} {ear} {n} {epoch} {low} b below {j} {x} sent {k} stamp = (from, omega (arith, to, last))
  where
    m : Moment
    m = moment sc hands n

    a : ℕ
    a = (moment sc hands n).window * sc.plan.l

    t : ℕ
    t = (coming_to sc ear j (moment sc hands n).frame x).time

    fit : plan_fits sc
    fit = lawful_fits b.law

    then : SendsThen sc (moment sc hands n) j sent.state x
    then = sends_then b.law sent

    tick : x.tick ≡ sent.state.epoch + ((moment sc hands n).window * sc.plan.l + sc.plan.h)
    tick = elim then.tick [ inl exact ↦ exact.1 | inr late ↦ absurd (omega (arith, below, late.0)) ]

    sent_at : IsBetween (low + (a + sc.plan.h) * shortest_of sc.plan) (low + sc.plan.p + (a + sc.plan.h) * tick_of sc.plan) (time_of (clock_of sc Rmu j) x.tick)
    sent_at =
        at_offset (clock_now b.law then.node) sc.plan.p sent.state.epoch (a + sc.plan.h) tick
        (b.near.begun Rmu j sent.state then.node)

    arrives : IsBetween (time_of (clock_of sc Rmu j) x.tick + sc.plan.dmin) (time_of (clock_of sc Rmu j) x.tick + sc.plan.dmax) t
    arrives = comes b.is j (moment sc hands n).frame x

    a_le : a ≤ f0_of sc.sizes sc.plan
    a_le = omega (arith, window_within sc (moment sc hands n).window below)

    steady_clock : Steady (shortest_of sc.plan) (drift_of sc.plan) ear.clock
    steady_clock = steady-ear b.law b.is

    early : low + sc.plan.p + a * tick_of sc.plan ≤ low + (a + sc.plan.h) * shortest_of sc.plan + sc.plan.dmin
    early = exact_early low sc.plan.p a (f0_of sc.sizes sc.plan) sc.plan.h (shortest_of sc.plan) (drift_of sc.plan) sc.plan.dmin a_le fit.before_1

    late : low + sc.plan.p + (a + sc.plan.h) * tick_of sc.plan + sc.plan.dmax ≤ low + (a + sc.plan.l - 1) * shortest_of sc.plan
    late =
        exact_late low sc.plan.p a (f0_of sc.sizes sc.plan) sc.plan.h sc.plan.l (a + sc.plan.l - 1) (shortest_of sc.plan) (drift_of sc.plan) sc.plan.dmax a_le
        (last_plus a sc.plan.l b.law.plan.l.0) fit.after_1

    last : a + sc.plan.l - 1 + 1 ≡ a + sc.plan.l
    last = last_plus a sc.plan.l b.law.plan.l.0

    from : epoch + (moment sc hands n).window * sc.plan.l ≤ k
    from =
        tick_le ear.clock steady_clock.moves (epoch + a) k
        (omega (arith, (ear_time b a).most, early, sent_at.least, arrives.least, stamp.reached))

    to : k ≤ epoch + (a + sc.plan.l - 1)
    to =
        stamp_le ear.clock t k (epoch + (a + sc.plan.l - 1)) stamp
        (omega (arith, (ear_time b (a + sc.plan.l - 1)).least, late, sent_at.most, arrives.most))

-- ---- those of other windows

pub tail-start : (sc : Scenario) → tail_start_of sc.sizes sc.plan ≡ f0_of sc.sizes sc.plan + sc.plan.l + sc.plan.v + sc.plan.z
tail-start sc = refl

-- a tick of the window is no later than its last
last_time : {sc hands ear n epoch low s : _} → Beside sc hands ear n epoch low s → (a k : ℕ) → k + 1 ≤ epoch + a + sc.plan.l → 1 ≤ sc.plan.l
    → time_of ear.clock k + tick_of sc.plan ≤ low + sc.plan.p + (a + sc.plan.l) * tick_of sc.plan
last_time {sc} {ear} {epoch} b a k le some =
    let o : ℕ = a + sc.plan.l - 1 in
    let e : o + 1 ≡ a + sc.plan.l = omega (arith, some) in
    let up : time_of ear.clock k ≤ time_of ear.clock (epoch + o) = times_rise_to ear.clock k (epoch + o) (omega (arith, le, e)) in
    omega (arith, up, (ear_time b o).most, one_more o (tick_of sc.plan) e)

-- a message of an earlier window, with a stamp before the tick after that window's last, if it is
-- of this frame, and before the frame's first tick, if it is of an earlier one
pub record IsEarlier (sc : Scenario) (hands : List HandIn) (n q epoch k : ℕ) : Type 0 where
  pub kind : (((moment sc hands q).frame ≡ (moment sc hands n).frame) × ((moment sc hands q).window < (moment sc hands n).window)
      × ((((moment sc hands q).window < 3 * sync_slot_of sc.sizes) × (k + 1 ≤ epoch + (moment sc hands q).window * sc.plan.l + sc.plan.l))
      ⊎ ((moment sc hands q).window ≡ 3 * sync_slot_of sc.sizes + 1)))
      ⊎ (k + 1 ≤ epoch)

pub earlier_stamp : {sc hands ear n epoch low s : _} → Beside sc hands ear n epoch low s
    → {j st : _} → IsGoodNode sc (moment sc hands n) Rmu j st → {q x : _} → SendsIn sc hands q j x → q < n
    → {k : ℕ} → IsStamp ear.clock (coming_to sc ear j (moment sc hands q).frame x).time k → IsEarlier sc hands n q epoch k
earlier_stamp {sc} {hands} {ear} {n} {epoch} {low} b {j} {st} node {q} {x} sent lt {k} stamp =
    elim (place_order (windows_in sc.sizes + 1) (moment sc hands q).frame (moment sc hands q).window (moment sc hands n).frame (moment sc hands n).window other.agree.place b.agree.place
    (omega (arith, other.agree.window)) (omega (arith, b.agree.window)) lt) [
      | inl earlier ↦ record { kind = inr (old earlier) }
      | inr same ↦ record { kind = inl (same.0, same.1, before same.0 same.1) }
    ]
  where
    fit : plan_fits sc
    fit = lawful_fits b.law

    other : IsAgreed sc hands q
    other = agreement hands b.law q sent.running

    then : SendsThen sc (moment sc hands q) j sent.state x
    then = sends_then b.law sent

    was : WasAt sc hands q (moment sc hands n) Rmu j st
    was = was_at hands b.law q n (omega (arith, lt)) b.running node

    is_it : was.st ≡ sent.state
    is_it = same_Some was.st sent.state (sym was.was.there ∙ then.node.there)

    t : ℕ
    t = (coming_to sc ear j (moment sc hands q).frame x).time

    arrives : IsBetween (time_of (clock_of sc Rmu j) x.tick + sc.plan.dmin) (time_of (clock_of sc Rmu j) x.tick + sc.plan.dmax) t
    arrives = comes b.is j (moment sc hands q).frame x

    clock : Steady (shortest_of sc.plan) (drift_of sc.plan) (clock_of sc Rmu j)
    clock = clock_now b.law node

    began : IsBetween low (low + sc.plan.p) (time_of (clock_of sc Rmu j) st.epoch)
    began = b.near.begun Rmu j st node

    by_then : (moment sc hands q).frame ≡ (moment sc hands n).frame → (moment sc hands q).window < 3 * sync_slot_of sc.sizes
        → x.tick ≡ sent.state.epoch + ((moment sc hands q).window * sc.plan.l + sc.plan.h) → k + 1 ≤ epoch + (moment sc hands q).window * sc.plan.l + sc.plan.l
    by_then same within tick =
        let a : ℕ = (moment sc hands q).window * sc.plan.l in
        let e : sent.state.epoch ≡ st.epoch = sym (ap (λ y. y.epoch) is_it) ∙ was.same same in
        let here : x.tick ≡ st.epoch + (a + sc.plan.h) = tick ∙ ap (λ y. y + (a + sc.plan.h)) e in
        let at : IsBetween (low + (a + sc.plan.h) * shortest_of sc.plan) (low + sc.plan.p + (a + sc.plan.h) * tick_of sc.plan) (time_of (clock_of sc Rmu j) x.tick) =
        at_offset clock sc.plan.p st.epoch (a + sc.plan.h) here began in
        let o : ℕ = a + sc.plan.l - 1 in
        let last : o + 1 ≡ a + sc.plan.l = last_plus a sc.plan.l b.law.plan.l.0 in
        let a_le : a ≤ f0_of sc.sizes sc.plan = omega (arith, window_within sc (moment sc hands q).window within) in
        let late : low + sc.plan.p + (a + sc.plan.h) * tick_of sc.plan + sc.plan.dmax ≤ low + o * shortest_of sc.plan =
        exact_late low sc.plan.p a (f0_of sc.sizes sc.plan) sc.plan.h sc.plan.l o (shortest_of sc.plan) (drift_of sc.plan) sc.plan.dmax a_le last fit.after_1 in
        let to : k ≤ epoch + o = stamp_le ear.clock t k (epoch + o) stamp (omega (arith, (ear_time b o).least, late, at.most, arrives.most)) in
        omega (arith, to, last)

    before : (moment sc hands q).frame ≡ (moment sc hands n).frame → (moment sc hands q).window < (moment sc hands n).window
        → (((moment sc hands q).window < 3 * sync_slot_of sc.sizes) × (k + 1 ≤ epoch + (moment sc hands q).window * sc.plan.l + sc.plan.l)) ⊎ ((moment sc hands q).window ≡ 3 * sync_slot_of sc.sizes + 1)
    before same less = elim then.tick [ inr late ↦ inr late.0 | inl exact ↦ inl (exact.0, by_then same exact.0 exact.1) ]

    old : (moment sc hands q).frame < (moment sc hands n).frame → k + 1 ≤ epoch
    old earlier =
        let f : ℕ = f0_of sc.sizes sc.plan in
        let gap : was.st.epoch + tail_start_of sc.sizes sc.plan ≤ st.epoch = was.later earlier in
        let e : was.st.epoch ≡ sent.state.epoch = ap (λ y. y.epoch) is_it in
        let tick : x.tick + (sc.plan.z + 1) ≤ st.epoch =
        elim then.tick [
          | inl exact ↦ omega (arith, exact.1, gap, e, window_within sc (moment sc hands q).window exact.0, fit.in_l)
          | inr late ↦ omega (arith, late.1.1, gap, e)
        ] in
        let rises : time_of (clock_of sc Rmu j) (x.tick + (sc.plan.z + 1)) ≤ time_of (clock_of sc Rmu j) st.epoch = times_rise_to (clock_of sc Rmu j) (x.tick + (sc.plan.z + 1)) st.epoch tick in
        let far : time_of (clock_of sc Rmu j) x.tick + (sc.plan.z + 1) * shortest_of sc.plan ≤ time_of (clock_of sc Rmu j) (x.tick + (sc.plan.z + 1)) = clock.not_early x.tick (sc.plan.z + 1) in
        let e1 : epoch - 1 + 1 ≡ epoch = omega (arith, b.past) in
        let first : time_of ear.clock (epoch - 1 + 1) ≡ time_of ear.clock epoch = ap (time_of ear.clock) e1 in
        let step : time_of ear.clock (epoch - 1 + 1) ≤ time_of ear.clock (epoch - 1) + 1 * tick_of sc.plan = (steady-ear b.law b.is).not_late (epoch - 1) 1 in
        let le : t ≤ time_of ear.clock (epoch - 1) =
        too_early low sc.plan.p sc.plan.z (shortest_of sc.plan) (drift_of sc.plan) sc.plan.dmax f sc.plan.h sc.plan.l sc.plan.v t (time_of ear.clock (epoch - 1)) fit.after_3
        (omega (arith, arrives.most, far, rises, began.most)) (omega (arith, b.began.least, first, step)) in
        let to : k ≤ epoch - 1 = stamp_le ear.clock t k (epoch - 1) stamp le in
        omega (arith, to, b.past)

not_earlier : {sc hands n q epoch k : _} → (moment sc hands n).window < 3 * sync_slot_of sc.sizes → IsEarlier sc hands n q epoch k
    → IsTickOf sc epoch (moment sc hands n).window k → ⊥
not_earlier {sc} {hands} {n} {q} below e in_it =
    elim e.kind [
      | inr old ↦ absurd (omega (arith, old, in_it.0))
      | inl same ↦ elim same.2 [
        | inr late ↦ absurd (omega (arith, late, same.1, below))
        | inl exact ↦
            let apart : ((moment sc hands q).window + 1) * sc.plan.l ≤ (moment sc hands n).window * sc.plan.l = mul-le-mul_right sc.plan.l (omega (arith, same.1)) in
            absurd (omega (arith, exact.1, apart, in_it.0))
      ]
    ]

-- no message of a later window comes in the listener's window
not_later : {sc hands ear n epoch low s : _} → Beside sc hands ear n epoch low s → (moment sc hands n).window < 3 * sync_slot_of sc.sizes
    → {j q x : _} → SendsIn sc hands q j x → n < q
    → {k : ℕ} → IsStamp ear.clock (coming_to sc ear j (moment sc hands q).frame x).time k → IsTickOf sc epoch (moment sc hands n).window k → ⊥
not_later {sc} {hands} {ear} {n} {low} b below {j} {q} {x} sent lt {k} stamp in_it =
    too_late low sc.plan.p a (f0_of sc.sizes sc.plan) sc.plan.h sc.plan.l (shortest_of sc.plan) (drift_of sc.plan) sc.plan.dmin t (time_of ear.clock k) (time_of ear.clock k)
    (window_within sc (moment sc hands n).window below) fit.before_1 fit.some (omega (arith, arrives.least, rises, at.least)) stamp.reached (omega arith)
    (last_time b a k in_it.1 b.law.plan.l.0)
  where
    fit : plan_fits sc
    fit = lawful_fits b.law

    a : ℕ
    a = (moment sc hands n).window * sc.plan.l

    other : IsAgreed sc hands q
    other = agreement hands b.law q sent.running

    then : SendsThen sc (moment sc hands q) j sent.state x
    then = sends_then b.law sent

    was : WasAt sc hands n (moment sc hands q) Rmu j sent.state
    was = was_at hands b.law n q (omega (arith, lt)) sent.running then.node

    t : ℕ
    t = (coming_to sc ear j (moment sc hands q).frame x).time

    arrives : IsBetween (time_of (clock_of sc Rmu j) x.tick + sc.plan.dmin) (time_of (clock_of sc Rmu j) x.tick + sc.plan.dmax) t
    arrives = comes b.is j (moment sc hands q).frame x

    tick : was.st.epoch + (a + sc.plan.l + sc.plan.h) ≤ x.tick
    tick =
        elim (place_order (windows_in sc.sizes + 1) (moment sc hands n).frame (moment sc hands n).window (moment sc hands q).frame (moment sc hands q).window b.agree.place other.agree.place
        (omega (arith, b.agree.window)) (omega (arith, other.agree.window)) lt) [
          | inl later ↦ elim then.tick [
            | inl exact ↦ omega (arith, was.later later, tail-start sc, exact.1, fit.in_l, window_within sc (moment sc hands n).window below)
            | inr late ↦ omega (arith, was.later later, tail-start sc, late.1.0, fit.in_l, window_within sc (moment sc hands n).window below)
          ]
          | inr same ↦ elim then.tick [
            | inl exact ↦
                let apart : ((moment sc hands n).window + 1) * sc.plan.l ≤ (moment sc hands q).window * sc.plan.l = mul-le-mul_right sc.plan.l (omega (arith, same.1)) in
                omega (arith, was.same same.0, exact.1, apart)
            | inr late ↦ omega (arith, was.same same.0, late.1.0, fit.in_l, window_within sc (moment sc hands n).window below)
          ]
        ]

    at : IsBetween (low + (a + sc.plan.l + sc.plan.h) * shortest_of sc.plan) (low + sc.plan.p + (a + sc.plan.l + sc.plan.h) * tick_of sc.plan)
        (time_of (clock_of sc Rmu j) (was.st.epoch + (a + sc.plan.l + sc.plan.h)))
    at =
        at_offset (clock_now b.law was.was) sc.plan.p was.st.epoch (a + sc.plan.l + sc.plan.h) refl (b.near.begun Rmu j was.st was.was)

    rises : time_of (clock_of sc Rmu j) (was.st.epoch + (a + sc.plan.l + sc.plan.h)) ≤ time_of (clock_of sc Rmu j) x.tick
    rises = times_rise_to (clock_of sc Rmu j) (was.st.epoch + (a + sc.plan.l + sc.plan.h)) x.tick tick

-- ---- one that is good no more

-- the onset comes after the slot of the next window
pub onset_after : (f g w v : ℕ) → (nat_lt f g || ((f == g) && nat_lt w v)) ≡ true → (f < g) ⊎ ((f ≡ g) × (w < v))
onset_after f g w v h =
    elim (or_cases (nat_lt f g) ((f == g) && nat_lt w v) h) [
      | inl less ↦ inl (ltb-true f g less)
      | inr both ↦ inr (eqb-true f g (and_first (f == g) (nat_lt w v) both), ltb-true w v (and_second (f == g) (nat_lt w v) both))
    ]

not_faulty : {sc : Scenario} {hands : List HandIn} {ear : Ear} {n epoch low : ℕ} {s : Shared} → Beside sc hands ear n epoch low s → (moment sc hands n).window < 3 * sync_slot_of sc.sizes
    → {c : Coming} → is_good sc Rmu c.from (moment sc hands n).frame (slot_numbered sc.sizes ((moment sc hands n).window + 1)) ≡ true → IsOfFaulty sc hands c
    → {k : ℕ} → IsStamp ear.clock c.time k → IsTickOf sc epoch (moment sc hands n).window k → ⊥
not_faulty {sc} {hands} {ear} {n} {low} b below {c} good faulty {k} stamp in_it =
    too_soon low sc.plan.p a (f0_of sc.sizes sc.plan) sc.plan.h sc.plan.l (shortest_of sc.plan) (drift_of sc.plan) sc.plan.dmin sc.plan.dmax (stated_skew sc.plan (3 * faulty.slot * sc.plan.l))
    (time_of (clock_of sc faulty.me faulty.i) (faulty.state.epoch + 3 * faulty.slot * sc.plan.l))
    c.time (time_of ear.clock k) (window_within sc (moment sc hands n).window below) b.law.plan.dmin.1 (skew-fits b.law faulty.slot slot_le) fit.after_1 (omega (arith, rises, at.least)) faulty.not_early stamp.reached
    (last_time b a k in_it.1 b.law.plan.l.0)
  where
    fit : plan_fits sc
    fit = lawful_fits b.law

    a : ℕ
    a = (moment sc hands n).window * sc.plan.l

    counted : c.from < sc.sizes.rmus
    counted = ltb-true c.from sc.sizes.rmus (and_first (nat_lt c.from sc.sizes.rmus) (is_before (get_or sc.rmu_onsets c.from None) (moment sc hands n).frame (slot_numbered sc.sizes ((moment sc hands n).window + 1))) good)

    order : ((moment sc hands n).frame < faulty.frame) ⊎ (((moment sc hands n).frame ≡ faulty.frame) × (slot_numbered sc.sizes ((moment sc hands n).window + 1) < faulty.slot))
    order =
        onset_after (moment sc hands n).frame faulty.frame (slot_numbered sc.sizes ((moment sc hands n).window + 1)) faulty.slot
        (ap (λ o. is_before o (moment sc hands n).frame (slot_numbered sc.sizes ((moment sc hands n).window + 1))) (sym faulty.onset)
        ∙ and_second (nat_lt c.from sc.sizes.rmus) (is_before (get_or sc.rmu_onsets c.from None) (moment sc hands n).frame (slot_numbered sc.sizes ((moment sc hands n).window + 1))) good)

    slot_le : faulty.slot ≤ sync_slot_of sc.sizes
    slot_le = onset-in b.law c.from faulty.frame faulty.slot counted faulty.onset

    n1 : ℕ
    n1 = faulty.frame * (windows_in sc.sizes + 1) + 3 * faulty.slot + 1 - 1

    place : IsPlaced sc hands faulty.frame faulty.slot 1
    place = placed hands b.law faulty.frame faulty.slot 1 slot_le (omega arith) (omega arith) faulty.running

    later_moment : n ≤ faulty.frame * (windows_in sc.sizes + 1) + 3 * faulty.slot + 1 - 1
    later_moment =
        elim order [
          | inl less ↦
              let le : ((moment sc hands n).frame + 1) * (windows_in sc.sizes + 1) ≤ faulty.frame * (windows_in sc.sizes + 1) = mul-le-mul_right (windows_in sc.sizes + 1) (omega (arith, less)) in
              omega (arith, b.agree.place, b.agree.window, le)
          | inr same ↦
              let e : (moment sc hands n).frame * (windows_in sc.sizes + 1) ≡ faulty.frame * (windows_in sc.sizes + 1) = ap (λ x. x * (windows_in sc.sizes + 1)) same.0 in
              omega (arith, b.agree.place, e, same.1, below)
        ]

    node : IsGoodNode sc (moment sc hands (faulty.frame * (windows_in sc.sizes + 1) + 3 * faulty.slot + 1 - 1)) faulty.me faulty.i faulty.state
    node = good_before_slot slot_le place faulty.good

    was : WasAt sc hands n (moment sc hands (faulty.frame * (windows_in sc.sizes + 1) + 3 * faulty.slot + 1 - 1)) faulty.me faulty.i faulty.state
    was = was_at hands b.law n (faulty.frame * (windows_in sc.sizes + 1) + 3 * faulty.slot + 1 - 1) later_moment faulty.running node

    tick : was.st.epoch + (a + sc.plan.l + sc.plan.l) ≤ faulty.state.epoch + 3 * faulty.slot * sc.plan.l
    tick =
        elim order [
          | inl less ↦
              let f : (moment sc hands n).frame < (moment sc hands (faulty.frame * (windows_in sc.sizes + 1) + 3 * faulty.slot + 1 - 1)).frame = omega (arith, less, place.frame_is) in
              omega (arith, was.later f, tail-start sc, window_within sc (moment sc hands n).window below)
          | inr same ↦
              let f : (moment sc hands n).frame ≡ (moment sc hands (faulty.frame * (windows_in sc.sizes + 1) + 3 * faulty.slot + 1 - 1)).frame = omega (arith, same.0, place.frame_is) in
              let apart : ((moment sc hands n).window + 2) * sc.plan.l ≤ (3 * faulty.slot) * sc.plan.l = mul-le-mul_right sc.plan.l (omega (arith, same.1, below)) in
              omega (arith, was.same f, apart)
        ]

    at : IsBetween (low + (a + sc.plan.l + sc.plan.l) * shortest_of sc.plan) (low + sc.plan.p + (a + sc.plan.l + sc.plan.l) * tick_of sc.plan)
        (time_of (clock_of sc faulty.me faulty.i) (was.st.epoch + (a + sc.plan.l + sc.plan.l)))
    at =
        at_offset (clock_now b.law was.was) sc.plan.p was.st.epoch
        (a + sc.plan.l + sc.plan.l) refl (b.near.begun faulty.me faulty.i was.st was.was)

    rises : time_of (clock_of sc faulty.me faulty.i) (was.st.epoch + (a + sc.plan.l + sc.plan.l)) ≤ time_of (clock_of sc faulty.me faulty.i) (faulty.state.epoch + 3 * faulty.slot * sc.plan.l)
    rises = times_rise_to (clock_of sc faulty.me faulty.i) (was.st.epoch + (a + sc.plan.l + sc.plan.l)) (faulty.state.epoch + 3 * faulty.slot * sc.plan.l) tick

-- ---- nothing else

-- what comes is what a good RMU sends in this window
pub record IsOwn (sc : Scenario) (hands : List HandIn) (ear : Ear) (n : ℕ) (c : Coming) : Type 0 where
  pub good : IsOfGood sc hands ear c
  pub here : good.n ≡ n

pub only_own : {sc : Scenario} {hands : List HandIn} {ear : Ear} {n epoch low : ℕ} {s : Shared} → Beside sc hands ear n epoch low s → (moment sc hands n).window < 3 * sync_slot_of sc.sizes
    → {c : Coming} {st : NodeState} → IsGoodNode sc (moment sc hands n) Rmu c.from st → is_good sc Rmu c.from (moment sc hands n).frame (slot_numbered sc.sizes ((moment sc hands n).window + 1)) ≡ true
    → {k : ℕ} → k < ear.ticks → IsHeard ear k c → IsTickOf sc epoch (moment sc hands n).window k → IsOwn sc hands ear n c
only_own {sc} {hands} {ear} {n} b below {c} node good {k} in_time heard in_it =
    elim (b.run.only k c in_time heard (good_counts sc Rmu c.from (moment sc hands n).frame (slot_numbered sc.sizes ((moment sc hands n).window + 1)) good)) [
      | inl sent ↦ own sent
      | inr faulty ↦ absurd (not_faulty b below good faulty (b.is.stamps k c in_time heard) in_it)
    ]
  where
    own : IsOfGood sc hands ear c → IsOwn sc hands ear n c
    own sent =
        let stamp : IsStamp ear.clock (coming_to sc ear c.from (moment sc hands sent.n).frame sent.sending).time k =
        subst (λ (d : Coming). IsStamp ear.clock d.time k) sent.is (b.is.stamps k c in_time heard) in
        elim (cases_order sent.n n) [
          | inl same ↦ record { good = sent; here = same }
          | inr order ↦ elim order [
            | inl before ↦
                absurd (not_earlier below (earlier_stamp b node sent.sent before stamp) in_it)
            | inr after ↦ absurd (not_later b below sent.sent after stamp in_it)
          ]
        ]
