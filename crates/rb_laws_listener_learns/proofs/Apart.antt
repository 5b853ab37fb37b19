-- A good node's frame takes all ticks of its windows, so calls of unlike frames come far apart.
use Rattle.std.proofs.{Common.{◌≡◌, ℕ, zero, suc, ◌+◌, ◌-◌, ◌*◌, ◌<◌, ◌≤◌, List, inl, inr, refl, sym, ◌∙◌, ap, subst, arith}, lemmas.Bool.cases_lt, Math.Nat.mul-le-mul_right}
use Rattle.rb_base.specs.{Nodes.Side, Nodes.Side.Rmu, Sizes.sync_slot_of}
use Rattle.rb_rules.specs.{Clock.{IsStamp, time_of}, Goodness.{Scenario, clock_of, is_good}, Hearing.Sending, Lawful.{IsDelay, IsLawful}, Moments.IsRunning, NodeState.NodeState, Plan.{f0_of, shortest_of, tail_start_of}, Ports.HandIn, Rounds.{Moment, moment, next_frame, windows_in}}
use Rattle.rb_rules.proofs.Drift.{times_rise_to}
use Rattle.rb_laws_agreement.proofs.{Agreement.{IsAgreed, agreement, running_before, step_is}, FrameAgrees.{TurnedFrom, turned_from}, FrameTimes.turned-epoch, Goodnesses.slot_last, Invariant.IsGoodNode, NextMoments.{CameFrom, came_from, next}, NodeWindows.{Windows, sync_windows_are}, SlotRuns.next-frame}
use Rattle.rb_laws_synchrony.proofs.{PlanNumbers.{drift_of, eps_of}, StageCalls.clock_now, SyncSteps.epoch_after, Synchronous.{KnowNext, KnowsEpoch, from_2, to_2}, Synchrony.{IsSynchronous, synchrony}, Times.{Steady, lawful_fits, plan_fits}, EpochTicks.turned-frame}
use Rattle.rb_listen.specs.Passes.{reach_of}
use Rattle.rb_laws_listener_learns.specs.{Ears.{Ear, IsEar, SendsIn, coming_to}, Together.LaterCallsComeLater}
use Rattle.rb_laws_listener_learns.proofs.Together.{call-time, steady-ear}

-- Epochs along a run.

-- the good node was good at moment n. In a later frame its epoch is later by all ticks of a frame's
-- windows
pub record WasAt (sc : Scenario) (hands : List HandIn) (n : ℕ) (m : Moment) (me : Side) (i : ℕ) (now : NodeState) : Type 0 where
  pub st : NodeState
  pub was : IsGoodNode sc (moment sc hands n) me i st
  pub order : (moment sc hands n).frame ≤ m.frame
  pub same : (moment sc hands n).frame ≡ m.frame → st.epoch ≡ now.epoch
  pub later : (moment sc hands n).frame < m.frame → st.epoch + tail_start_of sc.sizes sc.plan ≤ now.epoch

abbrev pub AllWereAt : Scenario → List HandIn → ℕ → Moment → Type 0
AllWereAt sc hands n m = (me : Side) (i : ℕ) (now : NodeState) → IsGoodNode sc m me i now → WasAt sc hands n m me i now

here-at : (sc : Scenario) (hands : List HandIn) (n : ℕ) → AllWereAt sc hands n (moment sc hands n)
here-at sc hands n me i now h = record { st = now; was = h; order = omega arith; same = λ e. refl; later = λ less. absurd (omega (arith, less)) }

next-at : {sc hands n k : _} → IsAgreed sc hands k → AllWereAt sc hands n (moment sc hands k) → AllWereAt sc hands n (next sc (moment sc hands k))
next-at {sc} {hands} {n} {k} agreed before me i now h =
    let from : CameFrom sc (moment sc hands k) me i now = came_from agreed.agree h in
    let w : WasAt sc hands n (moment sc hands k) me i from.st = before me i from.st from.was in
    let e : from.st.epoch ≡ now.epoch = sym (epoch_after sc (moment sc hands k) me i from.st) ∙ ap (λ x. x.epoch) from.is in
    let f : (next sc (moment sc hands k)).frame ≡ (moment sc hands k).frame = next-frame sc (moment sc hands k) in
    record {
      st = w.st;
      was = w.was;
      order = omega (arith, w.order, f);
      same = λ is. w.same (is ∙ f) ∙ e;
      later = λ less. omega (arith, w.later (omega (arith, less, f)), e);
    }

-- if the frame was the same, the epoch was the same, and if it was earlier, the epoch was earlier
-- by at least the tail
once-more : (first then_at : ℕ) (old mid now tail : ℕ) → first ≤ then_at → (first ≡ then_at → old ≡ mid) → (first < then_at → old + tail ≤ mid) → mid + tail ≤ now → old + tail ≤ now
once-more first then_at old mid now tail le same later more =
    elim (cases_lt first then_at) [
      | inl less ↦ omega (arith, later less, more)
      | inr ge ↦ let e : first ≡ then_at = omega (arith, le, ge) in omega (arith, same e, more)
    ]

turn-at : {sc hands n k : _} → (x : IsSynchronous sc hands k) → KnowNext sc (moment sc hands k) → AllWereAt sc hands n (moment sc hands k)
    → AllWereAt sc hands n (next_frame sc hands (moment sc hands k))
turn-at {sc} {hands} {n} {k} x known before me i now h =
    let from : TurnedFrom sc (moment sc hands k) me i now = turned_from x.agree h in
    let w : WasAt sc hands n (moment sc hands k) me i from.st = before me i from.st from.was in
    let at : KnowsEpoch sc me i from.st known.0 = known.1 me i from.st from.was in
    let e : at.takes.epoch ≡ now.epoch = sym (turned-epoch sc.sizes sc.plan me from.st at.takes.known) ∙ ap (λ x. x.epoch) from.is in
    let f : (next_frame sc hands (moment sc hands k)).frame ≡ (moment sc hands k).frame + 1 = turned-frame sc hands (moment sc hands k) in
    record {
      st = w.st;
      was = w.was;
      order = omega (arith, w.order, f);
      same = λ is. absurd (omega (arith, is, f, w.order));
      later = λ less.
          once-more (moment sc hands n).frame (moment sc hands k).frame w.st.epoch from.st.epoch now.epoch (tail_start_of sc.sizes sc.plan) w.order w.same w.later
          (omega (arith, at.takes.least, e));
    }

step-at : {sc hands : _} → IsLawful sc → {n : ℕ} (k : ℕ) → IsRunning (moment sc hands (suc k)) → IsRunning (moment sc hands k)
    → AllWereAt sc hands n (moment sc hands k) → AllWereAt sc hands n (moment sc hands (suc k))
step-at {sc} {hands} law {n} k on open_before before =
    let x : IsSynchronous sc hands k = synchrony hands law k open_before in
    elim (step_is sc hands (moment sc hands k) on) [
      | inl window ↦ subst (AllWereAt sc hands n) (sym window.1) (next-at (agreement hands law k open_before) before)
      | inr turn ↦
          let over : windows_in sc.sizes ≤ (moment sc hands k).window = turn.0 in
          subst (AllWereAt sc hands n) (sym turn.1) (turn-at x (x.near.third (omega (arith, over))) before)
    ]

pub all-were-at : {sc : _} (hands : List HandIn) → IsLawful sc → (n d : ℕ) → IsRunning (moment sc hands (d + n)) → AllWereAt sc hands n (moment sc hands (d + n))
all-were-at {sc} hands law n zero running = subst (λ k. AllWereAt sc hands n (moment sc hands k)) (let e : n ≡ 0 + n = omega arith in e) (here-at sc hands n)
all-were-at {sc} hands law n (suc d) running =
    let e : suc (d + n) ≡ suc d + n = omega arith in
    let on : IsRunning (moment sc hands (suc (d + n))) = subst (λ k. IsRunning (moment sc hands k)) (sym e) running in
    let open_before : IsRunning (moment sc hands (d + n)) = running_before sc hands (moment sc hands (d + n)) on in
    subst (λ k. AllWereAt sc hands n (moment sc hands k)) e (step-at law (d + n) on open_before (all-were-at hands law n d open_before))

-- The plan.

-- what a later frame's calls need to come later, with w ticks of a pass
pub far-apart : (low then_at p f h l v z u d least : ℕ) {most : ℕ} (eps w : ℕ) → most ≡ least + eps → 1 ≤ u
    → p + d * (f + h) ≤ h * u + least
    → p + d * (f + h) + most + (1 + h) * u ≤ l * u
    → p + d * (f + h) + 2 * most + (u + d) + d * l + (1 + h) * u ≤ v * u
    → 2 * eps + 2 * (u + d) + d * (l + v + z) + (most + (u + d)) ≤ p + least
    → w * u ≤ z * u → w * d ≤ z * d → low + (f + l + v + z) * u ≤ then_at + p
    → low + p + (f + h) * (u + d) + most + (u + d) + l * (u + d) + most + (u + d) + w * (u + d) < then_at + (f + h) * u + least + l * u + least
far-apart low then_at p f h l v z u d least eps w e some c1 c2 c4 c7 wu wd later = omega (arith, e, some, c1, c2, c4, c7, wu, wd, later)

-- Both together.

-- a moment of a later frame comes later
pub later-moment : (size f w g v : ℕ) {m n : ℕ} → m ≡ f * size + w → n ≡ g * size + v → f < g → w < size → m ≤ n
later-moment size f w g v at_m at_n less small =
    let le : (f + 1) * size ≤ g * size = mul-le-mul_right size (omega (arith, less)) in
    omega (arith, at_m, at_n, le, small)

-- the first time of the later frame is later by at least the shortest time up to the tail, less p
lows : {sc hands : _} → IsLawful sc → {m n j t : _} → (moment sc hands n).window ≡ 3 * sync_slot_of sc.sizes + 1
    → (moment sc hands m).window ≡ 3 * sync_slot_of sc.sizes + 1 → (moment sc hands m).frame < (moment sc hands n).frame → SendsIn sc hands n j t
    → (a : IsSynchronous sc hands m) (b : IsSynchronous sc hands n) → a.low + tail_start_of sc.sizes sc.plan * shortest_of sc.plan ≤ b.low + sc.plan.p
lows {sc} {hands} law {m} {n} {j} at_n at_m less sends a b =
    omega (arith, (a.near.begun Rmu j was.st was.was).least, (b.near.begun Rmu j sends.state node).most, rises, far)
  where
    ws : Windows sc (moment sc hands n) (sync_slot_of sc.sizes) (1 + 1)
    ws = sync_windows_are sc (moment sc hands n) 1 (omega arith) at_n

    node : IsGoodNode sc (moment sc hands n) Rmu j sends.state
    node = record {
      there = sends.good.0;
      good = ap (is_good sc Rmu j (moment sc hands n).frame) (slot_last sc.sizes 1 at_n ∙ sym (ap (λ w. w.slot) (ws.are Rmu sends.state))) ∙ sends.good.1;
    }

    before : m ≤ n
    before =
        later-moment (windows_in sc.sizes + 1) (moment sc hands m).frame (moment sc hands m).window (moment sc hands n).frame (moment sc hands n).window
        a.agree.place b.agree.place less (omega (arith, at_m))

    gap : (n - m) + m ≡ n
    gap = omega (arith, before)

    was : WasAt sc hands m (moment sc hands n) Rmu j sends.state
    was =
        subst (λ k. AllWereAt sc hands m (moment sc hands k)) gap
        (all-were-at hands law m (n - m) (subst (λ k. IsRunning (moment sc hands k)) (sym gap) sends.running)) Rmu j sends.state node

    clock : Steady (shortest_of sc.plan) (drift_of sc.plan) (clock_of sc Rmu j)
    clock = clock_now law node

    far : time_of (clock_of sc Rmu j) was.st.epoch + tail_start_of sc.sizes sc.plan * shortest_of sc.plan ≤ time_of (clock_of sc Rmu j) (was.st.epoch + tail_start_of sc.sizes sc.plan)
    far = clock.not_early was.st.epoch (tail_start_of sc.sizes sc.plan)

    rises : time_of (clock_of sc Rmu j) (was.st.epoch + tail_start_of sc.sizes sc.plan) ≤ time_of (clock_of sc Rmu j) sends.state.epoch
    rises = times_rise_to (clock_of sc Rmu j) (was.st.epoch + tail_start_of sc.sizes sc.plan) sends.state.epoch (was.later less)

-- times that are far enough apart have stamps more than `reach` apart
pub far-stamps : {u d clock : _} → Steady u d clock → {x y : ℕ} (a : ℕ) {b : ℕ} (reach : ℕ) → IsStamp clock x a → IsStamp clock y b → 1 ≤ a → x + (u + d) + reach * (u + d) < y → a + reach < b
far-stamps steady zero reach is_a is_b some far = absurd (omega (arith, some))
far-stamps {clock} steady {x} (suc a) {b} reach is_a is_b some far =
    elim (cases_lt (suc a + reach) b) [
      | inl less ↦ less
      | inr ge ↦
          let by_then : time_of clock b ≤ time_of clock (suc a + reach) = times_rise_to clock b (suc a + reach) ge in
          absurd (omega (arith, far, is_b.reached, by_then, steady.not_late (suc a) reach, steady.stamped x a is_a))
    ]

pub come-apart : (sc : Scenario) (hands : List HandIn) → IsLawful sc → (ear : Ear) → IsEar sc ear → LaterCallsComeLater sc hands ear
come-apart sc hands law ear is m n i j s t at_m at_n less sends_i sends_j a b some is_a is_b =
    far-stamps (steady-ear law is) a w is_a is_b some far
  where
    u : ℕ
    u = shortest_of sc.plan

    d : ℕ
    d = drift_of sc.plan

    w : ℕ
    w = reach_of sc.plan

    fit : plan_fits sc
    fit = lawful_fits law

    first : IsSynchronous sc hands m
    first = synchrony hands law m sends_i.running

    second : IsSynchronous sc hands n
    second = synchrony hands law n sends_j.running

    x : ℕ
    x = (coming_to sc ear i (moment sc hands m).frame s).time

    y : ℕ
    y = (coming_to sc ear j (moment sc hands n).frame t).time

    delay : (k frame : ℕ) (sent : Sending) → IsDelay sc.plan (ear.delay k (record { frame = frame; slot = sent.message.slot; stage = sent.message.stage }))
    delay k frame sent = is.delays k (record { frame = frame; slot = sent.message.slot; stage = sent.message.stage })

    to : x ≤ to_2 sc first.low + sc.plan.dmax
    to = omega (arith, (call-time law at_m sends_i first).most, (delay i (moment sc hands m).frame s).greatest)

    from : from_2 sc second.low + sc.plan.dmin ≤ y
    from = omega (arith, (call-time law at_n sends_j second).least, (delay j (moment sc hands n).frame t).least)

    in_z : w ≤ sc.plan.z
    in_z = omega arith

    room : to_2 sc first.low + sc.plan.dmax + (u + d) + w * (u + d) < from_2 sc second.low + sc.plan.dmin
    room =
        far-apart first.low second.low sc.plan.p (f0_of sc.sizes sc.plan) sc.plan.h sc.plan.l sc.plan.v sc.plan.z u d sc.plan.dmin (eps_of sc.plan) w fit.delays fit.some
        fit.before_1 fit.after_1 fit.after_2 fit.next_ba (mul-le-mul_right u in_z) (mul-le-mul_right d in_z)
        (lows law at_n at_m less sends_j first second)

    far : x + (u + d) + w * (u + d) < y
    far = omega (arith, to, from, room)
