-- What good RMUs send in a frame below the sync slot comes between the calls of the frame before
-- and their own calls.
use Rattle.std.proofs.{Common.{◌≡◌, ℕ, ◌+◌, ◌-◌, ◌*◌, ◌<◌, ◌≤◌, ◌==◌, false, Some, option_map, List, refl, sym, ◌∙◌, ap, subst, arith}, lemmas.Bool.Decides.nat_tests, lemmas.Option.same_Some, Math.Nat.mul-le-mul_right}
use Rattle.rb_base.specs.{Nodes.Side.Rmu, Sizes.sync_slot_of}
use Rattle.rb_rules.specs.{Clock.{IsStamp, time_of}, Goodness.{Scenario, clock_of, is_good}, Hearing.Sending, Lawful.{IsDelay, IsLawful}, Moments.IsRunning, Plan.{f0_of, shortest_of, tail_start_of}, Ports.HandIn, Rounds.{moment, windows_in}, SyncStage.{call_tick_of, send_tick_of}, Windows.send_offset_of}
use Rattle.rb_rules.proofs.{Drift.times_rise_to, Stamps.stamps_rise}
use Rattle.rb_laws_agreement.proofs.{Agreement.agreement, Goodnesses.{slot_here, slot_last}, Invariant.IsGoodNode, NodeWindows.{Windows, exact_windows, sync_windows_are, word_at}}
use Rattle.rb_laws_synchrony.proofs.{PlanNumbers.{drift_of, eps_of}, StageCalls.clock_now, Synchronous.{KnowsMiddle, from_1, heard_from, heard_to, to_1, to_2}, Synchrony.{IsSynchronous, synchrony}, TakenCalls.call_sent, Times.{Steady, lawful_fits, plan_fits}, TimelyWindows.{IsSent, sent_parts}}
use Rattle.rb_listen.specs.Passes.{reach_of}
use Rattle.rb_laws_listener_learns.specs.Ears.{IsEar, SendsIn, coming_to}
use Rattle.rb_laws_listener_learns.proofs.{Apart.{AllWereAt, WasAt, all-were-at, far-stamps, later-moment}, CallsSent.sends-at, Deciding.IsHeardCall, Together.{call-time, steady-ear}}

-- The sender, and when it sends.

-- moment `m` is before stage q + 1 of a slot below the sync slot
pub record IsExactAt (sc : Scenario) (hands : List HandIn) (m slot q : ℕ) : Type 0 where
  pub below : slot < sync_slot_of sc.sizes
  pub small : q < 3
  pub at : (moment sc hands m).window ≡ 3 * slot + q

pub exact-node : {sc hands m j slot q s : _} → IsExactAt sc hands m slot q → (sent : SendsIn sc hands m j s) → IsGoodNode sc (moment sc hands m) Rmu j sent.state
exact-node {sc} {hands} {m} {j} {slot} {q} e sent =
    let ws : Windows sc (moment sc hands m) slot (q + 1) = exact_windows sc (moment sc hands m) slot q e.below e.small e.at in
    record {
      there = sent.good.0;
      good = ap (is_good sc Rmu j (moment sc hands m).frame) (slot_here sc.sizes slot q e.below e.small e.at ∙ sym (ap (λ w. w.slot) (ws.are Rmu sent.state))) ∙ sent.good.1;
    }

pub call-node : {sc hands n j s : _} → (moment sc hands n).window ≡ 3 * sync_slot_of sc.sizes + 1 → (sent : SendsIn sc hands n j s)
    → IsGoodNode sc (moment sc hands n) Rmu j sent.state
call-node {sc} {hands} {n} {j} at sent =
    let ws : Windows sc (moment sc hands n) (sync_slot_of sc.sizes) (1 + 1) = sync_windows_are sc (moment sc hands n) 1 (omega arith) at in
    record {
      there = sent.good.0;
      good = ap (is_good sc Rmu j (moment sc hands n).frame) (slot_last sc.sizes 1 at ∙ sym (ap (λ w. w.slot) (ws.are Rmu sent.state))) ∙ sent.good.1;
    }

exact-tick : {sc hands m j slot q s : _} → IsExactAt sc hands m slot q → (sent : SendsIn sc hands m j s)
    → s.tick ≡ sent.state.epoch + ((3 * slot + q) * sc.plan.l + sc.plan.h)
exact-tick {sc} {hands} {m} {j} {slot} {q} {s} e sent =
    let ws : Windows sc (moment sc hands m) slot (q + 1) = exact_windows sc (moment sc hands m) slot q e.below e.small e.at in
    let word : ℕ = word_at sc (moment sc hands m) slot j in
    let parts : IsSent sc.sizes sc.plan Rmu j sent.state slot (q + 1) word s = sent_parts sc.sizes sc.plan Rmu j sent.state slot (q + 1) word (sends-at sent ws) in
    let away : (slot == sync_slot_of sc.sizes) ≡ false = not-sync slot (sync_slot_of sc.sizes) e.below in
    let as_is : send_tick_of sc.sizes sc.plan sent.state slot (q + 1) ≡ Some (sent.state.epoch + send_offset_of sc.plan slot (q + 1)) = rw away refl in
    let number : 3 * slot + (q + 1) - 1 ≡ 3 * slot + q = omega arith in
    sym (same_Some (sent.state.epoch + send_offset_of sc.plan slot (q + 1)) s.tick (sym as_is ∙ parts.tick)) ∙ ap (λ k. sent.state.epoch + (k * sc.plan.l + sc.plan.h)) number
  where
    not-sync : (slot sync : ℕ) → slot < sync → (slot == sync) ≡ false
    not-sync slot sync below = grind (arith, nat_tests, below)

-- After the calls of a frame before.

in-time : (low then_at p f h l v z u d least : ℕ) {most : ℕ} (eps w : ℕ) → most ≡ least + eps → 1 ≤ u
    → p + d * (f + h) ≤ h * u + least
    → p + d * (f + h) + most + (1 + h) * u ≤ l * u
    → p + d * (f + h) + 2 * most + (u + d) + d * l + (1 + h) * u ≤ v * u
    → 2 * eps + 2 * (u + d) + d * (l + v + z) + (most + (u + d)) ≤ p + least
    → w * u ≤ z * u → w * d ≤ z * d → low + (f + l + v + z) * u ≤ then_at
    → low + p + (f + h) * (u + d) + most + (u + d) + l * (u + d) + most + (u + d) + w * (u + d) < then_at + (l + h) * u + least
in-time low then_at p f h l v z u d least eps w e some c1 c2 c4 c7 wu wd later = omega (arith, e, some, c1, c2, c4, c7, wu, wd, later)

-- the sending tick of a window after the first is at least l + h
from-second : (k l h : ℕ) → 1 ≤ k → l + h ≤ k * l + h
from-second k l h some = let le : 1 * l ≤ k * l = mul-le-mul_right l some in omega (arith, le)

pub after-calls : {sc hands : _} → IsLawful sc → {ear : _} → IsEar sc ear → {i number a : ℕ} (c : IsHeardCall sc hands ear i number a) → {m j slot q s : _}
    → IsExactAt sc hands m slot q → 1 ≤ 3 * slot + q → (sent : SendsIn sc hands m j s) → (moment sc hands c.n).frame < (moment sc hands m).frame
    → {b : ℕ} → IsStamp ear.clock (coming_to sc ear j (moment sc hands m).frame s).time b → a + reach_of sc.plan < b
after-calls {sc} {hands} law {ear} is {i} {a} c {m} {j} {slot} {q} {s} e some sent less stamped =
    far-stamps (steady-ear law is) a w c.stamped stamped c.some far
  where
    u : ℕ
    u = shortest_of sc.plan

    d : ℕ
    d = drift_of sc.plan

    w : ℕ
    w = reach_of sc.plan

    fit : plan_fits sc
    fit = lawful_fits law

    first : IsSynchronous sc hands c.n
    first = synchrony hands law c.n c.sent.running

    x : ℕ
    x = (coming_to sc ear i (moment sc hands c.n).frame c.sending).time

    y : ℕ
    y = (coming_to sc ear j (moment sc hands m).frame s).time

    delay : (k frame : ℕ) (t : Sending) → IsDelay sc.plan (ear.delay k (record { frame = frame; slot = t.message.slot; stage = t.message.stage }))
    delay k frame t = is.delays k (record { frame = frame; slot = t.message.slot; stage = t.message.stage })

    node : IsGoodNode sc (moment sc hands m) Rmu j sent.state
    node = exact-node e sent

    before : c.n ≤ m
    before =
        later-moment (windows_in sc.sizes + 1) (moment sc hands c.n).frame (moment sc hands c.n).window (moment sc hands m).frame (moment sc hands m).window
        first.agree.place (agreement hands law m sent.running).agree.place less (omega (arith, c.window_is))

    gap : (m - c.n) + c.n ≡ m
    gap = omega (arith, before)

    was : WasAt sc hands c.n (moment sc hands m) Rmu j sent.state
    was =
        subst (λ k. AllWereAt sc hands c.n (moment sc hands k)) gap
        (all-were-at hands law c.n (m - c.n) (subst (λ k. IsRunning (moment sc hands k)) (sym gap) sent.running)) Rmu j sent.state node

    clock : Steady (shortest_of sc.plan) (drift_of sc.plan) (clock_of sc Rmu j)
    clock = clock_now law node

    far_on : time_of (clock_of sc Rmu j) was.st.epoch + tail_start_of sc.sizes sc.plan * shortest_of sc.plan ≤ time_of (clock_of sc Rmu j) (was.st.epoch + tail_start_of sc.sizes sc.plan)
    far_on = clock.not_early was.st.epoch (tail_start_of sc.sizes sc.plan)

    rises : time_of (clock_of sc Rmu j) (was.st.epoch + tail_start_of sc.sizes sc.plan) ≤ time_of (clock_of sc Rmu j) sent.state.epoch
    rises = times_rise_to (clock_of sc Rmu j) (was.st.epoch + tail_start_of sc.sizes sc.plan) sent.state.epoch (was.later less)

    sent_at : time_of (clock_of sc Rmu j) sent.state.epoch + ((3 * slot + q) * sc.plan.l + sc.plan.h) * shortest_of sc.plan ≤ time_of (clock_of sc Rmu j) s.tick
    sent_at =
        subst (λ t. time_of (clock_of sc Rmu j) sent.state.epoch + ((3 * slot + q) * sc.plan.l + sc.plan.h) * shortest_of sc.plan ≤ time_of (clock_of sc Rmu j) t) (sym (exact-tick e sent))
        (clock.not_early sent.state.epoch ((3 * slot + q) * sc.plan.l + sc.plan.h))

    enough : (sc.plan.l + sc.plan.h) * shortest_of sc.plan ≤ ((3 * slot + q) * sc.plan.l + sc.plan.h) * shortest_of sc.plan
    enough = mul-le-mul_right (shortest_of sc.plan) (from-second (3 * slot + q) sc.plan.l sc.plan.h some)

    to : x ≤ to_2 sc first.low + sc.plan.dmax
    to = omega (arith, (call-time law c.window_is c.sent first).most, (delay i (moment sc hands c.n).frame c.sending).greatest)

    low : first.low + tail_start_of sc.sizes sc.plan * shortest_of sc.plan ≤ time_of (clock_of sc Rmu j) sent.state.epoch
    low = omega (arith, (first.near.begun Rmu j was.st was.was).least, far_on, rises)

    in_z : w ≤ sc.plan.z
    in_z = omega arith

    lasts : to_2 sc first.low + sc.plan.dmax + (u + d) + w * (u + d) < time_of (clock_of sc Rmu j) sent.state.epoch + (sc.plan.l + sc.plan.h) * u + sc.plan.dmin
    lasts =
        in-time first.low (time_of (clock_of sc Rmu j) sent.state.epoch) sc.plan.p (f0_of sc.sizes sc.plan) sc.plan.h sc.plan.l sc.plan.v sc.plan.z u d sc.plan.dmin (eps_of sc.plan) w
        fit.delays fit.some fit.before_1 fit.after_1 fit.after_2 fit.next_ba (mul-le-mul_right u in_z) (mul-le-mul_right d in_z) low

    far : x + (u + d) + w * (u + d) < y
    far = omega (arith, to, lasts, sent_at, enough, (delay j (moment sc hands m).frame s).least)

-- Before their own calls.

-- n ticks take longer than delays differ
long-enough : (p f h l u d least : ℕ) {most : ℕ} (eps n : ℕ) → most ≡ least + eps → p + d * (f + h) + most + (1 + h) * u ≤ l * u → l ≤ n → eps ≤ n * u
long-enough p f h l u d least eps n e c2 le = let more : l * u ≤ n * u = mul-le-mul_right u le in omega (arith, e, c2, more)

-- a sending tick below the sync slot comes at least l ticks before the call
ticks-between : (k sync l h epoch : ℕ) {tick : ℕ} (first : ℕ) {call : ℕ} → k + 1 ≤ 3 * sync → h < l → tick ≡ epoch + (k * l + h) → epoch + 3 * sync * l ≤ first → call ≡ first + l → tick + l ≤ call
ticks-between k sync l h epoch first less in_l at from is = let le : (k + 1) * l ≤ 3 * sync * l = mul-le-mul_right l less in omega (arith, le, in_l, at, from, is)

pub before-call : {sc hands : _} → IsLawful sc → {ear : _} → IsEar sc ear → {m n j slot q s t : _} → IsExactAt sc hands m slot q
    → (moment sc hands n).window ≡ 3 * sync_slot_of sc.sizes + 1 → (sent : SendsIn sc hands m j s) → (calls : SendsIn sc hands n j t) → (moment sc hands m).frame ≡ (moment sc hands n).frame
    → {a b : ℕ} → IsStamp ear.clock (coming_to sc ear j (moment sc hands m).frame s).time a → IsStamp ear.clock (coming_to sc ear j (moment sc hands n).frame t).time b → a ≤ b
before-call {sc} {hands} law {ear} is {m} {n} {j} {slot} {q} {s} {t} e at sent calls frames {a} {b} stamp_a stamp_b =
    stamps_rise ear.clock (coming_to sc ear j (moment sc hands m).frame s).time (coming_to sc ear j (moment sc hands n).frame t).time a b stamp_a stamp_b earlier
  where
    fit : plan_fits sc
    fit = lawful_fits law

    synced : IsSynchronous sc hands n
    synced = synchrony hands law n calls.running

    node : IsGoodNode sc (moment sc hands n) Rmu j calls.state
    node = call-node at calls

    clock : Steady (shortest_of sc.plan) (drift_of sc.plan) (clock_of sc Rmu j)
    clock = clock_now law node

    before : m ≤ n
    before = omega (arith, (agreement hands law m sent.running).agree.place, synced.agree.place, ap (λ f. f * (windows_in sc.sizes + 1)) frames, e.at, e.below, e.small, at)

    gap : (n - m) + m ≡ n
    gap = omega (arith, before)

    was : WasAt sc hands m (moment sc hands n) Rmu j calls.state
    was =
        subst (λ k. AllWereAt sc hands m (moment sc hands k)) gap
        (all-were-at hands law m (n - m) (subst (λ k. IsRunning (moment sc hands k)) (sym gap) calls.running)) Rmu j calls.state node

    epochs : sent.state.epoch ≡ calls.state.epoch
    epochs = ap (λ x. x.epoch) (same_Some sent.state was.st (sym sent.good.0 ∙ was.was.there)) ∙ was.same frames

    knows : KnowsMiddle sc Rmu j calls.state calls.state.k1 (f0_of sc.sizes sc.plan) (f0_of sc.sizes sc.plan + sc.plan.l) (f0_of sc.sizes sc.plan + sc.plan.v)
        (heard_from sc (from_1 sc synced.low)) (heard_to sc (to_1 sc synced.low))
    knows = synced.near.first at j calls.state node

    called : call_tick_of sc.sizes sc.plan calls.state 2 ≡ Some t.tick
    called =
        (call_sent sc.sizes sc.plan Rmu j calls.state 2 (word_at sc (moment sc hands n) (sync_slot_of sc.sizes) j)
        (sends-at calls (sync_windows_are sc (moment sc hands n) 1 (omega arith) at))).0

    call_tick : t.tick ≡ knows.tick + sc.plan.l
    call_tick = same_Some t.tick (knows.tick + sc.plan.l) (sym called ∙ ap (option_map (λ k1. k1 + sc.plan.l)) knows.is)

    between : s.tick + sc.plan.l ≤ t.tick
    between =
        ticks-between (3 * slot + q) (sync_slot_of sc.sizes) sc.plan.l sc.plan.h calls.state.epoch knows.tick (omega (arith, e.below, e.small)) fit.in_l
        (exact-tick e sent ∙ ap (λ x. x + ((3 * slot + q) * sc.plan.l + sc.plan.h)) epochs) knows.from call_tick

    ticks : s.tick + (t.tick - s.tick) ≡ t.tick
    ticks = omega (arith, between)

    later : time_of (clock_of sc Rmu j) s.tick + (t.tick - s.tick) * shortest_of sc.plan ≤ time_of (clock_of sc Rmu j) t.tick
    later = subst (λ x. time_of (clock_of sc Rmu j) s.tick + (t.tick - s.tick) * shortest_of sc.plan ≤ time_of (clock_of sc Rmu j) x) ticks (clock.not_early s.tick (t.tick - s.tick))

    enough : eps_of sc.plan ≤ (t.tick - s.tick) * shortest_of sc.plan
    enough =
        long-enough sc.plan.p (f0_of sc.sizes sc.plan) sc.plan.h sc.plan.l (shortest_of sc.plan) (drift_of sc.plan) sc.plan.dmin (eps_of sc.plan) (t.tick - s.tick) fit.delays fit.after_1
        (omega (arith, between))

    delay_s : IsDelay sc.plan (ear.delay j (record { frame = (moment sc hands m).frame; slot = s.message.slot; stage = s.message.stage }))
    delay_s = is.delays j (record { frame = (moment sc hands m).frame; slot = s.message.slot; stage = s.message.stage })

    delay_t : IsDelay sc.plan (ear.delay j (record { frame = (moment sc hands n).frame; slot = t.message.slot; stage = t.message.stage }))
    delay_t = is.delays j (record { frame = (moment sc hands n).frame; slot = t.message.slot; stage = t.message.stage })

    earlier : (coming_to sc ear j (moment sc hands m).frame s).time ≤ (coming_to sc ear j (moment sc hands n).frame t).time
    earlier = omega (arith, later, enough, delay_s.greatest, delay_t.least, fit.delays)
