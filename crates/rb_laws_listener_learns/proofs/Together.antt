-- Good RMUs call at nearly one time, and their calls come at nearly one time.
use Rattle.std.proofs.{Common.{◌≡◌, ℕ, ◌+◌, ◌*◌, ◌<◌, ◌≤◌, min, Some, List, inl, inr, sym, ◌∙◌, ap, subst, arith}, lemmas.Bool.cases_lt}
use Rattle.rb_base.specs.{Nodes.Side.Rmu, Sizes.sync_slot_of}
use Rattle.rb_rules.specs.{Clock.{IsStamp, time_of}, Goodness.{Scenario, clock_of, is_good}, Hearing.{Sending, sending}, Lawful.{IsDelay, IsLawful}, Plan.{f0_of, shortest_of}, Ports.HandIn, Rounds.moment, SyncStage.call_tick_of}
use Rattle.rb_rules.proofs.Middles.{IsBetween}
use Rattle.rb_laws_agreement.proofs.{Goodnesses.slot_last, Invariant.IsGoodNode, NodeWindows.{Windows, sync_windows_are, word_at}}
use Rattle.rb_laws_synchrony.proofs.{PlanNumbers.{drift_of, eps_of}, StageCalls.second_calls, Synchronous.{from_2, to_2}, Synchrony.{IsSynchronous, synchrony}, TakenCalls.call_sent, Times.{Steady, lawful_fits, plan_fits}}
use Rattle.rb_listen.specs.Passes.{reach_of}
use Rattle.rb_laws_listener_near.proofs.FramesNear.{steady_clock}
use Rattle.rb_laws_listener_learns.specs.{Ears.{Ear, IsEar, SendsIn, coming_to}, Together.CallsComeTogether}
use Rattle.rb_laws_listener_learns.proofs.CallsSent.{sends-at}

-- the listener's clock is steady
pub steady-ear : {sc : _} → IsLawful sc → {ear : _} → IsEar sc ear → Steady (shortest_of sc.plan) (drift_of sc.plan) ear.clock
steady-ear law is = steady_clock law is.clock

-- a good RMU's call is sent between the bounds of stage 2
pub call-time : {sc hands : _} → IsLawful sc → {n j s : _} → (moment sc hands n).window ≡ 3 * sync_slot_of sc.sizes + 1 → SendsIn sc hands n j s
    → (synced : IsSynchronous sc hands n) → IsBetween (from_2 sc synced.low) (to_2 sc synced.low) (time_of (clock_of sc Rmu j) s.tick)
call-time {sc} {hands} law {n} {j} {s} at sent synced = (second_calls law synced.near at).between j sent.state s.tick node called
  where
    ws : Windows sc (moment sc hands n) (sync_slot_of sc.sizes) (1 + 1)
    ws = sync_windows_are sc (moment sc hands n) 1 (omega arith) at

    node : IsGoodNode sc (moment sc hands n) Rmu j sent.state
    node = record {
      there = sent.good.0;
      good = ap (is_good sc Rmu j (moment sc hands n).frame) (slot_last sc.sizes 1 at ∙ sym (ap (λ w. w.slot) (ws.are Rmu sent.state))) ∙ sent.good.1;
    }

    sends : sending sc.sizes sc.plan Rmu j sent.state (sync_slot_of sc.sizes) 2 (word_at sc (moment sc hands n) (sync_slot_of sc.sizes) j) ≡ Some s
    sends = sends-at sent ws

    called : call_tick_of sc.sizes sc.plan sent.state 2 ≡ Some s.tick
    called = (call_sent sc.sizes sc.plan Rmu j sent.state 2 (word_at sc (moment sc hands n) (sync_slot_of sc.sizes) j) sends).0

-- times at most `most` apart have stamps at most `reach` ticks apart, if `reach` ticks take at
-- least `most`
pub near-stamps : {u d clock : _} → Steady u d clock → {x y a b : ℕ} (reach most : ℕ) → IsStamp clock x a → IsStamp clock y b → 1 ≤ a → y ≤ x + most → most ≤ reach * u → b ≤ a + reach
near-stamps {clock} steady {y} {a} {b} reach most is_a is_b some near enough =
    elim (cases_lt (a + reach) b) [
      | inl more ↦
          let later : time_of clock (a + reach) < y = is_b.least (a + reach) more in
          absurd (omega (arith, later, near, enough, is_a.reached, steady.not_early a reach))
      | inr le ↦ le
    ]

-- the plan leaves so much time in the windows of stages 2 and 3
enough-ticks : (low p f h l v u d least : ℕ) {most : ℕ} (eps : ℕ) → most ≡ least + eps → p + d * (f + h) + 2 * most + (u + d) + d * l + (1 + h) * u ≤ v * u
    → low + p + (f + h) * (u + d) + most + (u + d) + l * (u + d) + most ≤ low + (f + h) * u + least + l * u + least + v * u
enough-ticks low p f h l v u d least eps e c4 = omega (arith, e, c4)

enough-more : (low p f h l v z u d least : ℕ) {most : ℕ} (eps : ℕ) → most ≡ least + eps → p + d * (f + h) + 3 * most + 2 * (u + d) + d * (l + v) + (1 + h) * u ≤ z * u
    → low + p + (f + h) * (u + d) + most + (u + d) + l * (u + d) + most ≤ low + (f + h) * u + least + l * u + least + z * u
enough-more low p f h l v z u d least eps e c6 = omega (arith, e, c6)

pub min-either : (P : ℕ → Type 0) (a b : ℕ) → P a → P b → P (min a b)
min-either P a b pa pb = elim (cases_lt a b) [ inl less ↦ subst P (let e : a ≡ min a b = omega (arith, less) in e) pa | inr more ↦ subst P (let e : b ≡ min a b = omega (arith, more) in e) pb ]

pub come-together : (sc : Scenario) (hands : List HandIn) → IsLawful sc → (ear : Ear) → IsEar sc ear → CallsComeTogether sc hands ear
come-together sc hands law ear is n i j s t at sends_i sends_j a b some is_a is_b =
    near-stamps (steady-ear law is) (reach_of sc.plan) (reach_of sc.plan * u) is_a is_b some near (omega arith)
  where
    u : ℕ
    u = shortest_of sc.plan

    d : ℕ
    d = drift_of sc.plan

    fit : plan_fits sc
    fit = lawful_fits law

    synced : IsSynchronous sc hands n
    synced = synchrony hands law n sends_i.running

    low : ℕ
    low = synced.low

    x : ℕ
    x = (coming_to sc ear i (moment sc hands n).frame s).time

    y : ℕ
    y = (coming_to sc ear j (moment sc hands n).frame t).time

    delay : (k : ℕ) (sent : Sending) → IsDelay sc.plan (ear.delay k (record { frame = (moment sc hands n).frame; slot = sent.message.slot; stage = sent.message.stage }))
    delay k sent = is.delays k (record { frame = (moment sc hands n).frame; slot = sent.message.slot; stage = sent.message.stage })

    from : from_2 sc low + sc.plan.dmin ≤ x
    from = omega (arith, (call-time law at sends_i synced).least, (delay i s).least)

    to : y ≤ to_2 sc low + sc.plan.dmax
    to = omega (arith, (call-time law at sends_j synced).most, (delay j t).greatest)

    room : to_2 sc low + sc.plan.dmax ≤ from_2 sc low + sc.plan.dmin + reach_of sc.plan * u
    room =
        min-either (λ r. to_2 sc low + sc.plan.dmax ≤ from_2 sc low + sc.plan.dmin + r * u) sc.plan.v sc.plan.z
        (enough-ticks low sc.plan.p (f0_of sc.sizes sc.plan) sc.plan.h sc.plan.l sc.plan.v u d sc.plan.dmin (eps_of sc.plan) fit.delays fit.after_2)
        (enough-more low sc.plan.p (f0_of sc.sizes sc.plan) sc.plan.h sc.plan.l sc.plan.v sc.plan.z u d sc.plan.dmin (eps_of sc.plan) fit.delays fit.after_3)

    near : y ≤ x + reach_of sc.plan * u
    near = omega (arith, from, to, room)
