-- What a listener hears of good RMUs in the first two stages of the sync slot: nothing in stage 1,
-- and in stage 2 their calls.
use Rattle.std.proofs.{Common.{◌≡◌, ℕ, suc, ◌+◌, ◌-◌, ◌*◌, ◌<◌, ◌≤◌, nat_lt, true, List, None, get_or, inl, inr, refl, sym, ◌∙◌, ap, subst, arith}, lemmas.Bool.{cases_order, ltb-true}, Math.Nat.mul-le-mul_right}
use Rattle.rb_base.specs.{Nodes.Side.Rmu, Sizes.sync_slot_of}
use Rattle.rb_base.proofs.Plain.{and_first, and_second}
use Rattle.rb_rules.specs.{Clock.{IsStamp, time_of}, Goodness.{Scenario, clock_of, is_before, is_good}, Headline.stated_skew, Hearing.{Coming, Sending}, Lawful.IsLawful, NodeState.NodeState, Plan.{f0_of, shortest_of}, Ports.HandIn, Rounds.{Moment, moment, windows_in}}
use Rattle.rb_rules.proofs.{Drift.times_rise_to, Middles.IsBetween, Stamps.stamp_le}
use Rattle.rb_laws_agreement.proofs.{Agreement.{IsAgreed, agreement}, Goodnesses.good_counts, Invariant.{IsGoodNode, Shared}, NextMoments.next, NodeWindows.{Windows, sync_windows_are, word_at}, Places.{IsPlaced, good_before_slot, placed}, SlotRuns.next-window}
use Rattle.rb_laws_synchrony.proofs.{PlanNumbers.{drift_of, last_plus, second_early, second_late}, StageCalls.{clock_now, second_calls}, StageMiddles.tick_of, SyncSteps.{IsPassedStage, near_first}, Synchronous.{Synchronous, at_offset, from_2, to_2}, TakenCalls.call_sent, Times.{Steady, lawful_fits, plan_fits, tick_le}}
use Rattle.rb_laws_listener_learns.specs.Ears.{Ear, IsHeard, IsOfFaulty, IsOfGood, SendsIn, coming_to}
use Rattle.rb_laws_listener_learns.proofs.{Apart.WasAt, Begins.skew-fits, CallsSent.sends-at, Fresh.onset-in, Together.steady-ear}
use Rattle.rb_laws_listener_follows.proofs.HeardExact.{Beside, IsEarlier, IsOwn, SendsThen, comes, ear_time, earlier_stamp, one_more, onset_after, place_order, sends_then, tail-start, was_at, window_within}

-- ---- the numbers

-- what a node sends in a later frame comes after stage 2
frame_late : (low p f h l v z u d most least x t : ℕ) → 1 ≤ u → p + d * (f + h) + 3 * most + 2 * (u + d) + d * (l + v) + (1 + h) * u ≤ z * u → low + (f + l + v + z) * u + least ≤ x → x ≤ t
    → t + (u + d) ≤ low + p + (f + l + v) * (u + d) → ⊥
frame_late low p f h l v z u d most least x t some c6 sent reached last = absurd (omega (arith, some, c6, sent, reached, last))

frame_soon : (low p f h l v z u d least most skew x t c : ℕ) → least ≤ most → skew + d * h ≤ h * u + least
    → p + d * (f + h) + 3 * most + 2 * (u + d) + d * (l + v) + (1 + h) * u ≤ z * u → low + (f + l + v + z) * u ≤ x → x < c + u + skew → c ≤ t
    → t + (u + d) ≤ low + p + (f + l + v) * (u + d) → ⊥
frame_soon low p f h l v z u d least most skew x t c delays fits c6 sent reached at last = absurd (omega (arith, delays, fits, c6, sent, reached, at, last))

-- ---- later frames

-- tick `k` of the listener is before the end of stage 2 of the sync slot
abbrev pub IsEarly : Scenario → ℕ → ℕ → Type 0
IsEarly sc epoch k = k + 1 ≤ epoch + f0_of sc.sizes sc.plan + sc.plan.l + sc.plan.v

early_time : {sc hands ear n epoch low s : _} → Beside sc hands ear n epoch low s → (k : ℕ) → IsEarly sc epoch k
    → time_of ear.clock k + tick_of sc.plan ≤ low + sc.plan.p + (f0_of sc.sizes sc.plan + sc.plan.l + sc.plan.v) * tick_of sc.plan
early_time {sc} {ear} {epoch} b k le =
    let f : ℕ = f0_of sc.sizes sc.plan in
    let o : ℕ = f + sc.plan.l + sc.plan.v - 1 in
    let some : 1 ≤ sc.plan.l = b.law.plan.l.0 in
    let e : o + 1 ≡ f + sc.plan.l + sc.plan.v = omega (arith, some) in
    let up : time_of ear.clock k ≤ time_of ear.clock (epoch + o) = times_rise_to ear.clock k (epoch + o) (omega (arith, le, e)) in
    omega (arith, up, (ear_time b o).most, one_more o (tick_of sc.plan) e)

-- the time of a later frame's first tick at a node that was good in this one
frame_time : {sc hands ear n epoch low s : _} → Beside sc hands ear n epoch low s → (q : ℕ) {me i st : _}
    → (was : WasAt sc hands n (moment sc hands q) me i st) → (moment sc hands n).frame < (moment sc hands q).frame → (tick : ℕ) → st.epoch ≤ tick
    → low + (f0_of sc.sizes sc.plan + sc.plan.l + sc.plan.v + sc.plan.z) * shortest_of sc.plan ≤ time_of (clock_of sc me i) tick
frame_time {sc} {low} b q {me} {i} was later tick le =
    let rest : ℕ = f0_of sc.sizes sc.plan + sc.plan.l + sc.plan.v + sc.plan.z in
    let at : IsBetween (low + rest * shortest_of sc.plan) (low + sc.plan.p + rest * tick_of sc.plan) (time_of (clock_of sc me i) (was.st.epoch + rest)) =
    at_offset (clock_now b.law was.was) sc.plan.p was.st.epoch rest refl
    (b.near.begun me i was.st was.was) in
    omega (arith, at.least, times_rise_to (clock_of sc me i) (was.st.epoch + rest) tick (omega (arith, was.later later, tail-start sc, le)))

no_later_frame : {sc hands ear n epoch low s : _} → Beside sc hands ear n epoch low s
    → {j q x : _} → SendsIn sc hands q j x → n < q → (moment sc hands n).frame < (moment sc hands q).frame
    → {k : ℕ} → IsStamp ear.clock (coming_to sc ear j (moment sc hands q).frame x).time k → IsEarly sc epoch k → ⊥
no_later_frame {sc} {hands} {ear} {n} {low} b {j} {q} {x} sent lt later {k} stamp early =
    let fit : plan_fits sc = lawful_fits b.law in
    let then : SendsThen sc (moment sc hands q) j sent.state x = sends_then b.law sent in
    let was : WasAt sc hands n (moment sc hands q) Rmu j sent.state = was_at hands b.law n q (omega (arith, lt)) sent.running then.node in
    let tick : sent.state.epoch ≤ x.tick = elim then.tick [ inl exact ↦ omega (arith, exact.1) | inr late ↦ omega (arith, late.1.0) ] in
    let arrives = comes b.is j (moment sc hands q).frame x in
    frame_late low sc.plan.p (f0_of sc.sizes sc.plan) sc.plan.h sc.plan.l sc.plan.v sc.plan.z (shortest_of sc.plan) (drift_of sc.plan) sc.plan.dmax sc.plan.dmin
    (coming_to sc ear j (moment sc hands q).frame x).time (time_of ear.clock k) fit.some fit.after_3
    (omega (arith, arrives.least, frame_time b q was later x.tick tick)) stamp.reached (early_time b k early)

-- an RMU that is good in the sync slot has its onset in a later frame
no_onset : {sc : Scenario} {hands : List HandIn} {ear : Ear} {n epoch low : ℕ} {s : Shared} → Beside sc hands ear n epoch low s
    → {c : Coming} → is_good sc Rmu c.from (moment sc hands n).frame (sync_slot_of sc.sizes) ≡ true → IsOfFaulty sc hands c
    → {k : ℕ} → IsStamp ear.clock c.time k → IsEarly sc epoch k → ⊥
no_onset {sc} {hands} {ear} {n} {low} b {c} good faulty {k} stamp early =
    frame_soon low sc.plan.p (f0_of sc.sizes sc.plan) sc.plan.h sc.plan.l sc.plan.v sc.plan.z (shortest_of sc.plan) (drift_of sc.plan) sc.plan.dmin sc.plan.dmax
    (stated_skew sc.plan (3 * faulty.slot * sc.plan.l)) (time_of (clock_of sc faulty.me faulty.i) (faulty.state.epoch + 3 * faulty.slot * sc.plan.l)) (time_of ear.clock k) c.time
    b.law.plan.dmin.1 (skew-fits b.law faulty.slot slot_le) fit.after_3
    (frame_time b n1 was later_frame (faulty.state.epoch + 3 * faulty.slot * sc.plan.l) (omega arith)) faulty.not_early stamp.reached
    (early_time b k early)
  where
    fit : plan_fits sc
    fit = lawful_fits b.law

    counted : c.from < sc.sizes.rmus
    counted = ltb-true c.from sc.sizes.rmus (and_first (nat_lt c.from sc.sizes.rmus) (is_before (get_or sc.rmu_onsets c.from None) (moment sc hands n).frame (sync_slot_of sc.sizes)) good)

    slot_le : faulty.slot ≤ sync_slot_of sc.sizes
    slot_le = onset-in b.law c.from faulty.frame faulty.slot counted faulty.onset

    later : (moment sc hands n).frame < faulty.frame
    later =
        elim (onset_after (moment sc hands n).frame faulty.frame (sync_slot_of sc.sizes) faulty.slot
        (ap (λ o. is_before o (moment sc hands n).frame (sync_slot_of sc.sizes)) (sym faulty.onset)
        ∙ and_second (nat_lt c.from sc.sizes.rmus) (is_before (get_or sc.rmu_onsets c.from None) (moment sc hands n).frame (sync_slot_of sc.sizes)) good)) [
          | inl less ↦ less
          | inr same ↦ absurd (omega (arith, same.1, slot_le))
        ]

    n1 : ℕ
    n1 = faulty.frame * (windows_in sc.sizes + 1) + 3 * faulty.slot + 1 - 1

    place : IsPlaced sc hands faulty.frame faulty.slot 1
    place = placed hands b.law faulty.frame faulty.slot 1 slot_le (omega arith) (omega arith) faulty.running

    later_moment : n ≤ faulty.frame * (windows_in sc.sizes + 1) + 3 * faulty.slot + 1 - 1
    later_moment =
        let le : ((moment sc hands n).frame + 1) * (windows_in sc.sizes + 1) ≤ faulty.frame * (windows_in sc.sizes + 1) = mul-le-mul_right (windows_in sc.sizes + 1) (omega (arith, later)) in
        omega (arith, b.agree.place, b.agree.window, le)

    was : WasAt sc hands n (moment sc hands (faulty.frame * (windows_in sc.sizes + 1) + 3 * faulty.slot + 1 - 1)) faulty.me faulty.i faulty.state
    was =
        was_at hands b.law n n1 later_moment faulty.running
        (good_before_slot slot_le place faulty.good)

    later_frame : (moment sc hands n).frame < (moment sc hands (faulty.frame * (windows_in sc.sizes + 1) + 3 * faulty.slot + 1 - 1)).frame
    later_frame = omega (arith, later, place.frame_is)

-- ---- stage 2

-- a good RMU's call in stage 2 is sent between the bounds of that stage
pub called_between : {sc hands : _} → IsLawful sc → {n j x : _} (sent : SendsIn sc hands n j x) {s low : _}
    → (moment sc hands n).window ≡ 3 * sync_slot_of sc.sizes + 1 → Synchronous sc (moment sc hands n) s low → IsBetween (from_2 sc low) (to_2 sc low) (time_of (clock_of sc Rmu j) x.tick)
called_between {sc} {hands} law {n} {j} {x} sent at near =
    let ws : Windows sc (moment sc hands n) (sync_slot_of sc.sizes) 2 = sync_windows_are sc (moment sc hands n) 1 (omega arith) at in
    let called = call_sent sc.sizes sc.plan Rmu j sent.state 2 (word_at sc (moment sc hands n) (sync_slot_of sc.sizes) j) (sends-at sent ws) in
    (second_calls law near at).between j sent.state x.tick (sends_then law sent).node called.0

-- the calls of stage 2 come to the listener in stage 2
pub calls_in_time : {sc hands ear n epoch low s : _} → Beside sc hands ear n epoch low s → (moment sc hands n).window ≡ 3 * sync_slot_of sc.sizes + 1
    → {time : ℕ} → IsBetween (from_2 sc low + sc.plan.dmin) (to_2 sc low + sc.plan.dmax) time → {k : ℕ} → IsStamp ear.clock time k
    → (epoch + (f0_of sc.sizes sc.plan + sc.plan.l) ≤ k) × IsEarly sc epoch k
calls_in_time {sc} {ear} {epoch} {low} b at {time} between {k} stamp =
    let fit : plan_fits sc = lawful_fits b.law in
    let f : ℕ = f0_of sc.sizes sc.plan in
    let clock : Steady (shortest_of sc.plan) (drift_of sc.plan) ear.clock = steady-ear b.law b.is in
    let early : low + sc.plan.p + (f + sc.plan.l) * tick_of sc.plan ≤ from_2 sc low + sc.plan.dmin =
    second_early low sc.plan.p f sc.plan.h sc.plan.l (shortest_of sc.plan) (drift_of sc.plan) sc.plan.dmin fit.before_2 in
    let o : ℕ = f + sc.plan.l + sc.plan.v - 1 in
    let last : o + 1 ≡ f + sc.plan.l + sc.plan.v = last_plus (f + sc.plan.l) sc.plan.v b.law.plan.v.0 in
    let late : to_2 sc low + sc.plan.dmax ≤ low + o * shortest_of sc.plan =
    second_late low sc.plan.p f sc.plan.h sc.plan.l sc.plan.v o (shortest_of sc.plan) (drift_of sc.plan) sc.plan.dmax last fit.after_2 in
    let to : k ≤ epoch + o = stamp_le ear.clock time k (epoch + o) stamp (omega (arith, (ear_time b o).least, late, between.most)) in (
      tick_le ear.clock clock.moves (epoch + (f + sc.plan.l)) k
          (omega (arith, (ear_time b (f + sc.plan.l)).most, early, between.least, stamp.reached)),
      omega (arith, to, last),
    )

-- nothing but its calls comes from an RMU that is good in the sync slot
pub only_calls : {sc : Scenario} {hands : List HandIn} {ear : Ear} {n epoch low : ℕ} {s : Shared} → Beside sc hands ear n epoch low s → (moment sc hands n).window ≡ 3 * sync_slot_of sc.sizes + 1
    → {c : Coming} {st : NodeState} → IsGoodNode sc (moment sc hands n) Rmu c.from st → is_good sc Rmu c.from (moment sc hands n).frame (sync_slot_of sc.sizes) ≡ true
    → {k : ℕ} → k < ear.ticks → IsHeard ear k c → epoch + (f0_of sc.sizes sc.plan + sc.plan.l) ≤ k → IsEarly sc epoch k → IsOwn sc hands ear n c
only_calls {sc} {hands} {ear} {n} {epoch} b at {c} node good {k} in_time heard from early =
    elim (b.run.only k c in_time heard (good_counts sc Rmu c.from (moment sc hands n).frame (sync_slot_of sc.sizes) good)) [
      | inl sent ↦ own sent
      | inr faulty ↦ absurd (no_onset b good faulty (b.is.stamps k c in_time heard) early)
    ]
  where
    before : (q : ℕ) → IsEarlier sc hands n q epoch k → ⊥
    before q e =
        elim e.kind [
          | inr old ↦ absurd (omega (arith, old, from))
          | inl same ↦ elim same.2 [
            | inr late ↦ absurd (omega (arith, late, same.1, at))
            | inl exact ↦ absurd (omega (arith, exact.1, window_within sc (moment sc hands q).window exact.0, from, b.law.plan.l.0))
          ]
        ]

    own : IsOfGood sc hands ear c → IsOwn sc hands ear n c
    own sent =
        let stamp : IsStamp ear.clock (coming_to sc ear c.from (moment sc hands sent.n).frame sent.sending).time k =
        subst (λ (d : Coming). IsStamp ear.clock d.time k) sent.is (b.is.stamps k c in_time heard) in
        elim (cases_order sent.n n) [
          | inl same ↦ record { good = sent; here = same }
          | inr order ↦ elim order [
            | inl earlier ↦ absurd (before sent.n (earlier_stamp b node sent.sent earlier stamp))
            | inr after ↦
                let other : IsAgreed sc hands sent.n = agreement hands b.law sent.n sent.sent.running in
                let then : SendsThen sc (moment sc hands sent.n) c.from sent.sent.state sent.sending = sends_then b.law sent.sent in
                elim (place_order (windows_in sc.sizes + 1) (moment sc hands n).frame (moment sc hands n).window (moment sc hands sent.n).frame (moment sc hands sent.n).window b.agree.place other.agree.place
                (omega (arith, b.agree.window)) (omega (arith, other.agree.window)) after) [
                  | inl later ↦ absurd (no_later_frame b sent.sent after later stamp early)
                  | inr same ↦ elim then.tick [
                    | inl exact ↦ absurd (omega (arith, exact.0, same.1, at))
                    | inr late ↦ absurd (omega (arith, late.0, same.1, at))
                  ]
                ]
          ]
        ]

-- ---- stage 1

-- if stage 1 passes, nothing comes in it from an RMU that is good in the sync slot
pub nothing_first : {sc : Scenario} {hands : List HandIn} {ear : Ear} {n epoch low : ℕ} {s : Shared} → Beside sc hands ear n epoch low s → (c1 : IsPassedStage sc hands n (moment sc hands n) s 0)
    → next sc (moment sc hands n) ≡ moment sc hands (suc n)
    → {c : Coming} {st : NodeState} → IsGoodNode sc (moment sc hands n) Rmu c.from st → is_good sc Rmu c.from (moment sc hands n).frame (sync_slot_of sc.sizes) ≡ true
    → {k : ℕ} → k < ear.ticks → IsHeard ear k c → epoch + f0_of sc.sizes sc.plan ≤ k → k + 1 ≤ epoch + f0_of sc.sizes sc.plan + sc.plan.l → ⊥
nothing_first {sc} {hands} {ear} {n} {epoch} {low} {s} b c1 next_is {c} node good {k} in_time heard from to =
    elim (b.run.only k c in_time heard (good_counts sc Rmu c.from (moment sc hands n).frame (sync_slot_of sc.sizes) good)) [
      | inl sent ↦ own sent
      | inr faulty ↦ no_onset b good faulty (b.is.stamps k c in_time heard) (omega (arith, to))
    ]
  where
    at : (moment sc hands n).window ≡ 3 * sync_slot_of sc.sizes + 0
    at = c1.stage.at

    fit : plan_fits sc
    fit = lawful_fits b.law

    before : (q : ℕ) → IsEarlier sc hands n q epoch k → ⊥
    before q e =
        elim e.kind [
          | inr old ↦ absurd (omega (arith, old, from))
          | inl same ↦ elim same.2 [
            | inr late ↦ absurd (omega (arith, late, same.1, at))
            | inl exact ↦ absurd (omega (arith, exact.1, window_within sc (moment sc hands q).window exact.0, from))
          ]
        ]

    -- the calls of stage 2 do not come in stage 1
    calls_later : (x : Sending) → SendsIn sc hands (suc n) c.from x → IsStamp ear.clock (coming_to sc ear c.from (moment sc hands (suc n)).frame x).time k → ⊥
    calls_later x sent stamp =
        let near : Synchronous sc (next sc (moment sc hands n)) s low = near_first c1 b.near in
        let at_next : (moment sc hands (suc n)).window ≡ 3 * sync_slot_of sc.sizes + 1 = omega (arith, ap (λ (m : Moment). m.window) (sym next_is), next-window sc (moment sc hands n), at) in
        let then : SendsThen sc (moment sc hands (suc n)) c.from sent.state x = sends_then b.law sent in
        let near_now : Synchronous sc (moment sc hands (suc n)) s low = subst (λ m. Synchronous sc m s low) next_is near in
        elim then.tick [
          | inl exact ↦ absurd (omega (arith, exact.0, at_next))
          | inr late ↦ calls_at x sent stamp at_next near_now
        ]
      where
        calls_at : (x : Sending) (sent : SendsIn sc hands (suc n) c.from x) → IsStamp ear.clock (coming_to sc ear c.from (moment sc hands (suc n)).frame x).time k
            → (moment sc hands (suc n)).window ≡ 3 * sync_slot_of sc.sizes + 1 → Synchronous sc (moment sc hands (suc n)) s low → ⊥
        calls_at x sent stamp at_next near_now =
            let f : ℕ = f0_of sc.sizes sc.plan in
            let called : IsBetween (from_2 sc low) (to_2 sc low) (time_of (clock_of sc Rmu c.from) x.tick) = called_between b.law sent at_next near_now in
            let arrives = comes b.is c.from (moment sc hands (suc n)).frame x in
            let early : low + sc.plan.p + (f + sc.plan.l) * tick_of sc.plan ≤ from_2 sc low + sc.plan.dmin =
            second_early low sc.plan.p f sc.plan.h sc.plan.l (shortest_of sc.plan) (drift_of sc.plan) sc.plan.dmin fit.before_2 in
            let clock : Steady (shortest_of sc.plan) (drift_of sc.plan) ear.clock = steady-ear b.law b.is in
            let le : epoch + (f + sc.plan.l) ≤ k =
            tick_le ear.clock clock.moves (epoch + (f + sc.plan.l)) k
            (omega (arith, (ear_time b (f + sc.plan.l)).most, early, called.least, arrives.least, stamp.reached)) in
            absurd (omega (arith, le, to))

    own : IsOfGood sc hands ear c → ⊥
    own sent =
        let stamp : IsStamp ear.clock (coming_to sc ear c.from (moment sc hands sent.n).frame sent.sending).time k =
        subst (λ (d : Coming). IsStamp ear.clock d.time k) sent.is (b.is.stamps k c in_time heard) in
        let then : SendsThen sc (moment sc hands sent.n) c.from sent.sent.state sent.sending = sends_then b.law sent.sent in
        elim (cases_order sent.n n) [
          | inl same ↦
              let w : (moment sc hands sent.n).window ≡ (moment sc hands n).window = ap (λ q. (moment sc hands q).window) same in
              elim then.tick [ inl exact ↦ absurd (omega (arith, exact.0, w, at)) | inr late ↦ absurd (omega (arith, late.0, w, at)) ]
          | inr order ↦ elim order [
            | inl earlier ↦ before sent.n (earlier_stamp b node sent.sent earlier stamp)
            | inr after ↦
                let other : IsAgreed sc hands sent.n = agreement hands b.law sent.n sent.sent.running in
                elim (place_order (windows_in sc.sizes + 1) (moment sc hands n).frame (moment sc hands n).window (moment sc hands sent.n).frame (moment sc hands sent.n).window b.agree.place other.agree.place
                (omega (arith, b.agree.window)) (omega (arith, other.agree.window)) after) [
                  | inl later ↦ no_later_frame b sent.sent after later stamp (omega (arith, to))
                  | inr same ↦ elim then.tick [
                    | inl exact ↦ absurd (omega (arith, exact.0, same.1, at))
                    | inr late ↦
                        let e : (moment sc hands n).frame * (windows_in sc.sizes + 1) ≡ (moment sc hands sent.n).frame * (windows_in sc.sizes + 1) = ap (λ x. x * (windows_in sc.sizes + 1)) same.0 in
                        let is : sent.n ≡ suc n = omega (arith, b.agree.place, other.agree.place, e, late.0, at) in
                        calls_later sent.sending (subst (λ q. SendsIn sc hands q c.from sent.sending) is sent.sent)
                        (subst (λ q. IsStamp ear.clock (coming_to sc ear c.from (moment sc hands q).frame sent.sending).time k) is stamp)
                  ]
                ]
          ]
        ]
