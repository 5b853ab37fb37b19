-- What a listener hears of RMUs that are good in the next frame, too, in stage 3 of the sync slot
-- and in the tail: nothing.
use Rattle.std.proofs.{Common.{◌≡◌, ℕ, ◌+◌, ◌-◌, ◌*◌, ◌<◌, ◌≤◌, nat_lt, true, List, None, get_or, ◌⊎◌, inl, inr, refl, sym, ◌∙◌, ap, subst, arith}, lemmas.Bool.{cases_order, ltb-true}, Math.Nat.mul-le-mul_right}
use Rattle.rb_base.specs.{Nodes.Side, Nodes.Side.Rmu, Sizes.sync_slot_of}
use Rattle.rb_base.proofs.Plain.{and_first, and_second}
use Rattle.rb_rules.specs.{Clock.{IsStamp, time_of}, Goodness.{Scenario, clock_of, is_before, is_good}, Headline.stated_skew, Hearing.{Coming, Sending}, Moments.IsRunning, NodeState.NodeState, Plan.{f0_of, shortest_of, tail_start_of}, Ports.HandIn, Rounds.{moment, windows_in}}
use Rattle.rb_rules.proofs.{Drift.times_rise_to, Middles.IsBetween}
use Rattle.rb_laws_agreement.proofs.{Agreement.{IsAgreed, agreement}, Goodnesses.good_counts, Invariant.{IsGoodNode, Shared}, Places.{IsPlaced, good_before_slot, placed, running_earlier}}
use Rattle.rb_laws_synchrony.proofs.{PlanNumbers.drift_of, StageCalls.clock_now, Times.{Steady, lawful_fits, plan_fits}}
use Rattle.rb_laws_listener_learns.specs.Ears.{Ear, IsHeard, IsOfFaulty, IsOfGood, SendsIn, coming_to}
use Rattle.rb_laws_listener_learns.proofs.{Apart.WasAt, Begins.skew-fits, Fresh.onset-in, Together.steady-ear}
use Rattle.rb_laws_listener_follows.proofs.HeardExact.{Beside, IsEarlier, SendsThen, comes, earlier_stamp, onset_after, place_order, sends_then, tail-start, was_at, window_within}

-- ---- the next frame

-- a number of moments is one place
same_place : (size f w g : ℕ) → f * size + w ≡ g * size + 0 → w < size → (f ≡ g) × (w ≡ 0)
same_place size f w g e small =
    elim (cases_order f g) [
      | inl same ↦ (let p : f * size ≡ g * size = ap (λ x. x * size) same in (same, omega (arith, e, p)))
      | inr order ↦ elim order [
        | inl less ↦ (let le : (f + 1) * size ≤ g * size = mul-le-mul_right size (omega (arith, less)) in absurd (omega (arith, e, le, small)))
        | inr more ↦ (let le : (g + 1) * size ≤ f * size = mul-le-mul_right size (omega (arith, more)) in absurd (omega (arith, e, le, small)))
      ]
    ]

-- the listener, and all nodes that are good at the first moment of the next frame, begin that frame
-- from time `later` on and within p
pub record NextBegins (sc : Scenario) (hands : List HandIn) (ear : Ear) (frame next_epoch later : ℕ) : Type 0 where
  pub good : (n : ℕ) → (moment sc hands n).frame ≡ frame + 1 → (moment sc hands n).window ≡ 0 → IsRunning (moment sc hands n) → (me : Side) (i : ℕ) (st : NodeState)
      → IsGoodNode sc (moment sc hands n) me i st → IsBetween later (later + sc.plan.p) (time_of (clock_of sc me i) st.epoch)
  pub listener : IsBetween later (later + sc.plan.p) (time_of ear.clock next_epoch)

-- what is sent in the next frame comes after the listener's first tick of that frame
sent_late : (later p f h u d least x t : ℕ) → p + d * (f + h) ≤ h * u + least → later + h * u + least ≤ x → x ≤ t → t < later + p → ⊥
sent_late later p f h u d least x t c1 sent reached at = absurd (omega (arith, c1, sent, reached, at))

said_late : (later p f h l u d least most skew x t c : ℕ) → least ≤ most → skew + d * h ≤ h * u + least → p + d * (f + h) + most + (1 + h) * u ≤ l * u → later + l * u ≤ x → x < c + u + skew → c ≤ t
    → t < later + p → ⊥
said_late later p f h l u d least most skew x t c delays fits c2 sent reached at last = absurd (omega (arith, delays, fits, c2, sent, reached, at, last))

-- some tick from time `later` on is at most `epoch`
record BegunAt (sc : Scenario) (me : Side) (i later epoch : ℕ) : Type 0 where
  pub first : ℕ
  pub time : later ≤ time_of (clock_of sc me i) first
  pub least : first ≤ epoch

begun_at : {sc hands ear n epoch low s next_epoch later : _} → Beside sc hands ear n epoch low s → NextBegins sc hands ear (moment sc hands n).frame next_epoch later
    → (q : ℕ) → IsRunning (moment sc hands q) → (moment sc hands n).frame < (moment sc hands q).frame → {me i st : _} → IsGoodNode sc (moment sc hands q) me i st
    → (extra : ℕ) → ((moment sc hands n).frame + 1 < (moment sc hands q).frame → extra ≤ tail_start_of sc.sizes sc.plan) → ((moment sc hands n).frame + 1 ≡ (moment sc hands q).frame → extra ≡ 0)
    → BegunAt sc me i later (st.epoch - extra) × (extra ≤ st.epoch)
begun_at {sc} {hands} {n} {later} b next q running after {me} {i} {st} node extra far none =
    elim (cases_order ((moment sc hands n).frame + 1) (moment sc hands q).frame) [
      | inl same ↦
          let zero_it : extra ≡ 0 = none same in
          let e : was.st.epoch ≡ st.epoch = was.same (p.0 ∙ same) in
          (record { first = was.st.epoch; time = begun; least = omega (arith, e, zero_it) }, omega (arith, zero_it))
      | inr order ↦ elim order [
        | inl less ↦
            let e : was.st.epoch + tail_start_of sc.sizes sc.plan ≤ st.epoch = was.later (omega (arith, p.0, less)) in
            (record { first = was.st.epoch; time = begun; least = omega (arith, e, far less) }, omega (arith, e, far less))
        | inr more ↦ absurd (omega (arith, more, after))
      ]
    ]
  where
    other : IsAgreed sc hands q
    other = agreement hands b.law q running

    earlier : ((moment sc hands n).frame + 1) * (windows_in sc.sizes + 1) ≤ q
    earlier =
        let rises : ((moment sc hands n).frame + 1) * (windows_in sc.sizes + 1) ≤ (moment sc hands q).frame * (windows_in sc.sizes + 1) = mul-le-mul_right (windows_in sc.sizes + 1) (omega (arith, after)) in
        omega (arith, other.agree.place, rises)

    running_first : IsRunning (moment sc hands (((moment sc hands n).frame + 1) * (windows_in sc.sizes + 1)))
    running_first = running_earlier sc hands (((moment sc hands n).frame + 1) * (windows_in sc.sizes + 1)) q earlier running

    at_first : IsAgreed sc hands (((moment sc hands n).frame + 1) * (windows_in sc.sizes + 1))
    at_first = agreement hands b.law (((moment sc hands n).frame + 1) * (windows_in sc.sizes + 1)) running_first

    placing : (a f w g size : ℕ) → a ≡ f * size + w → a ≡ g * size → f * size + w ≡ g * size + 0
    placing a f w g size x y = omega (arith, x, y)

    p : ((moment sc hands (((moment sc hands n).frame + 1) * (windows_in sc.sizes + 1))).frame ≡ (moment sc hands n).frame + 1)
        × ((moment sc hands (((moment sc hands n).frame + 1) * (windows_in sc.sizes + 1))).window ≡ 0)
    p =
        same_place (windows_in sc.sizes + 1) (moment sc hands (((moment sc hands n).frame + 1) * (windows_in sc.sizes + 1))).frame
        (moment sc hands (((moment sc hands n).frame + 1) * (windows_in sc.sizes + 1))).window ((moment sc hands n).frame + 1)
        (placing (((moment sc hands n).frame + 1) * (windows_in sc.sizes + 1)) (moment sc hands (((moment sc hands n).frame + 1) * (windows_in sc.sizes + 1))).frame
        (moment sc hands (((moment sc hands n).frame + 1) * (windows_in sc.sizes + 1))).window ((moment sc hands n).frame + 1) (windows_in sc.sizes + 1) at_first.agree.place refl)
        (omega (arith, at_first.agree.window))

    was : WasAt sc hands (((moment sc hands n).frame + 1) * (windows_in sc.sizes + 1)) (moment sc hands q) me i st
    was = was_at hands b.law (((moment sc hands n).frame + 1) * (windows_in sc.sizes + 1)) q earlier running node

    begun : later ≤ time_of (clock_of sc me i) was.st.epoch
    begun = (next.good (((moment sc hands n).frame + 1) * (windows_in sc.sizes + 1)) p.0 p.1 running_first me i was.st was.was).least

-- ---- nothing comes

-- `k` is a tick of the listener after stage 2 and before its next frame
pub record IsLate (sc : Scenario) (epoch next_epoch k : ℕ) : Type 0 where
  pub from : epoch + f0_of sc.sizes sc.plan + sc.plan.l + sc.plan.v ≤ k
  pub before : k < next_epoch

not_yet : {sc hands ear n epoch low s next_epoch later : _} (k : ℕ) → Beside sc hands ear n epoch low s
    → NextBegins sc hands ear (moment sc hands n).frame next_epoch later → k < next_epoch → time_of ear.clock k < later + sc.plan.p
not_yet {sc} {ear} {next_epoch} k b next before =
    let fit : plan_fits sc = lawful_fits b.law in
    let step : time_of ear.clock k + 1 * shortest_of sc.plan ≤ time_of ear.clock (k + 1) = (steady-ear b.law b.is).not_early k 1 in
    let up : time_of ear.clock (k + 1) ≤ time_of ear.clock next_epoch = times_rise_to ear.clock (k + 1) next_epoch (omega (arith, before)) in
    omega (arith, step, up, next.listener.most, fit.some)

pub nothing_late : {sc : Scenario} {hands : List HandIn} {ear : Ear} {n epoch low : ℕ} {s : Shared} {next_epoch later : ℕ} → Beside sc hands ear n epoch low s → 3 * sync_slot_of sc.sizes + 2 ≤ (moment sc hands n).window
    → NextBegins sc hands ear (moment sc hands n).frame next_epoch later
    → ((j q : ℕ) (x : Sending) → SendsIn sc hands q j x → (moment sc hands q).frame ≡ (moment sc hands n).frame → (moment sc hands q).window ≡ 3 * sync_slot_of sc.sizes + 1
    → (k : ℕ) → IsStamp ear.clock (coming_to sc ear j (moment sc hands q).frame x).time k → k + 1 ≤ epoch + f0_of sc.sizes sc.plan + sc.plan.l + sc.plan.v)
    → {c : Coming} {st : NodeState} → IsGoodNode sc (moment sc hands n) Rmu c.from st → is_good sc Rmu c.from ((moment sc hands n).frame + 1) 0 ≡ true
    → {k : ℕ} → k < ear.ticks → IsHeard ear k c → IsLate sc epoch next_epoch k → ⊥
nothing_late {sc} {hands} {ear} {n} {epoch} {later} b at next second {c} node good {k} in_time heard in_it =
    elim (b.run.only k c in_time heard (good_counts sc Rmu c.from ((moment sc hands n).frame + 1) 0 good)) [ inl sent ↦ own sent | inr faulty ↦ said faulty ]
  where
    fit : plan_fits sc
    fit = lawful_fits b.law

    early : time_of ear.clock k < later + sc.plan.p
    early = not_yet k b next in_it.before

    before : (q : ℕ) (x : Sending) → SendsIn sc hands q c.from x → IsStamp ear.clock (coming_to sc ear c.from (moment sc hands q).frame x).time k → IsEarlier sc hands n q epoch k → ⊥
    before q x sent stamp e =
        elim e.kind [
          | inr old ↦ absurd (omega (arith, old, in_it.from))
          | inl same ↦ elim same.2 [
            | inr late ↦ absurd (omega (arith, second c.from q x sent same.0 late k stamp, in_it.from))
            | inl exact ↦ absurd (omega (arith, exact.1, window_within sc (moment sc hands q).window exact.0, in_it.from))
          ]
        ]

    own : IsOfGood sc hands ear c → ⊥
    own sent =
        let stamp : IsStamp ear.clock (coming_to sc ear c.from (moment sc hands sent.n).frame sent.sending).time k =
        subst (λ (d : Coming). IsStamp ear.clock d.time k) sent.is (b.is.stamps k c in_time heard) in
        let then : SendsThen sc (moment sc hands sent.n) c.from sent.sent.state sent.sending = sends_then b.law sent.sent in
        elim (cases_order sent.n n) [
          | inl same ↦
              let w : (moment sc hands sent.n).window ≡ (moment sc hands n).window = ap (λ q. (moment sc hands q).window) same in
              elim then.tick [ inl exact ↦ absurd (omega (arith, exact.0, w, at)) | inr late ↦ absurd (omega (arith, late.0, w, at)) ]
          | inr order ↦ elim order [
            | inl earlier ↦ before sent.n sent.sending sent.sent stamp (earlier_stamp b node sent.sent earlier stamp)
            | inr after ↦
                let other : IsAgreed sc hands sent.n = agreement hands b.law sent.n sent.sent.running in
                elim (place_order (windows_in sc.sizes + 1) (moment sc hands n).frame (moment sc hands n).window (moment sc hands sent.n).frame (moment sc hands sent.n).window b.agree.place other.agree.place
                (omega (arith, b.agree.window)) (omega (arith, other.agree.window)) after) [
                  | inl later_frame ↦ next_frame_sent sent.n sent.sending sent.sent later_frame then stamp
                  | inr same ↦ elim then.tick [
                    | inl exact ↦ absurd (omega (arith, exact.0, same.1, at))
                    | inr late ↦ absurd (omega (arith, late.0, same.1, at))
                  ]
                ]
          ]
        ]
      where
        next_frame_sent : (q : ℕ) (x : Sending) (sent : SendsIn sc hands q c.from x) → (moment sc hands n).frame < (moment sc hands q).frame → SendsThen sc (moment sc hands q) c.from sent.state x
            → IsStamp ear.clock (coming_to sc ear c.from (moment sc hands q).frame x).time k → ⊥
        next_frame_sent q x sent later_frame then stamp =
            let begun = begun_at b next q sent.running later_frame then.node 0 (λ less. omega arith) (λ e. refl) in
            let tick : begun.0.first + sc.plan.h ≤ x.tick = elim then.tick [
              | inl exact ↦ omega (arith, exact.1, begun.0.least)
              | inr late ↦ omega (arith, late.1.0, begun.0.least, fit.in_l)
            ] in
            let clock : Steady (shortest_of sc.plan) (drift_of sc.plan) (clock_of sc Rmu c.from) = clock_now b.law then.node in
            let step : time_of (clock_of sc Rmu c.from) begun.0.first + sc.plan.h * shortest_of sc.plan ≤ time_of (clock_of sc Rmu c.from) (begun.0.first + sc.plan.h) = clock.not_early begun.0.first sc.plan.h in
            let up : time_of (clock_of sc Rmu c.from) (begun.0.first + sc.plan.h) ≤ time_of (clock_of sc Rmu c.from) x.tick = times_rise_to (clock_of sc Rmu c.from) (begun.0.first + sc.plan.h) x.tick tick in
            let arrives = comes b.is c.from (moment sc hands q).frame x in
            sent_late later sc.plan.p (f0_of sc.sizes sc.plan) sc.plan.h (shortest_of sc.plan) (drift_of sc.plan) sc.plan.dmin (coming_to sc ear c.from (moment sc hands q).frame x).time (time_of ear.clock k)
            fit.before_1 (omega (arith, begun.0.time, step, up, arrives.least)) stamp.reached early

    said : IsOfFaulty sc hands c → ⊥
    said faulty = by_order (onset_after ((moment sc hands n).frame + 1) faulty.frame 0 faulty.slot
        (ap (λ o. is_before o ((moment sc hands n).frame + 1) 0) (sym faulty.onset)
        ∙ and_second (nat_lt c.from sc.sizes.rmus) (is_before (get_or sc.rmu_onsets c.from None) ((moment sc hands n).frame + 1) 0) good))
      where
        counted : c.from < sc.sizes.rmus
        counted = ltb-true c.from sc.sizes.rmus (and_first (nat_lt c.from sc.sizes.rmus) (is_before (get_or sc.rmu_onsets c.from None) ((moment sc hands n).frame + 1) 0) good)

        slot_le : faulty.slot ≤ sync_slot_of sc.sizes
        slot_le = onset-in b.law c.from faulty.frame faulty.slot counted faulty.onset

        place : IsPlaced sc hands faulty.frame faulty.slot 1
        place = placed hands b.law faulty.frame faulty.slot 1 slot_le (omega arith) (omega arith) faulty.running

        q : ℕ
        q = faulty.frame * (windows_in sc.sizes + 1) + 3 * faulty.slot + 1 - 1

        its_node : IsGoodNode sc (moment sc hands (faulty.frame * (windows_in sc.sizes + 1) + 3 * faulty.slot + 1 - 1)) faulty.me faulty.i faulty.state
        its_node = good_before_slot slot_le place faulty.good

        -- a tick from `later` on is less than l ticks before the slot, or after its start
        ends : (e : ℕ) → later ≤ time_of (clock_of sc faulty.me faulty.i) e → e + sc.plan.l ≤ faulty.state.epoch + 3 * faulty.slot * sc.plan.l → ⊥
        ends e time le =
            let clock : Steady (shortest_of sc.plan) (drift_of sc.plan) (clock_of sc faulty.me faulty.i) = clock_now b.law its_node in
            let step : time_of (clock_of sc faulty.me faulty.i) e + sc.plan.l * shortest_of sc.plan ≤ time_of (clock_of sc faulty.me faulty.i) (e + sc.plan.l) = clock.not_early e sc.plan.l in
            let up : time_of (clock_of sc faulty.me faulty.i) (e + sc.plan.l) ≤ time_of (clock_of sc faulty.me faulty.i) (faulty.state.epoch + 3 * faulty.slot * sc.plan.l) =
            times_rise_to (clock_of sc faulty.me faulty.i) (e + sc.plan.l) (faulty.state.epoch + 3 * faulty.slot * sc.plan.l) le in
            said_late later sc.plan.p (f0_of sc.sizes sc.plan) sc.plan.h sc.plan.l (shortest_of sc.plan) (drift_of sc.plan) sc.plan.dmin sc.plan.dmax (stated_skew sc.plan (3 * faulty.slot * sc.plan.l))
            (time_of (clock_of sc faulty.me faulty.i) (faulty.state.epoch + 3 * faulty.slot * sc.plan.l)) (time_of ear.clock k) c.time
            b.law.plan.dmin.1 (skew-fits b.law faulty.slot slot_le) fit.after_1
            (omega (arith, time, step, up)) faulty.not_early (b.is.stamps k c in_time heard).reached early

        by_order : ((moment sc hands n).frame + 1 < faulty.frame) ⊎ (((moment sc hands n).frame + 1 ≡ faulty.frame) × (0 < faulty.slot)) → ⊥
        by_order (inl less) =
            let begun = begun_at b next q faulty.running (omega (arith, place.frame_is, less)) its_node sc.plan.l
            (λ far. omega (arith, tail-start sc)) (λ e. absurd (omega (arith, e, place.frame_is, less))) in
            ends begun.0.first begun.0.time (omega (arith, begun.0.least, begun.1))
        by_order (inr same) =
            let begun = begun_at b next q faulty.running (omega (arith, place.frame_is, same.0)) its_node 0 (λ far. omega arith) (λ e. refl) in
            let ticks : 1 * sc.plan.l ≤ (3 * faulty.slot) * sc.plan.l = mul-le-mul_right sc.plan.l (omega (arith, same.1)) in
            ends begun.0.first begun.0.time (omega (arith, begun.0.least, ticks))
