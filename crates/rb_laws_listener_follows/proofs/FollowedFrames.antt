-- From frame to frame a listener follows the bus, as long as the premise holds and it has ticks.
use Rattle.std.proofs.{Common.{◌≡◌, ℕ, zero, suc, ◌+◌, ◌-◌, ◌*◌, ◌^◌, ◌<◌, ◌≤◌, List, [], Some, inl, inr, refl, sym, ◌∙◌, subst, arith}, lemmas.Bool.cases_lt, lemmas.Option.same_Some, Math.Nat.mul-le-mul_right}
use Rattle.rb_base.specs.{Nodes.Side, Sizes.sync_slot_of}
use Rattle.rb_rules.specs.{declared.record.Epoch.Epoch, declared.sense.Sense.Sense, Clock.{IsStamp, stamp_of, time_of}, Goodness.{Scenario, clock_of}, Lawful.IsLawful, Moments.{IsComplete, IsRunning}, NodeState.NodeState, Plan.{f0_of, shortest_of}, Ports.HandIn, Rounds.{moment, windows_in}}
use Rattle.rb_rules.proofs.{Drift.times_rise_to, Middles.IsBetween, Stamps.stamp_of-is}
use Rattle.rb_laws_agreement.proofs.{FrameBegins.{IsTurn, frame_turns}, Invariant.IsGoodNode, Places.running_earlier}
use Rattle.rb_laws_synchrony.proofs.{PlanNumbers.drift_of, StageCalls.clock_now, StageMiddles.tick_of, Synchronous.at_offset, Synchrony.{IsSynchronous, synchrony}, Times.{Steady, lawful_fits, plan_fits}}
use Rattle.rb_laws_listener_learns.specs.{Ears.{Ear, IsEar, told_at}, Receivers.HoldsTo}
use Rattle.rb_laws_listener_learns.proofs.{Apart.WasAt, FrameStages.{IsAtWindow, at-window, first_of_frame}, Together.steady-ear}
use Rattle.rb_laws_listener_follows.specs.Following.{TellsFrame}
use Rattle.rb_laws_listener_follows.proofs.{EpochKnown.second_end, EpochsRise.{TellsAfter, WaitsFirst, tells_after}, ExactPasses.{IsHeldTo, StandsAt}, FollowerRuns.hears_all, HeardExact.{tail-start, was_at}, NextFrames.{NextFrame, next_frame_of}, SyncPasses.sync_moment, TellsFrames.tells_at}

-- all nodes that are good before the first window of the frame begin the frame from time `low` on
-- and within p
abbrev pub AllBegin : Scenario → List HandIn → ℕ → ℕ → Type 0
AllBegin sc hands frame low =
    (me : Side) (i : ℕ) (st : NodeState) → IsGoodNode sc (moment sc hands (0 + first_of_frame sc frame)) me i st → IsBetween low (low + sc.plan.p) (time_of (clock_of sc me i) st.epoch)

-- The listener begins the frame near the good nodes with this tick, and tells that. If it has ticks
-- so far, it stands before the frame's first window, or before its second one
pub record IsFollowed (sc : Scenario) (hands : List HandIn) (ear : Ear) (frame : ℕ) : Type 0 where
  pub epoch : ℕ
  pub low : ℕ
  pub from : ℕ
  pub few : from ≤ 1
  pub begin : AllBegin sc hands frame low
  pub listener : IsBetween low (low + sc.plan.p) (time_of ear.clock epoch)
  pub epochs : TellsFrame sc hands ear frame epoch
  pub stands : epoch + from * sc.plan.l ≤ ear.ticks → StandsAt sc hands ear frame from epoch low

-- the listener follows the frame from its first window on
pub record IsBegun (sc : Scenario) (hands : List HandIn) (ear : Ear) (frame : ℕ) : Type 0 where
  pub followed : IsFollowed sc hands ear frame
  pub whole : followed.from ≡ 0

-- ---- a frame that starts when the listener's ticks are over

too_late : (low p f h l v z u d most t x : ℕ) → 1 ≤ u → p + d * (f + h) + 3 * most + 2 * (u + d) + d * (l + v) + (1 + h) * u ≤ z * u → x ≤ low + p + (f + l + v) * (u + d)
    → low + (f + l + v + z) * u ≤ t → t ≤ x → ⊥
too_late low p f h l v z u d most t x some c6 at sent le = absurd (omega (arith, some, c6, at, sent, le))

-- the later of two bounds
record Later (a b p t : ℕ) : Type 0 where
  pub low : ℕ
  pub first : a ≤ low
  pub second : b ≤ low
  pub inside : (x : ℕ) → IsBetween a (a + p) x → b ≤ x → IsBetween low (low + p) x
  pub far : t ≤ b + p → t ≤ low + p

later_of : (a b p t : ℕ) → Later a b p t
later_of a b p t =
    elim (cases_lt a b) [
      | inl less ↦ record { low = b; first = omega (arith, less); second = omega arith; inside = λ x between le. record { least = le; most = omega (arith, between.most, less) }; far = λ le. le }
      | inr more ↦ record { low = a; first = omega arith; second = more; inside = λ x between le. between; far = λ le. omega (arith, le, more) }
    ]

-- some tick comes within p of a time that is not before the clock's start
record TickAt (sc : Scenario) (ear : Ear) (low : ℕ) : Type 0 where
  pub tick : ℕ
  pub between : IsBetween low (low + sc.plan.p) (time_of ear.clock tick)

long_p : (p u d c e rest : ℕ) → 2 * e + 2 * (u + d) + rest + c * (u + d) ≤ p + c * u → u + d ≤ p
long_p p u d c e rest h = let m : c * (u + d) ≡ c * u + c * d = omega arith in omega (arith, h, m)

tick_at : {sc : _} → IsLawful sc → {ear : _} → IsEar sc ear → (low : ℕ) → time_of ear.clock 0 ≤ low + sc.plan.p → TickAt sc ear low
tick_at {sc} law {ear} is low start = go (stamp_of ear.clock low) (stamp_of-is ear.clock clock.moves low)
  where
    clock : Steady (shortest_of sc.plan) (drift_of sc.plan) ear.clock
    clock = steady-ear law is

    fit : plan_fits sc
    fit = lawful_fits law

    long : shortest_of sc.plan + drift_of sc.plan ≤ sc.plan.p
    long = long_p sc.plan.p (shortest_of sc.plan) (drift_of sc.plan) sc.plan.c _ _ fit.next_cc

    go : (k : ℕ) → IsStamp ear.clock low k → TickAt sc ear low
    go zero stamp = record { tick = 0; between = record { least = stamp.reached; most = start } }
    go (suc k) stamp = record { tick = suc k; between = record { least = stamp.reached; most = omega (arith, clock.stamped low k stamp, long) } }

-- the first moment of the next frame, which begins
record NextBegun (sc : Scenario) (hands : List HandIn) (f : ℕ) : Type 0 where
  pub running : IsRunning (moment sc hands (0 + first_of_frame sc (suc (suc f))))
  pub at : IsAtWindow sc hands (suc (suc f)) 0

next_begun : {sc hands : _} → IsLawful sc → (f : ℕ) → IsComplete sc hands (suc f) (sync_slot_of sc.sizes) → NextBegun sc hands f
next_begun {sc} {hands} law f complete =
    let t : IsTurn sc hands (suc f) = frame_turns law complete in
    let e : suc (suc f) * (windows_in sc.sizes + 1) + 3 * 0 + 1 - 1 ≡ 0 + first_of_frame sc (suc (suc f)) = omega arith in
    let running : IsRunning (moment sc hands (0 + first_of_frame sc (suc (suc f)))) = subst (λ k. IsRunning (moment sc hands k)) e t.running in
    record { running = running; at = at-window law complete 0 (omega arith) running }

-- ---- a frame more

pub followed_next : {sc hands : _} → IsLawful sc → {ear : _} → IsEar sc ear → {learned records tick s first : _} → WaitsFirst sc ear tick s first → first.frame ≡ suc learned
    → {f last : ℕ} → IsHeldTo sc hands ear learned records f last
    → IsComplete sc hands (suc f) (sync_slot_of sc.sizes) → suc (suc (sync_moment sc (suc f))) ≤ last → IsFollowed sc hands ear (suc f) → IsBegun sc hands ear (suc (suc f))
followed_next {sc} {hands} law {ear} is w first_is {f} h complete le x =
    elim (cases_lt ear.ticks (x.epoch + (f0_of sc.sizes sc.plan + sc.plan.l) + sc.plan.v)) [ inl over ↦ late over | inr enough ↦ goes_on enough ]
  where
    begun : NextBegun sc hands f
    begun = next_begun law f complete

    some : 1 ≤ 3 * sync_slot_of sc.sizes
    some = omega (arith, law.sizes.some_biu)

    one_l : x.from * sc.plan.l ≤ sc.plan.l
    one_l = let m : x.from * sc.plan.l ≤ 1 * sc.plan.l = mul-le-mul_right sc.plan.l x.few in omega (arith, m)

    tells_later : (k : ℕ) (e : Epoch) → k < ear.ticks → (told_at sc ear k).epoch ≡ Some e → e.frame ≡ suc (suc f) → TellsAfter sc ear x.epoch k
    tells_later k e in_time told is =
        tells_after w (suc f) x.epoch (omega (arith, first_is, h.later)) x.epochs.only k in_time told (is ∙ (let e : suc (suc f) ≡ suc f + 1 = omega arith in e))

    goes_on : x.epoch + (f0_of sc.sizes sc.plan + sc.plan.l) + sc.plan.v ≤ ear.ticks → IsBegun sc hands ear (suc (suc f))
    goes_on enough =
        let next : NextFrame sc hands ear (suc f) x.epoch =
        next_frame_of h (x.stands (omega (arith, one_l, enough))) (omega (arith, x.few, some)) complete le enough in
        let e : suc (suc f) ≡ suc f + 1 = omega arith in
        record {
          followed = record {
            epoch = next.next_epoch;
            low = next.low;
            from = 0;
            few = omega arith;
            begin = λ me i st node. next.begins.good (0 + first_of_frame sc (suc (suc f))) (begun.at.frame_is ∙ e) begun.at.window_is begun.running me i st node;
            listener = next.begins.listener;
            epochs = record {
              tells = λ me i b good in_time. tells_at (suc f) (next.stands (omega (arith, in_time))) in_time good;
              only = λ k e in_time told is.
                  let after : TellsAfter sc ear x.epoch k = tells_later k e in_time told is in
                  let below : x.epoch + second_end sc.sizes sc.plan < 2 ^ 31 = omega (arith, after.far, in_time, w.ticks) in
                  let there = next.third_stands.here ∙ hears_all sc (ear.heard (x.epoch + second_end sc.sizes sc.plan)) (record { state = next.third; had = x.epoch + second_end sc.sizes sc.plan; inbox = [] }) below in
                  same_Some k next.next_epoch (sym (after.known _ there) ∙ next.third_known);
            };
            stands = λ ticks. next.stands (omega (arith, ticks));
          };
          whole = refl;
        }

    late : ear.ticks < x.epoch + (f0_of sc.sizes sc.plan + sc.plan.l) + sc.plan.v → IsBegun sc hands ear (suc (suc f))
    late over = record {
      followed = record {
        epoch = found.tick;
        low = bound.low;
        from = 0;
        few = omega arith;
        begin = λ me i st node. bound.inside (time_of (clock_of sc me i) st.epoch) (sync.near.begun me i st node) (node_late me i st node);
        listener = found.between;
        epochs = record {
          tells = λ me i b good in_time. absurd (no_tick (omega (arith, in_time)));
          only = λ k e in_time told is.
              let after : TellsAfter sc ear x.epoch k = tells_later k e in_time told is in absurd (omega (arith, after.far, in_time, over));
        };
        stands = λ ticks. absurd (no_tick ticks);
      };
      whole = refl;
    }
      where
        fit : plan_fits sc
        fit = lawful_fits law

        clock : Steady (shortest_of sc.plan) (drift_of sc.plan) ear.clock
        clock = steady-ear law is

        rest : ℕ
        rest = f0_of sc.sizes sc.plan + sc.plan.l + sc.plan.v + sc.plan.z

        sync : IsSynchronous sc hands (0 + first_of_frame sc (suc (suc f)))
        sync = synchrony hands law (0 + first_of_frame sc (suc (suc f))) begun.running

        start : time_of ear.clock 0 ≤ x.low + (f0_of sc.sizes sc.plan + sc.plan.l + sc.plan.v + sc.plan.z) * shortest_of sc.plan + sc.plan.p
        start = omega (arith, times_rise_to ear.clock 0 x.epoch (omega arith), x.listener.most)

        bound : Later sync.low (x.low + (f0_of sc.sizes sc.plan + sc.plan.l + sc.plan.v + sc.plan.z) * shortest_of sc.plan) sc.plan.p (time_of ear.clock 0)
        bound = later_of sync.low (x.low + rest * shortest_of sc.plan) sc.plan.p (time_of ear.clock 0)

        found : TickAt sc ear bound.low
        found = tick_at law is bound.low (bound.far start)

        before : first_of_frame sc (suc f) + 0 ≤ 0 + first_of_frame sc (suc (suc f))
        before = let m : suc (suc f) * (windows_in sc.sizes + 1) ≡ suc f * (windows_in sc.sizes + 1) + (windows_in sc.sizes + 1) = omega arith in omega (arith, m)

        frame_now : (moment sc hands (0 + first_of_frame sc (suc f))).frame ≡ suc f
        frame_now =
            (at-window law h.complete 0 (omega arith) (running_earlier sc hands (0 + first_of_frame sc (suc f)) (0 + first_of_frame sc (suc (suc f))) (omega (arith, before)) begun.running)).frame_is

        node_late : (me : Side) (i : ℕ) (st : NodeState) → IsGoodNode sc (moment sc hands (0 + first_of_frame sc (suc (suc f)))) me i st
            → x.low + (f0_of sc.sizes sc.plan + sc.plan.l + sc.plan.v + sc.plan.z) * shortest_of sc.plan ≤ time_of (clock_of sc me i) st.epoch
        node_late me i st node =
            let was : WasAt sc hands (0 + first_of_frame sc (suc f)) (moment sc hands (0 + first_of_frame sc (suc (suc f)))) me i st =
            was_at hands law (0 + first_of_frame sc (suc f)) (0 + first_of_frame sc (suc (suc f))) (omega (arith, before)) begun.running node in
            let at : IsBetween (x.low + rest * shortest_of sc.plan) (x.low + sc.plan.p + rest * tick_of sc.plan) (time_of (clock_of sc me i) (was.st.epoch + rest)) =
            at_offset (clock_now law was.was) sc.plan.p was.st.epoch rest refl (x.begin me i was.st was.was) in
            omega (
              arith,
              at.least,
              times_rise_to (clock_of sc me i) (was.st.epoch + rest) st.epoch
                  (omega (arith, was.later (omega (arith, frame_now, begun.at.frame_is)), tail-start sc)),
            )

        no_tick : found.tick + 0 * sc.plan.l ≤ ear.ticks → ⊥
        no_tick ticks =
            let o : ℕ = f0_of sc.sizes sc.plan + sc.plan.l + sc.plan.v in
            let at : IsBetween (x.low + o * shortest_of sc.plan) (x.low + sc.plan.p + o * tick_of sc.plan) (time_of ear.clock (x.epoch + o)) =
            at_offset clock sc.plan.p x.epoch o refl x.listener in
            too_late x.low sc.plan.p (f0_of sc.sizes sc.plan) sc.plan.h sc.plan.l sc.plan.v sc.plan.z (shortest_of sc.plan) (drift_of sc.plan) sc.plan.dmax (time_of ear.clock found.tick)
            (time_of ear.clock (x.epoch + o)) fit.some fit.after_3 at.most (omega (arith, bound.second, found.between.least))
            (times_rise_to ear.clock found.tick (x.epoch + o) (omega (arith, ticks, over)))

-- ---- all frames

frame_before : (sc : Scenario) (hands : List HandIn) (d learned : ℕ) → IsComplete sc hands (suc d + learned) (sync_slot_of sc.sizes) → IsComplete sc hands (d + learned) (sync_slot_of sc.sizes)
frame_before sc hands d learned complete =
    let e : (suc d + learned) * (windows_in sc.sizes + 1) ≡ (d + learned) * (windows_in sc.sizes + 1) + (windows_in sc.sizes + 1) = omega arith in
    running_earlier sc hands ((d + learned) * (windows_in sc.sizes + 1) + 3 * sync_slot_of sc.sizes + 4 - 1) ((suc d + learned) * (windows_in sc.sizes + 1) + 3 * sync_slot_of sc.sizes + 4 - 1) (omega (arith, e)) complete

-- a listener that follows a frame follows the next one
followed_step : {sc hands : _} → IsLawful sc → {ear : _} → IsEar sc ear → {learned : ℕ} (records : List Sense) {tick s first : _}
    → WaitsFirst sc ear tick s first → first.frame ≡ suc learned → {last : ℕ} → HoldsTo sc hands ear learned records last → (d : ℕ) → IsComplete sc hands (suc d + learned) (sync_slot_of sc.sizes) → suc (suc d + learned) * (windows_in sc.sizes + 1) ≤ last
    → IsFollowed sc hands ear (suc (d + learned)) → IsBegun sc hands ear (suc (suc d + learned))
followed_step {sc} {hands} law {ear} is {learned} records w first_is {last} holds d complete le x =
    let g : suc (d + learned) ≡ suc d + learned = omega arith in
    let here : IsComplete sc hands (suc (d + learned)) (sync_slot_of sc.sizes) = subst (λ k. IsComplete sc hands k (sync_slot_of sc.sizes)) (sym g) complete in
    let bound : suc (suc (d + learned)) * (windows_in sc.sizes + 1) ≤ last = subst (λ k. suc k * (windows_in sc.sizes + 1) ≤ last) (sym g) le in
    let more : suc (suc (d + learned)) * (windows_in sc.sizes + 1) ≡ suc (d + learned) * (windows_in sc.sizes + 1) + (windows_in sc.sizes + 1) = omega arith in
    subst (λ k. IsBegun sc hands ear (suc k)) g
    (followed_next law is w first_is (record { holds = holds; later = omega arith; complete = frame_before sc hands d learned complete }) here (omega (arith, more, bound)) x)

-- the listener follows each frame after the learned one that is reached before the first breach of
-- the premise with it
pub followed_at : {sc hands : _} → IsLawful sc → {ear : _} → IsEar sc ear → {learned : ℕ} (records : List Sense) {tick s first : _}
    → WaitsFirst sc ear tick s first → first.frame ≡ suc learned → {last : ℕ} → HoldsTo sc hands ear learned records last
    → IsFollowed sc hands ear (suc learned) → (d : ℕ) → IsComplete sc hands (d + learned) (sync_slot_of sc.sizes) → suc (d + learned) * (windows_in sc.sizes + 1) ≤ last
    → IsFollowed sc hands ear (suc (d + learned))
followed_at {sc} {hands} law {ear} is {learned} records w first_is holds begun zero complete le =
    let e : learned ≡ 0 + learned = omega arith in subst (λ k. IsFollowed sc hands ear (suc k)) e begun
followed_at {sc} {hands} law is {learned} records w first_is holds begun (suc d) complete le =
    let more : suc (suc d + learned) * (windows_in sc.sizes + 1) ≡ suc (d + learned) * (windows_in sc.sizes + 1) + (windows_in sc.sizes + 1) = omega arith in
    (followed_step law is records w first_is holds d complete le
    (followed_at law is records w first_is holds begun d (frame_before sc hands d learned complete) (omega (arith, more, le)))).followed

-- the listener follows each frame after its first one from the first window on
pub begun_at : {sc hands : _} → IsLawful sc → {ear : _} → IsEar sc ear → {learned : ℕ} (records : List Sense) {tick s first : _}
    → WaitsFirst sc ear tick s first → first.frame ≡ suc learned → {last : ℕ} → HoldsTo sc hands ear learned records last
    → IsFollowed sc hands ear (suc learned) → (d : ℕ) → IsComplete sc hands (suc d + learned) (sync_slot_of sc.sizes) → suc (suc d + learned) * (windows_in sc.sizes + 1) ≤ last
    → IsBegun sc hands ear (suc (suc d + learned))
begun_at {sc} {hands} law is {learned} records w first_is holds begun d complete le =
    let more : suc (suc d + learned) * (windows_in sc.sizes + 1) ≡ suc (d + learned) * (windows_in sc.sizes + 1) + (windows_in sc.sizes + 1) = omega arith in
    followed_step law is records w first_is holds d complete le
    (followed_at law is records w first_is holds begun d (frame_before sc hands d learned complete) (omega (arith, more, le)))
