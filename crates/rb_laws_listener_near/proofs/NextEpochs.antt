-- If the third stage of the sync slot passes, a listener whose middle is near those of the good
-- BIUs begins the next frame near all good nodes.
use Rattle.std.proofs.{Common.{◌≡◌, ℕ, ◌+◌, ◌*◌, ◌≤◌, ◌<◌, min, max, true, false, Some, option_and_then, option_map, unwrap_or, slice_get, ◌⊎◌, inl, inr, refl, sym, ◌∙◌, ap, subst, arith}, lemmas.Bool.cases_lt}
use Rattle.rb_base.specs.{Nodes.{Side, has}, Nodes.Side.{Biu, Rmu}, Sizes.sync_slot_of}
use Rattle.rb_base.proofs.Plain.{and_second}
use Rattle.rb_rules.specs.{Book.of_kind, Clock.{Timeline, time_of}, Goodness.{Scenario, clock_of, is_good}, Lawful.IsLawful, NodeState.NodeState, Plan.{f0_of, shortest_of}, Rounds.Moment, SyncStage.call_tick_of}
use Rattle.rb_rules.proofs.Middles.{AreNear, IsBetween}
use Rattle.rb_laws_agreement.proofs.{Tests.Passing, Numbers.one_of_many, Premises.is_sound, Goodnesses.{good_below_16, slot_last}, Invariant.{IsGoodNode, is_good_now, slot_numbered}, NextMoments.{CameFrom, came_from, next}, Settings.after}
use Rattle.rb_laws_synchrony.proofs.{KeptMiddles.keeps, LastStage.{biu_begins, rmu_begins, third-middle, third-near}, Middles.{HasLeast, least_of}, PlanNumbers.drift_of, StageCalls.clock_now, StageMiddles.{CallBetween, IsCaller, IsHeardStage, caller, ws_of}, StageSteps.closer, SyncSteps.{IsPassedStage, epoch_after, f0_some, kept_found, some_more, tick_some}, Synchronous.{KnowsEpoch, Synchronous, heard_from, heard_to, near_2, near_3, near_on, ticks_on}, TakenCalls.is_set, TimelyWindows.good_here, Times.{Steady, lawful_fits}}

-- the time of a BIU's call
calls_at : Scenario → Moment → ℕ → ℕ
calls_at sc m j =
    time_of (clock_of sc Biu j) (unwrap_or (option_and_then (λ (st : NodeState). call_tick_of sc.sizes sc.plan st 3) (slice_get (of_kind Biu m.nodes) j)) 0)

calls_at-is : (sc : Scenario) (m : Moment) (j : ℕ) {st tick : _} → slice_get (of_kind Biu m.nodes) j ≡ Some st
    → call_tick_of sc.sizes sc.plan st 3 ≡ Some tick → calls_at sc m j ≡ time_of (clock_of sc Biu j) tick
unfolding calls_at
calls_at-is sc m j {st} there at =
    ap (λ o. time_of (clock_of sc Biu j) (unwrap_or (option_and_then (λ (st : NodeState). call_tick_of sc.sizes sc.plan st 3) o) 0)) there
    ∙ ap (λ o. time_of (clock_of sc Biu j) (unwrap_or o 0)) at

abbrev heard-third : {sc hands n m s : _} → IsPassedStage sc hands n m s 2 → IsHeardStage sc hands n m s 2 Rmu
heard-third c = record { stage = c.stage; listening = refl; premise = c.premise }

-- The calls, and what would be the listener's own, come from some time on, and within as much.

-- a listener's middle is near those that the good BIUs keep
abbrev pub MiddleIsNear : Scenario → Moment → Timeline → ℕ → Type 0
MiddleIsNear sc m clock l =
    (i : ℕ) (b : NodeState) → IsGoodNode sc m Biu i b → (k : ℕ) → b.k2 ≡ Some k → AreNear (near_2 sc.plan) (time_of clock l) (time_of (clock_of sc Biu i) k)

record CallTogether (sc : Scenario) (m : Moment) (own : ℕ) : Type 0 where
  pub least : ℕ
  pub calls : CallBetween sc m Biu 3 least (least + near_3 sc.plan)
  pub listener : IsBetween least (least + near_3 sc.plan) own

call_together : {sc hands n m s low : _} → IsPassedStage sc hands n m s 2 → Synchronous sc m s low
    → {clock : _} → Steady (shortest_of sc.plan) (drift_of sc.plan) clock → (l : ℕ) → MiddleIsNear sc m clock l → CallTogether sc m (time_of clock (l + sc.plan.v))
call_together {sc} {m} {s} c sync {clock} steady_clock l near = go found.held
  where
    law : IsLawful sc
    law = c.stage.law

    at : m.window ≡ 3 * sync_slot_of sc.sizes + 2
    at = c.stage.at

    own : ℕ
    own = time_of clock (l + sc.plan.v)

    here : (j : ℕ) → is_good_now sc m Biu j ≡ true → IsCaller sc m Biu 3 j
    here j g = caller (heard-third c) j (ap (is_good sc Biu j m.frame) (sym (slot_last sc.sizes 2 c.stage.at)) ∙ g)

    -- the listener's call would be near that of each good BIU
    close : (j : ℕ) → is_good_now sc m Biu j ≡ true → AreNear (near_3 sc.plan) (time_of clock (l + sc.plan.v)) (calls_at sc m j)
    close j g =
        let by : IsCaller sc m Biu 3 j = here j g in
        let k = sync.second at j by.st by.here in
        let tick : Some (k.tick + sc.plan.v) ≡ Some by.tick = sym (ap (option_map (λ x. x + sc.plan.v)) k.is) ∙ by.at in
        let e : k.tick + sc.plan.v ≡ by.tick = cc in
        subst (AreNear (near_3 sc.plan) (time_of clock (l + sc.plan.v))) (sym (calls_at-is sc m j by.here.there by.at))
        (near_on steady_clock (clock_now law by.here) l k.tick sc.plan.v refl (sym e) (near j by.st by.here k.tick k.is))

    found : HasLeast (is_good_now sc m Biu) (calls_at sc m) (near_3 sc.plan) 16
    found =
        least_of (is_good_now sc m Biu) (calls_at sc m) (near_3 sc.plan) (λ i j g h.
        let a : IsCaller sc m Biu 3 i = here i g in
        let b : IsCaller sc m Biu 3 j = here j h in
        let pair : AreNear (near_3 sc.plan) (time_of (clock_of sc Biu i) a.tick) (time_of (clock_of sc Biu j) b.tick) =
        third-near c sync i j a.st b.st a.here b.here a.tick b.tick a.at b.at in
        omega (arith, pair.above, calls_at-is sc m i a.here.there a.at, calls_at-is sc m j b.here.there b.at)) 16

    small : (j : ℕ) → is_good_now sc m Biu j ≡ true → j < 16
    small j g = good_below_16 sc law.sizes Biu j m.frame (slot_numbered sc.sizes m.window) g

    between_from : (least : ℕ) → ((j : ℕ) → is_good_now sc m Biu j ≡ true → IsBetween least (least + near_3 sc.plan) (calls_at sc m j)) → CallBetween sc m Biu 3 least (least + near_3 sc.plan)
    between_from least all j source tick h is = subst (IsBetween least (least + near_3 sc.plan)) (calls_at-is sc m j h.there is) (all j h.good)

    go : ((i : ℕ) → i < 16 → is_good_now sc m Biu i ≡ false) ⊎ ((k : ℕ) × (is_good_now sc m Biu k ≡ true) × (calls_at sc m k ≡ found.least)) → CallTogether sc m (time_of clock (l + sc.plan.v))
    go (inl none) =
        let one : Passing (is_sound sc Biu m.frame (sync_slot_of sc.sizes) s.trusted) 0 16 = one_of_many (is_sound sc Biu m.frame (sync_slot_of sc.sizes) s.trusted) (omega (arith, c.premise.most Biu)) in
        let good : is_good_now sc m Biu one.at ≡ true =
        ap (is_good sc Biu one.at m.frame) (slot_last sc.sizes 2 at) ∙ and_second (has (s.trusted Biu) one.at) (is_good sc Biu one.at m.frame (sync_slot_of sc.sizes)) one.passes in
        let both : true ≡ false = sym good ∙ none one.at (small one.at good) in
        absurd (cc)
    go (inr some) =
        let first : AreNear (near_3 sc.plan) (time_of clock (l + sc.plan.v)) (calls_at sc m some.0) = close some.0 some.1 in
        let there : calls_at sc m some.0 ≡ found.least = some.2 in
        elim (cases_lt (time_of clock (l + sc.plan.v)) found.least) [
          | inl less ↦ record {
            least = time_of clock (l + sc.plan.v);
            calls = between_from (time_of clock (l + sc.plan.v)) (λ j g. record {
              least = omega (arith, less, (found.at j (small j g) g).least);
              most = (close j g).under;
            });
            listener = record { least = omega arith; most = omega arith };
          }
          | inr more ↦ record {
            least = found.least;
            calls = between_from found.least (λ j g. found.at j (small j g) g);
            listener = record { least = more; most = omega (arith, first.above, there) };
          }
        ]

-- The next frame.

-- all good nodes begin the next frame from time `later` on and within p, and so would a node with
-- this middle
pub record BeginTogether (sc : Scenario) (m : Moment) (clock : Timeline) (epoch : ℕ) : Type 0 where
  pub later : ℕ
  pub good : (me : Side) (i : ℕ) (st : NodeState) → IsGoodNode sc m me i st → KnowsEpoch sc me i st later
  pub listener : IsBetween later (later + sc.plan.p) (time_of clock epoch)

pub begin_together : {sc hands n m s low : _} → IsPassedStage sc hands n m s 2 → Synchronous sc m s low
    → {clock : _} → Steady (shortest_of sc.plan) (drift_of sc.plan) clock → (l : ℕ) → MiddleIsNear sc m clock l
    → BeginTogether sc (next sc m) clock (l + sc.plan.v + sc.plan.z + sc.plan.c)
begin_together {sc} {hands} {n} {m} {s} c sync {clock} steady_clock l near = record {
  later = later;
  good = by_kind;
  listener = biu_begins calls.least (lawful_fits law)
      (ticks_on steady_clock (l + sc.plan.v) (sc.plan.z + sc.plan.c) (ticks_as l sc.plan.v sc.plan.z sc.plan.c) calls.listener);
}
  where
    law : IsLawful sc
    law = c.stage.law

    at : m.window ≡ 3 * sync_slot_of sc.sizes + 2
    at = c.stage.at

    heard : IsHeardStage sc hands n m s 2 Rmu
    heard = heard-third c

    calls : CallTogether sc m (time_of clock (l + sc.plan.v))
    calls = call_together c sync steady_clock l near

    later : ℕ
    later = calls.least + sc.plan.z * shortest_of sc.plan + min (sc.plan.c * shortest_of sc.plan) sc.plan.dmin

    f : ℕ
    f = f0_of sc.sizes sc.plan

    biu_takes : (e k f l v z c : ℕ) → e + (f + l) ≤ k → k < e + (f + l + v) → (e + (f + l + v + z) ≤ k + v + z + c) × (k + v + z + c < e + (f + l + v + z) + max z (v + c))
    biu_takes e k f l v z c p q = (omega arith, omega arith)

    rmu_takes : (e k f z v c : ℕ) → e + f ≤ k → k < e + (f + z) → (e + (f + z) ≤ k + z) × (k + z < e + (f + z) + max z (v + c))
    rmu_takes e k f z v c p q = (omega arith, omega arith)

    ticks_as : (k v z c : ℕ) → k + v + z + c ≡ k + v + (z + c)
    ticks_as k v z c = omega arith

    of_biu : (i : ℕ) (st : NodeState) → IsGoodNode sc m Biu i st → (now : NodeState) → now.epoch ≡ st.epoch → now.k2 ≡ st.k2 → KnowsEpoch sc Biu i now later
    of_biu i st here now e same =
        let k = sync.second at i st here in
        let bounds = biu_takes now.epoch k.tick f sc.plan.l sc.plan.v sc.plan.z sc.plan.c (omega (arith, e, k.from)) (omega (arith, e, k.inside)) in
        let steady_here : Steady (shortest_of sc.plan) (drift_of sc.plan) (clock_of sc Biu i) = clock_now law here in
        let called : IsBetween calls.least (calls.least + near_3 sc.plan) (time_of (clock_of sc Biu i) (k.tick + sc.plan.v)) =
        calls.calls i st (k.tick + sc.plan.v) here (ap (option_map (λ k2. k2 + sc.plan.v)) k.is) in
        record {
          takes = record {
            epoch = k.tick + sc.plan.v + sc.plan.z + sc.plan.c;
            known = ap (option_map (λ k2. k2 + sc.plan.v + sc.plan.z + sc.plan.c)) (same ∙ k.is);
            least = bounds.0;
            most = bounds.1;
          };
          between = biu_begins calls.least (lawful_fits law)
              (ticks_on steady_here (k.tick + sc.plan.v) (sc.plan.z + sc.plan.c) (ticks_as k.tick sc.plan.v sc.plan.z sc.plan.c) called);
        }

    of_rmu : (i : ℕ) (st : NodeState) (here : IsGoodNode sc m Rmu i st) (now : NodeState) → now.epoch ≡ st.epoch → now.k3 ≡ Some (third-middle heard sync here).tick → KnowsEpoch sc Rmu i now later
    of_rmu i st here now e same =
        let k = third-middle heard sync here in
        let bounds = rmu_takes now.epoch k.tick (f + sc.plan.l + sc.plan.v) sc.plan.z sc.plan.v sc.plan.c (omega (arith, e, k.from)) (omega (arith, e, k.inside)) in
        let steady_here : Steady (shortest_of sc.plan) (drift_of sc.plan) (clock_of sc Rmu i) = clock_now law here in
        let some : 1 ≤ f0_of sc.sizes sc.plan + sc.plan.l + sc.plan.v =
        some_more (f0_of sc.sizes sc.plan + sc.plan.l) sc.plan.v (some_more (f0_of sc.sizes sc.plan) sc.plan.l (f0_some law)) in
        let between : IsBetween (heard_from sc calls.least) (heard_to sc (calls.least + near_3 sc.plan)) (time_of (clock_of sc Rmu i) k.tick) =
        closer heard calls.calls here some k in
        record {
          takes = record {
            epoch = k.tick + sc.plan.z;
            known = ap (option_map (λ k3. k3 + sc.plan.z)) same;
            least = bounds.0;
            most = bounds.1;
          };
          between = rmu_begins calls.least (lawful_fits law)
              (ticks_on steady_here k.tick sc.plan.z refl between);
        }

    by_kind : (me : Side) (i : ℕ) (now : NodeState) → IsGoodNode sc (next sc m) me i now → KnowsEpoch sc me i now later
    by_kind Biu i now h =
        let from : CameFrom sc m Biu i now = came_from c.stage.agree h in
        let left : (after sc m Biu i from.st).k2 ≡ from.st.k2 =
        (keeps (ws_of heard) Biu i from.st (good_here (is_set c.stage) from.was)
        ((tick_some c.stage).tick Biu from.st)).k2 in
        of_biu i from.st from.was now (ap (λ x. x.epoch) (sym from.is) ∙ epoch_after sc m Biu i from.st) (ap (λ x. x.k2) (sym from.is) ∙ left)
    by_kind Rmu i now h =
        let from : CameFrom sc m Rmu i now = came_from c.stage.agree h in
        let k = third-middle heard sync from.was in
        let kept = kept_found heard from.was k in
        of_rmu i from.st from.was now (ap (λ x. x.epoch) (sym from.is) ∙ epoch_after sc m Rmu i from.st) (ap (λ x. x.k3) (sym from.is) ∙ kept.k3)
