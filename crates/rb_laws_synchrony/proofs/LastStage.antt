-- The third stage of the sync slot: if it passes, each good node knows when its next frame begins,
-- near the others. And the tail.
use Rattle.std.proofs.Common.{◌≡◌, ℕ, ◌+◌, ◌-◌, ◌*◌, ◌≤◌, ◌<◌, min, max, true, Some, option_map, refl, sym, ◌∙◌, ap, arith}
use Rattle.rb_base.specs.{Nodes.Side, Nodes.Side.{Biu, Rmu}, Sizes.sync_slot_of}
use Rattle.rb_rules.specs.{declared.plan.Plan.Plan, Book.judged_of, Clock.time_of, Goodness.{Scenario, clock_of, is_good}, Lawful.IsLawful, NodeState.NodeState, Plan.{f0_of, shortest_of}, Rounds.after_window, SyncStage.new_epoch_of}
use Rattle.rb_rules.proofs.Middles.{IsBetween}
use Rattle.rb_laws_agreement.proofs.{Goodnesses.slot_last, Invariant.{Agree, IsGoodNode}, JudgedWindows.rows_of, NextMoments.{CameFrom, came_from, next}, NodeWindows.tail_windows, Settings.after}
use Rattle.rb_laws_synchrony.proofs.{CallSights.place_of, KeptMiddles.{Leaves, keeps, tail_leaves}, LaterStages.calls_near, PlanNumbers.{Fits, drift_of, eps_of, last_plus, third_late}, StageCalls.{clock_now, third_about, third_at, third_calls}, StageMiddles.{CallBetween, IsHeardStage, NoneUnlike, ws_of}, StageSteps.{CallNear, StageMiddle, closer, near_calls, stage_middle}, SyncSteps.{IsPassedStage, begun_next, epoch_after, f0_some, kept_found, none_before, some_more, tick_some}, Synchronous.{KnowNext, KnowsEpoch, Synchronous, from_3, heard_from, heard_to, near_3, ticks_on, to_3}, TakenCalls.is_set, TimelyWindows.good_here, Times.{Steady, lawful_fits, plan_fits}}

-- ---- numbers: the next frame's first ticks come from `least + z * u + min (c * u) dmin` on, if
-- the calls of stage 3 do from `least` on

-- a BIU begins the next frame z + c ticks after the call
pub biu_begins : {plan u d f : _} (least : ℕ) {x : ℕ} → Fits plan u d f
    → IsBetween (least + (plan.z + plan.c) * u) (least + (eps_of plan + (u + d) + d * plan.l + (eps_of plan + (u + d)) + d * plan.v) + (plan.z + plan.c) * (u + d)) x
    → IsBetween (least + plan.z * u + min (plan.c * u) plan.dmin) (least + plan.z * u + min (plan.c * u) plan.dmin + plan.p) x
biu_begins least fit at = record { least = omega (arith, at.least); most = omega (arith, at.most, fit.next_cc, fit.next_ca) }

-- an RMU begins its next frame z ticks after the middle of the calls
pub rmu_begins : {plan u d f : _} (least : ℕ) {x : ℕ} → Fits plan u d f
    → IsBetween (least + plan.dmin + plan.z * u)
    (least + (eps_of plan + (u + d) + d * plan.l + (eps_of plan + (u + d)) + d * plan.v) + plan.dmax + (u + d) + plan.z * (u + d)) x
    → IsBetween (least + plan.z * u + min (plan.c * u) plan.dmin) (least + plan.z * u + min (plan.c * u) plan.dmin + plan.p) x
rmu_begins least fit at = record { least = omega (arith, at.least); most = omega (arith, at.most, fit.next_bc, fit.next_ba) }

-- ---- stage 3

abbrev heard-third : {sc hands n m s : _} → IsPassedStage sc hands n m s 2 → IsHeardStage sc hands n m s 2 Rmu
heard-third c = record { stage = c.stage; listening = refl; premise = c.premise }

pub third-middle : {sc hands n m s low : _} (c : IsHeardStage sc hands n m s 2 Rmu) → Synchronous sc m s low
    → {i st : _} → IsGoodNode sc m Rmu i st
    → StageMiddle sc m 2 (ws_of c) Rmu i st (f0_of sc.sizes sc.plan + sc.plan.l + sc.plan.v) (f0_of sc.sizes sc.plan + sc.plan.l + sc.plan.v + sc.plan.z)
    (f0_of sc.sizes sc.plan + sc.plan.l + sc.plan.v + sc.plan.z) (from_3 sc low) (to_3 sc low)
third-middle {sc} {m} {low} c sync here =
    let law : IsLawful sc = c.stage.law in
    let f : ℕ = f0_of sc.sizes sc.plan in
    let at : m.window ≡ 3 * sync_slot_of sc.sizes + 2 = c.stage.at in
    let some : 1 ≤ f + sc.plan.l + sc.plan.v = some_more (f + sc.plan.l) sc.plan.v (some_more f sc.plan.l (f0_some law)) in
    stage_middle c (f + sc.plan.l + sc.plan.v + sc.plan.z) sync.begun
    (third_calls law sync at).between (third_about (is_set c.stage) at sync.begun)
    (third_at (ws_of c) at) some law.plan.z.0 (some_more (f + sc.plan.l + sc.plan.v) sc.plan.z some)
    (third-last sc c.stage.law low) here
  where
    third-last : (sc : Scenario) → IsLawful sc → (low : ℕ) → to_3 sc low + sc.plan.dmax ≤ low + (f0_of sc.sizes sc.plan + sc.plan.l + sc.plan.v + sc.plan.z - 1) * shortest_of sc.plan
    third-last sc law low =
        let fit : plan_fits sc = lawful_fits law in
        let f : ℕ = f0_of sc.sizes sc.plan in
        third_late low sc.plan.p f sc.plan.h sc.plan.l sc.plan.v sc.plan.z (f + sc.plan.l + sc.plan.v + sc.plan.z - 1) (shortest_of sc.plan) (drift_of sc.plan) sc.plan.dmax
        (last_plus (f + sc.plan.l + sc.plan.v) sc.plan.z law.plan.z.0) fit.after_3

-- the calls of stage 3 are near
pub third-near : {sc hands n m s low : _} → IsPassedStage sc hands n m s 2 → Synchronous sc m s low
    → CallNear sc m Biu 3 (near_3 sc.plan)
third-near {sc} {m} {s} c sync =
    let at : m.window ≡ 3 * sync_slot_of sc.sizes + 2 = c.stage.at in
    let none : NoneUnlike sc m s c.premise.side m.book.stages =
    none_before sc m s c.premise.side (judged_of sc (place_of sc m 2) (rows_of sc m)) m.book.stages c.premise.alike in
    calls_near c.stage.law 3 sc.plan.v (λ i st h. let k = sync.second at i st h in (k.tick, k.is)) (λ st. refl)
    (sync.second_near at c.premise.side none)

-- after stage 3 good nodes know when they begin the next frame
pub know_next : {sc hands n m s low : _} → IsPassedStage sc hands n m s 2 → Synchronous sc m s low → KnowNext sc (next sc m)
know_next {sc} {hands} {n} {m} {s} c sync = (later, by_kind)
  where
    law : IsLawful sc
    law = c.stage.law

    at : m.window ≡ 3 * sync_slot_of sc.sizes + 2
    at = c.stage.at

    heard : IsHeardStage sc hands n m s 2 Rmu
    heard = heard-third c

    calls : (least : ℕ) × CallBetween sc m Biu 3 least (least + near_3 sc.plan)
    calls = near_calls (heard-third c) (third-near c sync)

    later : ℕ
    later = calls.0 + sc.plan.z * shortest_of sc.plan + min (sc.plan.c * shortest_of sc.plan) sc.plan.dmin

    f : ℕ
    f = f0_of sc.sizes sc.plan

    biu_takes : (e k f l v z c : ℕ) → e + (f + l) ≤ k → k < e + (f + l + v) → (e + (f + l + v + z) ≤ k + v + z + c) × (k + v + z + c < e + (f + l + v + z) + max z (v + c))
    biu_takes e k f l v z c p q = (omega arith, omega arith)

    rmu_takes : (e k f z v c : ℕ) → e + f ≤ k → k < e + (f + z) → (e + (f + z) ≤ k + z) × (k + z < e + (f + z) + max z (v + c))
    rmu_takes e k f z v c p q = (omega arith, omega arith)

    ticks_as : (k v z c : ℕ) → k + v + z + c ≡ k + v + (z + c)
    ticks_as k v z c = omega arith

    of_biu : (i : ℕ) (st : NodeState) → IsGoodNode sc m Biu i st → (now : NodeState) → now.epoch ≡ st.epoch → now.k2 ≡ st.k2 → KnowsEpoch sc Biu i now later
    of_biu i st here now e same =
        let k = sync.second at i st here in
        let bounds = biu_takes now.epoch k.tick f sc.plan.l sc.plan.v sc.plan.z sc.plan.c (omega (arith, e, k.from)) (omega (arith, e, k.inside)) in
        let clock : Steady (shortest_of sc.plan) (drift_of sc.plan) (clock_of sc Biu i) = clock_now law here in
        let called : IsBetween calls.0 (calls.0 + near_3 sc.plan) (time_of (clock_of sc Biu i) (k.tick + sc.plan.v)) =
        calls.1 i st (k.tick + sc.plan.v) here (ap (option_map (λ k2. k2 + sc.plan.v)) k.is) in
        record {
          takes = record {
            epoch = k.tick + sc.plan.v + sc.plan.z + sc.plan.c;
            known = ap (option_map (λ k2. k2 + sc.plan.v + sc.plan.z + sc.plan.c)) (same ∙ k.is);
            least = bounds.0;
            most = bounds.1;
          };
          between = biu_begins calls.0 (lawful_fits law)
              (ticks_on clock (k.tick + sc.plan.v) (sc.plan.z + sc.plan.c) (ticks_as k.tick sc.plan.v sc.plan.z sc.plan.c) called);
        }

    of_rmu : (i : ℕ) (st : NodeState) (here : IsGoodNode sc m Rmu i st) (now : NodeState) → now.epoch ≡ st.epoch → now.k3 ≡ Some (third-middle heard sync here).tick → KnowsEpoch sc Rmu i now later
    of_rmu i st here now e same =
        let k = third-middle heard sync here in
        let bounds = rmu_takes now.epoch k.tick (f + sc.plan.l + sc.plan.v) sc.plan.z sc.plan.v sc.plan.c (omega (arith, e, k.from)) (omega (arith, e, k.inside)) in
        let clock : Steady (shortest_of sc.plan) (drift_of sc.plan) (clock_of sc Rmu i) = clock_now law here in
        let some : 1 ≤ f0_of sc.sizes sc.plan + sc.plan.l + sc.plan.v =
        some_more (f0_of sc.sizes sc.plan + sc.plan.l) sc.plan.v (some_more (f0_of sc.sizes sc.plan) sc.plan.l (f0_some law)) in
        let between : IsBetween (heard_from sc calls.0) (heard_to sc (calls.0 + near_3 sc.plan)) (time_of (clock_of sc Rmu i) k.tick) =
        closer heard calls.1 here some k in
        record {
          takes = record {
            epoch = k.tick + sc.plan.z;
            known = ap (option_map (λ k3. k3 + sc.plan.z)) same;
            least = bounds.0;
            most = bounds.1;
          };
          between = rmu_begins calls.0 (lawful_fits law)
              (ticks_on clock k.tick sc.plan.z refl between);
        }

    by_kind : (me : Side) (i : ℕ) (now : NodeState) → IsGoodNode sc (next sc m) me i now → KnowsEpoch sc me i now later
    by_kind Biu i now h =
        let from : CameFrom sc m Biu i now = came_from c.stage.agree h in
        let left : (after sc m Biu i from.st).k2 ≡ from.st.k2 =
        (keeps (ws_of heard) Biu i from.st (good_here (is_set c.stage) from.was)
        ((tick_some c.stage).tick Biu from.st)).k2 in
        of_biu i from.st from.was now (ap (λ x. x.epoch) (sym from.is) ∙ epoch_after sc m Biu i from.st) (ap (λ x. x.k2) (sym from.is) ∙ left)
    by_kind Rmu i now h =
        let from : CameFrom sc m Rmu i now = came_from c.stage.agree h in
        let k = third-middle heard sync from.was in
        let kept = kept_found heard from.was k in
        of_rmu i from.st from.was now (ap (λ x. x.epoch) (sym from.is) ∙ epoch_after sc m Rmu i from.st) (ap (λ x. x.k3) (sym from.is) ∙ kept.k3)

pub near_third : {sc hands n m s low : _} → IsPassedStage sc hands n m s 2 → Synchronous sc m s low
    → Synchronous sc (next sc m) s low
unfolding after_window
near_third {sc} {m} c sync = record {
  begun = begun_next c.stage.agree sync.begun;
  first = λ later. let at : m.window ≡ 3 * sync_slot_of sc.sizes + 2 = c.stage.at in absurd (omega arith);
  first_near = λ later. let at : m.window ≡ 3 * sync_slot_of sc.sizes + 2 = c.stage.at in absurd (omega arith);
  second = λ later. let at : m.window ≡ 3 * sync_slot_of sc.sizes + 2 = c.stage.at in absurd (omega arith);
  second_near = λ later. let at : m.window ≡ 3 * sync_slot_of sc.sizes + 2 = c.stage.at in absurd (omega arith);
  third = λ late. know_next c sync;
}

-- ---- the tail

same-epoch : (plan : Plan) (me : Side) {st now : _} → Leaves st now → new_epoch_of plan me now ≡ new_epoch_of plan me st
same-epoch plan Biu left = ap (option_map (λ k2. k2 + plan.v + plan.z + plan.c)) left.k2
same-epoch plan Rmu left = ap (option_map (λ k3. k3 + plan.z)) left.k3

pub near_tail : {sc hands n m s low : _} → Agree sc hands n m s → m.window ≡ 3 * sync_slot_of sc.sizes + 3 → Synchronous sc m s low
    → Synchronous sc (next sc m) s low
unfolding after_window
near_tail {sc} {m} agree at sync = record {
  begun = begun_next agree sync.begun;
  first = λ later. absurd (omega arith);
  first_near = λ later. absurd (omega arith);
  second = λ later. absurd (omega arith);
  second_near = λ later. absurd (omega arith);
  third = λ late. (
    known.0,
    λ me i now h.
        let from : CameFrom sc m me i now = came_from agree h in
        let k : KnowsEpoch sc me i from.st known.0 = known.1 me i from.st from.was in
        let good : is_good sc me i m.frame (sync_slot_of sc.sizes) ≡ true = ap (is_good sc me i m.frame) (sym (slot_last sc.sizes 3 at)) ∙ from.was.good in
        let left : Leaves from.st (after sc m me i from.st) = tail_leaves (tail_windows sc m at) me i from.st good in
        let e : now.epoch ≡ from.st.epoch = ap (λ x. x.epoch) (sym from.is) ∙ epoch_after sc m me i from.st in
        let next_is : new_epoch_of sc.plan me now ≡ new_epoch_of sc.plan me from.st = ap (new_epoch_of sc.plan me) (sym from.is) ∙ same-epoch sc.plan me left in
        record {
          takes = record {
            epoch = k.takes.epoch;
            known = next_is ∙ k.takes.known;
            least = omega (arith, e, k.takes.least);
            most = omega (arith, e, k.takes.most);
          };
          between = k.between;
        },
  );
}
  where
    known : KnowNext sc m
    known = sync.third (omega arith)
