-- From when on good nodes begin the frame after calls of the sync slot.
use Rattle.std.proofs.{Common.{◌≡◌, ℕ, suc, ◌+◌, ◌*◌, ◌≤◌, Some, option_map, refl, sym, ◌∙◌, ap, subst, arith}, Math.Nat.{mul-le-mul_left, mul-le-mul_right}}
use Rattle.rb_base.specs.{Nodes.Side, Nodes.Side.{Biu, Rmu}, Sizes.sync_slot_of}
use Rattle.rb_rules.specs.{Clock.time_of, Goodness.{Scenario, clock_of}, Headline.stated_skew, Lawful.IsLawful, Moments.IsRunning, NodeState.NodeState, Plan.{f0_of, shortest_of}, Rounds.moment, SyncStage.new_epoch_of}
use Rattle.rb_rules.proofs.Drift.{times_rise_to}
use Rattle.rb_laws_agreement.proofs.{Invariant.IsGoodNode, NextMoments.{CameFrom, came_from, next}, Places.running_earlier, Settings.after, SlotRuns.next-window}
use Rattle.rb_laws_synchrony.proofs.{KeptMiddles.{Keeps, keeps, keeps_found}, LaterStages.near_second, PlanNumbers.drift_of, StageCalls.{clock_now, third_calls}, StageMiddles.{HearsMiddle, IsHeardStage, hears_middle, ws_of}, SyncSteps.{IsPassedStage, tick_some}, Synchronous.{Synchronous, from_2, from_3, heard_from, to_3}, Synchrony.IsSynchronous, TakenCalls.is_set, TimelyWindows.good_here, Times.{Steady, lawful_fits, plan_fits}}
use Rattle.rb_laws_listener_learns.proofs.SyncStages.{StageIs, TurnsAt, stage_is, turns_at}

-- the skew stated at the start of a slot is no more than the ticks before a call make up
pub skew-fits : {sc : _} → IsLawful sc → (slot : ℕ) → slot ≤ sync_slot_of sc.sizes
    → stated_skew sc.plan (3 * slot * sc.plan.l) + drift_of sc.plan * sc.plan.h ≤ sc.plan.h * shortest_of sc.plan + sc.plan.dmin
skew-fits {sc} law slot le =
    let fit : plan_fits sc = lawful_fits law in
    let offsets : 3 * slot * sc.plan.l ≤ f0_of sc.sizes sc.plan = mul-le-mul_right sc.plan.l (omega (arith, le)) in
    omega (arith, fit.before_1, mul-le-mul_left (drift_of sc.plan) offsets)

-- if the frame's first ticks come from `low` on, the next frame begins from here on: the calls of
-- stage 2 are heard, and the two windows pass
abbrev pub begins_from : Scenario → ℕ → ℕ
begins_from sc low = heard_from sc (from_2 sc low) + (sc.plan.v + sc.plan.z) * shortest_of sc.plan

-- the node knows that it begins its next frame at this time or later
pub record BeginsFrom (sc : Scenario) (me : Side) (i : ℕ) (st : NodeState) (time : ℕ) : Type 0 where
  pub tick : ℕ
  pub known : new_epoch_of sc.plan me st ≡ Some tick
  pub from : time ≤ time_of (clock_of sc me i) tick

-- after stage 3 all good nodes begin the next frame from this time on
after-third : {sc hands n m s low : _} → IsPassedStage sc hands n m s 2 → Synchronous sc m s low
    → (me : Side) (i : ℕ) (now : NodeState) → IsGoodNode sc (next sc m) me i now → BeginsFrom sc me i now (begins_from sc low)
after-third {sc} {hands} {n} {m} {s} {low} c sync = by_kind
  where
    at : m.window ≡ 3 * sync_slot_of sc.sizes + 2
    at = c.stage.at

    heard : IsHeardStage sc hands n m s 2 Rmu
    heard = record { stage = c.stage; listening = refl; premise = c.premise }

    by_kind : (me : Side) (i : ℕ) (now : NodeState) → IsGoodNode sc (next sc m) me i now → BeginsFrom sc me i now (begins_from sc low)
    by_kind Biu i now h =
        let from : CameFrom sc m Biu i now = came_from c.stage.agree h in
        let left : (after sc m Biu i from.st).k2 ≡ from.st.k2 =
        (keeps (ws_of heard) Biu i from.st (good_here (is_set c.stage) from.was)
        ((tick_some c.stage).tick Biu from.st)).k2 in
        let k = sync.second at i from.st from.was in
        let clock : Steady (shortest_of sc.plan) (drift_of sc.plan) (clock_of sc Biu i) = clock_now c.stage.law from.was in
        let later : time_of (clock_of sc Biu i) (k.tick + (sc.plan.v + sc.plan.z)) ≤ time_of (clock_of sc Biu i) (k.tick + sc.plan.v + sc.plan.z + sc.plan.c) =
        times_rise_to (clock_of sc Biu i) (k.tick + (sc.plan.v + sc.plan.z)) (k.tick + sc.plan.v + sc.plan.z + sc.plan.c) (omega arith) in
        record {
          tick = k.tick + sc.plan.v + sc.plan.z + sc.plan.c;
          known = ap (option_map (λ k2. k2 + sc.plan.v + sc.plan.z + sc.plan.c)) (ap (λ x. x.k2) (sym from.is) ∙ left ∙ k.is);
          from = omega (arith, k.between.least, clock.not_early k.tick (sc.plan.v + sc.plan.z), later);
        }
    by_kind Rmu i now h =
        let from : CameFrom sc m Rmu i now = came_from c.stage.agree h in
        let k : HearsMiddle sc m 2 (ws_of heard) Rmu i from.st (from_3 sc low) (to_3 sc low) =
        hears_middle heard (third_calls c.stage.law sync at).between from.was in
        let kept : Keeps Rmu 3 k.tick from.st (after sc m Rmu i from.st) =
        keeps_found (ws_of heard) Rmu i from.st
        (good_here (is_set c.stage) from.was) ((tick_some c.stage).tick Rmu from.st) k.found in
        let clock : Steady (shortest_of sc.plan) (drift_of sc.plan) (clock_of sc Rmu i) = clock_now c.stage.law from.was in
        record {
          tick = k.tick + sc.plan.z;
          known = ap (option_map (λ k3. k3 + sc.plan.z)) (ap (λ x. x.k3) (sym from.is) ∙ kept.k3);
          from = omega (arith, k.not_early, clock.not_early k.tick sc.plan.z);
        }

-- if moment `n` is before stage 2 of the sync slot, all nodes that are good at the first moment of
-- the next frame begin it from this time on
pub begins-later : {sc hands : _} → IsLawful sc → {n : ℕ} (first : IsSynchronous sc hands n) → (moment sc hands n).window ≡ 3 * sync_slot_of sc.sizes + 1
    → IsRunning (moment sc hands (suc (suc (suc (suc n))))) → {me i now : _} → IsGoodNode sc (moment sc hands (suc (suc (suc (suc n))))) me i now
    → begins_from sc first.low ≤ time_of (clock_of sc me i) now.epoch
begins-later {sc} {hands} law {n} first at running {me} {i} {now} node =
    subst (λ k. begins_from sc first.low ≤ time_of (clock_of sc me i) k) (turned.epoch begins.tick begins.known) begins.from
  where
    on : (k : ℕ) → k ≤ suc (suc (suc n)) → IsRunning (moment sc hands (suc k))
    on k le = running_earlier sc hands (suc k) (suc (suc (suc (suc n)))) (omega (arith, le)) running

    second : StageIs sc hands n first.shared 1
    second = stage_is law 1 first.agree (omega arith) at (on n (omega arith))

    at_third : (moment sc hands (suc n)).window ≡ 3 * sync_slot_of sc.sizes + 2
    at_third =
        let w : (moment sc hands (suc n)).window ≡ (moment sc hands n).window + 1 = ap (λ x. x.window) (sym second.next_is) ∙ next-window sc (moment sc hands n) in
        omega (arith, w, at)

    third : StageIs sc hands (suc n) first.shared 2
    third = stage_is law 2 second.agree (omega arith) at_third (on (suc n) (omega arith))

    at_tail : (moment sc hands (suc (suc n))).window ≡ 3 * sync_slot_of sc.sizes + 3
    at_tail =
        let w : (moment sc hands (suc (suc n))).window ≡ (moment sc hands (suc n)).window + 1 = ap (λ x. x.window) (sym third.next_is) ∙ next-window sc (moment sc hands (suc n)) in
        omega (arith, w, at_third)

    near : Synchronous sc (moment sc hands (suc n)) first.shared first.low
    near = subst (λ m. Synchronous sc m first.shared first.low) second.next_is (near_second second.passes first.near)

    turned : TurnsAt sc hands (suc (suc n)) me i now
    turned = turns_at law third.agree at_tail running node

    begins : BeginsFrom sc me i turned.st (begins_from sc first.low)
    begins =
        after-third third.passes near me i turned.st
        (subst (λ m. IsGoodNode sc m me i turned.st) (sym third.next_is) turned.was)
