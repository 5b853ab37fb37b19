-- From one window to the next of its frame good nodes stay near.
use Rattle.std.proofs.{Common.{◌≡◌, ℕ, zero, suc, ◌+◌, ◌-◌, ◌*◌, ◌≤◌, ◌<◌, List, ◌∷◌, Some, refl, sym, ◌∙◌, ap, subst, arith}, lemmas.Option.same_Some}
use Rattle.std.specs.List.{list_any}
use Rattle.rb_base.specs.{Nodes.Side, Nodes.Side.{Biu, Rmu}, Sizes.sync_slot_of}
use Rattle.rb_rules.specs.{Clock.time_of, Goodness.{Scenario, clock_of, is_good}, Judging.{JudgedStage, was_unlike}, Lawful.IsLawful, NodeState.NodeState, Plan.{f0_of, shortest_of}, Ports.HandIn, Rounds.{Moment, after_window, sent_in, window_in}}
use Rattle.rb_rules.proofs.{Middles.{AreNear, IsBetween}, RoundStates.through-stays}
use Rattle.rb_laws_agreement.proofs.{Goodnesses.slot_last, Invariant.{Agree, IsGoodNode, Shared}, JudgedWindows.{IsPassed, premise_after, rows_of}, NextMoments.{CameFrom, came_from, next}, NodeWindows.{HasTick, sync_tick, sync_windows_are}, Premises.Premise, Settings.after, SyncAgrees.book_sync, Tests.or_neither_second}
use Rattle.rb_laws_synchrony.proofs.{CallSights.stages_with, KeptMiddles.{Keeps, keeps_found}, PlanNumbers.{drift_of, last_plus, second_own}, StageCalls.{Begun, first_about, first_at, first_calls}, StageMiddles.{IsHeardStage, NoneUnlike, middles_of_alike, tick_of, ws_of}, StageSteps.{StageMiddle, stage_middle}, Synchronous.{KnowsMiddle, Synchronous, from_1, heard_from, heard_to, near_1, to_1}, TakenCalls.{IsStage, is_set}, TimelyWindows.good_here, Times.{lawful_fits, plan_fits}}

-- ---- any window

-- a window keeps a node's epoch
pub epoch_after : (sc : Scenario) (m : Moment) (me : Side) (i : ℕ) (st : NodeState) → (after sc m me i st).epoch ≡ st.epoch
epoch_after sc m me i st = (through-stays sc m (sent_in sc m) me i st (window_in sc m me st)).epoch

pub begun_next : {sc hands n m s low : _} → Agree sc hands n m s → Begun sc m low → Begun sc (next sc m) low
begun_next {sc} {m} {low} agree begun me i now h =
    let from : CameFrom sc m me i now = came_from agree h in
    let e : from.st.epoch ≡ now.epoch = sym (epoch_after sc m me i from.st) ∙ ap (λ x. x.epoch) from.is in
    subst (λ k. IsBetween low (low + sc.plan.p) (time_of (clock_of sc me i) k)) e (begun me i from.st from.was)

-- after a window below the sync slot good nodes that have begun the frame together are synchronous
pub near_exact : {sc hands n m s : _} (t : Shared) {low : ℕ} → Agree sc hands n m s → Begun sc m low
    → m.window < 3 * sync_slot_of sc.sizes → Synchronous sc (next sc m) t low
unfolding after_window
near_exact t agree begun below = record {
  begun = begun_next agree begun;
  first = λ late. absurd (omega arith);
  first_near = λ late. absurd (omega arith);
  second = λ late. absurd (omega arith);
  second_near = λ late. absurd (omega arith);
  third = λ late. absurd (omega arith);
}

-- ---- a stage of the sync slot that passes

pub record IsPassedStage (sc : Scenario) (hands : List HandIn) (n : ℕ) (m : Moment) (s : Shared) (q : ℕ) : Type 0 where
  pub stage : IsStage sc hands n m s q
  pub premise : Premise sc m.frame (sync_slot_of sc.sizes) s.trusted (stages_with sc m q)
  pub stages : (next sc m).book.stages ≡ stages_with sc m q

pub passed_stage : {sc hands n m s q : _} → IsStage sc hands n m s q
    → IsPassed sc (record { frame = m.frame; slot = sync_slot_of sc.sizes; stage = q + 1 }) (rows_of sc m) m.book → IsPassedStage sc hands n m s q
passed_stage {sc} {m} {s} {q} c passed = record {
  stage = c;
  premise = premise_after (sync_windows_are sc m q c.small c.at) s.trusted
      (λ me i st is good kind.
      (c.agree.nodes me i st (record { there = is; good = ap (is_good sc me i m.frame) (slot_last sc.sizes q c.at) ∙ good })).trusted kind)
      passed.no_cause;
  stages = ap (λ b. b.stages) (book_sync sc m q c.small c.at ∙ passed.is);
}

-- if no node of the kind was seen unlike with the stage, none was before it
pub none_before : (sc : Scenario) (m : Moment) (s : Shared) (kind : Side) (stage : JudgedStage) (earlier : List JudgedStage)
    → NoneUnlike sc m s kind (stage ∷ earlier) → NoneUnlike sc m s kind earlier
none_before sc m s kind stage earlier none j below t faulty =
    or_neither_second (was_unlike kind j stage) (list_any (was_unlike kind j) earlier) (none j below t faulty)

pub tick_some : {sc hands n m s q : _} (c : IsStage sc hands n m s q)
    → HasTick sc m (sync_slot_of sc.sizes) (q + 1) (sync_windows_are sc m q c.small c.at)
tick_some {sc} {m} {q} c = sync_tick sc m q c.small c.at c.law.plan.l.0 c.law.plan.v.0 c.law.plan.z.0

-- a node that listens keeps the middle that it finds in the stage
pub kept_found : {sc hands n m s q me : _} (c : IsHeardStage sc hands n m s q me) {first last own low high : ℕ}
    → {i st : _} → IsGoodNode sc m me i st → (k : StageMiddle sc m q (ws_of c) me i st first last own low high)
    → Keeps me (q + 1) k.tick st (after sc m me i st)
kept_found {me} c {i} {st} here k =
    keeps_found (ws_of c) me i st
    (good_here (is_set c.stage) here)
    ((tick_some c.stage).tick me st) k.found

-- the offset of the sync slot is not 0
pub f0-some : (bius rmus slots l : ℕ) → 1 ≤ bius → 1 ≤ l → 1 ≤ 3 * (2 * bius + rmus + slots) * l
f0-some bius rmus slots (suc l) some some_l =
    let e : 3 * (2 * bius + rmus + slots) * suc l ≡ 3 * (2 * bius + rmus + slots) + 3 * (2 * bius + rmus + slots) * l = omega arith in
    omega (arith, e)
f0-some bius rmus slots zero some some_l = absurd (omega arith)

pub f0_some : {sc : _} → IsLawful sc → 1 ≤ f0_of sc.sizes sc.plan
f0_some {sc} law = f0-some sc.sizes.bius sc.sizes.rmus sc.sizes.data_slots sc.plan.l law.sizes.some_biu law.plan.l.0

pub some_more : (f v : ℕ) → 1 ≤ f → 1 ≤ f + v
some_more f v h = omega arith

-- ---- stage 1

-- the RMUs listen in stage 1 of the sync slot
heard-first : {sc hands n m s : _} → IsPassedStage sc hands n m s 0 → IsHeardStage sc hands n m s 0 Rmu
heard-first c = record { stage = c.stage; listening = refl; premise = c.premise }

pub up_to_delay : (high most g x : ℕ) → high + most + g ≤ x → high + most ≤ x
up_to_delay high most g x h = omega arith

first-middle : {sc hands n m s low : _} (c : IsHeardStage sc hands n m s 0 Rmu) → Begun sc m low → {i st : _} → IsGoodNode sc m Rmu i st
    → StageMiddle sc m 0 (ws_of c) Rmu i st (f0_of sc.sizes sc.plan) (f0_of sc.sizes sc.plan + sc.plan.l) (f0_of sc.sizes sc.plan + sc.plan.v) (from_1 sc low) (to_1 sc low)
first-middle {sc} {low} c begun here =
    let law : IsLawful sc = c.stage.law in
    let fit : plan_fits sc = lawful_fits law in
    let f : ℕ = f0_of sc.sizes sc.plan in
    let some : 1 ≤ f = f0_some law in
    let last : f + sc.plan.v - 1 + 1 ≡ f + sc.plan.v = last_plus f sc.plan.v law.plan.v.0 in
    stage_middle c (f + sc.plan.v) begun (first_calls law begun).between
    (first_about (is_set c.stage) c.stage.at begun) (first_at (ws_of c) c.stage.at) some law.plan.l.0 (some_more f sc.plan.v some)
    (up_to_delay (to_1 sc low) sc.plan.dmax (tick_of sc.plan) (low + (f + sc.plan.v - 1) * shortest_of sc.plan)
    (second_own low sc.plan.p f sc.plan.h sc.plan.l sc.plan.v (f + sc.plan.v - 1) (shortest_of sc.plan) (drift_of sc.plan) sc.plan.dmax last fit.after_2)) here

-- a good node knows the middle that it has kept
pub kept_middle : {sc m q ws me i st : _} (now : NodeState) {first last own low high : ℕ}
    → (k : StageMiddle sc m q ws me i st first last own low high) → now.epoch ≡ st.epoch → {kept : _} → kept ≡ Some k.tick
    → KnowsMiddle sc me i now kept first last own (heard_from sc low) (heard_to sc high)
kept_middle now k e is = record {
  tick = k.tick;
  is = is;
  from = omega (arith, e, k.from);
  inside = omega (arith, e, k.inside);
  own_window = omega (arith, e, k.own_window);
  between = k.between;
}

pub near_first : {sc hands n m s low : _} → IsPassedStage sc hands n m s 0 → Synchronous sc m s low
    → Synchronous sc (next sc m) s low
unfolding after_window
near_first {sc} {hands} {n} {m} {s} c sync = record {
  begun = begun_next c.stage.agree sync.begun;
  first = λ late i now h.
      let from : CameFrom sc m Rmu i now = came_from c.stage.agree h in
      let k = first-middle heard sync.begun from.was in
      let kept = kept_found heard from.was k in
      kept_middle now k (ap (λ x. x.epoch) (sym from.is) ∙ epoch_after sc m Rmu i from.st)
      (ap (λ x. x.k1) (sym from.is) ∙ kept.k1);
  first_near = λ late none a b nowa nowb ha hb k l is_k is_l.
      let from_a : CameFrom sc m Rmu a nowa = came_from c.stage.agree ha in
      let from_b : CameFrom sc m Rmu b nowb = came_from c.stage.agree hb in
      let ka = first-middle heard sync.begun from_a.was in
      let kb = first-middle heard sync.begun from_b.was in
      let kept_a = kept_found heard from_a.was ka in
      let kept_b = kept_found heard from_b.was kb in
      let ea : ka.tick ≡ k = same_Some ka.tick k (sym (ap (λ x. x.k1) (sym from_a.is) ∙ kept_a.k1) ∙ is_k) in
      let eb : kb.tick ≡ l = same_Some kb.tick l (sym (ap (λ x. x.k1) (sym from_b.is) ∙ kept_b.k1) ∙ is_l) in
      let near : AreNear (near_1 sc.plan) (time_of (clock_of sc Rmu a) ka.tick) (time_of (clock_of sc Rmu b) kb.tick) =
      middles_of_alike heard (subst (NoneUnlike sc m s Biu) c.stages none) from_a.was from_b.was ka.late kb.late ka.middle kb.middle in
      subst (λ x. AreNear (near_1 sc.plan) (time_of (clock_of sc Rmu a) x) (time_of (clock_of sc Rmu b) l)) ea
      (subst (λ y. AreNear (near_1 sc.plan) (time_of (clock_of sc Rmu a) ka.tick) (time_of (clock_of sc Rmu b) y)) eb near);
  second = λ late. let at : m.window ≡ 3 * sync_slot_of sc.sizes + 0 = c.stage.at in absurd (omega arith);
  second_near = λ late. let at : m.window ≡ 3 * sync_slot_of sc.sizes + 0 = c.stage.at in absurd (omega arith);
  third = λ late. let at : m.window ≡ 3 * sync_slot_of sc.sizes + 0 = c.stage.at in absurd (omega arith);
}
  where
    heard : IsHeardStage sc hands n m s 0 Rmu
    heard = heard-first c
