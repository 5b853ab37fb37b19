-- Under the premise with the listener its middle of the calls of stage 2 is near that of each good
-- BIU.
use Rattle.std.proofs.{Common.{◌≡◌, ℕ, ◌+◌, ◌≤◌, ◌<◌, not, nat_le, true, false, List, [], ◌∷◌, length, Option, Some, None, refl, sym, ◌∙◌, ap, subst, arith}, lemmas.Bool.{and_from, leb-true, not_from_false}, lemmas.Option.same_Some}
use Rattle.rb_base.specs.{Nodes.{Side, has}, Nodes.Side.{Biu, Rmu}, Sizes.sync_slot_of, declared.values.See.See}
use Rattle.rb_base.proofs.{Sets.has-set_of, Plain.{and_first, and_second}}
use Rattle.rb_rules.specs.{Book.{Row, in_order, judged_of, trusted_by}, Clock.{Timeline, time_of}, ExactStage.{each_node, present}, Goodness.{Scenario, clock_of, is_good}, Hearing.{judged_see, sole_time}, Judging.{JudgedStage, are_alike, good_now, is_suspect, trusted_now, verdict_of}, Middle.{IsMiddle, middle_of}, NodeState.NodeState, Plan.{f0_of, shortest_of}, Rounds.Moment, SyncStage.see_time}
use Rattle.rb_rules.proofs.Middles.{AreNear}
use Rattle.rb_laws_agreement.proofs.{Premises.{Premise, premise_holds}, Goodnesses.{good_below_16, slot_last}, Invariant.{IsGoodNode, Shared}, JudgedWindows.{first_row_trusts, nobody_trusted, rows_of}, NextMoments.{CameFrom, came_from, next}, NodeWindows.{Windows, heard_in}}
use Rattle.rb_laws_synchrony.proofs.{CallSights.{TookAlike, place_of, shows_took, stages_with}, LaterStages.{second-middle, weaker}, PlanNumbers.{drift_of, eps_of}, StageCalls.second_calls, StageMiddles.{IsHeardStage, ws_of}, StageSteps.StageMiddle, SyncSteps.{IsPassedStage, f0_some, kept_found, some_more}, Synchronous.{Synchronous, from_2, near_2, to_2}, TakenCalls.{is_set, took}, Times.Steady}
use Rattle.rb_laws_listener_near.specs.Judged.{heard_stages, is_asymmetric_with, verdict_with}
use Rattle.rb_laws_listener_near.proofs.{ListenerMiddles.{FindsMiddle, MostGood, TakesAlike, TakesCalls, finds_middle, middle_past, near_by_bius, near_by_rmus}, NextEpochs.MiddleIsNear, Sides.{SideAlike, bius_alike, rmus_alike, side_alike}}

-- ---- whom the judge takes for suspects

-- the judge is told whom all good nodes trust
trusted_told : {sc hands n m s : _} (c : IsPassedStage sc hands n m s 1) → verdict_of (stages_with sc m 1) ≡ None → (kind : Side)
    → trusted_now kind (stages_with sc m 1) ≡ s.trusted kind
trusted_told {sc} {m} {s} c none kind = go (present (in_order (rows_of sc m))) refl
  where
    go : (rows : List Row) → present (in_order (rows_of sc m)) ≡ rows → trusted_now kind (stages_with sc m 1) ≡ s.trusted kind
    go [] is =
        let nobody : Premise sc m.frame (sync_slot_of sc.sizes) (λ kind. 0) (stages_with sc m 1) =
        premise_holds sc m.frame (sync_slot_of sc.sizes) (λ kind. 0) (stages_with sc m 1) (λ kind. ap (trusted_by kind) is) (λ kind. refl) none in
        absurd (nobody_trusted (λ j. is_good sc Biu j m.frame (sync_slot_of sc.sizes)) (omega (arith, nobody.most Biu)))
    go (r ∷ rs) is =
        ap (trusted_by kind) is
        ∙ first_row_trusts (is_set c.stage).ws s.trusted
        (λ me i st there good kind.
        (c.stage.agree.nodes me i st (record { there = there; good = ap (is_good sc me i m.frame) (slot_last sc.sizes 1 c.stage.at) ∙ good })).trusted kind) r rs is kind

suspect : {sc hands n m s : _} (c : IsPassedStage sc hands n m s 1) → verdict_of (stages_with sc m 1) ≡ None → (kind : Side) (j : ℕ) → j < 16
    → has (s.trusted kind) j ≡ true → is_good sc kind j m.frame (sync_slot_of sc.sizes) ≡ false → is_suspect kind (stages_with sc m 1) j ≡ true
suspect {sc} {m} c none kind j small t faulty =
    let stages : List JudgedStage = stages_with sc m 1 in
    and_from (has (trusted_now kind stages) j) (not (has (good_now kind stages) j)) (ap (λ x. has x j) (trusted_told c none kind) ∙ t)
    (not_from_false (has (good_now kind stages) j) (has-set_of j (λ i. is_good sc kind i m.frame (sync_slot_of sc.sizes)) small ∙ faulty))

abbrev pub heard-second : {sc hands n m s : _} → IsPassedStage sc hands n m s 1 → IsHeardStage sc hands n m s 1 Biu
heard-second c = record { stage = c.stage; listening = refl; premise = c.premise }

-- ---- what was seen

-- the listener saw the times of what it took in stage 2
pub record SawTimes (sc : Scenario) (m : Moment) (taken : ℕ → Option ℕ) (time : ℕ → ℕ) (seen : ℕ → JudgedStage → Option (ℕ → See)) : Type 0 where
  pub sight : ℕ → See
  pub here : seen (length m.book.stages) (judged_of sc (place_of sc m 1) (rows_of sc m)) ≡ Some sight
  pub is : (j : ℕ) → j < 16 → sight j ≡ judged_see (time j) (see_time (taken j))

alike_took : (eps a b : ℕ) (x y : Option ℕ) → are_alike eps (judged_see b (see_time y)) (judged_see a (see_time x)) ≡ true → TookAlike eps a b x y
alike_took eps a b None None h = tt
alike_took eps a b None (Some k) h = absurd (cc)
alike_took eps a b (Some k) None h = absurd (cc)
alike_took eps a b (Some k) (Some l) h =
    record { above = leb-true a (b + eps) (and_second (nat_le b (a + eps)) (nat_le a (b + eps)) h); under = leb-true b (a + eps) (and_first (nat_le b (a + eps)) (nat_le a (b + eps)) h) }

takes_alike : {sc hands n m s : _} (c : IsPassedStage sc hands n m s 1) → verdict_of (stages_with sc m 1) ≡ None
    → {taken time seen : _} → SawTimes sc m taken time seen
    → ((j : ℕ) → j < 16 → is_suspect Rmu (stages_with sc m 1) j ≡ true → is_asymmetric_with Rmu (heard_stages seen (stages_with sc m 1)) j ≡ false)
    → TakesAlike s (ws_of (heard-second c)) taken time
takes_alike {sc} {m} c none {taken} {time} {seen} saw alike j below t faulty i b here =
    let judged : JudgedStage = judged_of sc (place_of sc m 1) (rows_of sc m) in
    let ws : Windows sc m (sync_slot_of sc.sizes) 2 = ws_of (heard-second c) in
    let good : is_good sc Biu i m.frame (sync_slot_of sc.sizes) ≡ true = ap (is_good sc Biu i m.frame) (sym (slot_last sc.sizes 1 c.stage.at)) ∙ here.good in
    let small : i < 16 = good_below_16 sc c.stage.law.sizes Biu i m.frame (sync_slot_of sc.sizes) good in
    let same : are_alike judged.eps (judged.sight Biu i j) (saw.sight j) ≡ true =
    rmus_alike seen judged m.book.stages j saw.here (alike j below (suspect c none Rmu j below t faulty)) i small
    (has-set_of i (λ k. is_good sc Biu k m.frame (sync_slot_of sc.sizes)) small ∙ good) in
    let heard : ℕ = sole_time (heard_in ws Biu i b j) in
    let shown : judged.sight Biu i j ≡ judged_see heard (see_time (took 1 ws Biu i b j)) = shows_took c.stage j here below in
    alike_took (eps_of sc.plan) (time j) heard (taken j) (took 1 ws Biu i b j)
    (ap (λ x. are_alike judged.eps x (judged_see (time j) (see_time (taken j)))) (sym shown)
    ∙ ap (are_alike judged.eps (judged.sight Biu i j)) (sym (saw.is j below)) ∙ same)

-- ---- both

-- the listener takes calls in stage 2 of the sync slot, and the premise with it holds
pub record IsCalled (sc : Scenario) (m : Moment) (s : Shared) (clock : Timeline) (taken : ℕ → Option ℕ) (time : ℕ → ℕ) (seen : ℕ → JudgedStage → Option (ℕ → See)) : Type 0 where
  pub most : MostGood sc m
  pub steady : Steady (shortest_of sc.plan) (drift_of sc.plan) clock
  pub takes : TakesCalls sc m s clock taken time
  pub judged : verdict_of (stages_with sc m 1) ≡ None
  pub none : verdict_with seen (stages_with sc m 1) ≡ None
  pub saw : SawTimes sc m taken time seen

-- the listener finds a middle
pub calls_found : {sc hands n m s low : _} → IsPassedStage sc hands n m s 1 → Synchronous sc m s low
    → {clock taken time seen : _} → IsCalled sc m s clock taken time seen
    → FindsMiddle sc clock taken (from_2 sc low) (to_2 sc low)
calls_found c sync h =
    finds_middle (heard-second c) h.most h.steady h.takes
    (second_calls c.stage.law sync c.stage.at).between

-- the listener's middle is near those that the good BIUs keep
pub calls_near_bius : {sc hands n m s low : _} → IsPassedStage sc hands n m s 1 → Synchronous sc m s low
    → {clock taken time seen : _} → IsCalled sc m s clock taken time seen
    → {l : ℕ} → middle_of (present (each_node taken)) ≡ Some l → MiddleIsNear sc (next sc m) clock l
calls_near_bius {sc} {hands} {n} {m} {s} {low} c sync {clock} {taken} {seen} h {l} is i now here k knows =
    let from : CameFrom sc m Biu i now = came_from c.stage.agree here in
    let own = second-middle heard sync from.was in
    let kept = kept_found heard from.was own in
    let e : own.tick ≡ k = same_Some own.tick k (sym (ap (λ x. x.k2) (sym from.is) ∙ kept.k2) ∙ knows) in
    subst (λ x. AreNear (near_2 sc.plan) (time_of clock l) (time_of (clock_of sc Biu i) x)) e (near i from.st from.was own (side_alike seen (stages_with sc m 1) h.none))
  where
    heard : IsHeardStage sc hands n m s 1 Biu
    heard = heard-second c

    mine : FindsMiddle sc clock taken (from_2 sc low) (to_2 sc low)
    mine = calls_found c sync h

    middle : IsMiddle l (present (each_node taken))
    middle = subst (λ x. IsMiddle x (present (each_node taken))) (same_Some mine.tick l (sym mine.found ∙ is)) mine.middle

    past : 1 ≤ l
    past = middle_past taken l (λ j k is. (h.takes.stamped j k is).0) middle

    by_side : (i : ℕ) (b : NodeState) → IsGoodNode sc m Biu i b
        → (own : StageMiddle sc m 1 (ws_of heard) Biu i b (f0_of sc.sizes sc.plan + sc.plan.l) (f0_of sc.sizes sc.plan + sc.plan.l + sc.plan.v)
        (f0_of sc.sizes sc.plan + sc.plan.l + sc.plan.z) (from_2 sc low) (to_2 sc low)) → (x : Side)
        → ((j : ℕ) → j < 16 → is_suspect x (stages_with sc m 1) j ≡ true → is_asymmetric_with x (heard_stages seen (stages_with sc m 1)) j ≡ false)
        → AreNear (near_2 sc.plan) (time_of clock l) (time_of (clock_of sc Biu i) own.tick)
    by_side i b here own Biu alike =
        let some : 1 ≤ f0_of sc.sizes sc.plan + sc.plan.l = some_more (f0_of sc.sizes sc.plan) sc.plan.l (f0_some c.stage.law) in
        near_by_bius heard sync h.most
        (λ j below t faulty. bius_alike seen (stages_with sc m 1) j (alike j below (suspect c h.judged Biu j below t faulty))) h.steady h.takes is past here own.found (omega (arith, own.from, some))
    by_side i b here own Rmu alike =
        weaker (near_2 sc.plan) (omega arith)
        (near_by_rmus heard h.steady h.takes (takes_alike c h.judged h.saw alike) middle here own.late own.middle)

    near : (i : ℕ) (b : NodeState) → IsGoodNode sc m Biu i b
        → (own : StageMiddle sc m 1 (ws_of heard) Biu i b (f0_of sc.sizes sc.plan + sc.plan.l) (f0_of sc.sizes sc.plan + sc.plan.l + sc.plan.v)
        (f0_of sc.sizes sc.plan + sc.plan.l + sc.plan.z) (from_2 sc low) (to_2 sc low)) → SideAlike seen (stages_with sc m 1)
        → AreNear (near_2 sc.plan) (time_of clock l) (time_of (clock_of sc Biu i) own.tick)
    near i b here own side = by_side i b here own side.side side.alike
