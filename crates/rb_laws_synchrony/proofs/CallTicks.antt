-- For the law that events are rounds: in every moment of a run that has not ended the calls of good
-- nodes are ticks of their own windows, their next frames begin after all windows of this one, and
-- no frame begins late.
use Rattle.std.proofs.{Common.{◌≡◌, ℕ, zero, suc, ◌+◌, ◌-◌, ◌*◌, ◌≤◌, ◌<◌, ◌&&◌, nat_lt, Bool, true, false, List, Some, refl, sym, ◌∙◌, ap, subst, arith, inl, inr, lit<}, lemmas.Bool.cases_lt, lemmas.Bool.Decides.nat_tests, lemmas.Option.same_Some}
use Rattle.rb_base.specs.{Nodes.Side, Nodes.Side.{Biu, Rmu}, Sizes.{Sizes, sync_slot_of}}
use Rattle.rb_base.proofs.Plain.{none_and_known}
use Rattle.rb_rules.specs.{declared.role.Role.TheVariants.Sync, Goodness.{Scenario, is_good}, Lawful.IsLawful, Moments.IsRunning, NodeState.NodeState, Plan.f0_of, Ports.HandIn, Rounds.{Moment, begin_frame, moment, next_frame, windows_in}, Slots.listens}
use Rattle.rb_rules.proofs.RoundStates.{Knows, knows}
use Rattle.rb_laws_agreement.proofs.{Agreement.{running_before, step_is}, Goodnesses.slot_last, Invariant.{Agree, IsGoodNode}, NextMoments.{CameFrom, came_from, next}, NodeWindows.{sync_windows_are, tail_windows}, Settings.after, SlotRuns.next-window}
use Rattle.rb_laws_synchrony.proofs.{KeptMiddles.{Keeps, Leaves, keeps, tail_leaves}, SyncSteps.{epoch_after, tick_some}, Synchronous.{KnowNext, KnowsMiddle}, Synchrony.{IsSynchronous, synchrony}, TakenCalls.IsStage}

-- if a good node knows a middle, its next call is at a tick of its own window
pub record KeepsTicks (sc : Scenario) (st : NodeState) : Type 0 where
  pub second : (k : ℕ) → st.k1 ≡ Some k
      → (st.epoch + (f0_of sc.sizes sc.plan + sc.plan.l) ≤ k + sc.plan.l) × (k + sc.plan.l < st.epoch + (f0_of sc.sizes sc.plan + sc.plan.l + sc.plan.v))
  pub third : (k : ℕ) → st.k2 ≡ Some k
      → (st.epoch + (f0_of sc.sizes sc.plan + sc.plan.l + sc.plan.v) ≤ k + sc.plan.v)
      × (k + sc.plan.v < st.epoch + (f0_of sc.sizes sc.plan + sc.plan.l + sc.plan.v + sc.plan.z))

abbrev pub AllKeepTicks : Scenario → Moment → Type 0
AllKeepTicks sc m = (me : Side) (i : ℕ) (st : NodeState) → IsGoodNode sc m me i st → KeepsTicks sc st

-- ---- middles that are not known

pub not-yet : (sizes : Sizes) (me : Side) (stage n : ℕ) → n ≤ 3 * sync_slot_of sizes + stage - 1 → knows sizes me stage n ≡ false
not-yet sizes me stage n early = go (listens me Sync stage) (nat_lt (3 * sync_slot_of sizes + stage - 1) n) (less-false (3 * sync_slot_of sizes + stage - 1) n early)
  where
    less-false : (a b : ℕ) → b ≤ a → nat_lt a b ≡ false
    less-false a b h = grind (arith, nat_tests)

    go : (a b : Bool) → b ≡ false → (a && b) ≡ false
    go true b e = e
    go false b e = refl

-- up to stage 1 of the sync slot all good nodes keep their ticks
early-ticks : {sc hands n m s : _} → Agree sc hands n m s → m.window ≤ 3 * sync_slot_of sc.sizes → AllKeepTicks sc m
early-ticks {sc} {m} agree early me i st h =
    let known : Knows sc.sizes me m.window st = (agree.nodes me i st h).knows in
    record {
      second = λ k is. none_and_known st.k1 k (known.k1 ∙ not-yet sc.sizes me 1 m.window (omega arith)) is;
      third = λ k is. none_and_known st.k2 k (known.k2 ∙ not-yet sc.sizes me 2 m.window (omega arith)) is;
    }

-- ---- middles that are

first-tick : {sc me i st o k first last own low high : _} (n : ℕ) → KnowsMiddle sc me i st o first last own low high → o ≡ Some k
    → (st.epoch + (first + n) ≤ k + n) × (k + n < st.epoch + (own + n))
first-tick {k} n knows is =
    let e : knows.tick ≡ k = same_Some knows.tick k (sym knows.is ∙ is) in
    (omega (arith, e, knows.from), omega (arith, e, knows.own_window))

swap : (e f a b k : ℕ) → k < e + (f + a + b) → k < e + (f + b + a)
swap e f a b k h = omega arith

-- after stage 1 of the sync slot all good nodes keep their ticks
second-ticks : {sc hands n : _} → IsSynchronous sc hands n → (moment sc hands n).window ≡ 3 * sync_slot_of sc.sizes + 1 → AllKeepTicks sc (moment sc hands n)
second-ticks {sc} {hands} {n} x at Rmu i st h =
    let f : ℕ = f0_of sc.sizes sc.plan in
    let known : Knows sc.sizes Rmu (moment sc hands n).window st = (x.agree.nodes Rmu i st h).knows in
    record {
      second = λ k is.
          let b = first-tick sc.plan.l (x.near.first at i st h) is in
          (b.0, swap st.epoch f sc.plan.v sc.plan.l (k + sc.plan.l) b.1);
      third = λ k is. none_and_known st.k2 k (known.k2 ∙ not-yet sc.sizes Rmu 2 (moment sc hands n).window (omega arith)) is;
    }
second-ticks {sc} {hands} {n} x at Biu i st h =
    let known : Knows sc.sizes Biu (moment sc hands n).window st = (x.agree.nodes Biu i st h).knows in
    record {
      second = λ k is. none_and_known st.k1 k (known.k1) is;
      third = λ k is. none_and_known st.k2 k (known.k2 ∙ not-yet sc.sizes Biu 2 (moment sc hands n).window (omega arith)) is;
    }

ticks-kept : {sc : Scenario} {st : NodeState} (now : NodeState) → now.epoch ≡ st.epoch → now.k1 ≡ st.k1 → now.k2 ≡ st.k2 → KeepsTicks sc st → KeepsTicks sc now
ticks-kept now e e1 e2 h = record {
  second = λ k is. let b = h.second k (sym e1 ∙ is) in (omega (arith, e, b.0), omega (arith, e, b.1));
  third = λ k is. let b = h.third k (sym e2 ∙ is) in (omega (arith, e, b.0), omega (arith, e, b.1));
}

-- ---- windows of the sync slot

stage-keeps : {sc hands n m s q : _} (c : IsStage sc hands n m s q) {me i st : _} → IsGoodNode sc m me i st
    → (middle : ℕ) × Keeps me (q + 1) middle st (after sc m me i st)
stage-keeps {sc} {m} {q} c {me} {i} {st} h =
    let good : is_good sc me i m.frame (sync_slot_of sc.sizes) ≡ true = ap (is_good sc me i m.frame) (sym (slot_last sc.sizes q c.at)) ∙ h.good in
    (_, keeps (sync_windows_are sc m q c.small c.at) me i st good ((tick_some c).tick me st))

-- all good nodes keep their ticks after stage 2, which gives the BIUs their middles
after-second : {sc hands n m s : _} → IsStage sc hands n m s 1 → AllKeepTicks sc m → (x : IsSynchronous sc hands (suc n)) → next sc m ≡ moment sc hands (suc n)
    → (moment sc hands (suc n)).window ≡ 3 * sync_slot_of sc.sizes + 2 → AllKeepTicks sc (next sc m)
after-second {sc} {m} c before x is at Rmu i now h =
    let from : CameFrom sc m Rmu i now = came_from c.agree h in
    let k = stage-keeps c from.was in
    subst (KeepsTicks sc) from.is (ticks-kept (after sc m Rmu i from.st) (epoch_after sc m Rmu i from.st) k.1.k1 k.1.k2 (before Rmu i from.st from.was))
after-second {sc} {m} c before x is at Biu i now h =
    let f : ℕ = f0_of sc.sizes sc.plan in
    let from : CameFrom sc m Biu i now = came_from c.agree h in
    let k = stage-keeps c from.was in
    let e : now.epoch ≡ from.st.epoch = ap (λ x. x.epoch) (sym from.is) ∙ epoch_after sc m Biu i from.st in
    let k1 : now.k1 ≡ from.st.k1 = ap (λ x. x.k1) (sym from.is) ∙ k.1.k1 in
    record {
      second = λ t t_is. let b = (before Biu i from.st from.was).second t (sym k1 ∙ t_is) in (omega (arith, e, b.0), omega (arith, e, b.1));
      third = λ t t_is.
          let b = first-tick sc.plan.v
          (x.near.second at i now (subst (λ m. IsGoodNode sc m Biu i now) is h)) t_is in
          (b.0, swap now.epoch (f + sc.plan.l) sc.plan.z sc.plan.v (t + sc.plan.v) b.1);
    }

-- all good nodes keep their ticks after stage 3
after-third : {sc hands n m s : _} → IsStage sc hands n m s 2 → AllKeepTicks sc m → AllKeepTicks sc (next sc m)
after-third {sc} {m} c before Rmu i now h =
    let from : CameFrom sc m Rmu i now = came_from c.agree h in
    let k = stage-keeps c from.was in
    subst (KeepsTicks sc) from.is (ticks-kept (after sc m Rmu i from.st) (epoch_after sc m Rmu i from.st) k.1.k1 k.1.k2 (before Rmu i from.st from.was))
after-third {sc} {m} c before Biu i now h =
    let from : CameFrom sc m Biu i now = came_from c.agree h in
    let k = stage-keeps c from.was in
    subst (KeepsTicks sc) from.is (ticks-kept (after sc m Biu i from.st) (epoch_after sc m Biu i from.st) k.1.k1 k.1.k2 (before Biu i from.st from.was))

after-tail : {sc hands n m s : _} → Agree sc hands n m s → m.window ≡ 3 * sync_slot_of sc.sizes + 3 → AllKeepTicks sc m → AllKeepTicks sc (next sc m)
after-tail {sc} {m} agree at before me i now h =
    let from : CameFrom sc m me i now = came_from agree h in
    let good : is_good sc me i m.frame (sync_slot_of sc.sizes) ≡ true = ap (is_good sc me i m.frame) (sym (slot_last sc.sizes 3 at)) ∙ from.was.good in
    let left : Leaves from.st (after sc m me i from.st) = tail_leaves (tail_windows sc m at) me i from.st good in
    subst (KeepsTicks sc) from.is (ticks-kept (after sc m me i from.st) (epoch_after sc m me i from.st) left.k1 left.k2 (before me i from.st from.was))

-- ---- the run

pub begins-at : (sc : Scenario) (hands : List HandIn) (m : Moment) → (next_frame sc hands m).window ≡ 0
unfolding begin_frame
begins-at sc hands m = refl

later-ticks : {sc hands n m s : _} (q : ℕ) → IsLawful sc → Agree sc hands n m s → m.window ≡ 3 * sync_slot_of sc.sizes + (q + 1) → q < 3
    → AllKeepTicks sc m → (x : IsSynchronous sc hands (suc n)) → next sc m ≡ moment sc hands (suc n) → (moment sc hands (suc n)).window ≡ m.window + 1 → AllKeepTicks sc (next sc m)
later-ticks zero law agree at small before x is window =
    after-second (record { law = law; agree = agree; small = lit< tt; at = at }) before x is (omega arith)
later-ticks (suc zero) law agree at small before x is window = after-third (record { law = law; agree = agree; small = lit< tt; at = at }) before
later-ticks (suc (suc zero)) law agree at small before x is window = after-tail agree at before
later-ticks (suc (suc (suc q))) law agree at small before x is window = absurd (omega arith)

-- the calls of good nodes are ticks of their own windows
pub all_keep_ticks : {sc : _} (hands : List HandIn) → IsLawful sc → (n : ℕ) → IsRunning (moment sc hands n) → AllKeepTicks sc (moment sc hands n)
all_keep_ticks {sc} hands law zero running =
    let x : IsSynchronous sc hands 0 = synchrony hands law 0 running in
    early-ticks x.agree (omega arith)
all_keep_ticks {sc} hands law (suc n) running =
    let m : Moment = moment sc hands n in
    let open_before : IsRunning m = running_before sc hands m running in
    let before : AllKeepTicks sc m = all_keep_ticks hands law n open_before in
    let x : IsSynchronous sc hands n = synchrony hands law n open_before in
    let y : IsSynchronous sc hands (suc n) = synchrony hands law (suc n) running in
    elim (step_is sc hands m running) [
      | inl window ↦
          let bound : m.window < windows_in sc.sizes = window.0 in
          let after_one : (moment sc hands (suc n)).window ≡ m.window + 1 = ap (λ m. m.window) window.1 ∙ next-window sc m in
          elim (cases_lt m.window (3 * sync_slot_of sc.sizes)) [
            | inl exact ↦ early-ticks y.agree (omega arith)
            | inr late ↦ elim (cases_lt (3 * sync_slot_of sc.sizes) m.window) [
              | inl later ↦
                  let q : ℕ = m.window - (3 * sync_slot_of sc.sizes + 1) in
                  subst (AllKeepTicks sc) (sym window.1)
                  (later-ticks q law x.agree (omega arith) (omega arith) before y (sym window.1) after_one)
              | inr first ↦ second-ticks y (omega arith)
            ]
          ]
      | inr turn ↦
          let begins : (moment sc hands (suc n)).window ≡ 0 = ap (λ m. m.window) turn.1 ∙ begins-at sc hands m in
          early-ticks y.agree (omega arith)
    ]

-- from the end of stage 3 on each good node knows when its next frame begins
pub all_know_next : {sc : _} (hands : List HandIn) → IsLawful sc → (n : ℕ) → IsRunning (moment sc hands n) → 3 * sync_slot_of sc.sizes + 3 ≤ (moment sc hands n).window → KnowNext sc (moment sc hands n)
all_know_next hands law n running late = (synchrony hands law n running).near.third late
