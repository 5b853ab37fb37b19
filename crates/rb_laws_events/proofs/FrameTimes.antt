-- For the law that events are rounds: in a run that has not ended good nodes have begun the frame
-- together, and over the turn they begin the next one together.
use Rattle.std.proofs.Common.{◌≡◌, ℕ, suc, ◌+◌, ◌*◌, ◌≤◌, ◌<◌, true, List, ap, sym, ◌∙◌, subst, arith, inl, inr, Some, slice_get, option_map}
use Rattle.rb_base.specs.{Nodes.Side, Nodes.Side.{Biu, Rmu}, Sizes.sync_slot_of}
use Rattle.rb_rules.specs.{declared.plan.Plan.Plan, Book.of_kind, Clock.time_of, Goodness.{Scenario, clock_of, is_good}, Lawful.IsLawful, Moments.IsRunning, NodeState.NodeState, Ports.HandIn, Rounds.{IsGoodIn, Moment, moment, windows_in}, SyncStage.new_epoch_of}
use Rattle.rb_laws_agreement.proofs.{Agreement.{running_before, step_is}, ExactAgrees.has_ticks, FrameAgrees.{TurnedFrom, turned_from}, FrameTimes.turned-epoch, Goodnesses.slot_last, Invariant.IsGoodNode, NextMoments.{CameFrom, came_from}, NodeWindows.tail_windows, Settings.after}
use Rattle.rb_laws_synchrony.proofs.{CallTicks.all_know_next, EpochTicks.{BeginByThen, begin_by_then, frame_ticks, within_run}, KeptMiddles.{Leaves, tail_leaves}, Synchronous.{KnowNext, KnowsEpoch}, Synchrony.{IsSynchronous, synchrony}}
use Rattle.rb_laws_events.specs.Closing.{HaveBegunTogether, stages_in}
use Rattle.rb_laws_events.proofs.{CloseOrder.{IsWindowLater, WasGood, was-good, window-later}, Invariant.is_good_at, RoundNodes.{moments-stand, slot-is}}

-- a good node of a moment is a good node in the words of agreement too
pub node-in : {sc m me i st : _} → IsGoodIn sc m me i st → IsGoodNode sc m me i st
node-in {sc} {m} {me} {i} {st} h = record { there = h.0; good = ap (is_good sc me i m.frame) (sym (slot-is sc.sizes sc.plan me st m.window)) ∙ h.1 }

pub good-node : (sc : Scenario) (m : Moment) (me : Side) (i : ℕ) {st : _} → slice_get (of_kind me m.nodes) i ≡ Some st → is_good_at sc m me i ≡ true
    → IsGoodNode sc m me i st
good-node sc m me i there good = record { there = there; good = good }

-- good nodes have begun the moment's frame together and in time, and the frame is one of the run
pub record BegunWell (sc : Scenario) (m : Moment) : Type 0 where
  pub together : HaveBegunTogether sc m
  pub by_then : BeginByThen sc m
  pub within : m.frame ≤ 4096

pub begun-well : {sc : _} (hands : List HandIn) → IsLawful sc → (n : ℕ) → IsRunning (moment sc hands n) → BegunWell sc (moment sc hands n)
begun-well {sc} hands lawful n running =
    let m : Moment = moment sc hands n in
    let s : IsSynchronous sc hands n = synchrony hands lawful n running in
    let le : m.frame ≤ sc.frames = within_run sc hands n running in
    let few : sc.frames ≤ 4096 = lawful.frames.1 in
    record {
      together = λ me you i j mine yours good other.
          let a = s.near.begun me i mine (node-in good) in
          let b = s.near.begun you j yours (node-in other) in
          omega (arith, a.most, b.least);
      by_then = begin_by_then hands lawful n running;
      within = omega arith;
    }

pub well-on : {sc : _} (hands : List HandIn) → IsLawful sc → (n : ℕ) → (moment sc hands n).window < windows_in sc.sizes → BegunWell sc (moment sc hands n)
    → BegunWell sc (moment sc hands (suc n))
well-on {sc} hands lawful n inside h =
    let m : Moment = moment sc hands n in
    let m2 : Moment = moment sc hands (suc n) in
    let later : IsWindowLater sc m m2 = window-later sc hands m inside in
    let was : (me : Side) (i : ℕ) (st : NodeState) → IsGoodIn sc m2 me i st → WasGood sc m me i st.epoch =
    λ me i st good. was-good hands inside (moments-stand sc hands n (has_ticks lawful)) good in
    record {
      together = λ me you i j mine yours good other.
          let a : WasGood sc m me i mine.epoch = was me i mine good in
          let b : WasGood sc m you j yours.epoch = was you j yours other in
          let both : time_of (clock_of sc me i) a.st.epoch ≤ time_of (clock_of sc you j) b.st.epoch + sc.plan.p = h.together me you i j a.st b.st a.good b.good in
          subst (λ k. time_of (clock_of sc me i) k ≤ time_of (clock_of sc you j) yours.epoch + sc.plan.p) (sym a.epoch_is)
          (subst (λ k. time_of (clock_of sc me i) a.st.epoch ≤ time_of (clock_of sc you j) k + sc.plan.p) (sym b.epoch_is) both);
      by_then = λ me i st node.
          let a : WasGood sc m me i st.epoch =
          was me i st (node.there, ap (is_good sc me i m2.frame) (slot-is sc.sizes sc.plan me st m2.window) ∙ node.good) in
          let old : a.st.epoch ≤ m.frame * frame_ticks sc.sizes sc.plan = h.by_then me i a.st (node-in a.good) in
          subst (λ f. st.epoch ≤ f * frame_ticks sc.sizes sc.plan) (sym later.frame) (subst (λ e. e ≤ m.frame * frame_ticks sc.sizes sc.plan) (sym a.epoch_is) old);
      within = let f : m2.frame ≡ m.frame = later.frame in let le : m.frame ≤ 4096 = h.within in omega arith;
    }

-- The turn.

pub same-next : (plan : Plan) (me : Side) {st now : _} → Leaves st now → new_epoch_of plan me st ≡ new_epoch_of plan me now
same-next plan Biu left = ap (option_map (λ k2. k2 + plan.v + plan.z + plan.c)) (sym left.k2)
same-next plan Rmu left = ap (option_map (λ k3. k3 + plan.z)) (sym left.k3)

-- a node that is good in the first window of a frame knew its epoch in the tail of the frame before
pub record KnewEpoch (sc : Scenario) (m : Moment) (me : Side) (i epoch : ℕ) : Type 0 where
  pub st : NodeState
  pub node : IsGoodNode sc m me i st
  pub known : new_epoch_of sc.plan me st ≡ Some epoch

pub knew-epoch : {sc : _} (hands : List HandIn) → IsLawful sc → (t : ℕ) → (moment sc hands t).window ≡ stages_in sc.sizes → IsRunning (moment sc hands (suc (suc t)))
    → {me i now : _} → IsGoodNode sc (moment sc hands (suc (suc t))) me i now → KnewEpoch sc (moment sc hands t) me i now.epoch
knew-epoch {sc} hands lawful t at running {me} {i} {now} h =
    let m : Moment = moment sc hands t in
    let m1 : Moment = moment sc hands (suc t) in
    let running1 : IsRunning m1 = running_before sc hands m1 running in
    let running0 : IsRunning m = running_before sc hands m running1 in
    let w1 : IsWindowLater sc m m1 = window-later sc hands m (omega arith) in
    let w : m1.window ≡ m.window + 1 = w1.window in
    let s0 : IsSynchronous sc hands t = synchrony hands lawful t running0 in
    let s1 : IsSynchronous sc hands (suc t) = synchrony hands lawful (suc t) running1 in
    elim (step_is sc hands m1 running) [
      | inl inside ↦ absurd (omega (arith, inside.0))
      | inr turn ↦ elim (step_is sc hands m running1) [
        | inr over ↦ absurd (omega (arith, over.0))
        | inl window ↦
            let from : TurnedFrom sc m1 me i now = turned_from s1.agree (subst (λ m. IsGoodNode sc m me i now) turn.1 h) in
            let came : CameFrom sc m me i from.st = came_from s0.agree (subst (λ m. IsGoodNode sc m me i from.st) window.1 from.was) in
            let good : is_good sc me i m.frame (sync_slot_of sc.sizes) ≡ true = ap (is_good sc me i m.frame) (sym (slot_last sc.sizes 3 (omega arith))) ∙ came.was.good in
            let left : Leaves came.st (after sc m me i came.st) = tail_leaves (tail_windows sc m (omega arith)) me i came.st good in
            let next1 : KnowNext sc m1 = all_know_next hands lawful (suc t) running1 (omega arith) in
            let k : KnowsEpoch sc me i from.st next1.0 = next1.1 me i from.st from.was in
            let e : k.takes.epoch ≡ now.epoch = sym (turned-epoch sc.sizes sc.plan me from.st k.takes.known) ∙ ap (λ x. x.epoch) from.is in
            let new : new_epoch_of sc.plan me from.st ≡ Some now.epoch = k.takes.known ∙ ap Some e in
            record { st = came.st; node = came.was; known = same-next sc.plan me left ∙ ap (new_epoch_of sc.plan me) came.is ∙ new }
      ]
    ]
