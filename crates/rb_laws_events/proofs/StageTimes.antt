-- For the law that events are rounds: if a run has not ended, the calls and the epochs of good
-- nodes come where they must, and no window ends too late for a clock.
use Rattle.std.proofs.{Common.{◌≡◌, ℕ, ◌+◌, ◌*◌, ◌-◌, ◌^◌, ◌≤◌, ◌<◌, true, List, ap, sym, ◌∙◌, subst, arith, inl, inr, Some, slice_get}, lemmas.Bool.cases_lt}
use Rattle.rb_base.specs.{Nodes.Side, Nodes.Side.{Biu, Rmu}, Sizes.sync_slot_of}
use Rattle.rb_base.proofs.Plain.{none_and_known, option_map-back}
use Rattle.rb_rules.specs.{declared.plan.Plan.Plan, Book.of_kind, Lawful.IsLawful, Moments.IsRunning, NodeState.NodeState, Plan.{f0_of, tail_start_of}, Ports.HandIn, Rounds.{Moment, moment}, SyncStage.new_epoch_of}
use Rattle.rb_rules.proofs.{RoundStates.Knows, WindowNumbers.sync-numbered}
use Rattle.rb_laws_synchrony.proofs.{CallTicks.{KeepsTicks, all_keep_ticks, all_know_next, not-yet}, EpochTicks.frame_ticks, Synchronous.{KnowNext, KnowsEpoch}}
use Rattle.rb_laws_agreement.proofs.ExactAgrees.{has_ticks}
use Rattle.rb_laws_events.specs.Closing.{stages_in}
use Rattle.rb_laws_events.proofs.{FrameTimes.{BegunWell, begun-well, good-node}, Invariant.{is_good_at, last_tick}, NodeSends.KeepsTime, RoundNodes.{Stands, moments-stand}, StageOrder.{last_of, last-second-call, last-third-call}, TickRooms.{below-all, ends-by-then, tail-by-then}, TickWindows.first_of}

-- Calls and epochs.

-- a node keeps time up to stage 1 of the sync slot, where it knows no middles
pub keeps-exact : {sizes : _} (plan : Plan) {me st n : _} → n ≤ 3 * sync_slot_of sizes → Knows sizes me n st → KeepsTime sizes plan me st
keeps-exact {sizes} plan {me} {st} {n} early known = record {
  second = λ x is. none_and_known st.k1 x (known.k1 ∙ not-yet sizes me 1 n (omega arith)) is;
  third = λ x is. none_and_known st.k2 x (known.k2 ∙ not-yet sizes me 2 n (omega arith)) is;
  next = λ x is. no-next me known x is;
}
  where
    no-next : (me : Side) → Knows sizes me n st → (x : ℕ) → new_epoch_of plan me st ≡ Some x → st.epoch + tail_start_of sizes plan ≤ x
    no-next Biu known x is = let k = option_map-back (λ k2. k2 + plan.v + plan.z + plan.c) st.k2 x is in none_and_known st.k2 k.0 (known.k2 ∙ not-yet sizes Biu 2 n (omega arith)) k.1.0
    no-next Rmu known x is = let k = option_map-back (λ k3. k3 + plan.z) st.k3 x is in none_and_known st.k3 k.0 (known.k3 ∙ not-yet sizes Rmu 3 n (omega arith)) k.1.0

-- good nodes keep time in every window of a run that has not ended
pub keeps-running : {sc : _} (hands : List HandIn) → IsLawful sc → (p : ℕ) → IsRunning (moment sc hands p) → (me : Side) (i : ℕ) (st : NodeState)
    → slice_get (of_kind me (moment sc hands p).nodes) i ≡ Some st → is_good_at sc (moment sc hands p) me i ≡ true → KeepsTime sc.sizes sc.plan me st
keeps-running {sc} hands lawful p running me i st there good =
    let m : Moment = moment sc hands p in
    let ticks : KeepsTicks sc st = all_keep_ticks hands lawful p running me i st (good-node sc m me i there good) in
    let first2 : first_of sc.sizes sc.plan me st (3 * sync_slot_of sc.sizes + 1) ≡ f0_of sc.sizes sc.plan + sc.plan.l = ap (λ w. w.first) (sync-numbered sc.sizes sc.plan me st 1) in
    let first3 : first_of sc.sizes sc.plan me st (3 * sync_slot_of sc.sizes + 2) ≡ f0_of sc.sizes sc.plan + sc.plan.l + sc.plan.v =
    ap (λ w. w.first) (sync-numbered sc.sizes sc.plan me st 2) in
    let last2 : last_of sc.sizes sc.plan me st (3 * sync_slot_of sc.sizes + 1) ≡ f0_of sc.sizes sc.plan + sc.plan.l + sc.plan.v - 1 = last-second-call sc.sizes sc.plan me st in
    let last3 : last_of sc.sizes sc.plan me st (3 * sync_slot_of sc.sizes + 2) ≡ f0_of sc.sizes sc.plan + sc.plan.l + sc.plan.v + sc.plan.z - 1 =
    last-third-call sc.sizes sc.plan me st in
    let stood : Stands sc m me st = (moments-stand sc hands p (has_ticks lawful)).stands me i st there good in
    record {
      second = λ x is. let b = ticks.second x is in record { from = omega (arith, first2, b.0); to = omega (arith, last2, b.1) };
      third = λ x is. let b = ticks.third x is in record { from = omega (arith, first3, b.0); to = omega (arith, last3, b.1) };
      next = λ x is. next-late me there good ticks stood.knows x is;
    }
  where
    one-epoch : (a b : ℕ) → Some a ≡ Some b → a ≡ b
    one-epoch a b e = cc

    next-late : (me : Side) → slice_get (of_kind me (moment sc hands p).nodes) i ≡ Some st → is_good_at sc (moment sc hands p) me i ≡ true → KeepsTicks sc st
        → Knows sc.sizes me (moment sc hands p).window st → (x : ℕ) → new_epoch_of sc.plan me st ≡ Some x → st.epoch + tail_start_of sc.sizes sc.plan ≤ x
    next-late Biu there good ticks known x is =
        let k = option_map-back (λ k2. k2 + sc.plan.v + sc.plan.z + sc.plan.c) st.k2 x is in
        let b = ticks.third k.0 k.1.0 in
        omega (arith, b.0, k.1.1)
    next-late Rmu there good ticks known x is =
        elim (cases_lt (moment sc hands p).window (3 * sync_slot_of sc.sizes + 3)) [
          | inl early ↦
              let k = option_map-back (λ k3. k3 + sc.plan.z) st.k3 x is in
              none_and_known st.k3 k.0 (known.k3 ∙ not-yet sc.sizes Rmu 3 (moment sc hands p).window (omega arith)) k.1.0
          | inr late ↦
              let next : KnowNext sc (moment sc hands p) = all_know_next hands lawful p running late in
              let k : KnowsEpoch sc Rmu i st next.0 = next.1 Rmu i st (good-node sc (moment sc hands p) Rmu i there good) in
              let same : k.takes.epoch ≡ x = one-epoch k.takes.epoch x (sym k.takes.known ∙ is) in
              let least : st.epoch + tail_start_of sc.sizes sc.plan ≤ k.takes.epoch = k.takes.least in
              omega arith
        ]

-- Room.

pub stage-room : {sc : _} (hands : List HandIn) → IsLawful sc → (p : ℕ) → BegunWell sc (moment sc hands p) → (moment sc hands p).window < stages_in sc.sizes
    → (me : Side) (i : ℕ) (st : NodeState) → slice_get (of_kind me (moment sc hands p).nodes) i ≡ Some st → is_good_at sc (moment sc hands p) me i ≡ true
    → last_tick sc (moment sc hands p) me st < 2 ^ 31
stage-room {sc} hands lawful p well below me i st there good =
    below-all lawful (moment sc hands p).frame st.epoch (last_of sc.sizes sc.plan me st (moment sc hands p).window) well.within
    (well.by_then me i st (good-node sc (moment sc hands p) me i there good)) (ends-by-then sc.sizes me st (moment sc hands p).window (has_ticks lawful) below)

pub tail-room : {sc : _} (hands : List HandIn) → IsLawful sc → (p : ℕ) → IsRunning (moment sc hands p) → (moment sc hands p).window ≡ stages_in sc.sizes
    → (me : Side) (i : ℕ) (st : NodeState) → slice_get (of_kind me (moment sc hands p).nodes) i ≡ Some st → is_good_at sc (moment sc hands p) me i ≡ true
    → last_tick sc (moment sc hands p) me st < 2 ^ 31
tail-room {sc} hands lawful p running at me i st there good =
    let m : Moment = moment sc hands p in
    let well : BegunWell sc m = begun-well hands lawful p running in
    let next : KnowNext sc m = all_know_next hands lawful p running (omega arith) in
    let k : KnowsEpoch sc me i st next.0 = next.1 me i st (good-node sc m me i there good) in
    let ft : ℕ = frame_ticks sc.sizes sc.plan in
    let least : st.epoch + tail_start_of sc.sizes sc.plan ≤ k.takes.epoch = k.takes.least in
    let some : 1 ≤ sc.plan.l = lawful.plan.l.0 in
    let last : last_of sc.sizes sc.plan me st (stages_in sc.sizes) < ft = tail-by-then sc.sizes sc.plan me st k.takes.known (omega (arith, least, some)) (omega (arith, k.takes.most)) in
    below-all lawful m.frame st.epoch (last_of sc.sizes sc.plan me st m.window) well.within (well.by_then me i st (good-node sc m me i there good))
    (subst (λ n. last_of sc.sizes sc.plan me st n < ft) (sym at) last)
