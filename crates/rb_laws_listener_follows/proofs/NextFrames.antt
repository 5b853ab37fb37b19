-- A listener that follows a frame of the bus comes from any window of it up to the sync slot to
-- each later one, and to its next frame.
use Rattle.std.proofs.Common.{◌≡◌, ℕ, zero, suc, ◌+◌, ◌-◌, ◌*◌, ◌≤◌, List, Some, sym, ap, subst, arith}
use Rattle.rb_base.specs.{Nodes.Side.Biu, Sizes.sync_slot_of}
use Rattle.rb_rules.specs.{Goodness.Scenario, Moments.{IsComplete, IsRunning}, NodeState.NodeState, Plan.{f0_of, tail_start_of}, Ports.HandIn, Rounds.{moment, windows_in}, SyncStage.new_epoch_of}
use Rattle.rb_laws_agreement.proofs.{Agreement.running_before, Places.running_earlier}
use Rattle.rb_laws_listener_learns.specs.Ears.{Ear}
use Rattle.rb_laws_listener_learns.proofs.FrameStages.{first_of_frame}
use Rattle.rb_laws_listener_follows.proofs.{EpochKnown.second_end, ExactPasses.{IsHeldTo, PassesExact, StandsAt, passes_exact}, FollowerRuns.Stands, HeardLast.NextBegins, LatePasses.{StandsAtThird, next_epoch_of, to_tail, to_third}, SyncPasses.{IsInSync, PassesAtSecond, StandsAtSecond, in_sync, sync_moment, through_second, to_second}, TurnPasses.to_next}

-- ---- to a later window

pub to_window : {sc hands ear learned records f last w epoch low : _} → IsHeldTo sc hands ear learned records f last
    → StandsAt sc hands ear (suc f) w epoch low → (d : ℕ) → d + w ≤ 3 * sync_slot_of sc.sizes → IsRunning (moment sc hands (d + w + first_of_frame sc (suc f))) → d + w + first_of_frame sc (suc f) ≤ last
    → epoch + (d + w) * sc.plan.l ≤ ear.ticks → StandsAt sc hands ear (suc f) (d + w) epoch low
to_window {sc} {hands} {ear} {f} {w} {epoch} {low} h x zero few running le in_time =
    let e : w ≡ 0 + w = omega arith in subst (λ k. StandsAt sc hands ear (suc f) k epoch low) e x
to_window {sc} {hands} {ear} {f} {w} {epoch} {low} h x (suc d) few running le in_time =
    let g : suc (d + w + first_of_frame sc (suc f)) ≡ suc d + w + first_of_frame sc (suc f) = omega arith in
    let on : IsRunning (moment sc hands (suc (d + w + first_of_frame sc (suc f)))) = subst (λ k. IsRunning (moment sc hands k)) (sym g) running in
    let m : (suc d + w) * sc.plan.l ≡ (d + w) * sc.plan.l + sc.plan.l = omega arith in
    let before : StandsAt sc hands ear (suc f) (d + w) epoch low =
    to_window h x d (omega (arith, few)) (running_before sc hands (moment sc hands (d + w + first_of_frame sc (suc f))) on) (omega (arith, g, le))
    (omega (arith, m, in_time)) in
    let p : PassesExact sc hands ear (suc f) (d + w) epoch low before =
    passes_exact h before (omega (arith, few)) on (omega (arith, g, le)) (omega (arith, m, in_time)) in
    let e : suc (d + w) ≡ suc d + w = omega arith in
    subst (λ k. StandsAt sc hands ear (suc f) k epoch low) e p.next

-- ---- to the next frame

-- the listener and the good nodes begin the next frame together. Before stage 3 of the sync slot
-- the listener knows when. If it has ticks so far, it stands before the first window of that frame
pub record NextFrame (sc : Scenario) (hands : List HandIn) (ear : Ear) (frame epoch : ℕ) : Type 0 where
  pub next_epoch : ℕ
  pub low : ℕ
  pub after : epoch + tail_start_of sc.sizes sc.plan ≤ next_epoch
  pub begins : NextBegins sc hands ear frame next_epoch low
  pub third : NodeState
  pub third_stands : Stands sc ear third (epoch + second_end sc.sizes sc.plan)
  pub third_known : new_epoch_of sc.plan Biu third ≡ Some next_epoch
  pub stands : next_epoch ≤ ear.ticks → StandsAt sc hands ear (suc frame) 0 next_epoch low

-- `NextFrame` holds if the listener has ticks up to the end of stage 2 of the sync slot
pub next_frame_of : {sc hands ear learned records f last w epoch low : _} → IsHeldTo sc hands ear learned records f last
    → StandsAt sc hands ear (suc f) w epoch low → w ≤ 3 * sync_slot_of sc.sizes → IsComplete sc hands (suc f) (sync_slot_of sc.sizes) → suc (suc (sync_moment sc (suc f))) ≤ last
    → epoch + (f0_of sc.sizes sc.plan + sc.plan.l) + sc.plan.v ≤ ear.ticks → NextFrame sc hands ear (suc f) epoch
next_frame_of {sc} {hands} {ear} {f} {w} {epoch} {low} h x few complete le in_time = record {
  next_epoch = next_epoch_of p;
  low = third.later;
  after = omega (arith, p.through.least);
  begins = subst (λ g. NextBegins sc hands ear g (next_epoch_of p) third.later) at.frame_is third.late.next;
  third = p.through.now;
  third_stands = p.through.stands;
  third_known = p.through.known;
  stands = λ ticks.
      to_next h
      (to_tail h p complete third (omega (arith, p.through.least, ticks))) complete ticks;
}
  where
    n : ℕ
    n = sync_moment sc (suc f)

    d : ℕ
    d = 3 * sync_slot_of sc.sizes - w

    there : 3 * sync_slot_of sc.sizes - w + w ≡ 3 * sync_slot_of sc.sizes
    there = omega (arith, few)

    ticks_there : (3 * sync_slot_of sc.sizes - w + w) * sc.plan.l ≡ f0_of sc.sizes sc.plan
    ticks_there = ap (λ k. k * sc.plan.l) there

    number : 3 * sync_slot_of sc.sizes - w + w + first_of_frame sc (suc f) ≡ sync_moment sc (suc f)
    number = ap (λ k. k + first_of_frame sc (suc f)) there

    running : IsRunning (moment sc hands (3 * sync_slot_of sc.sizes - w + w + first_of_frame sc (suc f)))
    running =
        running_earlier sc hands (3 * sync_slot_of sc.sizes - w + w + first_of_frame sc (suc f)) (suc f * (windows_in sc.sizes + 1) + 3 * sync_slot_of sc.sizes + 4 - 1) (omega (arith, number)) complete

    first : StandsAt sc hands ear (suc f) (3 * sync_slot_of sc.sizes) epoch low
    first =
        subst (λ k. StandsAt sc hands ear (suc f) k epoch low) there
        (to_window h x d (omega (arith, there)) running (omega (arith, number, le)) (omega (arith, ticks_there, in_time)))

    second : StandsAtSecond sc hands ear (suc f) epoch low
    second = to_second h first complete in_time

    p : PassesAtSecond sc hands ear (suc f) epoch low second
    p = through_second h second complete le

    third : StandsAtThird sc hands ear (suc f) epoch low (next_epoch_of p) second.shared p.through.now
    third = to_third h p complete

    at : IsInSync sc hands (suc f) (suc (suc (sync_moment sc (suc f)))) 2
    at = in_sync second.second.beside.law h.complete complete 2 (omega arith) (omega arith)
