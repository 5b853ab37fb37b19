-- If a frame is complete, each node that is good at the start of the next one has turned from what
-- it was at the frame's end.
use Rattle.std.proofs.Common.{◌≡◌, ℕ, suc, ◌+◌, ◌-◌, ◌*◌, true, List, None, Some, sym, ◌∙◌, ap, subst, arith}
use Rattle.rb_base.specs.{Nodes.Side, Sizes.{Sizes, sync_slot_of}}
use Rattle.rb_rules.specs.{declared.plan.Plan.Plan, Conviction.turn, Goodness.{Scenario, is_good}, Lawful.IsLawful, Moments.{IsComplete, IsGoodAfter, IsGoodBefore, IsRunning, after_slot}, NodeState.NodeState, NodeSteps.turn_if_known, Ports.HandIn, Rounds.{moment, next_frame, windows_in}, SyncStage.new_epoch_of}
use Rattle.rb_laws_agreement.proofs.{Agreement.{IsAgreed, agreement}, FrameAgrees.{TurnedFrom, turned_from}, FrameBegins.{IsTurn, frame_turns, turn-index}, FrameTimes.turned-epoch, Goodnesses.slot_last, Invariant.IsGoodNode, NextMoments.{CameFrom, came_from}, NodeWindows.tail_windows, Places.{IsPlaced, good_before_slot, placed, running_earlier}, SyncWindows.tail_keeps_epoch}
use Rattle.rb_laws_synchrony.proofs.{Synchronous.KnowsEpoch, Synchrony.{IsSynchronous, synchrony}}

-- the node knew its next epoch after the sync slot, and has turned with it
pub record HasBegun (sc : Scenario) (hands : List HandIn) (frame : ℕ) (me : Side) (i : ℕ) (now : NodeState) : Type 0 where
  pub st : NodeState
  pub after : IsGoodAfter sc hands frame (sync_slot_of sc.sizes) me i st
  pub epoch : ℕ
  pub known : new_epoch_of sc.plan me st ≡ Some epoch
  pub epoch_is : epoch ≡ now.epoch
  pub old : NodeState
  pub turned : turn sc.sizes sc.plan.probation me epoch old ≡ now

turns-by : (sizes : Sizes) (plan : Plan) (me : Side) (st : NodeState) {epoch : ℕ} → new_epoch_of plan me st ≡ Some epoch → turn_if_known sizes plan me st ≡ turn sizes plan.probation me epoch st
turns-by sizes plan me st {epoch} is = ap (λ o. elim o as (λ _. NodeState) [ None ↦ st | Some epoch ↦ turn sizes plan.probation me epoch st ]) is

pub has_begun : {sc hands : _} → IsLawful sc → {frame : ℕ} → IsComplete sc hands frame (sync_slot_of sc.sizes) → {me i now : _}
    → IsGoodBefore sc hands (suc frame) 0 me i now → HasBegun sc hands frame me i now
has_begun {sc} {hands} law {frame} complete {me} {i} {now} h = record {
  st = came.st;
  after = record { good = ap (λ f. is_good sc me i f (sync_slot_of sc.sizes)) (sym p4.frame_is) ∙ good; state = came.was.there };
  epoch = knows.takes.epoch;
  known = knows.takes.known;
  epoch_is = sym (turned-epoch sc.sizes sc.plan me turned.st known) ∙ ap (λ x. x.epoch) turned.is;
  old = turned.st;
  turned = sym (turns-by sc.sizes sc.plan me turned.st known) ∙ turned.is;
}
  where
    k : ℕ
    k = frame * (windows_in sc.sizes + 1) + 3 * sync_slot_of sc.sizes + 4 - 1

    t : IsTurn sc hands frame
    t = frame_turns law complete

    p4 : IsPlaced sc hands frame (sync_slot_of sc.sizes) 4
    p4 = placed hands law frame (sync_slot_of sc.sizes) 4 (omega arith) (omega arith) (omega arith) complete

    p0 : IsPlaced sc hands (suc frame) 0 1
    p0 = placed hands law (suc frame) 0 1 (omega arith) (omega arith) (omega arith) t.running

    at : (after_slot sc hands frame (sync_slot_of sc.sizes)).window ≡ 3 * sync_slot_of sc.sizes + 3
    at = p4.window_is

    running : IsRunning (moment sc hands (suc (frame * (windows_in sc.sizes + 1) + 3 * sync_slot_of sc.sizes + 4 - 1)))
    running =
        running_earlier sc hands (suc (frame * (windows_in sc.sizes + 1) + 3 * sync_slot_of sc.sizes + 4 - 1)) (suc frame * (windows_in sc.sizes + 1) + 3 * 0 + 1 - 1)
        (omega (arith, turn-index frame (sync_slot_of sc.sizes))) t.running

    a : IsAgreed sc hands (suc (frame * (windows_in sc.sizes + 1) + 3 * sync_slot_of sc.sizes + 4 - 1))
    a = agreement hands law (suc (frame * (windows_in sc.sizes + 1) + 3 * sync_slot_of sc.sizes + 4 - 1)) running

    x : IsSynchronous sc hands (frame * (windows_in sc.sizes + 1) + 3 * sync_slot_of sc.sizes + 4 - 1)
    x = synchrony hands law (frame * (windows_in sc.sizes + 1) + 3 * sync_slot_of sc.sizes + 4 - 1) complete

    turned : TurnedFrom sc (moment sc hands (suc (frame * (windows_in sc.sizes + 1) + 3 * sync_slot_of sc.sizes + 4 - 1))) me i now
    turned =
        turned_from a.agree
        (subst (λ m. IsGoodNode sc m me i now) (sym t.turn ∙ ap (next_frame sc hands) t.tail) (good_before_slot (omega arith) p0 h))

    came : CameFrom sc (after_slot sc hands frame (sync_slot_of sc.sizes)) me i turned.st
    came =
        came_from x.agree
        (subst (λ m. IsGoodNode sc m me i turned.st) (sym t.tail) turned.was)

    knows : KnowsEpoch sc me i came.st ((x.near.third (omega (arith, at))).0)
    knows = (x.near.third (omega (arith, at))).1 me i came.st came.was

    good : is_good sc me i (after_slot sc hands frame (sync_slot_of sc.sizes)).frame (sync_slot_of sc.sizes) ≡ true
    good =
        ap (is_good sc me i (after_slot sc hands frame (sync_slot_of sc.sizes)).frame) (sym (slot_last sc.sizes 3 at)) ∙ came.was.good

    known : new_epoch_of sc.plan me turned.st ≡ Some knows.takes.epoch
    known =
        ap (new_epoch_of sc.plan me) (sym came.is)
        ∙ tail_keeps_epoch (tail_windows sc (after_slot sc hands frame (sync_slot_of sc.sizes)) at) me i came.st good ∙ knows.takes.known
