-- With the first tick of its next frame a listener turns as the good BIUs do, and stands before the
-- frame's first window.
use Rattle.std.proofs.Common.{◌≡◌, ℕ, suc, ◌+◌, ◌*◌, true, None, refl, sym, ◌∙◌, ap, subst, arith}
use Rattle.rb_base.specs.{Nodes.Side.{Biu, Rmu}, Sizes.Sizes}
use Rattle.rb_rules.specs.{declared.plan.Plan.Plan, Conviction.turn, Core.state_at, Goodness.is_good, Moments.IsRunning, NodeState.NodeState, Rounds.{moment, next_frame, windows_in}, SyncStage.new_epoch_of}
use Rattle.rb_laws_agreement.proofs.{FrameAgrees.{agree_frame, shared_next}, FrameTurns.AtEnd, Invariant.{Agree, is_good_now, slot_numbered}}
use Rattle.rb_laws_events.proofs.NodeMoves.{turn-at}
use Rattle.rb_laws_listener_near.proofs.{SyncTracks.{tracks_turn, turns_with}, Tracking.Tracks}
use Rattle.rb_laws_synchrony.proofs.{EpochTicks.turned-frame, CallTicks.begins-at}
use Rattle.rb_laws_listener_follows.proofs.{ExactSteps.Abides, FollowerRuns.Stands, LateSteps.StandsLate}

-- the epoch after a turn is that of the turn
turned-epoch : (sizes : Sizes) (probation epoch : ℕ) (st : NodeState) → (turn sizes probation Biu epoch st).epoch ≡ epoch
unfolding turn
turned-epoch sizes probation epoch st = refl

pub turned-unknown : (sizes : Sizes) (plan : Plan) (epoch : ℕ) (st : NodeState) → new_epoch_of plan Biu (turn sizes plan.probation Biu epoch st) ≡ None
unfolding turn
turned-unknown sizes plan epoch st = refl

-- at the end of a frame the listener stands before the first tick of the next one
pub turns_next : {sc hands ear n epoch low s st a next_epoch later : _}
    → (x : StandsLate sc hands ear n epoch low s st a next_epoch later) → epoch + a ≡ next_epoch → (moment sc hands n).window ≡ windows_in sc.sizes
    → next_frame sc hands (moment sc hands n) ≡ moment sc hands (suc n) → IsRunning (moment sc hands (suc n))
    → Abides sc hands ear (suc n) next_epoch later (shared_next sc.sizes s) st (turn sc.sizes sc.plan.probation Biu next_epoch st)
turns_next {sc} {hands} {ear} {n} {s} {st} {next_epoch} x at_end at next_is running = record {
  beside = record {
    law = x.beside.law;
    is = x.beside.is;
    run = x.beside.run;
    running = running;
    agree = subst (λ m. Agree sc hands (suc n) m (shared_next sc.sizes s)) next_is (agree_frame end next_is);
    near = record {
      begun = λ me i st node. x.next.good (suc n) frame window running me i st node;
      first = λ late. absurd (omega (arith, late, window));
      first_near = λ late. absurd (omega (arith, late, window));
      second = λ late. absurd (omega (arith, late, window));
      second_near = λ late. absurd (omega (arith, late, window));
      third = λ late. absurd (omega (arith, late, window));
    };
    began = x.next.listener;
    past = omega (arith, x.beside.past, at_end);
  };
  stands = subst (λ k. Stands sc ear st k) (at_end ∙ here) x.stands;
  turns = subst (λ k. state_at sc.sizes sc.plan Biu st k ≡ turn sc.sizes sc.plan.probation Biu next_epoch st) here
      ((turn-at sc.sizes sc.plan Biu st x.known).0 ∙ turns_with sc.sizes sc.plan st x.known);
  epoch_is = turned-epoch sc.sizes sc.plan.probation next_epoch st;
  unknown = turned-unknown sc.sizes sc.plan next_epoch st;
  tracks = subst (λ m. Tracks sc m (turn sc.sizes sc.plan.probation Biu next_epoch st)) next_is
      (tracks_turn end x.like (λ j good. x.spares j (ap (is_good sc Rmu j ((moment sc hands n).frame + 1)) (sym slot_is) ∙ good_next j good)) next_epoch);
}
  where
    end : AtEnd sc hands n (moment sc hands n) s
    end = record { law = x.beside.law; agree = x.beside.agree; at = at }

    frame : (moment sc hands (suc n)).frame ≡ (moment sc hands n).frame + 1
    frame = ap (λ m. m.frame) (sym next_is) ∙ turned-frame sc hands (moment sc hands n)

    window : (moment sc hands (suc n)).window ≡ 0
    window = ap (λ m. m.window) (sym next_is) ∙ begins-at sc hands (moment sc hands n)

    here : next_epoch ≡ next_epoch + (moment sc hands (suc n)).window * sc.plan.l
    here = let e : (moment sc hands (suc n)).window * sc.plan.l ≡ 0 * sc.plan.l = ap (λ w. w * sc.plan.l) window in omega (arith, e)

    slot_is : slot_numbered sc.sizes (next_frame sc hands (moment sc hands n)).window ≡ 0
    slot_is = omega (arith, begins-at sc hands (moment sc hands n))

    good_next : (j : ℕ) → is_good_now sc (next_frame sc hands (moment sc hands n)) Rmu j ≡ true
        → is_good sc Rmu j ((moment sc hands n).frame + 1) (slot_numbered sc.sizes (next_frame sc hands (moment sc hands n)).window) ≡ true
    good_next j good = ap (λ f. is_good sc Rmu j f (slot_numbered sc.sizes (next_frame sc hands (moment sc hands n)).window)) (sym (turned-frame sc hands (moment sc hands n))) ∙ good
