-- A listener that has learned and waited begins its first frame beside the run, and holds what the
-- good BIUs hold.
use Rattle.std.proofs.Common.{◌≡◌, ℕ, suc, ◌+◌, List, [], Some, None, replicate, refl, sym, ◌∙◌, ap, subst, arith}
use Rattle.rb_base.specs.{Nodes.Side, Nodes.Side.Biu, Sizes.{Sizes, sync_slot_of}, declared.values.Heard.TheVariants.Fault}
use Rattle.rb_base.proofs.Sets.{has_none}
use Rattle.rb_rules.specs.{Conviction.turn, Goodness.{Scenario, is_good}, Lawful.IsLawful, Moments.{IsGoodBefore, IsRunning, before_slot, before_stage}, NodeState.NodeState, Ports.HandIn, Rounds.moment, SyncStage.new_epoch_of}
use Rattle.rb_laws_agreement.proofs.{FrameBegins.frame_turns, Invariant.{IsGoodNode, Shared, slot_numbered}, Places.{IsPlaced, placed}}
use Rattle.rb_listen.specs.{Lessons.first_of, Listening.first_core, declared.lesson.First.First}
use Rattle.rb_laws_listener_near.specs.Holding.{HoldAlike}
use Rattle.rb_laws_listener_learns.specs.{Deciding.DecidesBy, Ears.{Ear, HearsTheRun, IsEar}, Learned.HasLearned, Receivers.IsCalm, Waiting.WaitsFor}
use Rattle.rb_laws_listener_learns.proofs.Waits.{waits-for}
use Rattle.rb_laws_listener_follows.specs.InTime.{BeginsNear, moment_before}
use Rattle.rb_laws_listener_follows.proofs.{Begun.{HasBegun, has_begun}, FirstNear.first_near, FirstWindow.BeginsFirst, FramesInTime.beside_at, HeardExact.Beside}

-- the state with which the listener begins to follow
abbrev pub first_state : Scenario → First → NodeState
first_state sc first = (first_core sc.sizes first).state

turned-votes : (sizes : Sizes) (probation epoch : ℕ) (me : Side) (st : NodeState) → (turn sizes probation me epoch st).votes ≡ replicate (sync_slot_of sizes) Fault
unfolding turn
turned-votes sizes probation epoch me st = refl

turned-owners : (sizes : Sizes) (probation epoch : ℕ) (me : Side) (st : NodeState) → (turn sizes probation me epoch st).owners ≡ []
unfolding turn
turned-owners sizes probation epoch me st = refl

first-unknown : (sc : Scenario) (first : First) → new_epoch_of sc.plan Biu (first_state sc first) ≡ None
first-unknown sc first = refl

-- the listener begins the frame after the learned one
pub record FirstBegins (sc : Scenario) (hands : List HandIn) (ear : Ear) (learned : ℕ) (first : First) : Type 0 where
  pub low : ℕ
  pub shared : Shared
  pub near : BeginsNear sc hands ear (learned + 1) first.epoch
  pub frame_is : (moment sc hands (moment_before sc (learned + 1) 0 1)).frame ≡ learned + 1
  pub begins : BeginsFirst sc hands ear (moment_before sc (learned + 1) 0 1) first.epoch low shared (first_state sc first)

pub first_begins : {sc hands : _} → IsLawful sc → {ear : _} → IsEar sc ear → HearsTheRun sc hands ear → {learned tick s : _} → DecidesBy sc hands ear learned tick s
    → IsCalm sc hands ear learned s.lesson.records learned (sync_slot_of sc.sizes) → {first : _} → first_of sc.sizes sc.plan s.lesson ≡ Some first
    → HasLearned sc hands ear learned tick s.lesson.records first → FirstBegins sc hands ear learned first
first_begins {sc} {hands} law {ear} is run {learned} {tick} {s} decides calm {first} found l = record {
  low = b.0;
  shared = b.1.0;
  near = near;
  frame_is = p.frame_is;
  begins = record {
    beside = b.1.1;
    window = p.window_is;
    begins = w.begins;
    epoch_is = refl;
    unknown = first-unknown sc first;
    tracks = record { like = like; spares = λ j good. has_none j };
  };
}
  where
    w : WaitsFor sc ear tick first
    w = waits-for sc hands law ear is run learned tick s decides first found l.ahead

    near : BeginsNear sc hands ear (learned + 1) first.epoch
    near = first_near law is run decides calm l

    next : suc learned ≡ learned + 1
    next = omega arith

    running : IsRunning (before_stage sc hands (learned + 1) 0 1)
    running = subst (λ f. IsRunning (before_stage sc hands f 0 1)) next (frame_turns law calm.complete).running

    p : IsPlaced sc hands (learned + 1) 0 1
    p = placed hands law (learned + 1) 0 1 (omega arith) (omega arith) (omega arith) running

    b : (low : ℕ) × ((s : Shared) × Beside sc hands ear (moment_before sc (learned + 1) 0 1) first.epoch low s)
    b = beside_at law is run near 0 1 (omega (arith, law.sizes.some_biu)) (omega arith) (omega arith) running

    before : (me : Side) (i : ℕ) (st : NodeState) → IsGoodNode sc (before_slot sc hands (learned + 1) 0) me i st → IsGoodBefore sc hands (learned + 1) 0 me i st
    before me i st node =
        let slot : slot_numbered sc.sizes (before_slot sc hands (learned + 1) 0).window ≡ 0 = omega (arith, p.window_is) in
        record {
          good = ap (is_good sc me i (learned + 1)) (sym slot) ∙ ap (λ f. is_good sc me i f (slot_numbered sc.sizes (before_slot sc hands (learned + 1) 0).window)) (sym p.frame_is) ∙ node.good;
          state = node.there;
        }

    like : (i : ℕ) (o : NodeState) → IsGoodNode sc (before_slot sc hands (learned + 1) 0) Biu i o → HoldAlike (first_state sc first) o
    like i o node =
        let h : IsGoodBefore sc hands (learned + 1) 0 Biu i o = before Biu i o node in
        let begun : HasBegun sc hands learned Biu i o = has_begun law calm.complete (subst (λ f. IsGoodBefore sc hands f 0 Biu i o) (sym next) h) in
        record {
          frame = l.frame ∙ sym p.frame_is ∙ sym (p.agree.nodes Biu i o node).frame;
          near = sym (l.trusted_next.biu Biu i o h);
          far = sym (l.trusted_next.rmu Biu i o h);
          votes = sym (turned-votes sc.sizes sc.plan.probation begun.epoch Biu begun.old) ∙ ap (λ x. x.votes) begun.turned;
          owners = sym (turned-owners sc.sizes sc.plan.probation begun.epoch Biu begun.old) ∙ ap (λ x. x.owners) begun.turned;
        }
