-- The laws of synchrony.
use Rattle.std.proofs.Common.{◌≡◌, ℕ, ◌+◌, ◌-◌, ◌*◌, ◌≤◌, List, refl, ◌∙◌, ap, arith, inr}
use Rattle.rb_base.specs.{Nodes.Side, Sizes.sync_slot_of}
use Rattle.rb_rules.specs.{Goodness.{Scenario, is_good}, Lawful.IsLawful, Moments.{IsComplete, IsGoodAfter, IsGoodBefore, IsRunning, after_slot, before_slot, time_in_frame}, NodeState.NodeState, Plan.shortest_of, Ports.HandIn, Rounds.{Moment, windows_in}}
use Rattle.rb_rules.proofs.Middles.{IsBetween}
use Rattle.rb_laws_agreement.proofs.{FrameBegins.settled_before, Goodnesses.slot_last, Invariant.IsGoodNode, Places.{IsPlaced, good_before_slot, placed}}
use Rattle.rb_laws_synchrony.specs.Laws.{BeginFramesNear, EpochsStayNear, FramesTakeTheirTime, SlotsBeginNear, WindowsAreTimely}
use Rattle.rb_laws_synchrony.proofs.{PlanNumbers.drift_of, StageCalls.clock_now, StageMiddles.tick_of, Synchronous.{KnowNext, KnowsEpoch, at_offset}, Synchrony.{IsSynchronous, synchrony}, TimelyMoments.timely_moment}

-- every window is timely
pub all_timely : WindowsAreTimely
all_timely sc hands law n running inside =
    let s : IsSynchronous sc hands n = synchrony hands law n running in
    timely_moment law s.agree s.near inside

-- before the slot good nodes begin an offset of the frame in one band
pub record IsInOneBand (sc : Scenario) (hands : List HandIn) (frame slot : ℕ) : Type 0 where
  pub low : ℕ
  pub at : (me : Side) (i : ℕ) (st : NodeState) → IsGoodBefore sc hands frame slot me i st → (offset : ℕ)
      → IsBetween (low + offset * shortest_of sc.plan) (low + sc.plan.p + offset * tick_of sc.plan) (time_in_frame sc me i st offset)

pub one_band : {sc : _} (hands : List HandIn) → IsLawful sc → (frame slot : ℕ) → slot ≤ sync_slot_of sc.sizes → IsRunning (before_slot sc hands frame slot)
    → IsInOneBand sc hands frame slot
one_band {sc} hands law frame slot le running =
    let p : IsPlaced sc hands frame slot 1 = placed hands law frame slot 1 le (omega arith) (omega arith) running in
    let s : IsSynchronous sc hands (frame * (windows_in sc.sizes + 1) + 3 * slot + 1 - 1) =
    synchrony hands law (frame * (windows_in sc.sizes + 1) + 3 * slot + 1 - 1) running in
    record {
      low = s.low;
      at = λ me i st h offset.
          let here : IsGoodNode sc (before_slot sc hands frame slot) me i st = good_before_slot le p h in
          at_offset (clock_now law here) sc.plan.p st.epoch offset refl (s.near.begun me i st here);
    }

band : (low p offset u d : ℕ) {x y : ℕ} → IsBetween (low + offset * u) (low + p + offset * (u + d)) x → IsBetween (low + offset * u) (low + p + offset * (u + d)) y → x ≤ y + (p + d * offset)
band low p offset u d a b = omega (arith, a.most, b.least)

pub slots_near : SlotsBeginNear
slots_near sc hands law frame slot le settled me you i j mine yours h k =
    let b : IsInOneBand sc hands frame slot = one_band hands law frame slot le (settled_before hands law frame slot settled) in
    let offset : ℕ = 3 * slot * sc.plan.l in
    band b.low sc.plan.p offset (shortest_of sc.plan) (drift_of sc.plan) (b.at me i mine h offset) (b.at you j yours k offset)

frames-near : {sc : _} (hands : List HandIn) → IsLawful sc → BeginFramesNear sc hands
frames-near {sc} hands law frame reached me you i j mine yours h k =
    let b : IsInOneBand sc hands frame 0 = one_band hands law frame 0 (omega arith) (settled_before hands law frame 0 (inr reached)) in
    let x : IsBetween (b.low + 0 * shortest_of sc.plan) (b.low + sc.plan.p + 0 * tick_of sc.plan) (time_in_frame sc me i mine 0) = b.at me i mine h 0 in
    let y : IsBetween (b.low + 0 * shortest_of sc.plan) (b.low + sc.plan.p + 0 * tick_of sc.plan) (time_in_frame sc you j yours 0) = b.at you j yours k 0 in
    at_once b.low sc.plan.p (shortest_of sc.plan) (tick_of sc.plan) (time_in_frame sc me i mine 0) (time_in_frame sc you j yours 0) x y
  where
    at_once : (low p u g x y : ℕ) → IsBetween (low + 0 * u) (low + p + 0 * g) x → IsBetween (low + 0 * u) (low + p + 0 * g) y → x ≤ y + p
    at_once low p u g x y a b = omega (arith, a.most, b.least)

-- after a complete sync slot good nodes know their next epochs, which are near
pub record IsTurning (sc : Scenario) (hands : List HandIn) (frame : ℕ) : Type 0 where
  pub later : ℕ
  pub knows : (me : Side) (i : ℕ) (st : NodeState) → IsGoodAfter sc hands frame (sync_slot_of sc.sizes) me i st → KnowsEpoch sc me i st later

pub turning : {sc hands : _} → IsLawful sc → {frame : ℕ} → IsComplete sc hands frame (sync_slot_of sc.sizes) → IsTurning sc hands frame
turning {sc} {hands} law {frame} complete =
    let slot : ℕ = sync_slot_of sc.sizes in
    let m : Moment = after_slot sc hands frame slot in
    let p : IsPlaced sc hands frame slot 4 = placed hands law frame slot 4 (omega arith) (omega arith) (omega arith) complete in
    let s : IsSynchronous sc hands (frame * (windows_in sc.sizes + 1) + 3 * slot + 4 - 1) =
    synchrony hands law (frame * (windows_in sc.sizes + 1) + 3 * slot + 4 - 1) complete in
    let at : m.window ≡ 3 * slot + 3 = p.window_is in
    let known : KnowNext sc m = s.near.third (omega arith) in
    record {
      later = known.0;
      knows = λ me i st h.
          known.1 me i st (record {
            there = h.state;
            good = ap (is_good sc me i m.frame) (slot_last sc.sizes 3 at) ∙ ap (λ f. is_good sc me i f slot) p.frame_is ∙ h.good;
          });
    }

frames-take : {sc : _} (hands : List HandIn) → IsLawful sc → FramesTakeTheirTime sc hands
frames-take hands law frame complete me i st h = ((turning law complete).knows me i st h).takes

pub epochs_near : EpochsStayNear
epochs_near sc hands law = (frames-near hands law, frames-take hands law)
