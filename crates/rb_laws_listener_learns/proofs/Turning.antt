-- The end of a frame, and whom all trust in the next.
use Rattle.std.proofs.Common.{◌≡◌, ℕ, suc, ◌+◌, ◌-◌, ◌*◌, List, sym, ◌∙◌, ap, subst, arith}
use Rattle.rb_base.specs.{Nodes.Side, Sizes.sync_slot_of}
use Rattle.rb_rules.specs.{Goodness.Scenario, Lawful.IsLawful, Moments.{IsComplete, IsGoodBefore, IsRunning, after_slot}, NodeState.{NodeState, trusted_of}, Ports.HandIn, Rounds.{moment, next_frame, windows_in}, Standing.without}
use Rattle.rb_laws_agreement.proofs.{Agreement.{IsAgreed, agreement}, FrameAgrees.{holds-turned, next-trusted}, FrameBegins.{IsTurn, frame_turns, turn-index}, FrameTurns.{AtEnd, convicted_all}, Invariant.{IsGoodNode, Shared}, Places.{IsPlaced, good_before_slot, placed, running_earlier}, SlotRuns.{next-frame, next-window}}

-- moment `n` is the one before the turn of the frame
pub record EndOf (sc : Scenario) (hands : List HandIn) (frame : ℕ) : Type 0 where
  pub n : ℕ
  pub place : n ≡ frame * (windows_in sc.sizes + 1) + (3 * sync_slot_of sc.sizes + 4)
  pub running : IsRunning (moment sc hands n)
  pub frame_is : (moment sc hands n).frame ≡ frame
  pub shared : Shared
  pub end : AtEnd sc hands n (moment sc hands n) shared
  pub next_trusted : (me : Side) (i : ℕ) (st : NodeState) → IsGoodBefore sc hands (suc frame) 0 me i st → (kind : Side)
      → trusted_of kind me st ≡ without (shared.trusted kind) (convicted_all sc.sizes shared kind)

pub end-of : {sc hands : _} → IsLawful sc → {frame : ℕ} → IsComplete sc hands frame (sync_slot_of sc.sizes) → EndOf sc hands frame
end-of {sc} {hands} law {frame} complete = record {
  n = suc (frame * (windows_in sc.sizes + 1) + 3 * sync_slot_of sc.sizes + 4 - 1);
  place = omega arith;
  running = running;
  frame_is = ap (λ m. m.frame) (sym t.tail) ∙ next-frame sc (after_slot sc hands frame (sync_slot_of sc.sizes)) ∙ p4.frame_is;
  shared = a.shared;
  end = at_end;
  next_trusted = λ me i st h kind.
      (holds-turned at_end
      (subst (λ m. IsGoodNode sc m me i st) (sym t.turn ∙ ap (next_frame sc hands) t.tail) (good_before_slot (omega arith) p0 h))).trusted kind
      ∙ next-trusted sc.sizes a.shared kind;
}
  where
    t : IsTurn sc hands frame
    t = frame_turns law complete

    p4 : IsPlaced sc hands frame (sync_slot_of sc.sizes) 4
    p4 = placed hands law frame (sync_slot_of sc.sizes) 4 (omega arith) (omega arith) (omega arith) complete

    p0 : IsPlaced sc hands (suc frame) 0 1
    p0 = placed hands law (suc frame) 0 1 (omega arith) (omega arith) (omega arith) t.running

    running : IsRunning (moment sc hands (suc (frame * (windows_in sc.sizes + 1) + 3 * sync_slot_of sc.sizes + 4 - 1)))
    running =
        running_earlier sc hands (suc (frame * (windows_in sc.sizes + 1) + 3 * sync_slot_of sc.sizes + 4 - 1)) (suc frame * (windows_in sc.sizes + 1) + 3 * 0 + 1 - 1)
        (omega (arith, turn-index frame (sync_slot_of sc.sizes))) t.running

    a : IsAgreed sc hands (suc (frame * (windows_in sc.sizes + 1) + 3 * sync_slot_of sc.sizes + 4 - 1))
    a = agreement hands law (suc (frame * (windows_in sc.sizes + 1) + 3 * sync_slot_of sc.sizes + 4 - 1)) running

    at_end : AtEnd sc hands (suc (frame * (windows_in sc.sizes + 1) + 3 * sync_slot_of sc.sizes + 4 - 1)) (moment sc hands (suc (frame * (windows_in sc.sizes + 1) + 3 * sync_slot_of sc.sizes + 4 - 1))) a.shared
    at_end = record {
      law = law;
      agree = a.agree;
      at = omega (arith, ap (λ m. m.window) t.tail, next-window sc (after_slot sc hands frame (sync_slot_of sc.sizes)), p4.window_is);
    }
