-- A listener that starts a frame near the good nodes stands beside the run in all its windows below
-- the sync slot.
use Rattle.std.proofs.{Common.{◌≡◌, ℕ, zero, suc, ◌+◌, ◌-◌, ◌*◌, ◌/◌, ◌<◌, ◌≤◌, true, List, slice_get, ◌⊎◌, inl, inr, sym, ◌∙◌, ap, subst, arith}, lemmas.Bool.cases_lt}
use Rattle.rb_base.specs.{Nodes.Side, Nodes.Side.Rmu, Sizes.sync_slot_of}
use Rattle.rb_rules.specs.{Book.of_kind, Clock.{IsStamp, time_of}, Goodness.{Scenario, clock_of, is_good}, Lawful.IsLawful, Moments.{IsGoodBefore, IsReached, IsRunning, before_slot, before_stage, time_in_frame}, NodeState.NodeState, Ports.HandIn, Rounds.{moment, windows_in}}
use Rattle.rb_rules.proofs.Middles.{IsBetween}
use Rattle.rb_laws_agreement.proofs.{Tests.Present, Agreement.{IsAgreed, agreement}, Goodnesses.{good_below_16, good_earlier}, Invariant.{IsGoodNode, Shared, is_good_now, slot_numbered}, Leasts.{HaveNone, IsFirstOf, first_of}, Places.{IsPlaced, placed, running_earlier}, Settings.good_state, FrameTimes.{Starts, starts, starts-so, starts-there}}
use Rattle.rb_laws_synchrony.proofs.SyncLaws.{epochs_near}
use Rattle.rb_laws_listener_learns.specs.Ears.{Ear, HearsTheRun, IsEar, SendsIn, coming_to}
use Rattle.rb_laws_listener_learns.proofs.Apart.{WasAt}
use Rattle.rb_laws_listener_near.specs.Laws.{LieWithin}
use Rattle.rb_laws_listener_follows.specs.{InTime.{BeginsNear, moment_before}, Laws.RmusAreHeardInTime}
use Rattle.rb_laws_listener_follows.proofs.HeardExact.{Beside, IsOwn, only_own, own_in_time, was_at}

-- ---- the first time of the frame, the listener's with them

pub record HasLow (sc : Scenario) (hands : List HandIn) (ear : Ear) (frame epoch : ℕ) : Type 0 where
  pub low : ℕ
  pub good : (me : Side) (i : ℕ) (st : NodeState) → IsGoodBefore sc hands frame 0 me i st → IsBetween low (low + sc.plan.p) (time_in_frame sc me i st 0)
  pub listener : IsBetween low (low + sc.plan.p) (time_of ear.clock epoch)

has_low : {sc hands : _} → IsLawful sc → {ear frame epoch : _} → IsReached sc hands frame → BeginsNear sc hands ear frame epoch → HasLow sc hands ear frame epoch
has_low {sc} {hands} law {ear} {frame} {epoch} reached b = go (first_of (starts sc hands frame) 16)
  where
    small : (me : Side) (i : ℕ) (st : NodeState) → IsGoodBefore sc hands frame 0 me i st → i < 16
    small me i st h = good_below_16 sc law.sizes me i frame 0 h.good

    go : IsFirstOf (starts sc hands frame) 16 ⊎ HaveNone (starts sc hands frame) 16 → HasLow sc hands ear frame epoch
    go (inr none) = record {
      low = time_of ear.clock epoch;
      good = λ me i st h. absurd (none me i (time_in_frame sc me i st 0) (small me i st h) (starts-so h));
      listener = record { least = omega arith; most = omega arith };
    }
    go (inl first) =
        let a : Starts sc hands frame first.me first.i first.at = starts-there sc hands frame first.me first.i first.is in
        let near : LieWithin sc.plan.p (time_of ear.clock epoch) (time_in_frame sc first.me first.i a.st 0) = b.near first.me first.i a.st a.is in
        let least : (me : Side) (i : ℕ) (st : NodeState) → IsGoodBefore sc hands frame 0 me i st → first.at ≤ time_in_frame sc me i st 0 =
        λ me i st h. first.least me i (time_in_frame sc me i st 0) (small me i st h) (starts-so h) in
        elim (cases_lt (time_of ear.clock epoch) first.at) [
          | inl less ↦ record {
            low = time_of ear.clock epoch;
            good = λ me i st h. record { least = omega (arith, less, least me i st h); most = (b.near me i st h).after };
            listener = record { least = omega arith; most = omega arith };
          }
          | inr more ↦ record {
            low = first.at;
            good = λ me i st h. record {
              least = least me i st h;
              most = omega (arith, (epochs_near sc hands law).0 frame reached me first.me i first.i st a.st h a.is, a.at);
            };
            listener = record { least = more; most = omega (arith, near.before, a.at) };
          }
        ]

-- ---- a stage below the sync slot

reached_by : (sc : Scenario) (hands : List HandIn) (frame slot stage : ℕ) → 1 ≤ stage → IsRunning (before_stage sc hands frame slot stage) → IsReached sc hands frame
reached_by sc hands zero slot stage some running = tt
reached_by sc hands (suc frame) slot stage some running =
    running_earlier sc hands (frame * (windows_in sc.sizes + 1) + 3 * sync_slot_of sc.sizes + 4 - 1) (suc frame * (windows_in sc.sizes + 1) + 3 * slot + stage - 1)
    (later frame (3 * sync_slot_of sc.sizes) (3 * slot) stage some) running
  where
    later : (frame s t stage : ℕ) → 1 ≤ stage → frame * (s + 4 + 1) + s + 4 - 1 ≤ suc frame * (s + 4 + 1) + t + stage - 1
    later frame s t stage some = let e : suc frame * (s + 4 + 1) ≡ frame * (s + 4 + 1) + (s + 4 + 1) = omega arith in omega (arith, e, some)

pub beside_at : {sc hands : _} → IsLawful sc → {ear : _} → IsEar sc ear → HearsTheRun sc hands ear → {frame epoch : ℕ} → BeginsNear sc hands ear frame epoch
    → (slot stage : ℕ) → slot < sync_slot_of sc.sizes → 1 ≤ stage → stage ≤ 3 → IsRunning (before_stage sc hands frame slot stage)
    → (low : ℕ) × ((s : Shared) × Beside sc hands ear (moment_before sc frame slot stage) epoch low s)
beside_at {sc} {hands} law {ear} is run {frame} {epoch} b slot stage below some most running = (
  h.low,
  (
    agreed.shared,
    record {
      law = law;
      is = is;
      run = run;
      running = running;
      agree = agreed.agree;
      near = record {
        begun = begun;
        first = λ late. absurd (omega (arith, late, p.window_is, below, most));
        first_near = λ late. absurd (omega (arith, late, p.window_is, below, most));
        second = λ late. absurd (omega (arith, late, p.window_is, below, most));
        second_near = λ late. absurd (omega (arith, late, p.window_is, below, most));
        third = λ late. absurd (omega (arith, late, p.window_is, below, most));
      };
      began = h.listener;
      past = b.past;
    },
  ),
)
  where
    n : ℕ
    n = moment_before sc frame slot stage

    first : ℕ
    first = frame * (windows_in sc.sizes + 1) + 3 * 0 + 1 - 1

    p : IsPlaced sc hands frame slot stage
    p = placed hands law frame slot stage (omega (arith, below)) some (omega (arith, most)) running

    agreed : IsAgreed sc hands (moment_before sc frame slot stage)
    agreed = agreement hands law (moment_before sc frame slot stage) running

    earlier : frame * (windows_in sc.sizes + 1) + 3 * 0 + 1 - 1 ≤ frame * (windows_in sc.sizes + 1) + 3 * slot + stage - 1
    earlier = omega (arith, some)

    began : IsRunning (before_slot sc hands frame 0)
    began = running_earlier sc hands (frame * (windows_in sc.sizes + 1) + 3 * 0 + 1 - 1) (frame * (windows_in sc.sizes + 1) + 3 * slot + stage - 1) earlier running

    q : IsPlaced sc hands frame 0 1
    q = placed hands law frame 0 1 (omega arith) (omega arith) (omega arith) began

    h : HasLow sc hands ear frame epoch
    h = has_low law (reached_by sc hands frame slot stage some running) b

    begun : (me : Side) (i : ℕ) (st : NodeState) → IsGoodNode sc (moment sc hands (moment_before sc frame slot stage)) me i st
        → IsBetween h.low (h.low + sc.plan.p) (time_of (clock_of sc me i) st.epoch)
    begun me i st node =
        let was : WasAt sc hands (frame * (windows_in sc.sizes + 1) + 3 * 0 + 1 - 1) (moment sc hands (frame * (windows_in sc.sizes + 1) + 3 * slot + stage - 1)) me i st =
        was_at hands law (frame * (windows_in sc.sizes + 1) + 3 * 0 + 1 - 1) (frame * (windows_in sc.sizes + 1) + 3 * slot + stage - 1) earlier running node in
        let zero_slot : slot_numbered sc.sizes (before_slot sc hands frame 0).window ≡ 0 = omega (arith, q.window_is) in
        let good : IsGoodBefore sc hands frame 0 me i was.st = record {
          good = ap (is_good sc me i frame) (sym zero_slot) ∙ ap (λ f. is_good sc me i f (slot_numbered sc.sizes (before_slot sc hands frame 0).window)) (sym q.frame_is) ∙ was.was.good;
          state = was.was.there;
        } in
        let e : was.st.epoch + 0 ≡ st.epoch = omega (arith, was.same (q.frame_is ∙ sym p.frame_is)) in
        subst (λ k. IsBetween h.low (h.low + sc.plan.p) (time_of (clock_of sc me i) k)) e (h.good me i was.st good)

pub heard_in_time : RmusAreHeardInTime
heard_in_time sc hands law ear is run frame epoch b slot stage below some most running = record {
  own = λ j x sent tick stamp.
      let at = own_in_time beside.1.1 exact sent
      (subst (λ f. IsStamp ear.clock (coming_to sc ear j f x).time tick) (sym p.frame_is) stamp) in
      record { from = omega (arith, at.0, ticks); to = omega (arith, at.1, ticks) };
  only = λ c tick in_time heard at good.
      let later : is_good sc Rmu c.from (moment sc hands n).frame (slot_numbered sc.sizes ((moment sc hands n).window + 1)) ≡ true =
      ap (λ f. is_good sc Rmu c.from f (slot_numbered sc.sizes ((moment sc hands n).window + 1))) p.frame_is ∙ ap (is_good sc Rmu c.from frame) next_slot ∙ good in
      let now : is_good_now sc (moment sc hands n) Rmu c.from ≡ true =
      good_earlier sc Rmu c.from (moment sc hands n).frame (slot_numbered sc.sizes (moment sc hands n).window) (slot_numbered sc.sizes ((moment sc hands n).window + 1)) (omega arith) later in
      let there : Present (slice_get (of_kind Rmu (moment sc hands n).nodes) c.from) = good_state beside.1.1.agree Rmu c.from now in
      let o : IsOwn sc hands ear n c =
      only_own beside.1.1 exact (record { there = there.is; good = now }) later in_time heard
      (omega (arith, at.from, ticks), omega (arith, at.to, ticks)) in
      record {
        sending = o.good.sending;
        sent = subst (λ k. SendsIn sc hands k c.from o.good.sending) o.here o.good.sent;
        is = o.good.is ∙ ap (λ k. coming_to sc ear c.from (moment sc hands k).frame o.good.sending) o.here ∙ ap (λ f. coming_to sc ear c.from f o.good.sending) p.frame_is;
      };
}
  where
    n : ℕ
    n = moment_before sc frame slot stage

    p : IsPlaced sc hands frame slot stage
    p = placed hands law frame slot stage (omega (arith, below)) some (omega (arith, most)) running

    beside : (low : ℕ) × ((s : Shared) × Beside sc hands ear (moment_before sc frame slot stage) epoch low s)
    beside = beside_at law is run b slot stage below some most running

    exact : (moment sc hands (moment_before sc frame slot stage)).window < 3 * sync_slot_of sc.sizes
    exact = omega (arith, p.window_is, below, most)

    ticks : (moment sc hands (moment_before sc frame slot stage)).window * sc.plan.l ≡ (3 * slot + (stage - 1)) * sc.plan.l
    ticks = ap (λ w. w * sc.plan.l) p.window_is

    next_slot : slot_numbered sc.sizes ((moment sc hands (moment_before sc frame slot stage)).window + 1) ≡ (3 * slot + stage) / 3
    next_slot = omega (arith, p.window_is, below, some, most)
