-- A frame that is reached begins before the first breach.
use Rattle.std.proofs.{Common.{◌≡◌, ℕ, zero, suc, ◌+◌, ◌-◌, ◌*◌, ◌<◌, ◌≤◌, ◌==◌, nat_lt, Bool, true, false, List, inl, inr, refl, sym, ◌∙◌, ap, arith}, lemmas.Bool.{le-ltb, lt-ltb}}
use Rattle.rb_base.specs.Sizes.{sync_slot_of}
use Rattle.rb_rules.specs.{Book.with_frame, Goodness.Scenario, Lawful.IsLawful, Moments.{before_stage, before_slot, after_slot, IsRunning, IsComplete, IsReached, BeginsFrame, IsSettled}, Ports.HandIn, Rounds.{Moment, first_moment, begin_frame, next_frame, step, moment, windows_in}}
use Rattle.rb_rules.proofs.Books.{begun-open, stepped}
use Rattle.rb_laws_agreement.proofs.{Agreement.ended-end, NextMoments.next, Places.{IsPlaced, placed, complete_before}, SlotRuns.{stage_next, next-frame, next-window}, SyncAgrees.book_tail}

-- a step after which the run goes on is not its end
pub not-over : (sc : Scenario) (hands : List HandIn) (m : Moment) → IsRunning (step sc hands m) → (m.frame == sc.frames) ≡ false
unfolding step
not-over sc hands m running = go (m.frame == sc.frames) (nat_lt m.window (windows_in sc.sizes)) running
  where
    go : (over in_frame : Bool) → IsRunning (stepped sc hands m over in_frame) → over ≡ false
    go true in_frame h = let both : true ≡ false = sym (ended-end m.book) ∙ h in cc
    go false in_frame h = refl

-- a step before the last window of a frame has passed is a window
window-step : (sc : Scenario) (hands : List HandIn) (m : Moment) → (m.frame == sc.frames) ≡ false → m.window < windows_in sc.sizes → step sc hands m ≡ next sc m
unfolding step
window-step sc hands m over below = go (m.frame == sc.frames) (nat_lt m.window (windows_in sc.sizes)) over (lt-ltb m.window (windows_in sc.sizes) below)
  where
    go : (over in_frame : Bool) → over ≡ false → in_frame ≡ true → stepped sc hands m over in_frame ≡ next sc m
    go true in_frame p q = cc
    go false true p q = refl
    go false false p q = cc

turn-step : (sc : Scenario) (hands : List HandIn) (m : Moment) → (m.frame == sc.frames) ≡ false → windows_in sc.sizes ≤ m.window → step sc hands m ≡ next_frame sc hands m
unfolding step
turn-step sc hands m over full = go (m.frame == sc.frames) (nat_lt m.window (windows_in sc.sizes)) over (le-ltb m.window (windows_in sc.sizes) full)
  where
    go : (over in_frame : Bool) → over ≡ false → in_frame ≡ false → stepped sc hands m over in_frame ≡ next_frame sc hands m
    go true in_frame p q = cc
    go false true p q = cc
    go false false p q = refl

turn-open : (sc : Scenario) (hands : List HandIn) (m : Moment) → IsRunning m → IsRunning (next_frame sc hands m)
unfolding begin_frame
turn-open sc hands m h = begun-open sc (m.frame + 1) _ m.book h

-- after a complete sync slot the next frame begins
pub record IsTurn (sc : Scenario) (hands : List HandIn) (frame : ℕ) : Type 0 where
  pub tail : next sc (after_slot sc hands frame (sync_slot_of sc.sizes)) ≡ moment sc hands (suc (frame * (windows_in sc.sizes + 1) + 3 * sync_slot_of sc.sizes + 4 - 1))
  pub turn : next_frame sc hands (next sc (after_slot sc hands frame (sync_slot_of sc.sizes))) ≡ before_slot sc hands (suc frame) 0
  pub running : IsRunning (before_slot sc hands (suc frame) 0)

pub turn-index : (frame s : ℕ) → suc (suc (frame * (3 * s + 4 + 1) + 3 * s + 4 - 1)) ≡ suc frame * (3 * s + 4 + 1) + 3 * 0 + 1 - 1
turn-index frame s = omega arith

pub frame_turns : {sc hands : _} → IsLawful sc → {frame : ℕ} → IsComplete sc hands frame (sync_slot_of sc.sizes) → IsTurn sc hands frame
frame_turns {sc} {hands} law {frame} complete =
    let s : ℕ = sync_slot_of sc.sizes in
    let a : Moment = after_slot sc hands frame s in
    let n : ℕ = frame * (windows_in sc.sizes + 1) + 3 * s + 4 - 1 in
    let p3 : IsPlaced sc hands frame s 3 = placed hands law frame s 3 (omega arith) (omega arith) (omega arith) (complete_before sc hands frame s 3 (omega arith) complete) in
    let p4 : IsPlaced sc hands frame s 4 = placed hands law frame s 4 (omega arith) (omega arith) (omega arith) complete in
    let over : (frame == sc.frames) ≡ false =
    ap (λ f. f == sc.frames) (sym p3.frame_is)
    ∙ not-over sc hands (before_stage sc hands frame s 3) (ap (λ m. m.book.ended) (stage_next sc hands frame s 3 (omega arith)) ∙ complete) in
    let over_a : (a.frame == sc.frames) ≡ false = ap (λ f. f == sc.frames) p4.frame_is ∙ over in
    let at : a.window ≡ 3 * s + 3 = p4.window_is in
    let step_a : step sc hands a ≡ next sc a = window-step sc hands a over_a (omega arith) in
    let open_b : IsRunning (next sc a) = ap (λ b. b.ended) (book_tail sc a at) ∙ complete in
    let over_b : ((next sc a).frame == sc.frames) ≡ false = ap (λ f. f == sc.frames) (next-frame sc a) ∙ over_a in
    let full : (next sc a).window ≡ 3 * s + 3 + 1 = next-window sc a ∙ ap (λ w. w + 1) at in
    let step_b : step sc hands (next sc a) ≡ next_frame sc hands (next sc a) = turn-step sc hands (next sc a) over_b (omega arith) in
    let is_c : next_frame sc hands (next sc a) ≡ before_slot sc hands (suc frame) 0 =
    sym step_b ∙ ap (step sc hands) (sym step_a) ∙ ap (moment sc hands) (turn-index frame s) in
    record {
      tail = sym step_a;
      turn = is_c;
      running = ap (λ m. m.book.ended) (sym is_c) ∙ turn-open sc hands (next sc a) open_b;
    }

first-open : (sc : Scenario) (hands : List HandIn) → IsRunning (first_moment sc hands)
unfolding begin_frame with_frame
first-open sc hands = refl

-- the run goes on at the start of each frame that is reached
pub reached : {sc : _} (hands : List HandIn) → IsLawful sc → (frame : ℕ) → IsReached sc hands frame → IsRunning (before_slot sc hands frame 0)
reached {sc} hands law zero h =
    let e : 0 * (windows_in sc.sizes + 1) + 3 * 0 + 1 - 1 ≡ 0 = omega arith in
    ap (λ n. (moment sc hands n).book.ended) e ∙ first-open sc hands
reached hands law (suc frame) h = (frame_turns law h).running

begins : {sc : _} (hands : List HandIn) → IsLawful sc → (frame slot : ℕ) → BeginsFrame sc hands frame slot → IsRunning (before_slot sc hands frame slot)
begins hands law frame zero h = reached hands law frame h
begins hands law frame (suc slot) h = absurd h

-- the run goes on before each slot that is settled
pub settled_before : {sc : _} (hands : List HandIn) → IsLawful sc → (frame slot : ℕ) → IsSettled sc hands frame slot → IsRunning (before_slot sc hands frame slot)
settled_before {sc} hands law frame slot (inl complete) = complete_before sc hands frame slot 1 (omega arith) complete
settled_before hands law frame slot (inr begin) = begins hands law frame slot begin
