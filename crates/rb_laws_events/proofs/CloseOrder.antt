-- For the law on the order of closes: the times of two closes, and a node's state some moments
-- before.
use Rattle.std.proofs.{Common.{◌≡◌, ℕ, suc, ◌+◌, ◌*◌, ◌<◌, ◌≤◌, ◌==◌, nat_lt, Bool, true, false, List, length, refl, ap, sym, ◌∙◌, subst, arith, Some, slice_get}, lemmas.Bool.{lt-ltb, le-ltb}, lemmas.Option.same_Some}
use Rattle.rb_base.specs.{Nodes.Side, Sizes.sync_slot_of}
use Rattle.rb_rules.specs.{Book.of_kind, Clock.{Timeline, time_of}, Goodness.{Scenario, is_good, clock_of}, Lawful.IsLawful, NodeState.NodeState, Plan.{longest_of, shortest_of, tail_start_of}, Ports.HandIn, Rounds.{Moment, IsGoodIn, window_in, windows_in, results_of, after_window, begin_frame, next_frame, sent_in, go_through, step, moment}, Slots.count_of}
use Rattle.rb_rules.proofs.{Books.stepped, Drift.{HasLengths, drift, times_rise_to}, RoundStates.{state-after, through-stays}}
use Rattle.rb_laws_agreement.proofs.{Goodnesses.{good_before, good_counts, good_earlier}, ExactAgrees.has_ticks, FrameTimes.good-clock}
use Rattle.rb_laws_events.specs.Closing.{stages_in, HaveBegunTogether, HaveBegunAFrame, CloseInOrder}
use Rattle.rb_laws_events.proofs.{PlanNumbers.{fits, closes-first}, RoundNodes.{AllStand, moments-stand, item-at, slot-is, slot_numbered}, StageOrder.{Apart, last_of, apart-next, apart-turn}}

-- Clocks.

-- a node that closes at offset o is before one that closes at offset m, if the two began at most p
-- apart
pub times-apart : {sc : _} → IsLawful sc → (a b : Timeline) (mine yours : ℕ) {o m : ℕ} → HasLengths (shortest_of sc.plan) (longest_of sc.plan) a
    → HasLengths (shortest_of sc.plan) (longest_of sc.plan) b → time_of a mine ≤ time_of b yours + sc.plan.p → Apart sc.plan o m
    → time_of a (mine + o) < time_of b (yours + m)
times-apart {sc} lawful a b mine yours {o} {m} lengths_a lengths_b apart rooms =
    let u : ℕ = shortest_of sc.plan in
    let d : ℕ = 2 * sc.plan.r in
    let r : sc.plan.r < sc.plan.u = lawful.plan.r in
    let g : longest_of sc.plan ≡ u + d = omega arith in
    let high : time_of a (mine + o) ≤ time_of a mine + o * longest_of sc.plan = (drift a u (longest_of sc.plan) lengths_a mine o).1 in
    let low : time_of b yours + m * u ≤ time_of b (yours + m) = (drift b u (longest_of sc.plan) lengths_b yours m).0 in
    let early : time_of a (mine + o) ≤ time_of a mine + o * (u + d) = subst (λ g. time_of a (mine + o) ≤ time_of a mine + o * g) g high in
    closes-first u d o rooms.ticks m sc.plan.p (time_of a mine) (time_of b yours) (time_of a (mine + o)) (time_of b (yours + m)) rooms.enough rooms.later
    apart early low

-- Earlier moments.

-- `next` is the moment after a window of `m`
pub record IsWindowLater (sc : Scenario) (m next : Moment) : Type 0 where
  pub frame : next.frame ≡ m.frame
  pub window : next.window ≡ m.window + 1
  pub nodes : next.nodes ≡ (after_window sc m (results_of sc m)).nodes

stepped-window : (sc : Scenario) (hands : List HandIn) (m : Moment) (over in_frame : Bool) → in_frame ≡ true → IsWindowLater sc m (stepped sc hands m over in_frame)
unfolding after_window
stepped-window sc hands m over true e = record { frame = refl; window = refl; nodes = refl }
stepped-window sc hands m over false e = cc

pub window-later : (sc : Scenario) (hands : List HandIn) (m : Moment) → m.window < windows_in sc.sizes → IsWindowLater sc m (step sc hands m)
unfolding step
window-later sc hands m h =
    stepped-window sc hands m (m.frame == sc.frames) (nat_lt m.window (windows_in sc.sizes)) (lt-ltb m.window (windows_in sc.sizes) h)

-- `next` is the moment after the end of the frame of `m`
pub record IsFrameLater (sc : Scenario) (hands : List HandIn) (m next : Moment) : Type 0 where
  pub frame : next.frame ≡ m.frame + 1
  pub window : next.window ≡ 0
  pub nodes : next.nodes ≡ (next_frame sc hands m).nodes

stepped-frame : (sc : Scenario) (hands : List HandIn) (m : Moment) (over in_frame : Bool) → in_frame ≡ false → IsFrameLater sc hands m (stepped sc hands m over in_frame)
unfolding begin_frame
stepped-frame sc hands m over false e = record { frame = refl; window = refl; nodes = refl }
stepped-frame sc hands m over true e = cc

pub frame-later : (sc : Scenario) (hands : List HandIn) (m : Moment) → windows_in sc.sizes ≤ m.window → IsFrameLater sc hands m (step sc hands m)
unfolding step
frame-later sc hands m h =
    stepped-frame sc hands m (m.frame == sc.frames) (nat_lt m.window (windows_in sc.sizes)) (le-ltb m.window (windows_in sc.sizes) h)

-- a node that is good in the window after a moment's was good in that one
pub record WasGood (sc : Scenario) (m : Moment) (me : Side) (i : ℕ) (epoch : ℕ) : Type 0 where
  pub st : NodeState
  pub good : IsGoodIn sc m me i st
  pub epoch_is : epoch ≡ st.epoch

pub was-good : {sc : Scenario} (hands : List HandIn) {m : Moment} {me : Side} {i : ℕ} {st : NodeState} → m.window < windows_in sc.sizes → AllStand sc m
    → IsGoodIn sc (step sc hands m) me i st → WasGood sc m me i st.epoch
was-good {sc} hands {m} {me} {i} {st} inside stand good =
    let next : IsWindowLater sc m (step sc hands m) = window-later sc hands m inside in
    let at : ℕ = slot_numbered sc.sizes (step sc hands m).window in
    let slots : is_good sc me i (step sc hands m).frame at ≡ true =
    ap (is_good sc me i (step sc hands m).frame) (sym (slot-is sc.sizes sc.plan me st (step sc hands m).window)) ∙ good.1 in
    let same_frame : is_good sc me i m.frame at ≡ true = ap (λ f. is_good sc me i f at) (sym next.frame) ∙ slots in
    let same_window : is_good sc me i m.frame (slot_numbered sc.sizes (m.window + 1)) ≡ true =
    ap (λ w. is_good sc me i m.frame (slot_numbered sc.sizes w)) (sym next.window) ∙ same_frame in
    let before : is_good sc me i m.frame (slot_numbered sc.sizes m.window) ≡ true =
    good_earlier sc me i m.frame (slot_numbered sc.sizes m.window) (slot_numbered sc.sizes (m.window + 1)) (omega arith) same_window in
    let long : length (of_kind me m.nodes) ≡ count_of me sc.sizes = stand.counts me in
    let counted : i < count_of me sc.sizes = good_counts sc me i m.frame (slot_numbered sc.sizes m.window) before in
    let old = item-at (of_kind me m.nodes) i (omega arith) in
    let now : NodeState = (go_through sc m (sent_in sc m) me i old.0 (window_in sc m me old.0)).state in
    let there : slice_get (of_kind me (after_window sc m (results_of sc m)).nodes) i ≡ Some st =
    ap (λ nodes. slice_get (of_kind me nodes) i) (sym next.nodes) ∙ good.0 in
    let same : now ≡ st = same_Some now st (sym (state-after sc m me i old.0 old.1) ∙ there) in
    record {
      st = old.0;
      good = (old.1, ap (is_good sc me i m.frame) (slot-is sc.sizes sc.plan me old.0 m.window) ∙ before);
      epoch_is = ap (λ s. s.epoch) (sym same) ∙ (through-stays sc m (sent_in sc m) me i old.0 (window_in sc m me old.0)).epoch;
    }

pub shortest-some : {sc : _} → IsLawful sc → 1 ≤ shortest_of sc.plan
shortest-some {sc} lawful = let r : sc.plan.r < sc.plan.u = lawful.plan.r in omega arith

-- In a frame.

pub next-in-order : {sc : _} (hands : List HandIn) → IsLawful sc → (n : ℕ) → HaveBegunTogether sc (moment sc hands n)
    → (moment sc hands n).window + 1 < stages_in sc.sizes → CloseInOrder sc (moment sc hands n) (moment sc hands (suc n))
next-in-order {sc} hands lawful n together below me you i j mine yours good other =
    let m : Moment = moment sc hands n in
    let inside : m.window < windows_in sc.sizes = omega arith in
    let was : WasGood sc m you j yours.epoch = was-good hands inside (moments-stand sc hands n (has_ticks lawful)) other in
    let rooms : Apart sc.plan (last_of sc.sizes sc.plan me mine m.window) (last_of sc.sizes sc.plan you yours (m.window + 1)) =
    apart-next me you mine yours m.window (fits lawful.plan lawful.feasible) lawful.plan.l.0
    (shortest-some lawful) below in
    let e : was.st.epoch ≡ yours.epoch = sym was.epoch_is in
    let apart : time_of (clock_of sc me i) mine.epoch ≤ time_of (clock_of sc you j) yours.epoch + sc.plan.p =
    subst (λ k. time_of (clock_of sc me i) mine.epoch ≤ time_of (clock_of sc you j) k + sc.plan.p) e (together me you i j mine was.st good was.good) in
    let now : time_of (clock_of sc me i) (mine.epoch + last_of sc.sizes sc.plan me mine m.window)
    < time_of (clock_of sc you j) (yours.epoch + last_of sc.sizes sc.plan you yours (m.window + 1)) =
    times-apart lawful (clock_of sc me i) (clock_of sc you j) mine.epoch yours.epoch (good-clock lawful me i m.frame (window_in sc m me mine).slot good.1)
    (good-clock lawful you j m.frame (window_in sc m you was.st).slot was.good.1) apart rooms in
    subst (λ w. time_of (clock_of sc me i) (mine.epoch + last_of sc.sizes sc.plan me mine m.window)
    < time_of (clock_of sc you j) (yours.epoch + last_of sc.sizes sc.plan you yours w)) (sym (window-later sc hands m inside).window) now

-- Over the turn.

-- the three steps from the last stage of a frame to the first of the next
pub record TurnsAfter (sc : Scenario) (hands : List HandIn) (m tail end next : Moment) : Type 0 where
  pub in_tail : IsWindowLater sc m tail
  pub at_end : IsWindowLater sc tail end
  pub turned : IsFrameLater sc hands end next

pub turns-after : (sc : Scenario) (hands : List HandIn) (n : ℕ) → (moment sc hands n).window + 1 ≡ stages_in sc.sizes
    → TurnsAfter sc hands (moment sc hands n) (moment sc hands (suc n)) (moment sc hands (suc (suc n))) (moment sc hands (suc (suc (suc n))))
turns-after sc hands n e =
    let a : IsWindowLater sc (moment sc hands n) (moment sc hands (suc n)) = window-later sc hands (moment sc hands n) (omega arith) in
    let first : (moment sc hands (suc n)).window ≡ (moment sc hands n).window + 1 = a.window in
    let b : IsWindowLater sc (moment sc hands (suc n)) (moment sc hands (suc (suc n))) = window-later sc hands (moment sc hands (suc n)) (omega arith) in
    let second : (moment sc hands (suc (suc n))).window ≡ (moment sc hands (suc n)).window + 1 = b.window in
    record { in_tail = a; at_end = b; turned = frame-later sc hands (moment sc hands (suc (suc n))) (omega arith) }

pub turn-in-order : {sc : _} (hands : List HandIn) → IsLawful sc → (n : ℕ) → HaveBegunTogether sc (moment sc hands n)
    → (moment sc hands n).window + 1 ≡ stages_in sc.sizes → HaveBegunAFrame sc (moment sc hands n) (moment sc hands (suc (suc (suc n))))
    → CloseInOrder sc (moment sc hands n) (moment sc hands (suc (suc (suc n))))
turn-in-order {sc} hands lawful n together at_last frame me you i j mine yours good other =
    let m : Moment = moment sc hands n in
    let later : Moment = moment sc hands (suc (suc (suc n))) in
    let turns : TurnsAfter sc hands m (moment sc hands (suc n)) (moment sc hands (suc (suc n))) later = turns-after sc hands n at_last in
    let frames : later.frame ≡ m.frame + 1 = turns.turned.frame ∙ ap (λ f. f + 1) (turns.at_end.frame ∙ turns.in_tail.frame) in
    let now : is_good sc you j (m.frame + 1) (window_in sc later you yours).slot ≡ true =
    ap (λ f. is_good sc you j f (window_in sc later you yours).slot) (sym frames) ∙ other.1 in
    let before : is_good sc you j m.frame (slot_numbered sc.sizes m.window) ≡ true =
    good_before sc you j m.frame (m.frame + 1) (slot_numbered sc.sizes m.window) (window_in sc later you yours).slot (omega arith) now in
    let stand : AllStand sc m = moments-stand sc hands n (has_ticks lawful) in
    let long : length (of_kind you m.nodes) ≡ count_of you sc.sizes = stand.counts you in
    let counted : j < count_of you sc.sizes = good_counts sc you j m.frame (slot_numbered sc.sizes m.window) before in
    let old = item-at (of_kind you m.nodes) j (omega arith) in
    let was : IsGoodIn sc m you j old.0 = (old.1, ap (is_good sc you j m.frame) (slot-is sc.sizes sc.plan you old.0 m.window) ∙ before) in
    let begun : old.0.epoch + tail_start_of sc.sizes sc.plan ≤ yours.epoch = frame you j old.0 yours was other in
    let place : 3 * sync_slot_of sc.sizes + 2 ≡ m.window = omega arith in
    let rooms : Apart sc.plan (last_of sc.sizes sc.plan me mine m.window) (tail_start_of sc.sizes sc.plan + last_of sc.sizes sc.plan you yours 0) =
    subst (λ w. Apart sc.plan (last_of sc.sizes sc.plan me mine w) (tail_start_of sc.sizes sc.plan + last_of sc.sizes sc.plan you yours 0)) place
    (apart-turn me you mine yours (fits lawful.plan lawful.feasible) lawful.plan.l.0 (shortest-some lawful)) in
    let early : time_of (clock_of sc me i) (mine.epoch + last_of sc.sizes sc.plan me mine m.window)
    < time_of (clock_of sc you j) (old.0.epoch + (tail_start_of sc.sizes sc.plan + last_of sc.sizes sc.plan you yours 0)) =
    times-apart lawful (clock_of sc me i) (clock_of sc you j) mine.epoch old.0.epoch (good-clock lawful me i m.frame (window_in sc m me mine).slot good.1)
    (good-clock lawful you j m.frame (slot_numbered sc.sizes m.window) before) (together me you i j mine old.0 good was) rooms in
    let up : time_of (clock_of sc you j) (old.0.epoch + (tail_start_of sc.sizes sc.plan + last_of sc.sizes sc.plan you yours 0))
    ≤ time_of (clock_of sc you j) (yours.epoch + last_of sc.sizes sc.plan you yours 0) =
    times_rise_to (clock_of sc you j) (old.0.epoch + (tail_start_of sc.sizes sc.plan + last_of sc.sizes sc.plan you yours 0))
    (yours.epoch + last_of sc.sizes sc.plan you yours 0) (omega arith) in
    subst (λ w. time_of (clock_of sc me i) (mine.epoch + last_of sc.sizes sc.plan me mine m.window)
    < time_of (clock_of sc you j) (yours.epoch + last_of sc.sizes sc.plan you yours w)) (sym turns.turned.window) (omega arith)
