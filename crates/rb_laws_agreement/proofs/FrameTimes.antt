-- If good nodes begin frames near each other, and frames take as long as they must, times are kept.
use Rattle.std.proofs.{Common.{◌≡◌, ℕ, zero, suc, ◌+◌, ◌-◌, ◌*◌, ◌≤◌, Bool, true, false, List, [], length, inl, inr, ◌⊎◌, Option, Some, None, option_map, slice_get, if◌then◌else◌, refl, sym, ◌∙◌, ap, subst, arith}, lemmas.Option.same_Some}
use Rattle.rb_base.specs.{Nodes.Side, Sizes.{Sizes, sync_slot_of}}
use Rattle.rb_rules.specs.{declared.plan.Plan.Plan, Book.of_kind, Clock.{Timeline, time_of}, Conviction.turn, Goodness.{Scenario, is_good, clock_of, clock_place}, Lawful.IsLawful, Moments.{before_slot, after_slot, IsRunning, IsComplete, IsReached, BeginsFrame, IsSettled, IsGoodBefore, IsGoodAfter, time_in_frame}, NodeState.NodeState, NodeSteps.turn_if_known, Plan.{shortest_of, longest_of, tail_start_of}, Ports.HandIn, Rounds.{Moment, moment, windows_in}, StandsFor.{FrameTakes, IsLow}, SyncStage.new_epoch_of}
use Rattle.rb_rules.proofs.{Drift.{HasLengths, drift, has_lengths, times_rise_to}, RoundStates.state-after, Slots.place-within}
use Rattle.rb_laws_agreement.specs.Times.{KeepsTime}
use Rattle.rb_laws_agreement.proofs.{Tests.Present, Goodnesses.{good_earlier, good_before, good_counts, good_below_16}, Invariant.{IsGoodNode, slot_numbered}, Settings.{good_state, after}, NextMoments.next, NodeWindows.tail_windows, SyncWindows.tail_keeps_epoch, FrameAgrees.{TurnedFrom, turned_from}, FrameBegins.{reached, settled_before}, BeginTimes.{IsInTime, BeginsInTime}, Leasts.{IsFirstOf, HaveNone, first_of}, Places.{IsPlaced, placed, running_earlier, good_before_slot}, PortHistories.reached_from, WidelyAccused.{HasStayed, stays_on, IsEnd, frame_ends}}

-- Clocks.

pub good-clock : {sc : _} → IsLawful sc → (me : Side) (i frame slot : ℕ) → is_good sc me i frame slot ≡ true
    → HasLengths (shortest_of sc.plan) (longest_of sc.plan) (clock_of sc me i)
good-clock {sc} law me i frame slot good =
    has_lengths (shortest_of sc.plan) (longest_of sc.plan) (clock_of sc me i)
    (law.clocks (clock_place sc.sizes me i) (record { start = 0; segments = [] })
    (place-within sc.sizes me i (length sc.clocks) law.one_clock_each (good_counts sc me i frame slot good)))

-- Since the frame's start.

-- a node that began a frame in this state has kept its epoch
record HasBegun (sc : Scenario) (hands : List HandIn) (frame : ℕ) (me : Side) (i : ℕ) (st : NodeState) : Type 0 where
  pub begun : NodeState
  pub is : IsGoodBefore sc hands frame 0 me i begun
  pub epoch : st.epoch ≡ begun.epoch

abbrev first_step : Scenario → ℕ → ℕ
first_step sc frame = frame * (windows_in sc.sizes + 1) + 3 * 0 + 1 - 1

has-begun : {sc : _} (hands : List HandIn) → IsLawful sc → (frame slot k : ℕ) → k ≤ windows_in sc.sizes → IsRunning (moment sc hands (first_step sc frame + k))
    → (me : Side) (i : ℕ) {st : _} → is_good sc me i frame slot ≡ true → slice_get (of_kind me (moment sc hands (first_step sc frame + k)).nodes) i ≡ Some st
    → HasBegun sc hands frame me i st
has-begun {sc} hands law frame slot k le running me i {st} good there = record {
  begun = first.value;
  is = record { good = was; state = first.is };
  epoch = ap (λ x. x.epoch) (same_Some st stay.now (sym there ∙ stay.there)) ∙ stay.stays.epoch;
}
  where
    n : ℕ
    n = first_step sc frame

    p : IsPlaced sc hands frame 0 1
    p = placed hands law frame 0 1 (omega arith) (omega arith) (omega arith) (running_earlier sc hands n (n + k) (omega arith) running)

    was : is_good sc me i frame 0 ≡ true
    was = good_earlier sc me i frame 0 slot (omega arith) good

    here : (window : ℕ) → window ≡ 3 * 0 + (1 - 1) → slot_numbered sc.sizes window ≡ 0
    here window e = omega arith

    first : Present (slice_get (of_kind me (before_slot sc hands frame 0).nodes) i)
    first =
        good_state p.agree me i
        (ap (λ f. is_good sc me i f (slot_numbered sc.sizes (before_slot sc hands frame 0).window)) p.frame_is
        ∙ ap (is_good sc me i frame) (here (before_slot sc hands frame 0).window p.window_is) ∙ was)

    within : (window : ℕ) → window ≡ 3 * 0 + (1 - 1) → window + k ≤ windows_in sc.sizes
    within window at = omega arith

    stay : HasStayed sc hands n k me i first.value
    stay = stays_on sc hands n k me i running (within (before_slot sc hands frame 0).window p.window_is) first.is

begun-before : {sc hands : _} → IsLawful sc → {frame slot : ℕ} → slot ≤ sync_slot_of sc.sizes → IsRunning (before_slot sc hands frame slot)
    → {me i st : _} → IsGoodBefore sc hands frame slot me i st → HasBegun sc hands frame me i st
begun-before {sc} {hands} law {frame} {slot} le running {me} {i} g =
    let e : frame * (windows_in sc.sizes + 1) + 3 * slot + 1 - 1 ≡ first_step sc frame + 3 * slot = index (frame * (windows_in sc.sizes + 1)) slot in
    has-begun hands law frame slot (3 * slot) (omega arith) (ap (λ n. (moment sc hands n).book.ended) (sym e) ∙ running) me i g.good
    (ap (λ n. slice_get (of_kind me (moment sc hands n).nodes) i) (sym e) ∙ g.state)
  where
    index : (a slot : ℕ) → a + 3 * slot + 1 - 1 ≡ a + 3 * 0 + 1 - 1 + 3 * slot
    index a slot = omega arith

begun-after : {sc hands : _} → IsLawful sc → {frame : ℕ} → IsComplete sc hands frame (sync_slot_of sc.sizes)
    → {me i st : _} → IsGoodAfter sc hands frame (sync_slot_of sc.sizes) me i st → HasBegun sc hands frame me i st
begun-after {sc} {hands} law {frame} complete {me} {i} g =
    let s : ℕ = sync_slot_of sc.sizes in
    let e : frame * (windows_in sc.sizes + 1) + 3 * s + 4 - 1 ≡ first_step sc frame + (3 * s + 3) = index (frame * (windows_in sc.sizes + 1)) s in
    has-begun hands law frame s (3 * s + 3) (omega arith) (ap (λ n. (moment sc hands n).book.ended) (sym e) ∙ complete) me i g.good
    (ap (λ n. slice_get (of_kind me (moment sc hands n).nodes) i) (sym e) ∙ g.state)
  where
    index : (a s : ℕ) → a + 3 * s + 4 - 1 ≡ a + 3 * 0 + 1 - 1 + (3 * s + 3)
    index a s = omega arith

-- The first time of a frame.

-- the time at which a node begins the frame, if it is good
start-at : Scenario → Side → ℕ → Bool → Option NodeState → Option ℕ
start-at sc me i good st = if good then option_map (λ st. time_in_frame sc me i st 0) st else None

pub starts : Scenario → List HandIn → ℕ → Side → ℕ → Option ℕ
starts sc hands frame me i = start-at sc me i (is_good sc me i frame 0) (slice_get (of_kind me (before_slot sc hands frame 0).nodes) i)

-- the least time at which a good node starts the frame, or `otherwise` if there is none
least-or : (sc : Scenario) (hands : List HandIn) (frame : ℕ) → IsFirstOf (starts sc hands frame) 16 ⊎ HaveNone (starts sc hands frame) 16 → ℕ → ℕ
least-or sc hands frame (inl first) otherwise = first.at
least-or sc hands frame (inr none) otherwise = otherwise

pub first_time : Scenario → List HandIn → ℕ → ℕ
first_time sc hands zero = least-or sc hands 0 (first_of (starts sc hands 0) 16) 0
first_time sc hands (suc frame) =
    least-or sc hands (suc frame) (first_of (starts sc hands (suc frame)) 16) (first_time sc hands frame + tail_start_of sc.sizes sc.plan * shortest_of sc.plan)

-- a node that starts the frame at a time
pub record Starts (sc : Scenario) (hands : List HandIn) (frame : ℕ) (me : Side) (i time : ℕ) : Type 0 where
  pub st : NodeState
  pub is : IsGoodBefore sc hands frame 0 me i st
  pub at : time_in_frame sc me i st 0 ≡ time

pub starts-there : (sc : Scenario) (hands : List HandIn) (frame : ℕ) (me : Side) (i : ℕ) {time : ℕ} → starts sc hands frame me i ≡ Some time → Starts sc hands frame me i time
unfolding starts start-at
starts-there sc hands frame me i {time} h = go (is_good sc me i frame 0) (slice_get (of_kind me (before_slot sc hands frame 0).nodes) i) refl refl h
  where
    go : (good : Bool) (o : Option NodeState) → is_good sc me i frame 0 ≡ good → slice_get (of_kind me (before_slot sc hands frame 0).nodes) i ≡ o
        → start-at sc me i good o ≡ Some time → Starts sc hands frame me i time
    go true (Some st) p q h = record { st = st; is = record { good = p; state = q }; at = same_Some (time_in_frame sc me i st 0) time h }
    go true None p q h = cc
    go false o p q h = cc

pub starts-so : {sc hands frame me i st : _} → IsGoodBefore sc hands frame 0 me i st
    → starts sc hands frame me i ≡ Some (time_in_frame sc me i st 0)
unfolding starts start-at
starts-so {sc} {hands} {frame} {me} {i} g =
    ap (λ b. start-at sc me i b (slice_get (of_kind me (before_slot sc hands frame 0).nodes) i)) g.good ∙ ap (start-at sc me i true) g.state

-- the time is that of a node that starts the frame, and no good node begins it earlier
record IsFirst (sc : Scenario) (hands : List HandIn) (frame low : ℕ) : Type 0 where
  pub low_is : IsLow sc hands frame low
  pub least : (you : Side) (j : ℕ) (yours : NodeState) → IsGoodBefore sc hands frame 0 you j yours → low ≤ time_in_frame sc you j yours 0

least-is : {sc hands : _} → IsLawful sc → {frame : ℕ} (x : IsFirstOf (starts sc hands frame) 16 ⊎ HaveNone (starts sc hands frame) 16) (otherwise : ℕ)
    → {me i st : _} → IsGoodBefore sc hands frame 0 me i st → IsFirst sc hands frame (least-or sc hands frame x otherwise)
unfolding least-or
least-is {sc} {hands} law {frame} (inl first) otherwise {me} {i} {st} g =
    let a : Starts sc hands frame first.me first.i first.at = starts-there sc hands frame first.me first.i first.is in
    record {
      low_is = record { me = first.me; i = first.i; st = a.st; begins = a.is; time = a.at };
      least = λ you j yours k.
          first.least you j (time_in_frame sc you j yours 0) (good_below_16 sc law.sizes you j frame 0 k.good) (starts-so k);
    }
least-is {sc} law {frame} (inr none) otherwise {me} {i} {st} g =
    absurd (none me i (time_in_frame sc me i st 0) (good_below_16 sc law.sizes me i frame 0 g.good) (starts-so g))

is-first : {sc hands : _} → IsLawful sc → (frame : ℕ) {me i st : _} → IsGoodBefore sc hands frame 0 me i st
    → IsFirst sc hands frame (first_time sc hands frame)
unfolding first_time
is-first {sc} {hands} law zero g = least-is law (first_of (starts sc hands 0) 16) 0 g
is-first {sc} {hands} law (suc frame) g =
    least-is law (first_of (starts sc hands (suc frame)) 16) (first_time sc hands frame + tail_start_of sc.sizes sc.plan * shortest_of sc.plan) g

-- In time.

in-time : {sc hands : _} → IsLawful sc → KeepsTime sc hands → {frame slot : ℕ} → slot ≤ sync_slot_of sc.sizes → IsReached sc hands frame
    → IsRunning (before_slot sc hands frame slot) → {me i st : _} → IsGoodBefore sc hands frame slot me i st → (offset : ℕ)
    → IsInTime sc (first_time sc hands frame) me i st offset
in-time {sc} {hands} law frames {frame} {slot} le reached running {me} {i} {st} g offset =
    let b : HasBegun sc hands frame me i st = begun-before law le running g in
    let f : IsFirst sc hands frame (first_time sc hands frame) = is-first law frame b.is in
    let l : IsLow sc hands frame (first_time sc hands frame) = f.low_is in
    let drifts = drift (clock_of sc me i) (shortest_of sc.plan) (longest_of sc.plan) (good-clock law me i frame slot g.good) st.epoch offset in
    let at : time_in_frame sc me i b.begun 0 ≡ time_of (clock_of sc me i) st.epoch = ap (time_of (clock_of sc me i)) (plus b.begun.epoch st.epoch b.epoch) in
    let least : first_time sc hands frame ≤ time_in_frame sc me i b.begun 0 = f.least me i b.begun b.is in
    let near : time_in_frame sc me i b.begun 0 ≤ time_in_frame sc l.me l.i l.st 0 + sc.plan.p = frames.near frame reached me l.me i l.i b.begun l.st b.is l.begins in
    record {
      not_early = early (first_time sc hands frame) (time_in_frame sc me i b.begun 0) (time_of (clock_of sc me i) st.epoch) (offset * shortest_of sc.plan) (time_in_frame sc me i st offset)
          least at drifts.0;
      not_late = late (time_in_frame sc l.me l.i l.st 0) (first_time sc hands frame) (time_in_frame sc me i b.begun 0) (time_of (clock_of sc me i) st.epoch) sc.plan.p (offset * longest_of sc.plan)
          (time_in_frame sc me i st offset) l.time near at drifts.1;
    }
  where
    plus : (a b : ℕ) → b ≡ a → a + 0 ≡ b
    plus a b e = omega arith

    early : (low first now short there : ℕ) → low ≤ first → first ≡ now → now + short ≤ there → low + short ≤ there
    early low first now short there h e k = omega arith

    late : (least low first now p long there : ℕ) → least ≡ low → first ≤ least + p → first ≡ now → there ≤ now + long → there ≤ low + p + long
    late least low first now p long there l h e k = omega arith

-- The next frame.

pub turned-epoch : (sizes : Sizes) (plan : Plan) (me : Side) (st : NodeState) {epoch : ℕ} → new_epoch_of plan me st ≡ Some epoch → (turn_if_known sizes plan me st).epoch ≡ epoch
unfolding turn
turned-epoch sizes plan me st {epoch} e = ap (λ o. (elim o as (λ _. NodeState) [ None ↦ st | Some epoch ↦ turn sizes plan.probation me epoch st ]).epoch) e

-- a good node begins the next frame with the epoch that it knew
next-epoch : {sc hands : _} → IsLawful sc → {frame : ℕ} → IsComplete sc hands frame (sync_slot_of sc.sizes)
    → {me i st now : _} → IsGoodAfter sc hands frame (sync_slot_of sc.sizes) me i st → IsGoodBefore sc hands (suc frame) 0 me i now
    → {epoch : ℕ} → new_epoch_of sc.plan me st ≡ Some epoch → now.epoch ≡ epoch
next-epoch {sc} {hands} law {frame} complete {me} {i} {st} {now} g h known =
    ap (λ x. x.epoch) (sym from.is) ∙ turned-epoch sc.sizes sc.plan me from.st (ap (new_epoch_of sc.plan me) (sym left)
    ∙ tail_keeps_epoch (tail_windows sc a p.window_is) me i st (ap (λ f. is_good sc me i f (sync_slot_of sc.sizes)) p.frame_is ∙ g.good) ∙ known)
  where
    a : Moment
    a = after_slot sc hands frame (sync_slot_of sc.sizes)

    p : IsPlaced sc hands frame (sync_slot_of sc.sizes) 4
    p = placed hands law frame (sync_slot_of sc.sizes) 4 (omega arith) (omega arith) (omega arith) complete

    e : IsEnd sc hands frame
    e = frame_ends law complete

    next_p : IsPlaced sc hands (suc frame) 0 1
    next_p = placed hands law (suc frame) 0 1 (omega arith) (omega arith) (omega arith) e.turn.running

    from : TurnedFrom sc (next sc a) me i now
    from =
        turned_from e.at_end.agree
        (subst (λ m. IsGoodNode sc m me i now) (sym e.turn.turn) (good_before_slot (omega arith) next_p h))

    left : after sc a me i st ≡ from.st
    left = same_Some (after sc a me i st) from.st (sym (state-after sc a me i st g.state) ∙ from.was.there)

-- a node that starts the next frame does so all its ticks after the first time of this one
turns-later : {sc hands : _} → IsLawful sc → KeepsTime sc hands → {frame : ℕ} → IsComplete sc hands frame (sync_slot_of sc.sizes)
    → {me i now : _} → IsGoodBefore sc hands (suc frame) 0 me i now
    → first_time sc hands frame + tail_start_of sc.sizes sc.plan * shortest_of sc.plan ≤ time_in_frame sc me i now 0
turns-later {sc} {hands} law frames {frame} complete {me} {i} {now} h =
    later (first_time sc hands frame) (time_of clock (b.begun.epoch + 0)) (time_of clock b.begun.epoch) (t * shortest_of sc.plan) (time_of clock (b.begun.epoch + t)) (time_of clock takes.epoch)
    (time_of clock (now.epoch + 0)) ((is-first law frame b.is).least me i b.begun b.is) (ap (time_of clock) (none b.begun.epoch))
    (drift clock (shortest_of sc.plan) (longest_of sc.plan) (good-clock law me i frame (sync_slot_of sc.sizes) good) b.begun.epoch t).0
    (times_rise_to clock (b.begun.epoch + t) takes.epoch (from st.value.epoch b.begun.epoch t takes.epoch b.epoch takes.least))
    (ap (time_of clock) (sym (none now.epoch ∙ next-epoch law complete g h takes.known)))
  where
    clock : Timeline
    clock = clock_of sc me i

    t : ℕ
    t = tail_start_of sc.sizes sc.plan

    good : is_good sc me i frame (sync_slot_of sc.sizes) ≡ true
    good = good_before sc me i frame (suc frame) (sync_slot_of sc.sizes) 0 (omega arith) h.good

    p : IsPlaced sc hands frame (sync_slot_of sc.sizes) 4
    p = placed hands law frame (sync_slot_of sc.sizes) 4 (omega arith) (omega arith) (omega arith) complete

    here : (window : ℕ) → window ≡ 3 * sync_slot_of sc.sizes + (4 - 1) → slot_numbered sc.sizes window ≡ sync_slot_of sc.sizes
    here window e = omega arith

    st : Present (slice_get (of_kind me (after_slot sc hands frame (sync_slot_of sc.sizes)).nodes) i)
    st =
        good_state p.agree me i
        (ap (λ f. is_good sc me i f (slot_numbered sc.sizes (after_slot sc hands frame (sync_slot_of sc.sizes)).window)) p.frame_is
        ∙ ap (is_good sc me i frame) (here (after_slot sc hands frame (sync_slot_of sc.sizes)).window p.window_is) ∙ good)

    g : IsGoodAfter sc hands frame (sync_slot_of sc.sizes) me i st.value
    g = record { good = good; state = st.is }

    takes : FrameTakes sc.sizes sc.plan me st.value
    takes = frames.takes frame complete me i st.value g

    b : HasBegun sc hands frame me i st.value
    b = begun-after law complete g

    none : (n : ℕ) → n + 0 ≡ n
    none n = omega arith

    from : (epoch begun t next : ℕ) → epoch ≡ begun → epoch + t ≤ next → begun + t ≤ next
    from epoch begun t next e h = omega arith

    later : (low first begun short full next now : ℕ) → low ≤ first → first ≡ begun → begun + short ≤ full → full ≤ next → next ≡ now → low + short ≤ now
    later low first begun short full next now h e k l n = omega arith

later : (sc : Scenario) (hands : List HandIn) → IsLawful sc → KeepsTime sc hands → (frame : ℕ) → IsComplete sc hands frame (sync_slot_of sc.sizes)
    → first_time sc hands frame + tail_start_of sc.sizes sc.plan * shortest_of sc.plan ≤ first_time sc hands (suc frame)
unfolding first_time least-or
later sc hands law frames frame complete = go (first_of (starts sc hands (suc frame)) 16)
  where
    so_far : ℕ
    so_far = first_time sc hands frame + tail_start_of sc.sizes sc.plan * shortest_of sc.plan

    go : (x : IsFirstOf (starts sc hands (suc frame)) 16 ⊎ HaveNone (starts sc hands (suc frame)) 16) → so_far ≤ least-or sc hands (suc frame) x so_far
    go (inl first) =
        let a : Starts sc hands (suc frame) first.me first.i first.at = starts-there sc hands (suc frame) first.me first.i first.is in
        subst (λ x. so_far ≤ x) a.at (turns-later law frames complete a.is)
    go (inr none) = omega arith

-- a frame with a settled slot is reached
settled-reached : (sc : Scenario) (hands : List HandIn) (frame slot : ℕ) → IsSettled sc hands frame slot → IsReached sc hands frame
settled-reached sc hands frame slot (inl complete) = reached_from sc hands frame slot complete
settled-reached sc hands frame slot (inr begins) = go slot begins
  where
    go : (slot : ℕ) → BeginsFrame sc hands frame slot → IsReached sc hands frame
    go zero h = h
    go (suc slot) h = absurd h

pub begins_in_time : {sc hands : _} → IsLawful sc → KeepsTime sc hands → BeginsInTime sc hands (first_time sc hands)
begins_in_time {sc} {hands} law frames = record {
  first = λ frame reached me i st g. (is-first law frame g).low_is;
  later = later sc hands law frames;
  in_time = λ frame slot le settled me i st g.
      in-time law frames le (settled-reached sc hands frame slot settled) (settled_before hands law frame slot settled) g (3 * slot * sc.plan.l);
  takes = frames.takes;
}
