-- For the law that events are rounds: in every moment of a run that has not ended good nodes have
-- had no more ticks before their frame than the frames before it may take, and the frame is one of
-- the run.
use Rattle.std.proofs.{Common.{◌≡◌, ℕ, zero, suc, ◌+◌, ◌*◌, ◌≤◌, ◌<◌, ◌==◌, max, false, List, Some, slice_get, refl, sym, ◌∙◌, ap, subst, arith, inl, inr}, lemmas.Bool.Decides.nat_tests, lemmas.Option.same_Some}
use Rattle.rb_base.specs.{Nodes.Side, Sizes.Sizes}
use Rattle.rb_rules.specs.{declared.plan.Plan.Plan, Book.{each_of, of_kind}, Goodness.Scenario, Lawful.IsLawful, Moments.IsRunning, NodeState.{NodeState, first_state}, Plan.tail_start_of, Ports.HandIn, Rounds.{Moment, begin_frame, first_moment, moment, next_frame, windows_in}, Slots.count_of}
use Rattle.rb_rules.proofs.WindowNumbers.{get-made}
use Rattle.rb_laws_agreement.proofs.{Agreement.{running_before, step_is}, FrameAgrees.{TurnedFrom, begin-frame, turned_from}, FrameBegins.not-over, FrameTimes.turned-epoch, Goodnesses.good_counts, Invariant.{Agree, IsGoodNode, slot_numbered}, NextMoments.{CameFrom, came_from, next}, SlotRuns.next-frame}
use Rattle.rb_laws_synchrony.proofs.{SyncSteps.epoch_after, Synchronous.{KnowNext, KnowsEpoch}, Synchrony.{IsSynchronous, synchrony}}

-- a number of ticks that is greater than those of a frame
abbrev pub frame_ticks : Sizes → Plan → ℕ
frame_ticks sizes plan = tail_start_of sizes plan + max plan.z (plan.v + plan.c)

-- no good node has begun the moment's frame later than after as many frames of `frame_ticks` ticks
-- as its number says
abbrev pub BeginByThen : Scenario → Moment → Type 0
BeginByThen sc m = (me : Side) (i : ℕ) (st : NodeState) → IsGoodNode sc m me i st → st.epoch ≤ m.frame * frame_ticks sc.sizes sc.plan

first-begins : (sc : Scenario) (hands : List HandIn) → BeginByThen sc (first_moment sc hands)
unfolding begin_frame
first-begins sc hands me i st h =
    let counted : i < count_of me sc.sizes = good_counts sc me i 0 (slot_numbered sc.sizes 0) h.good in
    let made : slice_get (of_kind me (each_of sc.sizes (λ me i. first_state sc.sizes me))) i ≡ Some (first_state sc.sizes me) =
    get-made sc.sizes (λ me i. first_state sc.sizes me) me i counted in
    let same : first_state sc.sizes me ≡ st = same_Some (first_state sc.sizes me) st (sym made ∙ h.there) in
    let e : 0 ≡ st.epoch = ap (λ x. x.epoch) same in
    omega (arith, e)

next-begins : {sc hands n m s : _} → Agree sc hands n m s → BeginByThen sc m → BeginByThen sc (next sc m)
next-begins {sc} {m} agree before me i now h =
    let from : CameFrom sc m me i now = came_from agree h in
    let e : now.epoch ≡ from.st.epoch = ap (λ x. x.epoch) (sym from.is) ∙ epoch_after sc m me i from.st in
    subst (λ f. now.epoch ≤ f * frame_ticks sc.sizes sc.plan) (sym (next-frame sc m)) (omega (arith, e, before me i from.st from.was))

turn-begins : {sc hands n m s : _} → Agree sc hands n m s → KnowNext sc m → BeginByThen sc m → BeginByThen sc (next_frame sc hands m)
unfolding begin_frame
turn-begins {sc} {m} agree known before me i now h =
    let from : TurnedFrom sc m me i now = turned_from agree h in
    let k : KnowsEpoch sc me i from.st known.0 = known.1 me i from.st from.was in
    let e : k.takes.epoch ≡ now.epoch = sym (turned-epoch sc.sizes sc.plan me from.st k.takes.known) ∙ ap (λ x. x.epoch) from.is in
    one-more m.frame (frame_ticks sc.sizes sc.plan) from.st.epoch now.epoch (before me i from.st from.was)
    (later from.st.epoch (tail_start_of sc.sizes sc.plan) (max sc.plan.z (sc.plan.v + sc.plan.c)) k.takes.epoch now.epoch k.takes.most e)
  where
    later : (old start more then_at now : ℕ) → then_at < old + start + more → then_at ≡ now → now ≤ old + (start + more)
    later old start more then_at now lt e = omega arith

    one-more : (frame ticks old now : ℕ) → old ≤ frame * ticks → now ≤ old + ticks → now ≤ (frame + 1) * ticks
    one-more frame ticks old now a b = omega (arith, a, b)

pub begin_by_then : {sc : _} (hands : List HandIn) → IsLawful sc → (n : ℕ) → IsRunning (moment sc hands n) → BeginByThen sc (moment sc hands n)
begin_by_then {sc} hands law zero running = first-begins sc hands
begin_by_then {sc} hands law (suc n) running =
    let m : Moment = moment sc hands n in
    let open_before : IsRunning m = running_before sc hands m running in
    let x : IsSynchronous sc hands n = synchrony hands law n open_before in
    let before : BeginByThen sc m = begin_by_then hands law n open_before in
    elim (step_is sc hands m running) [
      | inl window ↦ subst (BeginByThen sc) (sym window.1) (next-begins x.agree before)
      | inr turn ↦
          let over : windows_in sc.sizes ≤ m.window = turn.0 in
          subst (BeginByThen sc) (sym turn.1) (turn-begins x.agree (x.near.third (omega arith)) before)
    ]

-- ---- the frames of the run

pub turned-frame : (sc : Scenario) (hands : List HandIn) (m : Moment) → (next_frame sc hands m).frame ≡ m.frame + 1
unfolding begin_frame
turned-frame sc hands m = refl

-- the frame that starts after the last one is the end
pub within_run : (sc : Scenario) (hands : List HandIn) (n : ℕ) → IsRunning (moment sc hands n) → (moment sc hands n).frame ≤ sc.frames
within_run sc hands zero running = omega (arith, begin-frame sc hands)
within_run sc hands (suc n) running =
    let m : Moment = moment sc hands n in
    let before : m.frame ≤ sc.frames = within_run sc hands n (running_before sc hands m running) in
    elim (step_is sc hands m running) [
      | inl window ↦ let e : (moment sc hands (suc n)).frame ≡ m.frame = ap (λ m. m.frame) window.1 ∙ next-frame sc m in omega arith
      | inr turn ↦
          let e : (moment sc hands (suc n)).frame ≡ m.frame + 1 = ap (λ m. m.frame) turn.1 ∙ turned-frame sc hands m in
          let less : m.frame < sc.frames = unlike m.frame sc.frames before (not-over sc hands m running) in
          omega arith
    ]
  where
    unlike : (a b : ℕ) → a ≤ b → (a == b) ≡ false → a < b
    unlike a b h e = grind (arith, nat_tests)
