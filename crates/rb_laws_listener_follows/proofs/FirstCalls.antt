-- A listener goes through stage 1 of the sync slot, in which the RMUs listen: nothing of good RMUs
-- comes, and it keeps up with the bus.
use Rattle.std.proofs.Common.{◌≡◌, ℕ, suc, ◌+◌, ◌-◌, ◌*◌, ◌^◌, ◌≤◌, true, false, List, [], Some, None, slice_get, refl, sym, ◌∙◌, ap, subst, arith}
use Rattle.rb_base.specs.{Nodes.Side.{Biu, Rmu}, Sizes.{Sizes, sync_slot_of}}
use Rattle.rb_rules.specs.{declared.plan.Plan.Plan, declared.sense.Sense.Sense, declared.sense.Sense.TheVariants.Silent, Book.of_kind, Core.{of_source, state_at, window_here}, Goodness.{Scenario, is_good}, Hearing.{close_window, window_numbered}, NodeState.NodeState, NodeSteps.expect_of, Plan.f0_of, Ports.HandIn, Rounds.{after_window, moment}, Sense.sense_of, Standing.does_wrong, SyncStage.{close_sync, expects_call, new_epoch_of, sync_outcome_of}, Windows.window_of}
use Rattle.rb_rules.proofs.{RoundStates.HasTicks, WindowNumbers.sync-numbered}
use Rattle.rb_laws_agreement.proofs.{Tests.Present, ExactAgrees.has_ticks, Goodnesses.slot_last, Invariant.{IsGoodNode, is_good_now}, NextMoments.{next, was_good}, Settings.good_state, SyncAgrees.SyncSetting, NodeWindows.sync_windows_are, SyncWindows.close-sync}
use Rattle.rb_laws_events.specs.Closing.{stages_in}
use Rattle.rb_laws_events.proofs.{StageOrder.last_of, TickWindows.first_of}
use Rattle.rb_laws_synchrony.proofs.SyncSteps.{IsPassedStage}
use Rattle.rb_laws_listener_learns.specs.Ears.{Ear}
use Rattle.rb_laws_listener_near.proofs.{SyncTracks.tracks_sync, Tracking.{Tracks, stays_good}}
use Rattle.rb_laws_listener_follows.proofs.{Arrivals.{none_collected, none_with_stamp}, ExactSteps.Abides, FollowerRuns.{ClosesWindow, IsWindow, Stands, closes_window, closing, collected}, FollowerWindows.{closes_there, is_window}, HeardSync.nothing_first}

-- ---- windows of the sync slot at the listener

-- window w of its frame begins with offset a and has `ticks` ticks
pub record IsSpan (sc : Scenario) (st : NodeState) (w slot stage a ticks : ℕ) : Type 0 where
  pub window : window_numbered sc.sizes sc.plan Biu st w ≡ window_of slot stage a ticks
  pub in_frame : w ≤ stages_in sc.sizes
  pub some : 1 ≤ ticks

span_first : {sc st w slot stage a ticks : _} → IsSpan sc st w slot stage a ticks → first_of sc.sizes sc.plan Biu st w ≡ a
span_first s = ap (λ x. x.first) s.window

span_last : {sc st w slot stage a ticks : _} → IsSpan sc st w slot stage a ticks → last_of sc.sizes sc.plan Biu st w ≡ a + ticks - 1
span_last s = ap (λ x. x.last) s.window

-- a span of ticks before the next epoch is a window
pub span_window : {sc : _} (before : NodeState) {st w slot stage a ticks epoch : _} → IsSpan sc st w slot stage a ticks → HasTicks sc.plan → st.epoch ≡ epoch
    → state_at sc.sizes sc.plan Biu before (epoch + a) ≡ st → ((x : ℕ) → new_epoch_of sc.plan Biu st ≡ Some x → epoch + a + ticks ≤ x) → epoch + a + ticks ≤ 2 ^ 31
    → IsWindow sc.sizes sc.plan before st (epoch + a) (ticks - 1)
span_window {sc} before {st} {w} {a} {ticks} {epoch} s has epoch_is turns later in_time =
    let f : first_of sc.sizes sc.plan Biu st w ≡ a = span_first s in
    let l : last_of sc.sizes sc.plan Biu st w ≡ a + ticks - 1 = span_last s in
    let some : 1 ≤ ticks = s.some in
    let e : st.epoch + first_of sc.sizes sc.plan Biu st w ≡ epoch + a = omega (arith, epoch_is, f) in
    let many : last_of sc.sizes sc.plan Biu st w - first_of sc.sizes sc.plan Biu st w ≡ ticks - 1 = omega (arith, f, l, some) in
    let is : IsWindow sc.sizes sc.plan before st (st.epoch + first_of sc.sizes sc.plan Biu st w) (last_of sc.sizes sc.plan Biu st w - first_of sc.sizes sc.plan Biu st w) =
    is_window sc.sizes before w has s.in_frame (omega (arith, f, l, some)) (ap (state_at sc.sizes sc.plan Biu before) e ∙ turns)
    (λ x known. omega (arith, later x known, epoch_is, l, some)) (omega (arith, epoch_is, l, some, in_time)) in
    subst (λ k. IsWindow sc.sizes sc.plan before st k (ticks - 1)) e (subst (λ k. IsWindow sc.sizes sc.plan before st (st.epoch + first_of sc.sizes sc.plan Biu st w) k) many is)

-- what a node in the state `st` senses of what comes with these ticks
abbrev pub sense_span : Scenario → Ear → ℕ → ℕ → NodeState → ℕ → ℕ → ℕ → Sense
sense_span sc ear first ticks st slot stage j = sense_of (expect_of sc.sizes sc.plan.version st slot stage) (of_source (collected sc.sizes ear.heard first ticks) j)

pub span_closing : {sc : _} (ear : Ear) {st w stage a ticks epoch : _} → IsSpan sc st w (sync_slot_of sc.sizes) stage a ticks → HasTicks sc.plan → st.epoch ≡ epoch
    → closing sc ear st (epoch + a) (ticks - 1) ≡ close_sync sc.sizes Biu st stage (st.epoch + a) (sense_span sc ear (epoch + a) ticks st (sync_slot_of sc.sizes) stage)
span_closing {sc} ear {st} {w} {stage} {a} {ticks} {epoch} s has epoch_is =
    let slot : ℕ = sync_slot_of sc.sizes in
    let f : first_of sc.sizes sc.plan Biu st w ≡ a = span_first s in
    let l : last_of sc.sizes sc.plan Biu st w ≡ a + ticks - 1 = span_last s in
    let some : 1 ≤ ticks = s.some in
    let same : st.epoch + first_of sc.sizes sc.plan Biu st w + (last_of sc.sizes sc.plan Biu st w - first_of sc.sizes sc.plan Biu st w) ≡ epoch + a + (ticks - 1) = omega (arith, epoch_is, f, l, some) in
    let here : window_here sc.sizes sc.plan Biu st (epoch + a + (ticks - 1)) ≡ window_of slot stage a ticks =
    ap (window_here sc.sizes sc.plan Biu st) (sym same) ∙ closes_there sc.sizes st w has s.in_frame (omega (arith, f, l, some)) ∙ s.window in
    ap (λ x. close_window sc.sizes sc.plan Biu 16 st x (of_source (collected sc.sizes ear.heard (epoch + a) (ticks - 1 + 1)))) here
    ∙ ap (λ k. close_window sc.sizes sc.plan Biu 16 st (window_of slot stage a ticks) (of_source (collected sc.sizes ear.heard (epoch + a) k))) (let e : ticks - 1 + 1 ≡ ticks = omega (arith, some) in e)
    ∙ close-sync sc.sizes Biu 16 st stage a (sense_span sc ear (epoch + a) ticks st slot stage)

-- ---- stage 1

pub first_span : (sc : Scenario) (st : NodeState) {w : ℕ} → w ≡ 3 * sync_slot_of sc.sizes + 0 → 1 ≤ sc.plan.l → IsSpan sc st w (sync_slot_of sc.sizes) 1 (f0_of sc.sizes sc.plan) sc.plan.l
first_span sc st at some = record {
  window = ap (window_numbered sc.sizes sc.plan Biu st) at ∙ sync-numbered sc.sizes sc.plan Biu st 0;
  in_frame = omega (arith, at);
  some = some;
}

-- a close of stage 1 leaves the next epoch of a BIU
keeps_first : (sizes : Sizes) (plan : Plan) (st : NodeState) (first : ℕ) (sense : ℕ → Sense) → new_epoch_of plan Biu (close_sync sizes Biu st 1 first sense).state ≡ new_epoch_of plan Biu st
unfolding close_sync sync_outcome_of
keeps_first sizes plan st first sense = refl

pub keeps_epoch : (sizes : Sizes) (st : NodeState) (stage first : ℕ) (sense : ℕ → Sense) → (close_sync sizes Biu st stage first sense).state.epoch ≡ st.epoch
unfolding close_sync sync_outcome_of
keeps_epoch sizes st stage first sense = refl

-- with the last tick of stage 1 the listener stands before stage 2
pub record PassesFirst (sc : Scenario) (hands : List HandIn) (ear : Ear) (n epoch : ℕ) (before st : NodeState) : Type 0 where
  pub closes : ClosesWindow sc ear before st (epoch + f0_of sc.sizes sc.plan) (sc.plan.l - 1)
  pub now : NodeState
  pub is : (closing sc ear st (epoch + f0_of sc.sizes sc.plan) (sc.plan.l - 1)).state ≡ now
  pub stands : Stands sc ear now (epoch + (f0_of sc.sizes sc.plan + sc.plan.l))
  pub tracks : Tracks sc (next sc (moment sc hands n)) now
  pub epoch_is : now.epoch ≡ epoch
  pub unknown : new_epoch_of sc.plan Biu now ≡ None

pub passes_first : {sc hands ear n epoch low s before st : _} → Abides sc hands ear n epoch low s before st
    → (c : IsPassedStage sc hands n (moment sc hands n) s 0) → (set : SyncSetting sc hands n (moment sc hands n) s 0 (sync_windows_are sc (moment sc hands n) 0 c.stage.small c.stage.at))
    → next sc (moment sc hands n) ≡ moment sc hands (suc n) → epoch + f0_of sc.sizes sc.plan + sc.plan.l ≤ ear.ticks
    → PassesFirst sc hands ear n epoch before st
unfolding after_window
passes_first {sc} {hands} {ear} {n} {epoch} {before} {st} a c set next_is in_time = record {
  closes = x;
  now = now;
  is = ap (λ o. o.state) is;
  stands = subst (λ k. Stands sc ear now k) tick (subst (λ o. Stands sc ear o.state (suc (epoch + f0_of sc.sizes sc.plan + (sc.plan.l - 1)))) is x.stands);
  tracks = tracks_sync set a.tracks (st.epoch + f0_of sc.sizes sc.plan) sense right;
  epoch_is = keeps_epoch sc.sizes st 1 (st.epoch + f0_of sc.sizes sc.plan) sense ∙ a.epoch_is;
  unknown = keeps_first sc.sizes sc.plan st (st.epoch + f0_of sc.sizes sc.plan) sense ∙ a.unknown;
}
  where
    w : ℕ
    w = (moment sc hands n).window

    at : (moment sc hands n).window ≡ 3 * sync_slot_of sc.sizes + 0
    at = c.stage.at

    f : ℕ
    f = f0_of sc.sizes sc.plan

    same : (moment sc hands n).window * sc.plan.l ≡ f0_of sc.sizes sc.plan
    same = let e : (moment sc hands n).window ≡ 3 * sync_slot_of sc.sizes = omega (arith, at) in ap (λ k. k * sc.plan.l) e

    span : IsSpan sc st (moment sc hands n).window (sync_slot_of sc.sizes) 1 (f0_of sc.sizes sc.plan) sc.plan.l
    span = first_span sc st at a.beside.law.plan.l.0

    sense : ℕ → Sense
    sense = sense_span sc ear (epoch + f0_of sc.sizes sc.plan) sc.plan.l st (sync_slot_of sc.sizes) 1

    now : NodeState
    now = (close_sync sc.sizes Biu st 1 (st.epoch + f0_of sc.sizes sc.plan) (sense_span sc ear (epoch + f0_of sc.sizes sc.plan) sc.plan.l st (sync_slot_of sc.sizes) 1)).state

    is : closing sc ear st (epoch + f0_of sc.sizes sc.plan) (sc.plan.l - 1)
        ≡ close_sync sc.sizes Biu st 1 (st.epoch + f0_of sc.sizes sc.plan) (sense_span sc ear (epoch + f0_of sc.sizes sc.plan) sc.plan.l st (sync_slot_of sc.sizes) 1)
    is = span_closing ear span (has_ticks a.beside.law) a.epoch_is

    here : IsWindow sc.sizes sc.plan before st (epoch + f0_of sc.sizes sc.plan) (sc.plan.l - 1)
    here =
        span_window before span (has_ticks a.beside.law) a.epoch_is
        (subst (λ k. state_at sc.sizes sc.plan Biu before (epoch + k) ≡ st) same a.turns) (λ x known. let both : None ≡ Some x = sym a.unknown ∙ known in cc)
        (omega (arith, in_time, a.beside.is.ticks))

    x : ClosesWindow sc ear before st (epoch + f0_of sc.sizes sc.plan) (sc.plan.l - 1)
    x = closes_window here (subst (λ k. Stands sc ear before (epoch + k)) same a.stands)

    tick : suc (epoch + f0_of sc.sizes sc.plan + (sc.plan.l - 1)) ≡ epoch + (f0_of sc.sizes sc.plan + sc.plan.l)
    tick = omega (arith, a.beside.law.plan.l.0)

    -- nothing comes from an RMU that stays good
    silent : (j : ℕ) → stays_good sc (moment sc hands n) j ≡ true → sense_span sc ear (epoch + f0_of sc.sizes sc.plan) sc.plan.l st (sync_slot_of sc.sizes) 1 j ≡ Silent
    silent j good =
        let was : is_good_now sc (moment sc hands n) Rmu j ≡ true = was_good sc (moment sc hands n) Rmu j good in
        let there : Present (slice_get (of_kind Rmu (moment sc hands n).nodes) j) = good_state a.beside.agree Rmu j was in
        let here : is_good sc Rmu j (moment sc hands n).frame (sync_slot_of sc.sizes) ≡ true = ap (is_good sc Rmu j (moment sc hands n).frame) (sym (slot_last sc.sizes 0 at)) ∙ was in
        let none : of_source (collected sc.sizes ear.heard (epoch + f0_of sc.sizes sc.plan) sc.plan.l) j ≡ [] =
        none_collected sc.sizes ear.heard (epoch + f) sc.plan.l j (λ i lt.
        none_with_stamp sc.sizes (epoch + f + i) (ear.heard (epoch + f + i)) j (λ nth d is from.
        nothing_first a.beside c next_is
        (subst (λ k. IsGoodNode sc (moment sc hands n) Rmu k there.value) (sym from) (record { there = there.is; good = was }))
        (subst (λ k. is_good sc Rmu k (moment sc hands n).frame (sync_slot_of sc.sizes) ≡ true) (sym from) here) (omega (arith, lt, in_time)) (record { nth = nth; there = is }) (omega arith) (omega (arith, lt)))) in
        ap (sense_of (expect_of sc.sizes sc.plan.version st (sync_slot_of sc.sizes) 1)) none

    right : (j : ℕ) → stays_good sc (moment sc hands n) j ≡ true
        → does_wrong (expects_call Biu st 1 j) (sense_span sc ear (epoch + f0_of sc.sizes sc.plan) sc.plan.l st (sync_slot_of sc.sizes) 1 j) ≡ false
    right j good = ap (does_wrong false) (silent j good)
