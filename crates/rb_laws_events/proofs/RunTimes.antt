-- For the law that events are rounds: in a run that has not ended good nodes are in time.
use Rattle.std.proofs.{Common.{◌≡◌, ℕ, suc, ◌+◌, ◌*◌, ◌≤◌, ◌<◌, true, List, refl, ap, sym, ◌∙◌, subst, arith, inl, inr, Some, slice_get}, lemmas.Bool.cases_lt, lemmas.Option.same_Some}
use Rattle.rb_base.specs.{Nodes.{Side, other}, Sizes.{Sizes, sync_slot_of}}
use Rattle.rb_rules.specs.{declared.plan.Plan.Plan, declared.plan.Window.Window, Book.{of_kind, with_frame}, Clock.time_of, Goodness.{Scenario, clock_of}, Hearing.window_numbered, Lawful.IsLawful, Moments.IsRunning, NodeState.NodeState, Plan.tail_start_of, Ports.HandIn, Rounds.{Moment, begin_frame, moment}}
use Rattle.rb_rules.proofs.RoundStates.{HasTicks}
use Rattle.rb_laws_agreement.proofs.{Places.running_earlier, ExactAgrees.has_ticks}
use Rattle.rb_laws_synchrony.proofs.{CallTicks.all_know_next, StageCalls.clock_now, SyncLaws.all_timely, Synchronous.KnowsEpoch}
use Rattle.rb_laws_events.specs.Closing.{HaveBegunAFrame, stages_in}
use Rattle.rb_laws_events.proofs.{CloseOrder.{IsWindowLater, WasGood, was-good, window-later}, FrameTimes.{BegunWell, KnewEpoch, begun-well, good-node, knew-epoch, node-in}, Invariant.{ComesInWindow, ComesLater, InTime, entry_of, is_good_at, last_tick, next_stage}, MomentSteps.{NextIsStage, good-state, next-inner, next-is-stage, next-outer}, NodeClosing.good-in-sync, NodeTicks.tail-first, RoundNodes.{Stands, moments-stand}, SameHeard.Every, SayLists.every-to, StageOrder.last_of, StageTimes.{keeps-exact, keeps-running, stage-room, tail-room}, TickWindows.{Tiles, first_of, get-window, tiles, ends-before-later}, TimelyMoments.{good-in, heard-exact, later-exact, order-inner, order-outer, timely-heard}, TurnTimes.{Turns, before-next, closes-after-all, sent-after-all, tail-ends}}

-- what good sources send in the next stage comes after a moment's window
abbrev pub AllLater : Scenario → List HandIn → ℕ → Type 0
AllLater sc hands p =
    (me : Side) (i j : ℕ) (st : NodeState) → slice_get (of_kind me (moment sc hands p).nodes) i ≡ Some st → is_good_at sc (moment sc hands p) me i ≡ true
    → is_good_at sc (moment sc hands (next_stage sc.sizes (moment sc hands p) p)) (other me) j ≡ true
    → ComesLater sc (moment sc hands p) (moment sc hands (next_stage sc.sizes (moment sc hands p) p)) me i j st

later-is : (sc : Scenario) (hands : List HandIn) (p : ℕ) {q : ℕ} → next_stage sc.sizes (moment sc hands p) p ≡ q
    → ((me : Side) (i j : ℕ) (st : NodeState) → slice_get (of_kind me (moment sc hands p).nodes) i ≡ Some st → is_good_at sc (moment sc hands p) me i ≡ true
    → is_good_at sc (moment sc hands q) (other me) j ≡ true → ComesLater sc (moment sc hands p) (moment sc hands q) me i j st)
    → AllLater sc hands p
later-is sc hands p {q} e all =
    subst (λ q. (me : Side) (i j : ℕ) (st : NodeState) → slice_get (of_kind me (moment sc hands p).nodes) i ≡ Some st → is_good_at sc (moment sc hands p) me i ≡ true
    → is_good_at sc (moment sc hands q) (other me) j ≡ true → ComesLater sc (moment sc hands p) (moment sc hands q) me i j st) (sym e) all

-- Up to stage 1 of the sync slot.

-- good nodes that have begun the frame together are in time in each window up to there, whatever
-- comes of the run
pub in-exact : {sc : _} (hands : List HandIn) → IsLawful sc → (p : ℕ) → BegunWell sc (moment sc hands p) → (moment sc hands p).window ≤ 3 * sync_slot_of sc.sizes
    → InTime sc (moment sc hands p) (moment sc hands (next_stage sc.sizes (moment sc hands p) p))
in-exact {sc} hands lawful p well early =
    let m : Moment = moment sc hands p in
    let ticks : HasTicks sc.plan = has_ticks lawful in
    let is : next_stage sc.sizes m p ≡ suc p = next-inner sc.sizes m p (omega arith) in
    subst (λ q. InTime sc m (moment sc hands q)) (sym is) (record {
      keeps = λ me i st there good.
          let stood : Stands sc m me st = (moments-stand sc hands p ticks).stands me i st there good in
          keeps-exact sc.plan (omega arith) stood.knows;
      room = stage-room hands lawful p well (omega arith);
      heard = λ me i j st there good source_good.
          let source = good-state sc hands p (other me) j ticks source_good in
          heard-exact hands lawful p well.together early me i j there good source.1 source_good;
      order = order-inner hands lawful p well.together (omega arith);
    })

pub exact-later : {sc : _} (hands : List HandIn) → IsLawful sc → (p : ℕ) → BegunWell sc (moment sc hands p) → (moment sc hands p).window + 1 ≤ 3 * sync_slot_of sc.sizes
    → AllLater sc hands p
exact-later {sc} hands lawful p well below =
    later-is sc hands p (next-inner sc.sizes (moment sc hands p) p (omega arith))
    (λ me i j st there good source_good.
    let source = good-state sc hands (suc p) (other me) j (has_ticks lawful) source_good in
    later-exact hands lawful p well.together below me i j there good source.1 source_good)

-- In the sync slot.

-- in a run that has not ended what good nodes send comes in its window
pub heard-running : {sc : _} (hands : List HandIn) → IsLawful sc → (p : ℕ) → IsRunning (moment sc hands p) → (moment sc hands p).window ≤ stages_in sc.sizes
    → (me : Side) (i j : ℕ) (st : NodeState) → slice_get (of_kind me (moment sc hands p).nodes) i ≡ Some st → is_good_at sc (moment sc hands p) me i ≡ true
    → is_good_at sc (moment sc hands p) (other me) j ≡ true → Every (ComesInWindow sc (moment sc hands p) me i st) (entry_of sc (moment sc hands p) me i j)
heard-running {sc} hands lawful p running within me i j st there good source_good =
    let m : Moment = moment sc hands p in
    let ticks : HasTicks sc.plan = has_ticks lawful in
    let source = good-state sc hands p (other me) j ticks source_good in
    let stood : Stands sc m me st = (moments-stand sc hands p ticks).stands me i st there good in
    timely-heard me i j (clock_now lawful (good-node sc m me i there good)).moves (all_timely sc hands lawful p running (omega arith))
    there good stood.frame source.1 source_good

-- the window of a stage is that of every state
same-window : (sizes : Sizes) (plan : Plan) (me : Side) (a b : NodeState) (n : ℕ) → n < stages_in sizes → window_numbered sizes plan me a n ≡ window_numbered sizes plan me b n
same-window sizes plan me a b n h =
    same_Some (window_numbered sizes plan me a n) (window_numbered sizes plan me b n) (sym (get-window sizes plan me a n h) ∙ get-window sizes plan me b n h)

-- what is sent in the next stage comes after the window, as it comes in its own
later-sync : {sc : _} (hands : List HandIn) → IsLawful sc → (p : ℕ) → IsRunning (moment sc hands (suc p)) → 3 * sync_slot_of sc.sizes ≤ (moment sc hands p).window
    → (moment sc hands p).window + 1 < stages_in sc.sizes → (me : Side) (i j : ℕ) (st : NodeState)
    → slice_get (of_kind me (moment sc hands p).nodes) i ≡ Some st → is_good_at sc (moment sc hands p) me i ≡ true
    → is_good_at sc (moment sc hands (suc p)) (other me) j ≡ true
    → Every (λ c. time_of (clock_of sc me i) (last_tick sc (moment sc hands p) me st) < c.time) (entry_of sc (moment sc hands (suc p)) me i j)
later-sync {sc} hands lawful p running from below me i j st there good source_good =
    let m : Moment = moment sc hands p in
    let m2 : Moment = moment sc hands (suc p) in
    let n : ℕ = m.window in
    let ticks : HasTicks sc.plan = has_ticks lawful in
    let next : IsWindowLater sc m m2 = window-later sc hands m (omega arith) in
    let w : m2.window ≡ n + 1 = next.window in
    let good2 : is_good_at sc m2 me i ≡ true = good-in-sync sc hands me i p (omega arith) from good in
    let now = good-state sc hands (suc p) me i ticks good2 in
    let was : WasGood sc m me i now.0.epoch = was-good hands (omega arith) (moments-stand sc hands p ticks) (good-in sc m2 me i now.1 good2) in
    let same : was.st ≡ st = same_Some was.st st (sym was.good.0 ∙ there) in
    let epoch : now.0.epoch ≡ st.epoch = was.epoch_is ∙ ap (λ s. s.epoch) same in
    let first : first_of sc.sizes sc.plan me now.0 m2.window ≡ first_of sc.sizes sc.plan me st (n + 1) =
    ap (first_of sc.sizes sc.plan me now.0) w ∙ ap (λ (w : Window). w.first) (same-window sc.sizes sc.plan me now.0 st (n + 1) below) in
    let tile : Tiles sc.sizes sc.plan me st n = tiles sc.sizes me st n ticks (omega arith) in
    let next_is : first_of sc.sizes sc.plan me st (n + 1) ≡ last_of sc.sizes sc.plan me st n + 1 = tile.next in
    let all : Every (ComesInWindow sc m2 me i now.0) (entry_of sc m2 me i j) = heard-running hands lawful (suc p) running (omega arith) me i j now.0 now.1 good2 source_good in
    every-to (ComesInWindow sc m2 me i now.0) (λ c. time_of (clock_of sc me i) (last_tick sc m me st) < c.time)
    (λ c h. h.0 (last_tick sc m me st) (omega (arith, epoch, first, next_is))) (entry_of sc m2 me i j) all

in-sync : {sc : _} (hands : List HandIn) → IsLawful sc → (p : ℕ) → IsRunning (moment sc hands (suc p)) → 3 * sync_slot_of sc.sizes ≤ (moment sc hands p).window
    → (moment sc hands p).window + 1 < stages_in sc.sizes → InTime sc (moment sc hands p) (moment sc hands (next_stage sc.sizes (moment sc hands p) p))
in-sync {sc} hands lawful p running from below =
    let m : Moment = moment sc hands p in
    let is : next_stage sc.sizes m p ≡ suc p = next-inner sc.sizes m p below in
    let open_now : IsRunning m = running_earlier sc hands p (suc p) (omega arith) running in
    let well : BegunWell sc m = begun-well hands lawful p open_now in
    subst (λ q. InTime sc m (moment sc hands q)) (sym is) (record {
      keeps = keeps-running hands lawful p open_now;
      room = stage-room hands lawful p well (omega arith);
      heard = heard-running hands lawful p open_now (omega arith);
      order = order-inner hands lawful p well.together below;
    })

-- Over the turn.

turns-at : {sc : _} (hands : List HandIn) → IsLawful sc → (t : ℕ) → (moment sc hands t).window ≡ stages_in sc.sizes → IsRunning (moment sc hands (suc (suc t))) → Turns sc hands t
turns-at {sc} hands lawful t at running = record {
  at = at;
  running = running;
  next = all_know_next hands lawful t (running_earlier sc hands t (suc (suc t)) (omega arith) running) (omega arith);
}

-- between the last stage and the next frame's first window good nodes have begun that frame
begins-frame : {sc : _} (hands : List HandIn) → IsLawful sc → (p : ℕ) → (moment sc hands p).window + 1 ≡ stages_in sc.sizes → IsRunning (moment sc hands (suc (suc (suc p))))
    → HaveBegunAFrame sc (moment sc hands p) (moment sc hands (suc (suc (suc p))))
begins-frame {sc} hands lawful p last running me i before now good then_good =
    let m : Moment = moment sc hands p in
    let t : Moment = moment sc hands (suc p) in
    let later : IsWindowLater sc m t = window-later sc hands m (omega arith) in
    let w : t.window ≡ m.window + 1 = later.window in
    let turns : Turns sc hands (suc p) = turns-at hands lawful (suc p) (omega arith) running in
    let knew : KnewEpoch sc t me i now.epoch = knew-epoch hands lawful (suc p) turns.at running (node-in then_good) in
    let k : KnowsEpoch sc me i knew.st turns.next.0 = turns.next.1 me i knew.st knew.node in
    let same : k.takes.epoch ≡ now.epoch = same_Some k.takes.epoch now.epoch (sym k.takes.known ∙ knew.known) in
    let was : WasGood sc m me i knew.st.epoch =
    was-good hands (omega arith) (moments-stand sc hands p (has_ticks lawful)) (good-in sc t me i knew.node.there knew.node.good) in
    let st_is : was.st ≡ before = same_Some was.st before (sym was.good.0 ∙ good.0) in
    let epoch : knew.st.epoch ≡ before.epoch = was.epoch_is ∙ ap (λ s. s.epoch) st_is in
    let least : knew.st.epoch + tail_start_of sc.sizes sc.plan ≤ k.takes.epoch = k.takes.least in
    omega (arith, same, epoch, least)

-- the last tick of the last stage comes before all good nodes have begun the next frame
stage-ends : {sc hands : _} → IsLawful sc → (p : ℕ) → (moment sc hands p).window + 1 ≡ stages_in sc.sizes → (h : Turns sc hands (suc p))
    → (me : Side) (i : ℕ) {st : _} → slice_get (of_kind me (moment sc hands p).nodes) i ≡ Some st → is_good_at sc (moment sc hands p) me i ≡ true
    → time_of (clock_of sc me i) (last_tick sc (moment sc hands p) me st) < h.next.0 + sc.plan.p
stage-ends {sc} {hands} lawful p last h me i {st} there good =
    let m : Moment = moment sc hands p in
    let t : Moment = moment sc hands (suc p) in
    let ticks : HasTicks sc.plan = has_ticks lawful in
    let good2 : is_good_at sc t me i ≡ true = good-in-sync sc hands me i p (omega arith) (omega arith) good in
    let now = good-state sc hands (suc p) me i ticks good2 in
    let was : WasGood sc m me i now.0.epoch = was-good hands (omega arith) (moments-stand sc hands p ticks) (good-in sc t me i now.1 good2) in
    let same : was.st ≡ st = same_Some was.st st (sym was.good.0 ∙ there) in
    let epoch : now.0.epoch ≡ st.epoch = was.epoch_is ∙ ap (λ s. s.epoch) same in
    let k : KnowsEpoch sc me i now.0 h.next.0 = h.next.1 me i now.0 (good-node sc t me i now.1 good2) in
    let least : now.0.epoch + tail_start_of sc.sizes sc.plan ≤ k.takes.epoch = k.takes.least in
    let ends : last_of sc.sizes sc.plan me st m.window < first_of sc.sizes sc.plan me st (stages_in sc.sizes) =
    ends-before-later sc.sizes me st m.window (stages_in sc.sizes) ticks (omega arith) (omega arith) in
    let first : first_of sc.sizes sc.plan me st (stages_in sc.sizes) ≡ tail_start_of sc.sizes sc.plan = tail-first sc.sizes sc.plan me st in
    before-next t lawful (last_tick sc m me st) now.1 good2 k (omega (arith, epoch, least, ends, first))

in-last : {sc : _} (hands : List HandIn) → IsLawful sc → (p : ℕ) → (moment sc hands p).window + 1 ≡ stages_in sc.sizes → IsRunning (moment sc hands (suc (suc (suc p))))
    → InTime sc (moment sc hands p) (moment sc hands (next_stage sc.sizes (moment sc hands p) p))
in-last {sc} hands lawful p last running =
    let m : Moment = moment sc hands p in
    let later : IsWindowLater sc m (moment sc hands (suc p)) = window-later sc hands m (omega arith) in
    let w : (moment sc hands (suc p)).window ≡ m.window + 1 = later.window in
    let is : next_stage sc.sizes m p ≡ suc (suc (suc p)) = next-outer sc.sizes m p (omega arith) ∙ omega arith in
    let open_now : IsRunning m = running_earlier sc hands p (suc (suc (suc p))) (omega arith) running in
    let well : BegunWell sc m = begun-well hands lawful p open_now in
    let turns : Turns sc hands (suc p) = turns-at hands lawful (suc p) (omega arith) running in
    subst (λ q. InTime sc m (moment sc hands q)) (sym is) (record {
      keeps = keeps-running hands lawful p open_now;
      room = stage-room hands lawful p well (omega arith);
      heard = heard-running hands lawful p open_now (omega arith);
      order = order-outer hands lawful p well.together last (begins-frame hands lawful p last running);
    })

last-later : {sc : _} (hands : List HandIn) → IsLawful sc → (p : ℕ) → (moment sc hands p).window + 1 ≡ stages_in sc.sizes → IsRunning (moment sc hands (suc (suc (suc p)))) → AllLater sc hands p
last-later {sc} hands lawful p last running =
    let m : Moment = moment sc hands p in
    let later : IsWindowLater sc m (moment sc hands (suc p)) = window-later sc hands m (omega arith) in
    let w : (moment sc hands (suc p)).window ≡ m.window + 1 = later.window in
    let is : next_stage sc.sizes m p ≡ suc (suc (suc p)) = next-outer sc.sizes m p (omega arith) ∙ omega arith in
    let turns : Turns sc hands (suc p) = turns-at hands lawful (suc p) (omega arith) running in
    later-is sc hands p is
    (λ me i j st there good source_good.
    let source = good-state sc hands (suc (suc (suc p))) (other me) j (has_ticks lawful) source_good in
    let end : time_of (clock_of sc me i) (last_tick sc m me st) < turns.next.0 + sc.plan.p = stage-ends lawful p last turns me i there good in
    every-to (λ c. turns.next.0 + sc.plan.p ≤ c.time) (λ c. time_of (clock_of sc me i) (last_tick sc m me st) < c.time) (λ c le. omega arith)
    (entry_of sc (moment sc hands (suc (suc (suc p)))) me i j) (sent-after-all lawful turns me i j source.1 source_good))

tail-later : {sc : _} (hands : List HandIn) → IsLawful sc → (p : ℕ) → (moment sc hands p).window ≡ stages_in sc.sizes → IsRunning (moment sc hands (suc (suc p))) → AllLater sc hands p
tail-later {sc} hands lawful p at running =
    let m : Moment = moment sc hands p in
    let is : next_stage sc.sizes m p ≡ suc (suc p) = next-outer sc.sizes m p (omega arith) ∙ omega arith in
    let turns : Turns sc hands p = turns-at hands lawful p at running in
    later-is sc hands p is
    (λ me i j st there good source_good.
    let source = good-state sc hands (suc (suc p)) (other me) j (has_ticks lawful) source_good in
    let end : time_of (clock_of sc me i) (last_tick sc m me st) < turns.next.0 + sc.plan.p = tail-ends lawful turns me i there good in
    every-to (λ c. turns.next.0 + sc.plan.p ≤ c.time) (λ c. time_of (clock_of sc me i) (last_tick sc m me st) < c.time) (λ c le. omega arith)
    (entry_of sc (moment sc hands (suc (suc p))) me i j) (sent-after-all lawful turns me i j source.1 source_good))

in-tail : {sc : _} (hands : List HandIn) → IsLawful sc → (p : ℕ) → (moment sc hands p).window ≡ stages_in sc.sizes → IsRunning (moment sc hands (suc (suc p)))
    → InTime sc (moment sc hands p) (moment sc hands (next_stage sc.sizes (moment sc hands p) p))
in-tail {sc} hands lawful p at running =
    let m : Moment = moment sc hands p in
    let is : next_stage sc.sizes m p ≡ suc (suc p) = next-outer sc.sizes m p (omega arith) ∙ omega arith in
    let open_now : IsRunning m = running_earlier sc hands p (suc (suc p)) (omega arith) running in
    let turns : Turns sc hands p = turns-at hands lawful p at running in
    subst (λ q. InTime sc m (moment sc hands q)) (sym is) (record {
      keeps = keeps-running hands lawful p open_now;
      room = tail-room hands lawful p open_now at;
      heard = heard-running hands lawful p open_now (omega arith);
      order = λ me you i j mine yours there good other_there other_good.
          let end : time_of (clock_of sc me i) (last_tick sc m me mine) < turns.next.0 + sc.plan.p = tail-ends lawful turns me i there good in
          let begin : turns.next.0 + sc.plan.p ≤ time_of (clock_of sc you j) (last_tick sc (moment sc hands (suc (suc p))) you yours) =
          closes-after-all lawful turns you j other_there other_good in
          omega arith;
    })

-- in a run that has not ended by the next stage good nodes are in time in each window, and what is
-- sent in the next stage comes later
pub record Running (sc : Scenario) (hands : List HandIn) (p : ℕ) : Type 0 where
  pub times : InTime sc (moment sc hands p) (moment sc hands (next_stage sc.sizes (moment sc hands p) p))
  pub later : AllLater sc hands p

pub in-running : {sc : _} (hands : List HandIn) → IsLawful sc → (p : ℕ) → (moment sc hands p).window ≤ stages_in sc.sizes
    → IsRunning (moment sc hands (next_stage sc.sizes (moment sc hands p) p)) → Running sc hands p
in-running {sc} hands lawful p within running =
    let m : Moment = moment sc hands p in
    let stage : NextIsStage sc hands p = next-is-stage sc hands p within in
    let open_now : IsRunning m = running_earlier sc hands p (next_stage sc.sizes m p) (omega (arith, stage.later)) running in
    elim (cases_lt (m.window + 1) (stages_in sc.sizes)) [
      | inl inner ↦ elim (cases_lt m.window (3 * sync_slot_of sc.sizes)) [
        | inl exact ↦
            let well : BegunWell sc m = begun-well hands lawful p open_now in
            record { times = in-exact hands lawful p well (omega arith); later = exact-later hands lawful p well (omega arith) }
        | inr sync ↦
            let on : IsRunning (moment sc hands (suc p)) = subst (λ q. IsRunning (moment sc hands q)) (next-inner sc.sizes m p inner) running in
            record { times = in-sync hands lawful p on sync inner; later = later-is sc hands p (next-inner sc.sizes m p inner) (later-sync hands lawful p on sync inner) }
      ]
      | inr outer ↦ elim (cases_lt m.window (stages_in sc.sizes)) [
        | inl last ↦
            let is : next_stage sc.sizes m p ≡ suc (suc (suc p)) = next-outer sc.sizes m p outer ∙ omega arith in
            let on : IsRunning (moment sc hands (suc (suc (suc p)))) = subst (λ q. IsRunning (moment sc hands q)) is running in
            record { times = in-last hands lawful p (omega arith) on; later = last-later hands lawful p (omega arith) on }
        | inr tail ↦
            let is : next_stage sc.sizes m p ≡ suc (suc p) = next-outer sc.sizes m p outer ∙ omega arith in
            let on : IsRunning (moment sc hands (suc (suc p))) = subst (λ q. IsRunning (moment sc hands q)) is running in
            record { times = in-tail hands lawful p (omega arith) on; later = tail-later hands lawful p (omega arith) on }
      ]
    ]

-- At the start.

pub first-running : (sc : Scenario) (hands : List HandIn) → IsRunning (moment sc hands 0)
unfolding begin_frame with_frame
first-running sc hands = refl
