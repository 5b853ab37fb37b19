-- For the law that events are rounds if the premise on faults is broken in a sync slot: how a node
-- goes on if the run breaks off with the last stage of the sync slot. After its row the node may
-- enter the next frame, and what it says comes to those that listen after their last tick.
use Rattle.std.proofs.{Common.{◌≡◌, ℕ, ◌+◌, ◌*◌, ◌-◌, ◌<◌, ◌≤◌, Bool, true, List, refl, ap, sym, ◌∙◌, subst, arith, inl, inr, Some, slice_get, lit<}, lemmas.Bool.{cases_lt, true≢false}}
use Rattle.rb_base.specs.{Nodes.{Side, other}, Nodes.Side.{Biu, Rmu}, Sizes.sync_slot_of, declared.values.Place.Place}
use Rattle.rb_rules.specs.{declared.message.Message.Message, declared.plan.Window.Window, declared.role.Role.TheVariants.Sync, Book.of_kind, Clock.time_of, Goodness.{Scenario, clock_of, is_good}, Hearing.{coming_of}, Lawful.IsLawful, Links.{delay_of, name_of}, Moments.IsRunning, Plan.tail_start_of, Ports.{HandIn, PortState}, Rounds.{Moment, IsGoodIn, moment, window_in}, Slots.{listens, same_side}, SyncStage.new_epoch_of, WorldStep.{Site, Timed, pass_and_tick}}
use Rattle.rb_rules.proofs.Drift.{times_rise_to}
use Rattle.rb_laws_agreement.proofs.{NodeWindows.{Windows, sync_windows_are}, FrameTimes.good-clock}
use Rattle.rb_laws_synchrony.proofs.{NextMessages.next_message, Synchrony.{IsSynchronous, synchrony}, TakenCalls.{IsStage, is_set}}
use Rattle.rb_laws_events.proofs.{BreakEnters.TickBreaks, BreakKeeps.TellsOn, BreakSites.WaitsAhead, CloseOrder.{shortest-some, times-apart}, FrameTimes.{BegunWell, begun-well, good-node}, Invariant.{is_good_at, last_tick}, LastEnds.{deaf-last, hearing-last, third-stage}, LastSites.{Beyond, HasToldLast, told-arrives}, LastTicks.{told-goes, told-ticks}, NodeActs.HasRoom, PlanNumbers.fits, ReceiverHears.way-least, RoundNodes.slot-is, StageOrder.{Apart, apart-turn, last_of, last-same}}

-- Times.

-- no good node comes to the last tick of the first window of its next frame as long as another
-- waits for its last tick of the stage
pub closes-later : {sc : _} (hands : List HandIn) → IsLawful sc → (p : ℕ) → IsRunning (moment sc hands p) → (moment sc hands p).window ≡ 3 * sync_slot_of sc.sizes + 2
    → (you : Side) (j : ℕ) {yours : _} → slice_get (of_kind you (moment sc hands p).nodes) j ≡ Some yours → is_good_at sc (moment sc hands p) you j ≡ true
    → (me : Side) (i : ℕ) {st : _} → slice_get (of_kind me (moment sc hands p).nodes) i ≡ Some st → is_good_at sc (moment sc hands p) me i ≡ true
    → (x k : ℕ) → st.epoch + tail_start_of sc.sizes sc.plan ≤ x → time_of (clock_of sc me i) k ≤ time_of (clock_of sc you j) (last_tick sc (moment sc hands p) you yours) → k + 1 < x + sc.plan.l
closes-later {sc} hands lawful p running at you j {yours} there2 good2 me i {st} there good x k low le =
    let m : Moment = moment sc hands p in
    let well : BegunWell sc m = begun-well hands lawful p running in
    let a : ℕ = last_of sc.sizes sc.plan you yours m.window in
    let b : ℕ = tail_start_of sc.sizes sc.plan + last_of sc.sizes sc.plan me st 0 in
    let yours_good : IsGoodIn sc m you j yours = (there2, ap (is_good sc you j m.frame) (slot-is sc.sizes sc.plan you yours m.window) ∙ good2) in
    let mine_good : IsGoodIn sc m me i st = (there, ap (is_good sc me i m.frame) (slot-is sc.sizes sc.plan me st m.window) ∙ good) in
    let rooms : Apart sc.plan a b =
    subst (λ w. Apart sc.plan (last_of sc.sizes sc.plan you yours w) b) (sym at)
    (apart-turn you me yours st (fits lawful.plan lawful.feasible) lawful.plan.l.0 (shortest-some lawful)) in
    let early : time_of (clock_of sc you j) (yours.epoch + a) < time_of (clock_of sc me i) (st.epoch + b) =
    times-apart lawful (clock_of sc you j) (clock_of sc me i) yours.epoch st.epoch (good-clock lawful you j m.frame (window_in sc m you yours).slot yours_good.1)
    (good-clock lawful me i m.frame (window_in sc m me st).slot mine_good.1) (well.together you me j i yours st yours_good mine_good) rooms in
    let last : last_of sc.sizes sc.plan me st 0 ≡ 0 * sc.plan.l + sc.plan.l - 1 = last-same sc.sizes sc.plan me st 0 (omega arith) in
    let some : 1 ≤ sc.plan.l = lawful.plan.l.0 in
    elim (cases_lt k (st.epoch + b)) [
      | inl lt ↦ omega (arith, lt, last, low, some)
      | inr ge ↦
          let up : time_of (clock_of sc me i) (st.epoch + b) ≤ time_of (clock_of sc me i) k = times_rise_to (clock_of sc me i) (st.epoch + b) k ge in
          absurd (omega (arith, up, early, le))
    ]

-- what a BIU says in the first window of its next frame comes after the last tick of the stage at
-- any RMU
comes-later : {sc : _} (hands : List HandIn) → IsLawful sc → (p : ℕ) → IsRunning (moment sc hands p) → (at : (moment sc hands p).window ≡ 3 * sync_slot_of sc.sizes + 2)
    → (n : ℕ) {yours : _} → slice_get (of_kind Rmu (moment sc hands p).nodes) n ≡ Some yours → is_good_at sc (moment sc hands p) Rmu n ≡ true
    → (i : ℕ) {st : _} → slice_get (of_kind Biu (moment sc hands p).nodes) i ≡ Some st → is_good_at sc (moment sc hands p) Biu i ≡ true
    → {x : ℕ} (k frame : ℕ) (msg : Message) → new_epoch_of sc.plan Biu st ≡ Some x → x + sc.plan.h ≤ k
    → time_of (clock_of sc Rmu n) (last_tick sc (moment sc hands p) Rmu yours) < (coming_of sc Rmu n i frame (record { tick = k; message = msg })).time
comes-later {sc} hands lawful p running at n {yours} there2 good2 i there good {x} k frame msg known late =
    let m : Moment = moment sc hands p in
    let s : IsSynchronous sc hands p = synchrony hands lawful p running in
    let c : IsStage sc hands p m s.shared 2 = record { law = lawful; agree = s.agree; small = lit< tt; at = at } in
    let ws : Windows sc m (sync_slot_of sc.sizes) 3 = sync_windows_are sc m 2 (lit< tt) at in
    let before : time_of (clock_of sc Rmu n) (yours.epoch + (is_set c).ws.last Rmu yours) < time_of (clock_of sc Biu i) (x + sc.plan.h) + sc.plan.dmin =
    next_message (is_set c) at s.near (good-node sc m Rmu n there2 good2) (good-node sc m Biu i there good) known in
    let its_last : (is_set c).ws.last Rmu yours ≡ last_of sc.sizes sc.plan Rmu yours m.window = sym (ap (λ (w : Window). w.last) ((is_set c).ws.are Rmu yours)) in
    let end : time_of (clock_of sc Rmu n) (yours.epoch + (is_set c).ws.last Rmu yours) ≡ time_of (clock_of sc Rmu n) (last_tick sc m Rmu yours) =
    ap (λ o. time_of (clock_of sc Rmu n) (yours.epoch + o)) its_last in
    let up : time_of (clock_of sc Biu i) (x + sc.plan.h) ≤ time_of (clock_of sc Biu i) k = times_rise_to (clock_of sc Biu i) (x + sc.plan.h) k late in
    let place : Place = record { frame = frame; slot = msg.slot; stage = msg.stage } in
    let delay : sc.plan.dmin ≤ delay_of sc.delays (name_of Biu i) (name_of Rmu n) place = way-least lawful (name_of Biu i) (name_of Rmu n) place in
    omega (arith, before, end, up, delay)

-- A due tick.

-- a node that has told its row ends no stage with its tick
pub before-end : {sc hands sent : _} → IsLawful sc → {ports p : _} → IsRunning (moment sc hands p) → (moment sc hands p).window ≡ 3 * sync_slot_of sc.sizes + 2
    → {me i s a : _} → TickBreaks sc hands sent ports p me i s a → (h : HasToldLast sc hands me i p s) → a.tick + 1 < h.course.x + sc.plan.l
before-end {sc} {hands} lawful {p} running at {me} {i} {a} t h =
    let at_time : a.time ≡ time_of (clock_of sc me i) a.tick = (h.course.ahead a t.pend).at_time in
    let first : a.time ≤ time_of (clock_of sc t.you t.j) (last_tick sc (moment sc hands p) t.you t.yours) = t.first in
    closes-later hands lawful p running at t.you t.j t.there t.good me i h.state h.good h.course.x a.tick h.course.low (omega (arith, at_time, first))

told-late : {sc : Scenario} {hands : List HandIn} → IsLawful sc → HasRoom sc.plan → {sent : Side → ℕ → ℕ → Bool} {ports : List PortState} {p : ℕ} → IsRunning (moment sc hands p)
    → (moment sc hands p).window ≡ 3 * sync_slot_of sc.sizes + 2 → (me : Side) {i : ℕ} {s : Site} {a : Timed} → TickBreaks sc hands sent ports p me i s a → HasToldLast sc hands me i p s
    → (frame : ℕ) (side : Side) (n : ℕ) (z : Site) (w : WaitsAhead sc hands sent side n p z) → same_side side (other me) ≡ true
    → (msg : Message) → (pass_and_tick sc ports me i a.tick s.core).message ≡ Some msg → w.waits.a.time < (coming_of sc side n i frame (record { tick = a.tick; message = msg })).time
told-late lawful room running at Biu t h frame Biu n z w kind msg e = cc
told-late lawful room running at Rmu t h frame Rmu n z w kind msg e = cc
told-late {sc} {hands} lawful room {p} running at Rmu t h frame Biu n z w kind msg e =
    absurd (true≢false (sym w.waits.hears ∙ ap (listens Biu Sync) (third-stage sc (moment sc hands p) at Biu w.waits.st)))
told-late {sc} {hands} lawful room {ports} {p} running at Biu {i} {a} t h frame Rmu n z w kind msg e =
    let m : Moment = moment sc hands p in
    let late : h.course.x + sc.plan.h ≤ a.tick = (told-goes ports room h t.pend (before-end lawful running at t h)).message refl msg e in
    let comes : time_of (clock_of sc Rmu n) (last_tick sc m Rmu w.waits.st) < (coming_of sc Rmu n i frame (record { tick = a.tick; message = msg })).time =
    comes-later hands lawful p running at n w.waits.stands.state w.waits.stands.good i h.state h.good a.tick frame msg (h.course.calls refl) late in
    let at_time : w.waits.a.time ≡ time_of (clock_of sc Rmu n) w.waits.a.tick = w.waits.stands.receives.at_time in
    let its : time_of (clock_of sc Rmu n) w.waits.a.tick ≡ time_of (clock_of sc Rmu n) (last_tick sc m Rmu w.waits.st) = ap (time_of (clock_of sc Rmu n)) w.waits.last in
    omega (arith, comes, at_time, its)

pub last-tells : {sc : _} → IsLawful sc → HasRoom sc.plan → TellsOn sc 2 (Beyond sc)
last-tells lawful room = record {
  ahead = λ hands b me i s a h e. let next = h.course.ahead a e in (next.had, next.at_time);
  arrives = told-arrives;
  hears = λ hands b off sent now ports me i s h frame. hearing-last lawful room ports off.running off.window h frame;
  deaf = λ hands b off ports me i s h. deaf-last lawful room ports off.running off.window h;
  ticks = λ hands b off sent ports me i s a t h. told-ticks ports room h t.pend (before-end lawful off.running off.window t h);
  late = λ hands b off sent ports me i s a t h. told-late lawful room off.running off.window me t h;
}
