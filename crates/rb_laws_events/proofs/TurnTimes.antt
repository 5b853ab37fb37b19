-- For the law that events are rounds: over the turn of a run that has not ended, what good nodes
-- send in the next frame comes after all windows of this one, and no good node closes its first
-- window before all good nodes have begun the frame.
use Rattle.std.proofs.{Common.{◌≡◌, ℕ, zero, suc, ◌+◌, ◌*◌, ◌-◌, ◌≤◌, ◌<◌, true, List, refl, ap, sym, ◌∙◌, subst, arith, Option, Some, None, slice_get, option_map, option_to_list, unwrap_or}, lemmas.Option.same_Some}
use Rattle.rb_base.specs.{Nodes.{Side, other}, declared.values.Place.Place}
use Rattle.rb_rules.specs.{Book.of_kind, Clock.{Timeline, time_of}, Goodness.{Scenario, clock_of}, Hearing.{Sending, coming_of}, Lawful.IsLawful, Links.{delay_of, name_of}, Moments.IsRunning, Plan.{f0_of, shortest_of, tail_start_of}, Ports.HandIn, Rounds.{Moment, moment}}
use Rattle.rb_rules.proofs.Middles.{IsBetween}
use Rattle.rb_laws_synchrony.proofs.{PlanNumbers.drift_of, StageCalls.clock_now, Synchronous.{KnowNext, KnowsEpoch}, Times.{Steady, lawful_fits, plan_fits}}
use Rattle.rb_laws_events.specs.Closing.{stages_in}
use Rattle.rb_laws_events.proofs.{CloseOrder.{IsFrameLater, IsWindowLater, frame-later, window-later}, FrameTimes.{KnewEpoch, good-node, knew-epoch}, Invariant.{entry_of, is_good_at, last_tick, sending_of, word_at}, NodeSends.{sending_at, sent-exactly}, NodeTicks.tail-last, ReceiverHears.way-least, SameHeard.Every, SentChanges.sending-of-is, StageOrder.{last_of, last-same}}

-- moment `t` is the tail of a frame, and its good nodes know when they begin the next one
pub record Turns (sc : Scenario) (hands : List HandIn) (t : ℕ) : Type 0 where
  pub at : (moment sc hands t).window ≡ stages_in sc.sizes
  pub running : IsRunning (moment sc hands (suc (suc t)))
  pub next : KnowNext sc (moment sc hands t)

-- a node that is good in the first window of the next frame begins that frame between these times
begins-between : {sc hands : _} → IsLawful sc → {t : ℕ} (h : Turns sc hands t) (me : Side) (i : ℕ) {now : _}
    → slice_get (of_kind me (moment sc hands (suc (suc t))).nodes) i ≡ Some now → is_good_at sc (moment sc hands (suc (suc t))) me i ≡ true
    → IsBetween h.next.0 (h.next.0 + sc.plan.p) (time_of (clock_of sc me i) now.epoch)
begins-between {sc} {hands} lawful {t} h me i {now} there good =
    let knew : KnewEpoch sc (moment sc hands t) me i now.epoch =
    knew-epoch hands lawful t h.at h.running (good-node sc (moment sc hands (suc (suc t))) me i there good) in
    let k : KnowsEpoch sc me i knew.st h.next.0 = h.next.1 me i knew.st knew.node in
    let same : k.takes.epoch ≡ now.epoch = same_Some k.takes.epoch now.epoch (sym k.takes.known ∙ knew.known) in
    subst (λ e. IsBetween h.next.0 (h.next.0 + sc.plan.p) (time_of (clock_of sc me i) e)) same k.between

in-first : (sc : Scenario) (hands : List HandIn) (t : ℕ) → (moment sc hands t).window ≡ stages_in sc.sizes → (moment sc hands (suc (suc t))).window ≡ 0
in-first sc hands t at =
    let w : IsWindowLater sc (moment sc hands t) (moment sc hands (suc t)) = window-later sc hands (moment sc hands t) (omega arith) in
    let e : (moment sc hands (suc t)).window ≡ (moment sc hands t).window + 1 = w.window in
    let f : IsFrameLater sc hands (moment sc hands (suc t)) (moment sc hands (suc (suc t))) = frame-later sc hands (moment sc hands (suc t)) (omega arith) in
    f.window

-- what good nodes send in the first window of the next frame comes after all good nodes have begun
-- it
arrives-late : (low p f h u d dmin begin sent e : ℕ) → p + d * (f + h) ≤ h * u + dmin → low ≤ begin → begin + h * u ≤ sent → sent + dmin ≤ e → low + p ≤ e
arrives-late low p f h u d dmin begin sent e room from later way = omega (arith, room, from, later, way)

pub sent-after-all : {sc hands : _} → IsLawful sc → {t : ℕ} (h : Turns sc hands t) (me : Side) (i j : ℕ) {source : _}
    → slice_get (of_kind (other me) (moment sc hands (suc (suc t))).nodes) j ≡ Some source → is_good_at sc (moment sc hands (suc (suc t))) (other me) j ≡ true
    → Every (λ c. h.next.0 + sc.plan.p ≤ c.time) (entry_of sc (moment sc hands (suc (suc t))) me i j)
sent-after-all {sc} {hands} lawful {t} h me i j {source} there good =
    let m2 : Moment = moment sc hands (suc (suc t)) in
    let clock : Timeline = clock_of sc (other me) j in
    let first : m2.window ≡ 0 = in-first sc hands t h.at in
    let begin : IsBetween h.next.0 (h.next.0 + sc.plan.p) (time_of clock source.epoch) = begins-between lawful h (other me) j there good in
    let steady : Steady (shortest_of sc.plan) (drift_of sc.plan) clock = clock_now lawful (good-node sc m2 (other me) j there good) in
    let fit : plan_fits sc = lawful_fits lawful in
    let so_is : sending_of sc m2 (other me) j ≡ sending_at sc.sizes sc.plan (other me) j source m2.window (word_at sc m2 (other me) j source) = sending-of-is sc m2 (other me) j there in
    let by : (s : Option Sending) → sending_of sc m2 (other me) j ≡ s → Every (λ c. h.next.0 + sc.plan.p ≤ c.time) (option_to_list (option_map (coming_of sc me i j m2.frame) s)) =
    λ s. elim s as (λ s. sending_of sc m2 (other me) j ≡ s → Every (λ c. h.next.0 + sc.plan.p ≤ c.time) (option_to_list (option_map (coming_of sc me i j m2.frame) s))) [
      | None ↦ λ e. tt
      | Some x ↦ λ e.
          let tick : x.tick ≡ source.epoch + m2.window * sc.plan.l + sc.plan.h =
          sent-exactly sc.sizes sc.plan (other me) j source m2.window (word_at sc m2 (other me) j source) (omega arith) (sym so_is ∙ e) in
          let none : m2.window * sc.plan.l ≡ 0 * sc.plan.l = ap (λ n. n * sc.plan.l) first in
          let tick_is : source.epoch + sc.plan.h ≡ x.tick = omega (arith, tick, none) in
          let later : time_of clock source.epoch + sc.plan.h * shortest_of sc.plan ≤ time_of clock x.tick =
          subst (λ k. time_of clock source.epoch + sc.plan.h * shortest_of sc.plan ≤ time_of clock k) tick_is (steady.not_early source.epoch sc.plan.h) in
          let place : Place = record { frame = m2.frame; slot = x.message.slot; stage = x.message.stage } in
          let delay : sc.plan.dmin ≤ delay_of sc.delays (name_of (other me) j) (name_of me i) place = way-least lawful (name_of (other me) j) (name_of me i) place in (
            arrives-late h.next.0 sc.plan.p (f0_of sc.sizes sc.plan) sc.plan.h (shortest_of sc.plan) (drift_of sc.plan) sc.plan.dmin (time_of clock source.epoch)
                (time_of clock x.tick) (coming_of sc me i j m2.frame x).time fit.before_1 begin.least later (omega arith),
            tt,
          )
    ] in
    by (sending_of sc m2 (other me) j) refl

-- a node's last tick before the next frame comes before all good nodes have begun that frame
pub before-next : {sc : _} (m : Moment) → IsLawful sc → {me i : _} (last : ℕ) {later st : _} → slice_get (of_kind me m.nodes) i ≡ Some st → is_good_at sc m me i ≡ true
    → (k : KnowsEpoch sc me i st later) → last < k.takes.epoch → time_of (clock_of sc me i) last < later + sc.plan.p
before-next {sc} m lawful {me} {i} last {later} there good k lt =
    let clock : Timeline = clock_of sc me i in
    let steady : Steady (shortest_of sc.plan) (drift_of sc.plan) clock = clock_now lawful (good-node sc m me i there good) in
    let gap : ℕ = k.takes.epoch - last in
    let is : last + gap ≡ k.takes.epoch = omega arith in
    let on : time_of clock last + gap * shortest_of sc.plan ≤ time_of clock k.takes.epoch =
    subst (λ n. time_of clock last + gap * shortest_of sc.plan ≤ time_of clock n) is (steady.not_early last gap) in
    let some : 1 ≤ shortest_of sc.plan = (lawful_fits lawful).some in
    let most : time_of clock k.takes.epoch ≤ later + sc.plan.p = k.between.most in
    some-time gap (shortest_of sc.plan) (time_of clock last) (time_of clock k.takes.epoch) (later + sc.plan.p) (omega arith) some on most
  where
    some-time : (gap u a b c : ℕ) → 1 ≤ gap → 1 ≤ u → a + gap * u ≤ b → b ≤ c → a < c
    some-time zero u a b c h some on most = absurd (omega arith)
    some-time (suc gap) u a b c h some on most = let e : suc gap * u ≡ u + gap * u = omega arith in omega (arith, e, some, on, most)

-- the last tick of a good node's tail comes less than p after the first time of the next frame
pub tail-ends : {sc hands : _} → IsLawful sc → {t : ℕ} (h : Turns sc hands t) (me : Side) (i : ℕ) {st : _}
    → slice_get (of_kind me (moment sc hands t).nodes) i ≡ Some st → is_good_at sc (moment sc hands t) me i ≡ true
    → time_of (clock_of sc me i) (last_tick sc (moment sc hands t) me st) < h.next.0 + sc.plan.p
tail-ends {sc} {hands} lawful {t} h me i {st} there good =
    let m : Moment = moment sc hands t in
    let k : KnowsEpoch sc me i st h.next.0 = h.next.1 me i st (good-node sc m me i there good) in
    let last : last_of sc.sizes sc.plan me st m.window ≡ k.takes.epoch - st.epoch - 1 =
    ap (last_of sc.sizes sc.plan me st) h.at ∙ tail-last sc.sizes sc.plan me st ∙ ap (λ o. unwrap_or o 0 - st.epoch - 1) k.takes.known in
    let least : st.epoch + tail_start_of sc.sizes sc.plan ≤ k.takes.epoch = k.takes.least in
    let some : 1 ≤ sc.plan.l = lawful.plan.l.0 in
    before-next m lawful (last_tick sc m me st) there good k (omega (arith, last, least, some))

-- no node closes the first window of the next frame before all good nodes have begun that frame
pub closes-after-all : {sc hands : _} → IsLawful sc → {t : ℕ} (h : Turns sc hands t) (me : Side) (i : ℕ) {now : _}
    → slice_get (of_kind me (moment sc hands (suc (suc t))).nodes) i ≡ Some now → is_good_at sc (moment sc hands (suc (suc t))) me i ≡ true
    → h.next.0 + sc.plan.p ≤ time_of (clock_of sc me i) (last_tick sc (moment sc hands (suc (suc t))) me now)
closes-after-all {sc} {hands} lawful {t} h me i {now} there good =
    let m2 : Moment = moment sc hands (suc (suc t)) in
    let clock : Timeline = clock_of sc me i in
    let begin : IsBetween h.next.0 (h.next.0 + sc.plan.p) (time_of clock now.epoch) = begins-between lawful h me i there good in
    let steady : Steady (shortest_of sc.plan) (drift_of sc.plan) clock = clock_now lawful (good-node sc m2 me i there good) in
    let fit : plan_fits sc = lawful_fits lawful in
    let first : m2.window ≡ 0 = in-first sc hands t h.at in
    let some : 1 ≤ sc.plan.l = lawful.plan.l.0 in
    let last : last_of sc.sizes sc.plan me now m2.window ≡ m2.window * sc.plan.l + sc.plan.l - 1 = last-same sc.sizes sc.plan me now m2.window (omega arith) in
    let none : m2.window * sc.plan.l ≡ 0 * sc.plan.l = ap (λ n. n * sc.plan.l) first in
    let is : now.epoch + (sc.plan.l - 1) ≡ last_tick sc m2 me now = omega (arith, last, none) in
    let on : time_of clock now.epoch + (sc.plan.l - 1) * shortest_of sc.plan ≤ time_of clock (last_tick sc m2 me now) =
    subst (λ k. time_of clock now.epoch + (sc.plan.l - 1) * shortest_of sc.plan ≤ time_of clock k) is (steady.not_early now.epoch (sc.plan.l - 1)) in
    let l_is : sc.plan.l ≡ sc.plan.l - 1 + 1 = omega arith in
    let room : sc.plan.p + drift_of sc.plan * (f0_of sc.sizes sc.plan + sc.plan.h) + sc.plan.dmax + (1 + sc.plan.h) * shortest_of sc.plan ≤ (sc.plan.l - 1 + 1) * shortest_of sc.plan =
    subst (λ l. sc.plan.p + drift_of sc.plan * (f0_of sc.sizes sc.plan + sc.plan.h) + sc.plan.dmax + (1 + sc.plan.h) * shortest_of sc.plan ≤ l * shortest_of sc.plan) l_is fit.after_1 in
    waits h.next.0 sc.plan.p (f0_of sc.sizes sc.plan) sc.plan.h (sc.plan.l - 1) (shortest_of sc.plan) (drift_of sc.plan) sc.plan.dmax (time_of clock now.epoch)
    (time_of clock (last_tick sc m2 me now)) room begin.least on
  where
    waits : (low p f h k u d dmax begin end : ℕ) → p + d * (f + h) + dmax + (1 + h) * u ≤ (k + 1) * u → low ≤ begin → begin + k * u ≤ end → low + p ≤ end
    waits low p f h k u d dmax begin end room from on = omega (arith, room, from, on)
