-- For the law that events are rounds: what a timely window and epochs that are close together give
-- of being in time.
use Rattle.std.proofs.{Common.{◌≡◌, ℕ, suc, ◌+◌, ◌*◌, ◌<◌, ◌≤◌, true, false, All, List, [], ◌∷◌, refl, ap, sym, ◌∙◌, subst, arith, inl, Some, slice_get, Option, None, option_map, option_to_list, ◌-◌}, lemmas.List.Elements.{All-head, All-tail}, Math.Nat.{add-mul, mul-add}, lemmas.Nat.mul-le}
use Rattle.rb_base.specs.{Nodes.{Side, other}, declared.values.Place.Place, Sizes.sync_slot_of}
use Rattle.rb_rules.specs.{declared.plan.Window.Window, Book.of_kind, Clock.{IsStamp, Timeline, stamp_of, time_of}, Goodness.{Scenario, is_good, clock_of}, Hearing.{Coming, said_by, span_of, Sending, coming_of}, Lawful.IsLawful, NodeState.NodeState, Ports.HandIn, Rounds.{IsGoodIn, IsTickOf, IsTimely, Moment, heard_at, moment, sent_in, window_in}, Links.{delay_of, name_of}, Plan.{f0_of, longest_of, shortest_of, skew_of}}
use Rattle.rb_rules.proofs.{Drift.{times_rise_to, HasLengths, drift}, Stamps.{Moves, stamp_of-is}}
use Rattle.rb_laws_events.specs.Closing.{CloseInOrder, HaveBegunAFrame, HaveBegunTogether, stages_in}
use Rattle.rb_laws_events.proofs.{CloseOrder.{next-in-order, turn-in-order, IsWindowLater, WasGood, shortest-some, was-good, window-later}, Invariant.{ComesInWindow, entry_of, is_good_at, last_tick, word_at, sending_of}, NodeCloses.heard-all, RoundNodes.{slot-is, moments-stand, slot_numbered}, SameHeard.Every, PlanNumbers.{Fits, fits}, StageOrder.{last_of, last-same}, NodeSends.{sending_at, sent-exactly}, SentChanges.sending-of-is, ReceiverHears.{way-least, way-most}, SayLists.every-to, TickWindows.{first-same, first_of}}
use Rattle.rb_laws_agreement.proofs.{FrameTimes.good-clock, ExactAgrees.has_ticks}

-- Good nodes.

pub good-in : (sc : Scenario) (m : Moment) (me : Side) (i : ℕ) {st : _} → slice_get (of_kind me m.nodes) i ≡ Some st → is_good_at sc m me i ≡ true → IsGoodIn sc m me i st
good-in sc m me i {st} there good = (there, ap (is_good sc me i m.frame) (slot-is sc.sizes sc.plan me st m.window) ∙ good)

-- Messages.

every-of-all : (P : Coming → Type 0) (xs : List Coming) → All P xs → Every P xs
every-of-all P [] all = tt
every-of-all P (x ∷ xs) all = (All-head P x xs all, every-of-all P xs (All-tail P x xs all))

-- what good sources send in a timely window comes in it
pub timely-heard : {sc m : _} (me : Side) (i j : ℕ) {st source : _} → Moves (clock_of sc me i) → IsTimely sc m
    → slice_get (of_kind me m.nodes) i ≡ Some st → is_good_at sc m me i ≡ true → st.frame ≡ m.frame
    → slice_get (of_kind (other me) m.nodes) j ≡ Some source → is_good_at sc m (other me) j ≡ true → Every (ComesInWindow sc m me i st) (entry_of sc m me i j)
timely-heard {sc} {m} me i j {st} {source} moves timely there good frame source_there source_good =
    let clock : Timeline = clock_of sc me i in
    let w : Window = window_in sc m me st in
    let entry : entry_of sc m me i j ≡ heard_at sc me i st w (sent_in sc m) j =
    sym (ap (λ b. elim b as (λ _. List Coming) [ true ↦ entry_of sc m me i j | false ↦ said_by sc me i (span_of st w) j ]) source_good)
    ∙ heard-all sc m me i j st (λ j. true) frame (λ g. inl refl) in
    let all : Every (λ c. IsTickOf (span_of st w) (stamp_of clock c.time)) (heard_at sc me i st w (sent_in sc m) j) =
    every-of-all (λ c. IsTickOf (span_of st w) (stamp_of clock c.time)) (heard_at sc me i st w (sent_in sc m) j)
    (timely.heard me i j st source (good-in sc m me i there good) (good-in sc m (other me) j source_there source_good)) in
    subst (Every (ComesInWindow sc m me i st)) (sym entry)
    (every-to (λ c. IsTickOf (span_of st w) (stamp_of clock c.time)) (ComesInWindow sc m me i st)
    (λ c tick.
    let is : IsStamp clock c.time (stamp_of clock c.time) = stamp_of-is clock moves c.time in
    let up : time_of clock (stamp_of clock c.time) ≤ time_of clock (last_tick sc m me st) = times_rise_to clock (stamp_of clock c.time) (last_tick sc m me st) tick.1 in
    (λ k e. let before : k < stamp_of clock c.time = omega (arith, tick.0, e) in is.least k before, omega (arith, up, is.reached)))
    (heard_at sc me i st w (sent_in sc m) j) all)

-- The order of closes.

pub order-from : (sc : Scenario) (m next : Moment) → CloseInOrder sc m next → (me you : Side) (i j : ℕ) (mine yours : NodeState)
    → slice_get (of_kind me m.nodes) i ≡ Some mine → is_good_at sc m me i ≡ true → slice_get (of_kind you next.nodes) j ≡ Some yours → is_good_at sc next you j ≡ true
    → time_of (clock_of sc me i) (last_tick sc m me mine) < time_of (clock_of sc you j) (last_tick sc next you yours)
order-from sc m next order me you i j mine yours there good other_there other_good =
    order me you i j mine yours (good-in sc m me i there good) (good-in sc next you j other_there other_good)

-- a good node's window in a frame ends before the next window of any good node does
pub order-inner : {sc : _} (hands : List HandIn) → IsLawful sc → (p : ℕ) → HaveBegunTogether sc (moment sc hands p)
    → (moment sc hands p).window + 1 < stages_in sc.sizes → (me you : Side) (i j : ℕ) (mine yours : NodeState)
    → slice_get (of_kind me (moment sc hands p).nodes) i ≡ Some mine → is_good_at sc (moment sc hands p) me i ≡ true
    → slice_get (of_kind you (moment sc hands (suc p)).nodes) j ≡ Some yours → is_good_at sc (moment sc hands (suc p)) you j ≡ true
    → time_of (clock_of sc me i) (last_tick sc (moment sc hands p) me mine) < time_of (clock_of sc you j) (last_tick sc (moment sc hands (suc p)) you yours)
order-inner {sc} hands lawful p together below = order-from sc (moment sc hands p) (moment sc hands (suc p)) (next-in-order hands lawful p together below)

pub order-outer : {sc : _} (hands : List HandIn) → IsLawful sc → (p : ℕ) → HaveBegunTogether sc (moment sc hands p)
    → (moment sc hands p).window + 1 ≡ stages_in sc.sizes → HaveBegunAFrame sc (moment sc hands p) (moment sc hands (suc (suc (suc p))))
    → (me you : Side) (i j : ℕ) (mine yours : NodeState)
    → slice_get (of_kind me (moment sc hands p).nodes) i ≡ Some mine → is_good_at sc (moment sc hands p) me i ≡ true
    → slice_get (of_kind you (moment sc hands (suc (suc (suc p)))).nodes) j ≡ Some yours → is_good_at sc (moment sc hands (suc (suc (suc p)))) you j ≡ true
    → time_of (clock_of sc me i) (last_tick sc (moment sc hands p) me mine) < time_of (clock_of sc you j) (last_tick sc (moment sc hands (suc (suc (suc p)))) you yours)
order-outer {sc} hands lawful p together last frame =
    order-from sc (moment sc hands p) (moment sc hands (suc (suc (suc p)))) (turn-in-order hands lawful p together last frame)

-- The message of the next window.

-- two nodes begin a frame at the times s and t, at most p apart. A message that the one sends h
-- ticks after the end of a window comes after the other has closed it
comes-later : (u d o h p dmin s t last sent e : ℕ) → 1 ≤ u → p + d * o ≤ h * u + dmin → s ≤ t + p → last ≤ s + o * (u + d) → t + (o + 1 + h) * u ≤ sent → sent + dmin ≤ e
    → last < e
comes-later u d o h p dmin s t last sent e some room apart early late way =
    let a : o * (u + d) ≡ o * u + o * d = mul-add o u d in
    let b : (o + 1 + h) * u ≡ (o + 1) * u + h * u = add-mul (o + 1) h u in
    let c : (o + 1) * u ≡ o * u + 1 * u = add-mul o 1 u in
    let f : o * d ≡ d * o = omega arith in
    omega (arith, a, b, c, f, some, room, apart, early, late, way)

-- up to stage 1 of the sync slot what is sent in the next window comes later, if the nodes began
-- the frame at most p apart
pub later-exact : {sc : _} (hands : List HandIn) → IsLawful sc → (p : ℕ) → HaveBegunTogether sc (moment sc hands p) → (moment sc hands p).window + 1 ≤ 3 * sync_slot_of sc.sizes
    → (me : Side) (i j : ℕ) {st source : _} → slice_get (of_kind me (moment sc hands p).nodes) i ≡ Some st → is_good_at sc (moment sc hands p) me i ≡ true
    → slice_get (of_kind (other me) (moment sc hands (suc p)).nodes) j ≡ Some source → is_good_at sc (moment sc hands (suc p)) (other me) j ≡ true
    → Every (λ c. time_of (clock_of sc me i) (last_tick sc (moment sc hands p) me st) < c.time) (entry_of sc (moment sc hands (suc p)) me i j)
later-exact {sc} hands lawful p together below me i j {st} {source} there good source_there source_good =
    let m : Moment = moment sc hands p in
    let m2 : Moment = moment sc hands (suc p) in
    let n : ℕ = m.window in
    let u : ℕ = shortest_of sc.plan in
    let d : ℕ = 2 * sc.plan.r in
    let next : IsWindowLater sc m m2 = window-later sc hands m (omega arith) in
    let w : m2.window ≡ n + 1 = next.window in
    let was : WasGood sc m (other me) j source.epoch =
    was-good hands (omega arith) (moments-stand sc hands p (has_ticks lawful)) (good-in sc m2 (other me) j source_there source_good) in
    let lengths_i : HasLengths u (longest_of sc.plan) (clock_of sc me i) = good-clock lawful me i m.frame (slot_numbered sc.sizes n) good in
    let lengths_j : HasLengths u (longest_of sc.plan) (clock_of sc (other me) j) = good-clock lawful (other me) j m2.frame (slot_numbered sc.sizes m2.window) source_good in
    let epoch : source.epoch ≡ was.st.epoch = was.epoch_is in
    let apart : time_of (clock_of sc me i) st.epoch ≤ time_of (clock_of sc (other me) j) source.epoch + sc.plan.p =
    subst (λ k. time_of (clock_of sc me i) st.epoch ≤ time_of (clock_of sc (other me) j) k + sc.plan.p) (sym epoch)
    (together me (other me) i j st was.st (good-in sc m me i there good) was.good) in
    let o : ℕ = last_of sc.sizes sc.plan me st n in
    let last : o ≡ n * sc.plan.l + sc.plan.l - 1 = last-same sc.sizes sc.plan me st n (omega arith) in
    let some_l : 1 ≤ sc.plan.l = lawful.plan.l.0 in
    let some_u : 1 ≤ u = shortest-some lawful in
    let steps : (n + 1) * sc.plan.l ≡ n * sc.plan.l + 1 * sc.plan.l = add-mul n 1 sc.plan.l in
    let bound : (n + 1) * sc.plan.l ≤ 3 * sync_slot_of sc.sizes * sc.plan.l = mul-le (n + 1) sc.plan.l (3 * sync_slot_of sc.sizes) sc.plan.l below (omega arith) in
    let fit : Fits sc.sizes sc.plan = fits lawful.plan lawful.feasible in
    let up : d * o ≤ d * (f0_of sc.sizes sc.plan + sc.plan.h) = mul-le d o d (f0_of sc.sizes sc.plan + sc.plan.h) (omega arith) (omega arith) in
    let before : skew_of sc.sizes sc.plan ≤ sc.plan.h * u + sc.plan.dmin = fit.before in
    let room : sc.plan.p + d * o ≤ sc.plan.h * u + sc.plan.dmin = omega (arith, up, before) in
    let r : sc.plan.r < sc.plan.u = lawful.plan.r in
    let g : longest_of sc.plan ≡ u + d = omega arith in
    let high : time_of (clock_of sc me i) (st.epoch + o) ≤ time_of (clock_of sc me i) st.epoch + o * longest_of sc.plan = (drift (clock_of sc me i) u (longest_of sc.plan) lengths_i st.epoch o).1 in
    let early : time_of (clock_of sc me i) (st.epoch + o) ≤ time_of (clock_of sc me i) st.epoch + o * (u + d) =
    subst (λ g. time_of (clock_of sc me i) (st.epoch + o) ≤ time_of (clock_of sc me i) st.epoch + o * g) g high in
    let so_is : sending_of sc m2 (other me) j ≡ sending_at sc.sizes sc.plan (other me) j source m2.window (word_at sc m2 (other me) j source) = sending-of-is sc m2 (other me) j source_there in
    let by : (s : Option Sending) → sending_of sc m2 (other me) j ≡ s
    → Every (λ c. time_of (clock_of sc me i) (st.epoch + o) < c.time) (option_to_list (option_map (coming_of sc me i j m2.frame) s)) =
    λ s. elim s as (λ s. sending_of sc m2 (other me) j ≡ s
    → Every (λ c. time_of (clock_of sc me i) (st.epoch + o) < c.time) (option_to_list (option_map (coming_of sc me i j m2.frame) s))) [
      | None ↦ λ e. tt
      | Some x ↦ λ e.
          let tick : x.tick ≡ source.epoch + m2.window * sc.plan.l + sc.plan.h =
          sent-exactly sc.sizes sc.plan (other me) j source m2.window (word_at sc m2 (other me) j source) (omega arith) (sym so_is ∙ e) in
          let start : m2.window * sc.plan.l ≡ (n + 1) * sc.plan.l = ap (λ k. k * sc.plan.l) w in
          let tick_is : source.epoch + (o + 1 + sc.plan.h) ≡ x.tick = omega (arith, tick, start, steps, last, some_l) in
          let low : time_of (clock_of sc (other me) j) source.epoch + (o + 1 + sc.plan.h) * u ≤ time_of (clock_of sc (other me) j) x.tick =
          subst (λ k. time_of (clock_of sc (other me) j) source.epoch + (o + 1 + sc.plan.h) * u ≤ time_of (clock_of sc (other me) j) k) tick_is
          (drift (clock_of sc (other me) j) u (longest_of sc.plan) lengths_j source.epoch (o + 1 + sc.plan.h)).0 in
          let place : Place = record { frame = m2.frame; slot = x.message.slot; stage = x.message.stage } in
          let delay : sc.plan.dmin ≤ delay_of sc.delays (name_of (other me) j) (name_of me i) place = way-least lawful (name_of (other me) j) (name_of me i) place in (
            comes-later u d o sc.plan.h sc.plan.p sc.plan.dmin (time_of (clock_of sc me i) st.epoch) (time_of (clock_of sc (other me) j) source.epoch)
                (time_of (clock_of sc me i) (st.epoch + o)) (time_of (clock_of sc (other me) j) x.tick) (coming_of sc me i j m2.frame x).time
                some_u room apart early low (omega arith),
            tt,
          )
    ] in
    by (sending_of sc m2 (other me) j) refl

-- a message that the one sends a and h ticks after its start of the frame comes no later than with
-- the last of the other's l ticks from tick a on
comes-in-time : (u d a h l p dmax s t last sent e : ℕ) → p + d * (a + h) + dmax + u + h * u ≤ l * u → 1 ≤ l → t ≤ s + p
    → s + (a + l - 1) * u ≤ last → sent ≤ t + (a + h) * (u + d) → e ≤ sent + dmax → e ≤ last
comes-in-time u d a h l p dmax s t last sent e room some apart early late way =
    let x : (a + h) * (u + d) ≡ (a + h) * u + (a + h) * d = mul-add (a + h) u d in
    let y : (a + h) * u ≡ a * u + h * u = add-mul a h u in
    let z : (a + h) * d ≡ d * (a + h) = omega arith in
    let k : a + l - 1 + 1 ≡ a + l = omega arith in
    let v : (a + l - 1 + 1) * u ≡ (a + l - 1) * u + 1 * u = add-mul (a + l - 1) 1 u in
    let w : (a + l - 1 + 1) * u ≡ (a + l) * u = ap (λ n. n * u) k in
    let q : (a + l) * u ≡ a * u + l * u = add-mul a l u in
    omega (arith, x, y, z, v, w, q, room, apart, early, late, way)

comes-not-before : (u d a h p dmin s t before first sent e : ℕ) → 1 ≤ u → p + d * a ≤ h * u + dmin → s ≤ t + p → before + u ≤ first → first ≤ s + a * (u + d)
    → t + (a + h) * u ≤ sent → sent + dmin ≤ e → before < e
comes-not-before u d a h p dmin s t before first sent e some room apart step early late way =
    let x : a * (u + d) ≡ a * u + a * d = mul-add a u d in
    let y : (a + h) * u ≡ a * u + h * u = add-mul a h u in
    let z : a * d ≡ d * a = omega arith in
    omega (arith, x, y, z, some, room, apart, step, early, late, way)

-- up to stage 1 of the sync slot what good nodes send comes in its window, if they began the frame
-- at most p apart
pub heard-exact : {sc : _} (hands : List HandIn) → IsLawful sc → (p : ℕ) → HaveBegunTogether sc (moment sc hands p) → (moment sc hands p).window ≤ 3 * sync_slot_of sc.sizes
    → (me : Side) (i j : ℕ) {st source : _} → slice_get (of_kind me (moment sc hands p).nodes) i ≡ Some st → is_good_at sc (moment sc hands p) me i ≡ true
    → slice_get (of_kind (other me) (moment sc hands p).nodes) j ≡ Some source → is_good_at sc (moment sc hands p) (other me) j ≡ true
    → Every (ComesInWindow sc (moment sc hands p) me i st) (entry_of sc (moment sc hands p) me i j)
heard-exact {sc} hands lawful p together below me i j {st} {source} there good source_there source_good =
    let m : Moment = moment sc hands p in
    let n : ℕ = m.window in
    let a : ℕ = n * sc.plan.l in
    let h : ℕ = sc.plan.h in
    let u : ℕ = shortest_of sc.plan in
    let d : ℕ = 2 * sc.plan.r in
    let mine : Timeline = clock_of sc me i in
    let yours : Timeline = clock_of sc (other me) j in
    let lengths_i : HasLengths u (longest_of sc.plan) mine = good-clock lawful me i m.frame (slot_numbered sc.sizes n) good in
    let lengths_j : HasLengths u (longest_of sc.plan) yours = good-clock lawful (other me) j m.frame (slot_numbered sc.sizes n) source_good in
    let apart : time_of mine st.epoch ≤ time_of yours source.epoch + sc.plan.p =
    together me (other me) i j st source (good-in sc m me i there good) (good-in sc m (other me) j source_there source_good) in
    let apart2 : time_of yours source.epoch ≤ time_of mine st.epoch + sc.plan.p =
    together (other me) me j i source st (good-in sc m (other me) j source_there source_good) (good-in sc m me i there good) in
    let last : last_of sc.sizes sc.plan me st n ≡ a + sc.plan.l - 1 = last-same sc.sizes sc.plan me st n below in
    let first : first_of sc.sizes sc.plan me st n ≡ a = first-same sc.sizes sc.plan me st n below in
    let some_l : 1 ≤ sc.plan.l = lawful.plan.l.0 in
    let some_u : 1 ≤ u = shortest-some lawful in
    let bound : a ≤ 3 * sync_slot_of sc.sizes * sc.plan.l = mul-le n sc.plan.l (3 * sync_slot_of sc.sizes) sc.plan.l below (omega arith) in
    let fit : Fits sc.sizes sc.plan = fits lawful.plan lawful.feasible in
    let up : d * (a + h) ≤ d * (f0_of sc.sizes sc.plan + h) = mul-le d (a + h) d (f0_of sc.sizes sc.plan + h) (omega arith) (omega arith) in
    let up_a : d * a ≤ d * (f0_of sc.sizes sc.plan + h) = mul-le d a d (f0_of sc.sizes sc.plan + h) (omega arith) (omega arith) in
    let in_l : skew_of sc.sizes sc.plan + sc.plan.dmax + u + h * u ≤ sc.plan.l * u = fit.in_l in
    let before : skew_of sc.sizes sc.plan ≤ h * u + sc.plan.dmin = fit.before in
    let room : sc.plan.p + d * (a + h) + sc.plan.dmax + u + h * u ≤ sc.plan.l * u = omega (arith, up, in_l) in
    let room_a : sc.plan.p + d * a ≤ h * u + sc.plan.dmin = omega (arith, up_a, before) in
    let r : sc.plan.r < sc.plan.u = lawful.plan.r in
    let g : longest_of sc.plan ≡ u + d = omega arith in
    let end_is : st.epoch + (a + sc.plan.l - 1) ≡ last_tick sc m me st = omega (arith, last) in
    let early : time_of mine st.epoch + (a + sc.plan.l - 1) * u ≤ time_of mine (last_tick sc m me st) =
    subst (λ k. time_of mine st.epoch + (a + sc.plan.l - 1) * u ≤ time_of mine k) end_is (drift mine u (longest_of sc.plan) lengths_i st.epoch (a + sc.plan.l - 1)).0 in
    let begin : time_of mine (st.epoch + a) ≤ time_of mine st.epoch + a * (u + d) =
    subst (λ g. time_of mine (st.epoch + a) ≤ time_of mine st.epoch + a * g) g (drift mine u (longest_of sc.plan) lengths_i st.epoch a).1 in
    let so_is : sending_of sc m (other me) j ≡ sending_at sc.sizes sc.plan (other me) j source n (word_at sc m (other me) j source) = sending-of-is sc m (other me) j source_there in
    let by : (s : Option Sending) → sending_of sc m (other me) j ≡ s → Every (ComesInWindow sc m me i st) (option_to_list (option_map (coming_of sc me i j m.frame) s)) =
    λ s. elim s as (λ s. sending_of sc m (other me) j ≡ s → Every (ComesInWindow sc m me i st) (option_to_list (option_map (coming_of sc me i j m.frame) s))) [
      | None ↦ λ e. tt
      | Some x ↦ λ e.
          let tick : x.tick ≡ source.epoch + a + h = sent-exactly sc.sizes sc.plan (other me) j source n (word_at sc m (other me) j source) below (sym so_is ∙ e) in
          let tick_is : source.epoch + (a + h) ≡ x.tick = omega (arith, tick) in
          let both = drift yours u (longest_of sc.plan) lengths_j source.epoch (a + h) in
          let low : time_of yours source.epoch + (a + h) * u ≤ time_of yours x.tick =
          subst (λ k. time_of yours source.epoch + (a + h) * u ≤ time_of yours k) tick_is both.0 in
          let high : time_of yours x.tick ≤ time_of yours source.epoch + (a + h) * (u + d) =
          subst (λ g. time_of yours x.tick ≤ time_of yours source.epoch + (a + h) * g) g
          (subst (λ k. time_of yours k ≤ time_of yours source.epoch + (a + h) * longest_of sc.plan) tick_is both.1) in
          let place : Place = record { frame = m.frame; slot = x.message.slot; stage = x.message.stage } in
          let least : sc.plan.dmin ≤ delay_of sc.delays (name_of (other me) j) (name_of me i) place = way-least lawful (name_of (other me) j) (name_of me i) place in
          let most : delay_of sc.delays (name_of (other me) j) (name_of me i) place ≤ sc.plan.dmax = way-most lawful (name_of (other me) j) (name_of me i) place in
          let time : ℕ = (coming_of sc me i j m.frame x).time in (
            (
              λ k f.
                  let step_is : suc k ≡ st.epoch + a = omega (arith, f, first) in
                  let step : time_of mine k + u ≤ time_of mine (st.epoch + a) =
                  subst (λ z. time_of mine k + u ≤ time_of mine z) step_is (let length = (lengths_i k).0 in omega (arith, length)) in
                  comes-not-before u d a h sc.plan.p sc.plan.dmin (time_of mine st.epoch) (time_of yours source.epoch) (time_of mine k) (time_of mine (st.epoch + a))
                  (time_of yours x.tick) time some_u room_a apart step begin low (omega arith),
              comes-in-time u d a h sc.plan.l sc.plan.p sc.plan.dmax (time_of mine st.epoch) (time_of yours source.epoch) (time_of mine (last_tick sc m me st))
                  (time_of yours x.tick) time room some_l apart2 early high (omega arith),
            ),
            tt,
          )
    ] in
    by (sending_of sc m (other me) j) refl
