-- For the law that every run ends: as long as a node waits for its last tick of the stage with
-- which the run breaks off, no other has had all its ticks.
use Rattle.std.proofs.{Common.{◌≡◌, ℕ, ◌+◌, ◌-◌, ◌*◌, ◌^◌, ◌<◌, ◌≤◌, true, List, ap, ◌∙◌, arith, inl, inr, lit≤}, lemmas.Bool.cases_lt, lemmas.Nat.mul-le}
use Rattle.rb_base.specs.{Nodes.Side, Sizes.sync_slot_of}
use Rattle.rb_rules.specs.{Clock.{stamp_of, time_of}, Core.{Act, Core, pass_to}, Goodness.{Scenario, clock_of, is_good}, Hearing.Coming, Lawful.IsLawful, NodeState.NodeState, Plan.tail_start_of, Ports.PortState, Rounds.{Moment, moment}, WorldStep.{Site, after_act, after_arrival, pass_and_tick}}
use Rattle.rb_rules.proofs.{Drift.times_rise_to, QuietTicks.arrive-same, Stamps.Moves, WindowNumbers.sync-numbered}
use Rattle.rb_laws_synchrony.proofs.{EpochTicks.frame_ticks, Times.stamp_to}
use Rattle.rb_laws_agreement.proofs.{FrameTimes.good-clock, ExactAgrees.has_ticks}
use Rattle.rb_laws_events.specs.Closing.{stages_in}
use Rattle.rb_laws_events.proofs.{BreakNodes.{BreaksAt, FirstOf}, BreakSites.acted, CloseOrder.{shortest-some, times-apart}, FrameTimes.{BegunWell, begun-well, good-node}, Invariant.{is_good_at, last_tick}, MomentSteps.good-state, PlanNumbers.fits, RoundNodes.{slot-is, slot_numbered}, StageOrder.{Apart, apart-turn, last_of, last-same, last-third-call}, TickRooms.few-ticks, TickWindows.{ends-before-later, first_of}, Takes.tick-had}

-- some tick of the node's clock comes after time `t` and is below 2^31
pub record HasLater (sc : Scenario) (t : ℕ) (me : Side) (i : ℕ) : Type 0 where
  pub k : ℕ
  pub small : k < 2 ^ 31
  pub later : t < time_of (clock_of sc me i) k

pub has-later : {sc hands : _} → IsLawful sc → {b q t : ℕ} → BreaksAt sc hands b q → FirstOf sc hands b t → (me : Side) (i : ℕ)
    → is_good_at sc (moment sc hands b) me i ≡ true → HasLater sc t me i
has-later {sc} {hands} lawful {b} off first me i good =
    let m : Moment = moment sc hands b in
    let you : Side = first.you in
    let j : ℕ = first.j in
    let yours : NodeState = first.yours in
    let state = good-state sc hands b me i (has_ticks lawful) good in
    let st : NodeState = state.0 in
    let well : BegunWell sc m = begun-well hands lawful b off.running in
    let small = off.small in
    let window = off.window in
    let a : ℕ = last_of sc.sizes sc.plan you yours (3 * sync_slot_of sc.sizes + 2) in
    let end : ℕ = tail_start_of sc.sizes sc.plan + last_of sc.sizes sc.plan me st 0 in
    let rooms : Apart sc.plan a end = apart-turn you me yours st (fits lawful.plan lawful.feasible) lawful.plan.l.0 (shortest-some lawful) in
    let yours_good = good-node sc m you j first.there first.good in
    let early : time_of (clock_of sc you j) (yours.epoch + a) < time_of (clock_of sc me i) (st.epoch + end) =
    times-apart lawful (clock_of sc you j) (clock_of sc me i) yours.epoch st.epoch (good-clock lawful you j m.frame (slot_numbered sc.sizes m.window) first.good)
    (good-clock lawful me i m.frame (slot_numbered sc.sizes m.window) good)
    (well.together you me j i yours st (first.there, ap (is_good sc you j m.frame) (slot-is sc.sizes sc.plan you yours m.window) ∙ first.good)
    (state.1, ap (is_good sc me i m.frame) (slot-is sc.sizes sc.plan me st m.window) ∙ good)) rooms in
    let before : last_of sc.sizes sc.plan you yours m.window < first_of sc.sizes sc.plan you yours (stages_in sc.sizes) =
    ends-before-later sc.sizes you yours m.window (stages_in sc.sizes) (has_ticks lawful) (omega (arith, small, window)) (omega arith) in
    let tail : first_of sc.sizes sc.plan you yours (stages_in sc.sizes) ≡ tail_start_of sc.sizes sc.plan = ap (λ w. w.first) (sync-numbered sc.sizes sc.plan you yours 3) in
    let last : a ≡ _ = last-third-call sc.sizes sc.plan you yours in
    let up : time_of (clock_of sc you j) (last_tick sc m you yours) ≤ time_of (clock_of sc you j) (yours.epoch + a) =
    times_rise_to (clock_of sc you j) (last_tick sc m you yours) (yours.epoch + a) (omega (arith, before, tail, last)) in
    let ft : ℕ = frame_ticks sc.sizes sc.plan in
    let few : ft ≤ 341000 = few-ticks lawful.sizes lawful.plan in
    let all : m.frame * ft ≤ 4096 * 341000 = mul-le m.frame ft 4096 341000 well.within few in
    let big : 4096 * 341000 + 341000 + 1000 ≤ 2 ^ 31 = lit≤ tt in
    let begun : st.epoch ≤ m.frame * ft = well.by_then me i st (good-node sc m me i state.1 good) in
    let first_last : last_of sc.sizes sc.plan me st 0 ≡ 0 * sc.plan.l + sc.plan.l - 1 = last-same sc.sizes sc.plan me st 0 (omega arith) in
    let l : sc.plan.l ≤ 1000 = lawful.plan.l.1 in
    let some : 1 ≤ sc.plan.l = lawful.plan.l.0 in
    let le = first.first in
    record { k = st.epoch + end; small = omega (arith, all, few, big, begun, first_last, l, some); later = omega (arith, le, up, early) }

-- a tick that comes before that one is below 2^31
before-later : {sc me i : _} (k : ℕ) → (h : HasLater sc (time_of (clock_of sc me i) k) me i) → k < h.k
before-later {sc} {me} {i} k h = elim (cases_lt k h.k) [
  | inl lt ↦ lt
  | inr ge ↦
      let up : time_of (clock_of sc me i) h.k ≤ time_of (clock_of sc me i) k = times_rise_to (clock_of sc me i) h.k k ge in
      let later = h.later in
      absurd (omega (arith, up, later))
]

pub acted-had : {sc : _} (ports : List PortState) {me i : _} (k : ℕ) (s : Site) (h : HasLater sc (time_of (clock_of sc me i) k) me i) → s.core.had ≤ k
    → (after_act sc ports me i (pass_and_tick sc ports me i k s.core) s).core.had ≡ k + 1
unfolding pass_and_tick
acted-had {sc} ports {me} {i} k s h had =
    let x : Act = pass_and_tick sc ports me i k s.core in
    let z : Site = after_act sc ports me i x s in
    let below : k < h.k = before-later k h in
    let small = h.small in
    let passed : (pass_to k s.core).had ≡ k = omega (arith, had) in
    let ticked : x.core.had ≡ (pass_to k s.core).had + 1 = tick-had sc.sizes sc.plan me i (pass_to k s.core) _ (omega (arith, passed, below, small)) in
    let core : z.core.had ≡ x.core.had = ap (λ (c : Core). c.had) (acted sc ports me i x s).core_is in
    omega (arith, core, ticked, passed)

-- after an act the core has still had fewer than 2^31 ticks
pub acted-small : {sc : _} (ports : List PortState) {me i : _} (k : ℕ) (s : Site) (h : HasLater sc (time_of (clock_of sc me i) k) me i) → s.core.had ≤ k
    → (after_act sc ports me i (pass_and_tick sc ports me i k s.core) s).core.had < 2 ^ 31
acted-small {sc} ports {me} {i} k s h had =
    let counted : (after_act sc ports me i (pass_and_tick sc ports me i k s.core) s).core.had ≡ k + 1 = acted-had ports k s h had in
    let below : k < h.k = before-later k h in
    let small = h.small in
    omega (arith, counted, below, small)

pub arrived-small : {sc me i : _} (n : ℕ) (c : Coming) (s : Site) → Moves (clock_of sc me i) → HasLater sc c.time me i → s.core.had < 2 ^ 31 → (after_arrival sc me i n c s).core.had < 2 ^ 31
unfolding after_arrival
arrived-small {sc} {me} {i} n c s moves h had =
    let stamp : ℕ = stamp_of (clock_of sc me i) c.time in
    let later = h.later in
    let in_time : stamp ≤ h.k = stamp_to (clock_of sc me i) moves c.time h.k (omega (arith, later)) in
    let small = h.small in
    let passed : Core = pass_to stamp s.core in
    let same = arrive-same sc.sizes me passed c.from c.bytes in
    let most : passed.had < 2 ^ 31 = omega (arith, in_time, small, had) in
    omega (arith, same.1, most)
