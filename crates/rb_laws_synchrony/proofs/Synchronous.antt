-- How near good nodes are before each window of a run that has met no breach: how near they began
-- the frame, and in the sync slot how near the middles are that they keep.
use Rattle.std.proofs.Common.{◌≡◌, ℕ, ◌+◌, ◌*◌, ◌≤◌, ◌<◌, Option, Some, ap, arith}
use Rattle.rb_base.specs.{Nodes.Side, Nodes.Side.{Biu, Rmu}, Sizes.sync_slot_of}
use Rattle.rb_rules.specs.{declared.plan.Plan.Plan, Clock.time_of, Goodness.{Scenario, clock_of}, NodeState.NodeState, Plan.{f0_of, shortest_of}, Rounds.Moment, StandsFor.FrameTakes}
use Rattle.rb_rules.proofs.Middles.{AreNear, IsBetween}
use Rattle.rb_laws_agreement.proofs.Invariant.{IsGoodNode, Shared}
use Rattle.rb_laws_synchrony.proofs.{PlanNumbers.{drift_of, eps_of}, StageMiddles.{NoneUnlike, tick_of}, Times.{Steady, steady}}

-- ---- the times of the calls if the frame's first ticks come from `low` on

-- the times from which and by which the calls of stage 1 go out
abbrev pub from_1 : Scenario → ℕ → ℕ
from_1 sc low = low + (f0_of sc.sizes sc.plan + sc.plan.h) * shortest_of sc.plan

abbrev pub to_1 : Scenario → ℕ → ℕ
to_1 sc low = low + sc.plan.p + (f0_of sc.sizes sc.plan + sc.plan.h) * tick_of sc.plan

-- calls that go out from time `low` on are heard from this time on
abbrev pub heard_from : Scenario → ℕ → ℕ
heard_from sc low = low + sc.plan.dmin

abbrev pub heard_to : Scenario → ℕ → ℕ
heard_to sc high = high + sc.plan.dmax + tick_of sc.plan

abbrev pub from_2 : Scenario → ℕ → ℕ
from_2 sc low = heard_from sc (from_1 sc low) + sc.plan.l * shortest_of sc.plan

abbrev pub to_2 : Scenario → ℕ → ℕ
to_2 sc low = heard_to sc (to_1 sc low) + sc.plan.l * tick_of sc.plan

abbrev pub from_3 : Scenario → ℕ → ℕ
from_3 sc low = heard_from sc (from_2 sc low) + sc.plan.v * shortest_of sc.plan

abbrev pub to_3 : Scenario → ℕ → ℕ
to_3 sc low = heard_to sc (to_2 sc low) + sc.plan.v * tick_of sc.plan

-- how near the middles of stage 1 are if no BIU is asymmetric, and those of stage 2 where none of
-- one kind is
abbrev pub near_1 : Plan → ℕ
near_1 plan = eps_of plan + tick_of plan

abbrev pub near_2 : Plan → ℕ
near_2 plan = near_1 plan + drift_of plan * plan.l + near_1 plan

abbrev pub near_3 : Plan → ℕ
near_3 plan = near_2 plan + drift_of plan * plan.v

-- ---- what holds of the good nodes

-- the node knows this middle: a tick of the stage's window and, with the ticks to the next call, of
-- that one's; `first` to `own` are offsets
pub record KnowsMiddle (sc : Scenario) (me : Side) (i : ℕ) (st : NodeState) (k : Option ℕ) (first last own low high : ℕ) : Type 0 where
  pub tick : ℕ
  pub is : k ≡ Some tick
  pub from : st.epoch + first ≤ tick
  pub inside : tick < st.epoch + last
  pub own_window : tick < st.epoch + own
  pub between : IsBetween low high (time_of (clock_of sc me i) tick)

-- the node knows when its next frame begins, and that is near the others
pub record KnowsEpoch (sc : Scenario) (me : Side) (i : ℕ) (st : NodeState) (later : ℕ) : Type 0 where
  pub takes : FrameTakes sc.sizes sc.plan me st
  pub between : IsBetween later (later + sc.plan.p) (time_of (clock_of sc me i) takes.epoch)

abbrev pub KnowFirst : Scenario → Moment → ℕ → Type 0
KnowFirst sc m low =
    (i : ℕ) (st : NodeState) → IsGoodNode sc m Rmu i st
    → KnowsMiddle sc Rmu i st st.k1 (f0_of sc.sizes sc.plan) (f0_of sc.sizes sc.plan + sc.plan.l) (f0_of sc.sizes sc.plan + sc.plan.v)
    (heard_from sc (from_1 sc low)) (heard_to sc (to_1 sc low))

abbrev pub KnowSecond : Scenario → Moment → ℕ → Type 0
KnowSecond sc m low =
    (i : ℕ) (st : NodeState) → IsGoodNode sc m Biu i st
    → KnowsMiddle sc Biu i st st.k2 (f0_of sc.sizes sc.plan + sc.plan.l) (f0_of sc.sizes sc.plan + sc.plan.l + sc.plan.v)
    (f0_of sc.sizes sc.plan + sc.plan.l + sc.plan.z) (heard_from sc (from_2 sc low)) (heard_to sc (to_2 sc low))

-- the middles that good nodes of a kind keep are near
abbrev pub KeepNear : Scenario → Moment → Side → (NodeState → Option ℕ) → ℕ → Type 0
KeepNear sc m me kept near =
    (a b : ℕ) (sta stb : NodeState) → IsGoodNode sc m me a sta → IsGoodNode sc m me b stb → (k l : ℕ) → kept sta ≡ Some k → kept stb ≡ Some l
    → AreNear near (time_of (clock_of sc me a) k) (time_of (clock_of sc me b) l)

abbrev pub first_kept : NodeState → Option ℕ
first_kept st = st.k1

abbrev pub second_kept : NodeState → Option ℕ
second_kept st = st.k2

abbrev pub KnowNext : Scenario → Moment → Type 0
KnowNext sc m = (later : ℕ) × ((me : Side) (i : ℕ) (st : NodeState) → IsGoodNode sc m me i st → KnowsEpoch sc me i st later)

-- all good nodes are near each other
pub record Synchronous (sc : Scenario) (m : Moment) (s : Shared) (low : ℕ) : Type 0 where
  pub begun : (me : Side) (i : ℕ) (st : NodeState) → IsGoodNode sc m me i st → IsBetween low (low + sc.plan.p) (time_of (clock_of sc me i) st.epoch)
  pub first : m.window ≡ 3 * sync_slot_of sc.sizes + 1 → KnowFirst sc m low
  pub first_near : m.window ≡ 3 * sync_slot_of sc.sizes + 1 → NoneUnlike sc m s Biu m.book.stages → KeepNear sc m Rmu first_kept (near_1 sc.plan)
  pub second : m.window ≡ 3 * sync_slot_of sc.sizes + 2 → KnowSecond sc m low
  pub second_near : m.window ≡ 3 * sync_slot_of sc.sizes + 2 → (side : Side) → NoneUnlike sc m s side m.book.stages → KeepNear sc m Biu second_kept (near_2 sc.plan)
  pub third : 3 * sync_slot_of sc.sizes + 3 ≤ m.window → KnowNext sc m

-- ---- offsets

-- the time of an offset if the frame's first tick comes from `low` on and within p
pub at_offset : {u d clock : _} → Steady u d clock → {low : ℕ} (p epoch offset : ℕ) {tick : ℕ} → tick ≡ epoch + offset
    → IsBetween low (low + p) (time_of clock epoch) → IsBetween (low + offset * u) (low + p + offset * (u + d)) (time_of clock tick)
at_offset {clock} steady p epoch offset {tick} e between =
    let same : time_of clock tick ≡ time_of clock (epoch + offset) = ap (time_of clock) e in
    record {
      least = omega (arith, same, between.least, steady.not_early epoch offset);
      most = omega (arith, same, between.most, steady.not_late epoch offset);
    }

-- the tick `n` ticks after one between two times comes `n` shortest to `n` longest ticks later
pub ticks_on : {u d clock : _} → Steady u d clock → {low high : ℕ} (tick n : ℕ) {later : ℕ} → later ≡ tick + n
    → IsBetween low high (time_of clock tick) → IsBetween (low + n * u) (high + n * (u + d)) (time_of clock later)
ticks_on {clock} steady tick n {later} e between =
    let same : time_of clock later ≡ time_of clock (tick + n) = ap (time_of clock) e in
    record {
      least = omega (arith, same, between.least, steady.not_early tick n);
      most = omega (arith, same, between.most, steady.not_late tick n);
    }

-- ticks that come `n` ticks after ticks of near times have near times
pub near_on : {u d a b : _} → Steady u d a → Steady u d b → {near : ℕ} (k l n : ℕ) {kn ln : ℕ} → kn ≡ k + n → ln ≡ l + n
    → AreNear near (time_of a k) (time_of b l) → AreNear (near + d * n) (time_of a kn) (time_of b ln)
near_on {a} {b} steady_a steady_b k l n {kn} {ln} e f close =
    let x : time_of a kn ≡ time_of a (k + n) = ap (time_of a) e in
    let y : time_of b ln ≡ time_of b (l + n) = ap (time_of b) f in
    record {
      above = omega (arith, x, y, close.above, steady_a.not_late k n, steady_b.not_early l n);
      under = omega (arith, x, y, close.under, steady_b.not_late l n, steady_a.not_early k n);
    }
