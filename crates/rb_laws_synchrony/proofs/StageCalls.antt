-- When good nodes send in a window, by what holds of them before it, and that the windows of all
-- lie about those times.
use Rattle.std.proofs.{Common.{◌≡◌, ℕ, ◌+◌, ◌-◌, ◌*◌, ◌/◌, ◌%◌, ◌≤◌, ◌<◌, Some, option_map, sym, ◌∙◌, ap, arith}, lemmas.Option.same_Some}
use Rattle.rb_base.specs.{Nodes.Side, Nodes.Side.{Biu, Rmu}, Sizes.sync_slot_of}
use Rattle.rb_rules.specs.{Clock.time_of, Goodness.{Scenario, clock_of}, Hearing.window_numbered, Lawful.IsLawful, NodeState.NodeState, Plan.{f0_of, shortest_of}, Rounds.{Moment, window_in}, SyncStage.call_tick_of, Windows.window_of}
use Rattle.rb_rules.proofs.{Middles.IsBetween, WindowNumbers.{exact-numbered, sync-numbered}}
use Rattle.rb_laws_agreement.proofs.{Invariant.IsGoodNode, NodeWindows.Windows}
use Rattle.rb_laws_synchrony.proofs.{PlanNumbers.{drift_of, exact_early, exact_late, last_plus, le_trans, second_early, second_late, third_early, third_late}, StageMiddles.{CallBetween, tick_of}, Synchronous.{KnowsMiddle, Synchronous, at_offset, from_1, from_2, from_3, ticks_on, to_1, to_2, to_3}, TimelyWindows.{IsSet, LieAbout, good_here}, Times.{Steady, lawful_fits, plan_fits, steady}}

-- ---- windows by their offsets

-- the window of each node begins with the offset `first` and has `ticks` ticks
pub record IsAt (sc : Scenario) (m : Moment) (slot stage : ℕ) (ws : Windows sc m slot stage) (first ticks : ℕ) : Type 0 where
  pub first_is : (me : Side) (st : NodeState) → ws.first me st ≡ first
  pub last_is : (me : Side) (st : NodeState) → ws.last me st ≡ first + ticks - 1

is-at : {sc m slot stage : _} (ws : Windows sc m slot stage) (a b first ticks : ℕ)
    → ((me : Side) (st : NodeState) → window_in sc m me st ≡ window_of a b first ticks) → IsAt sc m slot stage ws first ticks
is-at ws a b first ticks are = record {
  first_is = λ me st. sym (ap (λ w. w.first) (ws.are me st)) ∙ ap (λ w. w.first) (are me st);
  last_is = λ me st. sym (ap (λ w. w.last) (ws.are me st)) ∙ ap (λ w. w.last) (are me st);
}

pub exact_at : {sc m slot : _} (q : ℕ) (ws : Windows sc m slot (q + 1)) → slot < sync_slot_of sc.sizes → q < 3 → m.window ≡ 3 * slot + q
    → IsAt sc m slot (q + 1) ws (m.window * sc.plan.l) sc.plan.l
exact_at {sc} {m} q ws below small at =
    is-at ws (m.window / 3) (m.window % 3 + 1) (m.window * sc.plan.l) sc.plan.l
    (λ me st. exact-numbered sc.sizes sc.plan me st m.window (omega arith))

pub first_at : {sc m : _} (ws : Windows sc m (sync_slot_of sc.sizes) 1) → m.window ≡ 3 * sync_slot_of sc.sizes + 0
    → IsAt sc m (sync_slot_of sc.sizes) 1 ws (f0_of sc.sizes sc.plan) sc.plan.l
first_at {sc} ws at =
    is-at ws (sync_slot_of sc.sizes) 1 (f0_of sc.sizes sc.plan) sc.plan.l
    (λ me st. ap (window_numbered sc.sizes sc.plan me st) at ∙ sync-numbered sc.sizes sc.plan me st 0)

pub second_at : {sc m : _} (ws : Windows sc m (sync_slot_of sc.sizes) 2) → m.window ≡ 3 * sync_slot_of sc.sizes + 1
    → IsAt sc m (sync_slot_of sc.sizes) 2 ws (f0_of sc.sizes sc.plan + sc.plan.l) sc.plan.v
second_at {sc} ws at =
    is-at ws (sync_slot_of sc.sizes) 2 (f0_of sc.sizes sc.plan + sc.plan.l) sc.plan.v
    (λ me st. ap (window_numbered sc.sizes sc.plan me st) at ∙ sync-numbered sc.sizes sc.plan me st 1)

pub third_at : {sc m : _} (ws : Windows sc m (sync_slot_of sc.sizes) 3) → m.window ≡ 3 * sync_slot_of sc.sizes + 2
    → IsAt sc m (sync_slot_of sc.sizes) 3 ws (f0_of sc.sizes sc.plan + sc.plan.l + sc.plan.v) sc.plan.z
third_at {sc} ws at =
    is-at ws (sync_slot_of sc.sizes) 3 (f0_of sc.sizes sc.plan + sc.plan.l + sc.plan.v) sc.plan.z
    (λ me st. ap (window_numbered sc.sizes sc.plan me st) at ∙ sync-numbered sc.sizes sc.plan me st 2)

-- good nodes began the frame from time `low` on and within p
abbrev pub Begun : Scenario → Moment → ℕ → Type 0
Begun sc m low = (me : Side) (i : ℕ) (st : NodeState) → IsGoodNode sc m me i st → IsBetween low (low + sc.plan.p) (time_of (clock_of sc me i) st.epoch)

-- the windows of a stage lie about calls between two times, if these are neither too early nor too
-- late
pub lie_about : {sc m slot stage : _} (c : IsSet sc m slot stage) {first ticks : ℕ} → IsAt sc m slot stage c.ws first ticks → {start : ℕ} (from to : ℕ) → Begun sc m start
    → start + sc.plan.p + first * tick_of sc.plan ≤ from + sc.plan.dmin → to + sc.plan.dmax ≤ start + (first + ticks - 1) * shortest_of sc.plan
    → LieAbout sc m slot stage c.ws from to
lie_about {sc} {m} {slot} c {first} {ticks} at {start} from to begun early late = record {
  early = λ me i st h.
      let clock : Steady (shortest_of sc.plan) (drift_of sc.plan) (clock_of sc me i) = steady c.law me i m.frame slot (good_here c h) in
      let time : IsBetween (start + first * shortest_of sc.plan) (start + sc.plan.p + first * tick_of sc.plan) (time_of (clock_of sc me i) (st.epoch + c.ws.first me st)) =
      at_offset clock sc.plan.p st.epoch first
      (ap (λ o. st.epoch + o) (at.first_is me st)) (begun me i st h) in
      le_trans (time_of (clock_of sc me i) (st.epoch + c.ws.first me st)) (start + sc.plan.p + first * tick_of sc.plan) (from + sc.plan.dmin) time.most early;
  late = λ me i st h.
      let clock : Steady (shortest_of sc.plan) (drift_of sc.plan) (clock_of sc me i) = steady c.law me i m.frame slot (good_here c h) in
      let time : IsBetween (start + (first + ticks - 1) * shortest_of sc.plan) (start + sc.plan.p + (first + ticks - 1) * tick_of sc.plan)
      (time_of (clock_of sc me i) (st.epoch + c.ws.last me st)) =
      at_offset clock sc.plan.p st.epoch (first + ticks - 1)
      (ap (λ o. st.epoch + o) (at.last_is me st)) (begun me i st h) in
      le_trans (to + sc.plan.dmax) (start + (first + ticks - 1) * shortest_of sc.plan) (time_of (clock_of sc me i) (st.epoch + c.ws.last me st)) late time.least;
}

-- ---- calls

-- good nodes of a kind call at ticks of their own windows, and between two times
pub record CallWell (sc : Scenario) (m : Moment) (kind : Side) (stage first last from to : ℕ) : Type 0 where
  pub between : CallBetween sc m kind stage from to
  pub own : (j : ℕ) (st : NodeState) (tick : ℕ) → IsGoodNode sc m kind j st → call_tick_of sc.sizes sc.plan st stage ≡ Some tick
      → (st.epoch + first ≤ tick) × (tick < st.epoch + last)

-- a good node's clock, from its frame's start
pub clock_now : {sc : _} → IsLawful sc → {m me i st : _} → IsGoodNode sc m me i st → Steady (shortest_of sc.plan) (drift_of sc.plan) (clock_of sc me i)
clock_now law {m} {me} {i} h = steady law me i m.frame _ h.good

pub first_calls : {sc : _} → IsLawful sc → {m low : _} → Begun sc m low
    → CallWell sc m Biu 1 (f0_of sc.sizes sc.plan) (f0_of sc.sizes sc.plan + sc.plan.l) (from_1 sc low) (to_1 sc low)
first_calls {sc} law begun = record {
  between = λ j st tick h at.
      at_offset (clock_now law h) sc.plan.p st.epoch (f0_of sc.sizes sc.plan + sc.plan.h)
      (sym (same_Some (st.epoch + f0_of sc.sizes sc.plan + sc.plan.h) tick at) ∙ group st.epoch (f0_of sc.sizes sc.plan) sc.plan.h) (begun Biu j st h);
  own = λ j st tick h at.
      let e : st.epoch + f0_of sc.sizes sc.plan + sc.plan.h ≡ tick = same_Some (st.epoch + f0_of sc.sizes sc.plan + sc.plan.h) tick at in
      within st.epoch (f0_of sc.sizes sc.plan) sc.plan.h sc.plan.l tick e (lawful_fits law).in_l;
}
  where
    group : (a b c : ℕ) → a + b + c ≡ a + (b + c)
    group a b c = omega arith

    within : (e f h l tick : ℕ) → e + f + h ≡ tick → h < l → (e + f ≤ tick) × (tick < e + (f + l))
    within e f h l tick is less = (omega arith, omega arith)

-- a call `n` ticks after a known middle comes between these times
after-middle : {sc : _} → IsLawful sc → {m me i st : _} → IsGoodNode sc m me i st → {k first last own low high : _} (n : ℕ) {tick : ℕ}
    → KnowsMiddle sc me i st k first last own low high → option_map (λ k. k + n) k ≡ Some tick
    → IsBetween (low + n * shortest_of sc.plan) (high + n * tick_of sc.plan) (time_of (clock_of sc me i) tick)
    × (st.epoch + (first + n) ≤ tick) × (tick < st.epoch + (own + n))
after-middle law h {k} n {tick} knows at =
    let e : knows.tick + n ≡ tick = same_Some (knows.tick + n) tick (sym (ap (option_map (λ k. k + n)) knows.is) ∙ at) in (
      ticks_on (clock_now law h) knows.tick n (sym e) knows.between,
      omega (arith, e, knows.from),
      omega (arith, e, knows.own_window),
    )

pub second_calls : {sc : _} → IsLawful sc → {m s low : _} → Synchronous sc m s low → m.window ≡ 3 * sync_slot_of sc.sizes + 1
    → CallWell sc m Rmu 2 (f0_of sc.sizes sc.plan + sc.plan.l) (f0_of sc.sizes sc.plan + sc.plan.l + sc.plan.v) (from_2 sc low) (to_2 sc low)
second_calls {sc} law {m} {low} sync late = record {
  between = λ j st tick h at. (is j st tick h at).0;
  own = λ j st tick h at. ((is j st tick h at).1, turn st.epoch (f0_of sc.sizes sc.plan) sc.plan.l sc.plan.v tick (is j st tick h at).2);
}
  where
    turn : (e f l v tick : ℕ) → tick < e + (f + v + l) → tick < e + (f + l + v)
    turn e f l v tick h = omega arith

    is : (j : ℕ) (st : NodeState) (tick : ℕ) → IsGoodNode sc m Rmu j st → call_tick_of sc.sizes sc.plan st 2 ≡ Some tick
        → IsBetween (from_2 sc low) (to_2 sc low) (time_of (clock_of sc Rmu j) tick)
        × (st.epoch + (f0_of sc.sizes sc.plan + sc.plan.l) ≤ tick) × (tick < st.epoch + (f0_of sc.sizes sc.plan + sc.plan.v + sc.plan.l))
    is j st tick h at =
        after-middle law h sc.plan.l (sync.first late j st h) at

pub third_calls : {sc : _} → IsLawful sc → {m s low : _} → Synchronous sc m s low → m.window ≡ 3 * sync_slot_of sc.sizes + 2
    → CallWell sc m Biu 3 (f0_of sc.sizes sc.plan + sc.plan.l + sc.plan.v) (f0_of sc.sizes sc.plan + sc.plan.l + sc.plan.v + sc.plan.z) (from_3 sc low) (to_3 sc low)
third_calls {sc} law {m} {low} sync late = record {
  between = λ j st tick h at. (is j st tick h at).0;
  own = λ j st tick h at. ((is j st tick h at).1, turn st.epoch (f0_of sc.sizes sc.plan + sc.plan.l) sc.plan.v sc.plan.z tick (is j st tick h at).2);
}
  where
    turn : (e f v z tick : ℕ) → tick < e + (f + z + v) → tick < e + (f + v + z)
    turn e f v z tick h = omega arith

    is : (j : ℕ) (st : NodeState) (tick : ℕ) → IsGoodNode sc m Biu j st → call_tick_of sc.sizes sc.plan st 3 ≡ Some tick
        → IsBetween (from_3 sc low) (to_3 sc low) (time_of (clock_of sc Biu j) tick)
        × (st.epoch + (f0_of sc.sizes sc.plan + sc.plan.l + sc.plan.v) ≤ tick) × (tick < st.epoch + (f0_of sc.sizes sc.plan + sc.plan.l + sc.plan.z + sc.plan.v))
    is j st tick h at =
        after-middle law h sc.plan.v (sync.second late j st h) at

-- The windows of the stages lie about the calls.

pub first_about : {sc m : _} (c : IsSet sc m (sync_slot_of sc.sizes) 1) → m.window ≡ 3 * sync_slot_of sc.sizes + 0 → {low : ℕ} → Begun sc m low
    → LieAbout sc m (sync_slot_of sc.sizes) 1 c.ws (from_1 sc low) (to_1 sc low)
first_about {sc} c at {low} begun =
    let fit : plan_fits sc = lawful_fits c.law in
    let f : ℕ = f0_of sc.sizes sc.plan in
    lie_about c (first_at c.ws at) (from_1 sc low) (to_1 sc low) begun
    (exact_early low sc.plan.p f f sc.plan.h (shortest_of sc.plan) (drift_of sc.plan) sc.plan.dmin (omega arith) fit.before_1)
    (exact_late low sc.plan.p f f sc.plan.h sc.plan.l (f + sc.plan.l - 1) (shortest_of sc.plan) (drift_of sc.plan) sc.plan.dmax (omega arith)
    (last_plus f sc.plan.l c.law.plan.l.0) fit.after_1)

pub second_about : {sc m : _} (c : IsSet sc m (sync_slot_of sc.sizes) 2) → m.window ≡ 3 * sync_slot_of sc.sizes + 1 → {low : ℕ} → Begun sc m low
    → LieAbout sc m (sync_slot_of sc.sizes) 2 c.ws (from_2 sc low) (to_2 sc low)
second_about {sc} c at {low} begun =
    let fit : plan_fits sc = lawful_fits c.law in
    let f : ℕ = f0_of sc.sizes sc.plan in
    lie_about c (second_at c.ws at) (from_2 sc low) (to_2 sc low) begun
    (second_early low sc.plan.p f sc.plan.h sc.plan.l (shortest_of sc.plan) (drift_of sc.plan) sc.plan.dmin fit.before_2)
    (second_late low sc.plan.p f sc.plan.h sc.plan.l sc.plan.v (f + sc.plan.l + sc.plan.v - 1) (shortest_of sc.plan) (drift_of sc.plan) sc.plan.dmax
    (last_plus (f + sc.plan.l) sc.plan.v c.law.plan.v.0) fit.after_2)

pub third_about : {sc m : _} (c : IsSet sc m (sync_slot_of sc.sizes) 3) → m.window ≡ 3 * sync_slot_of sc.sizes + 2 → {low : ℕ} → Begun sc m low
    → LieAbout sc m (sync_slot_of sc.sizes) 3 c.ws (from_3 sc low) (to_3 sc low)
third_about {sc} c at {low} begun =
    let fit : plan_fits sc = lawful_fits c.law in
    let f : ℕ = f0_of sc.sizes sc.plan in
    lie_about c (third_at c.ws at) (from_3 sc low) (to_3 sc low) begun
    (third_early low sc.plan.p f sc.plan.h sc.plan.l sc.plan.v (shortest_of sc.plan) (drift_of sc.plan) sc.plan.dmin fit.before_3)
    (third_late low sc.plan.p f sc.plan.h sc.plan.l sc.plan.v sc.plan.z (f + sc.plan.l + sc.plan.v + sc.plan.z - 1) (shortest_of sc.plan) (drift_of sc.plan) sc.plan.dmax
    (last_plus (f + sc.plan.l + sc.plan.v) sc.plan.z c.law.plan.z.0) fit.after_3)
