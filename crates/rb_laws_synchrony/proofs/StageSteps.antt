-- A stage of the sync slot that passes, at one good node: the middle that it keeps is a tick of the
-- window, and the next call is one of the next window.
use Rattle.std.proofs.{Common.{◌≡◌, ℕ, ◌+◌, ◌-◌, ◌*◌, ◌≤◌, ◌<◌, true, Some, option_and_then, unwrap_or, slice_get, refl, sym, ◌∙◌, ap, subst, arith}, lemmas.Option.same_Some}
use Rattle.rb_base.specs.{Nodes.{Side, other}, Sizes.sync_slot_of}
use Rattle.rb_rules.specs.{Book.of_kind, Clock.time_of, ExactStage.{each_node, present}, Goodness.{Scenario, clock_of, is_good}, Middle.{IsMiddle, middle_of}, NodeState.NodeState, Plan.shortest_of, Rounds.Moment, SyncStage.call_tick_of}
use Rattle.rb_rules.proofs.Middles.{AreNear, IsBetween}
use Rattle.rb_laws_agreement.proofs.{Goodnesses.{good_below_16, slot_last}, Invariant.{IsGoodNode, is_good_now, slot_numbered}, NodeWindows.Windows}
use Rattle.rb_laws_synchrony.proofs.{Middles.{HasLeast, least_of}, PlanNumbers.{drift_of, le_trans}, StageCalls.{Begun, IsAt, clock_now}, StageMiddles.{CallBetween, HearsMiddle, IsCaller, IsHeardStage, Late, all_late, caller, hears_middle, tick_of, ws_of}, Synchronous.{at_offset, heard_from, heard_to}, TakenCalls.took, TimelyWindows.LieAbout, Times.{Steady, tick_le}}

-- the middle that a good node finds
pub record StageMiddle (sc : Scenario) (m : Moment) (q : ℕ) (ws : Windows sc m (sync_slot_of sc.sizes) (q + 1)) (me : Side) (i : ℕ) (st : NodeState) (first last own low high : ℕ) : Type 0 where
  pub tick : ℕ
  pub found : middle_of (present (each_node (took q ws me i st))) ≡ Some tick
  pub middle : IsMiddle tick (present (each_node (took q ws me i st)))
  pub from : st.epoch + first ≤ tick
  pub inside : tick < st.epoch + last
  pub own_window : tick < st.epoch + own
  pub between : IsBetween (heard_from sc low) (heard_to sc high) (time_of (clock_of sc me i) tick)
  pub late : Late sc m q ws me i st

pub stage_middle : {sc hands n m s q me : _} (c : IsHeardStage sc hands n m s q me) {start low high first ticks : ℕ} (own : ℕ)
    → Begun sc m start → CallBetween sc m (other me) (q + 1) low high → LieAbout sc m (sync_slot_of sc.sizes) (q + 1) (ws_of c) low high
    → IsAt sc m (sync_slot_of sc.sizes) (q + 1) (ws_of c) first ticks → 1 ≤ first → 1 ≤ ticks → 1 ≤ own → high + sc.plan.dmax ≤ start + (own - 1) * shortest_of sc.plan
    → {i st : _} → IsGoodNode sc m me i st
    → StageMiddle sc m q (ws_of c) me i st first (first + ticks) own low high
stage_middle {sc} {m} {q} {me} c {start} {low} {high} {first} {ticks} own begun calls about at some some_ticks some_own next {i} {st} here =
    let ws : Windows sc m (sync_slot_of sc.sizes) (q + 1) = ws_of c in
    let clock : Steady (shortest_of sc.plan) (drift_of sc.plan) (clock_of sc me i) = clock_now c.stage.law here in
    let h : HearsMiddle sc m q ws me i st low high = hears_middle c calls here in
    let e : ws.first me st ≡ first = at.first_is me st in
    let l : ws.last me st ≡ first + ticks - 1 = at.last_is me st in
    let early : time_of (clock_of sc me i) (st.epoch + ws.first me st) ≤ low + sc.plan.dmin = about.early me i st here in
    let from : st.epoch + ws.first me st ≤ h.tick = tick_le (clock_of sc me i) clock.moves (st.epoch + ws.first me st) h.tick (omega (arith, early, h.not_early)) in
    let to : h.tick ≤ st.epoch + ws.last me st = h.in_time (st.epoch + ws.last me st) (about.late me i st here) in
    let time : IsBetween (start + (own - 1) * shortest_of sc.plan) (start + sc.plan.p + (own - 1) * tick_of sc.plan) (time_of (clock_of sc me i) (st.epoch + (own - 1))) =
    at_offset clock sc.plan.p st.epoch (own - 1) refl (begun me i st here) in
    let to_own : h.tick ≤ st.epoch + (own - 1) =
    h.in_time (st.epoch + (own - 1)) (le_trans (high + sc.plan.dmax) (start + (own - 1) * shortest_of sc.plan) (time_of (clock_of sc me i) (st.epoch + (own - 1))) next time.least) in
    let positive : 1 ≤ h.tick = omega (arith, from, e, some) in
    record {
      tick = h.tick;
      found = h.found;
      middle = h.middle;
      from = omega (arith, from, e);
      inside = omega (arith, to, l, some_ticks);
      own_window = omega (arith, to_own, some_own);
      between = record { least = h.not_early; most = h.not_late positive };
      late = all_late c calls here (omega (arith, e, some)) early;
    }

-- bounds of the calls that are closer still hold of the middle
pub closer : {sc hands n m s q me : _} (c : IsHeardStage sc hands n m s q me) {first last own low high least most : ℕ}
    → CallBetween sc m (other me) (q + 1) least most → {i st : _} → IsGoodNode sc m me i st → 1 ≤ first
    → (k : StageMiddle sc m q (ws_of c) me i st first last own low high)
    → IsBetween (heard_from sc least) (heard_to sc most) (time_of (clock_of sc me i) k.tick)
closer {sc} {m} {q} {me} c {least} {most} calls {i} {st} here some k =
    let h : HearsMiddle sc m q (ws_of c) me i st least most = hears_middle c calls here in
    let same : h.tick ≡ k.tick = same_Some h.tick k.tick (sym h.found ∙ k.found) in
    subst (λ t. IsBetween (heard_from sc least) (heard_to sc most) (time_of (clock_of sc me i) t)) same
    (record { least = h.not_early; most = h.not_late (omega (arith, same, k.from, some)) })

-- Calls that are near.

-- the calls of good nodes in the stage are near
abbrev pub CallNear : Scenario → Moment → Side → ℕ → ℕ → Type 0
CallNear sc m kind stage near =
    (a b : ℕ) (sta stb : NodeState) → IsGoodNode sc m kind a sta → IsGoodNode sc m kind b stb → (k l : ℕ)
    → call_tick_of sc.sizes sc.plan sta stage ≡ Some k → call_tick_of sc.sizes sc.plan stb stage ≡ Some l
    → AreNear near (time_of (clock_of sc kind a) k) (time_of (clock_of sc kind b) l)

-- the time of a node's call
call_time : Scenario → Moment → Side → ℕ → ℕ → ℕ
call_time sc m kind stage j =
    time_of (clock_of sc kind j) (unwrap_or (option_and_then (λ st. call_tick_of sc.sizes sc.plan st stage) (slice_get (of_kind kind m.nodes) j)) 0)

call_time-is : (sc : Scenario) (m : Moment) (kind : Side) (stage j : ℕ) {st tick : _} → slice_get (of_kind kind m.nodes) j ≡ Some st
    → call_tick_of sc.sizes sc.plan st stage ≡ Some tick → call_time sc m kind stage j ≡ time_of (clock_of sc kind j) tick
unfolding call_time
call_time-is sc m kind stage j {st} there at =
    ap (λ o. time_of (clock_of sc kind j) (unwrap_or (option_and_then (λ st. call_tick_of sc.sizes sc.plan st stage) o) 0)) there
    ∙ ap (λ o. time_of (clock_of sc kind j) (unwrap_or o 0)) at

pub near_calls : {sc hands n m s q me : _} (c : IsHeardStage sc hands n m s q me) {near : ℕ}
    → CallNear sc m (other me) (q + 1) near → (least : ℕ) × CallBetween sc m (other me) (q + 1) least (least + near)
near_calls {sc} {m} {q} {me} c {near} close =
    let kind : Side = other me in
    let here : (j : ℕ) → is_good_now sc m kind j ≡ true → IsCaller sc m kind (q + 1) j =
    λ j g. caller c j (ap (is_good sc kind j m.frame) (sym (slot_last sc.sizes q c.stage.at)) ∙ g) in
    let found : HasLeast (is_good_now sc m kind) (call_time sc m kind (q + 1)) near 16 =
    least_of (is_good_now sc m kind) (call_time sc m kind (q + 1)) near (λ i j g h.
    let a : IsCaller sc m kind (q + 1) i = here i g in
    let b : IsCaller sc m kind (q + 1) j = here j h in
    let pair : AreNear near (time_of (clock_of sc kind i) a.tick) (time_of (clock_of sc kind j) b.tick) = close i j a.st b.st a.here b.here a.tick b.tick a.at b.at in
    omega (arith, pair.above, call_time-is sc m kind (q + 1) i a.here.there a.at, call_time-is sc m kind (q + 1) j b.here.there b.at)) 16 in (
      found.least,
      λ j source tick h at.
          subst (IsBetween found.least (found.least + near)) (call_time-is sc m kind (q + 1) j h.there at)
          (found.at j (good_below_16 sc c.stage.law.sizes kind j m.frame (slot_numbered sc.sizes m.window) h.good) h.good),
    )
