-- One frame, from any states: the three stages of the sync slot one after the other, and what good
-- nodes know after them.
use Rattle.std.proofs.{Common.{◌≡◌, ℕ, zero, suc, ◌+◌, ◌-◌, ◌*◌, ◌/◌, ◌%◌, ◌<◌, ◌≤◌, ◌==◌, min, max, true, false, Some, option_map, inl, inr, ◌⊎◌, refl, sym, ◌∙◌, ap, subst, arith}, Math.Nat.mul-le-mul_right, lemmas.Bool.cases_lt}
use Rattle.rb_base.specs.{Nodes.{Side, other}, Nodes.Side.{Biu, Rmu}, Sizes.sync_slot_of}
use Rattle.rb_base.proofs.Plain.{eq_self, less-differs}
use Rattle.rb_rules.specs.{declared.plan.Window.Window, declared.role.Role.TheVariants.Sync, Clock.{stamp_of, time_of}, NodeState.NodeState, Plan.{f0_of, shortest_of}, Slots.{listens, role_of}, SyncStage.{call_tick_of, close_sync, send_tick_of, sync_outcome_of}, Windows.{exact_window, send_offset_of, window_of}}
use Rattle.rb_rules.proofs.{Middles.{AreNear, IsBetween}, Slots.sync_role, WindowNumbers.{exact-numbered, exact-slot, sync-numbered}}
use Rattle.rb_laws_synchrony.specs.OneFrame.{BeginsNext, EachMessageIsTimely, Frame, IsFrame, IsTimelyMessage, KeepsPremise, NoneCallsUnlike, OneFrameKeepsTime, state_in, state_through, sync_window, window_in}
use Rattle.rb_laws_synchrony.proofs.{LaterStages.{near-between, weaker}, LastStage.{biu_begins, rmu_begins}, PlanNumbers.{drift_of, eps_of, exact_early, exact_late, last_plus, le_trans, second_early, second_late, second_own, third_early, third_late, third_own}, StageMiddles.tick_of, StageOfFrame.{Calls, IsStageOf, Keeps, Lie, clock-of, closer-still, epoch-is, first-is, fits-of, frame_fits, in-window, keeps, last-is, lie-within, middles-near, offset-at, stay-eligible}, SyncSteps.{f0-some, some_more}, Synchronous.{near_1, near_2, near_3, near_on, ticks_on}, Times.{Steady, stamp_from, stamp_to}}

-- Numbers of a frame.

abbrev offset_of : Frame → ℕ
offset_of x = f0_of x.sizes x.plan

abbrev from-1 : Frame → ℕ → ℕ
from-1 x low = low + (offset_of x + x.plan.h) * shortest_of x.plan

abbrev to-1 : Frame → ℕ → ℕ
to-1 x low = low + x.plan.p + (offset_of x + x.plan.h) * tick_of x.plan

abbrev from-2 : Frame → ℕ → ℕ
from-2 x low = from-1 x low + x.plan.dmin + x.plan.l * shortest_of x.plan

abbrev to-2 : Frame → ℕ → ℕ
to-2 x low = to-1 x low + x.plan.dmax + tick_of x.plan + x.plan.l * tick_of x.plan

abbrev from-3 : Frame → ℕ → ℕ
from-3 x low = from-2 x low + x.plan.dmin + x.plan.v * shortest_of x.plan

abbrev to-3 : Frame → ℕ → ℕ
to-3 x low = to-2 x low + x.plan.dmax + tick_of x.plan + x.plan.v * tick_of x.plan

some-offset : {x low : _} → IsFrame x low → 1 ≤ offset_of x
some-offset {x} is = f0-some x.sizes.bius x.sizes.rmus x.sizes.data_slots x.plan.l is.shape.some_biu is.plan.l.0

less-of : (a b c : ℕ) → a + b ≤ c → a ≤ c
less-of a b c h = omega arith

-- The first stage.

abbrev FirstStage : Frame → ℕ → Type 0
FirstStage x low = IsStageOf x low 0 Rmu (offset_of x) x.plan.l (from-1 x low) (to-1 x low)

first-calls : {x low : _} → IsFrame x low → (j : ℕ) → x.good Biu j ≡ true → Calls x 0 Biu j (from-1 x low) (to-1 x low) (offset_of x) x.plan.l
unfolding state_through
first-calls {x} is j good =
    let inside : x.plan.h < x.plan.l = (fits-of is).in_l in
    record {
      tick = (x.before Biu j).epoch + offset_of x + x.plan.h;
      at = refl;
      between = offset-at is Biu j good (offset_of x + x.plan.h) (group (x.before Biu j).epoch (offset_of x) x.plan.h);
      from_first = within (x.before Biu j).epoch (offset_of x) x.plan.h;
      inside = before (x.before Biu j).epoch (offset_of x) x.plan.h x.plan.l inside;
    }
  where
    group : (a b c : ℕ) → a + b + c ≡ a + (b + c)
    group a b c = omega arith

    within : (a b c : ℕ) → a + b ≤ a + b + c
    within a b c = omega arith

    before : (a b c d : ℕ) → c < d → a + b + c < a + (b + d)
    before a b c d less = omega arith

first-stage : {x low : _} → IsFrame x low → KeepsPremise x → FirstStage x low
unfolding state_through
first-stage {x} {low} is premise =
    let fit : frame_fits x = fits-of is in
    let f : ℕ = offset_of x in
    let u : ℕ = shortest_of x.plan in
    let d : ℕ = drift_of x.plan in
    record {
      is = is;
      premise = premise;
      small = omega arith;
      listening = refl;
      deaf = refl;
      window = λ kind i. sync-numbered x.sizes x.plan kind (x.before kind i) 0;
      some_first = some-offset is;
      some = is.plan.l.0;
      early = exact_early low x.plan.p f f x.plan.h u d x.plan.dmin (omega arith) fit.before_1;
      late = exact_late low x.plan.p f f x.plan.h x.plan.l (f + x.plan.l - 1) u d x.plan.dmax (omega arith) (last_plus f x.plan.l is.plan.l.0) fit.after_1;
      eligible = is.eligible;
      calls = first-calls is;
    }

abbrev FirstKept : Frame → ℕ → ℕ → Type 0
FirstKept x low i = Keeps x 0 Rmu i (offset_of x) x.plan.l (from-1 x low) (to-1 x low)

first-kept : {x low : _} → FirstStage x low → (i : ℕ) → x.good Rmu i ≡ true → FirstKept x low i
first-kept s i good = keeps s i good

-- The second stage.

abbrev SecondStage : Frame → ℕ → Type 0
SecondStage x low = IsStageOf x low 1 Biu (offset_of x + x.plan.l) x.plan.v (from-2 x low) (to-2 x low)

second-calls : {x low : _} → FirstStage x low → (j : ℕ) → x.good Rmu j ≡ true
    → Calls x 1 Rmu j (from-2 x low) (to-2 x low) (offset_of x + x.plan.l) x.plan.v
unfolding state_through
second-calls {x} {low} s j good =
    let fit : frame_fits x = fits-of s.is in
    let f : ℕ = offset_of x in
    let u : ℕ = shortest_of x.plan in
    let d : ℕ = drift_of x.plan in
    let k : FirstKept x low j = first-kept s j good in
    let e : ℕ = (x.before Rmu j).epoch in
    let some : 1 ≤ f + x.plan.v = some_more f x.plan.v (some-offset s.is) in
    let bound : to-1 x low + x.plan.dmax ≤ low + (f + x.plan.v - 1) * u =
    less-of (to-1 x low + x.plan.dmax) (u + d) (low + (f + x.plan.v - 1) * u)
    (second_own low x.plan.p f x.plan.h x.plan.l x.plan.v (f + x.plan.v - 1) u d x.plan.dmax (last_plus f x.plan.v s.is.plan.v.0) fit.after_2) in
    let own : k.tick ≤ e + (f + x.plan.v - 1) =
    k.in_time (e + (f + x.plan.v - 1))
    (le_trans (to-1 x low + x.plan.dmax) (low + (f + x.plan.v - 1) * u) (time_of (x.clock Rmu j) (e + (f + x.plan.v - 1))) bound
    (offset-at s.is Rmu j good (f + x.plan.v - 1) refl).least) in
    let from = k.from_first in
    record {
      tick = k.tick + x.plan.l;
      at = ap (option_map (λ k1. k1 + x.plan.l)) k.is;
      between = ticks_on (clock-of s.is Rmu j good)
          k.tick x.plan.l refl k.between;
      from_first = later e f x.plan.l k.tick from;
      inside = inside e f x.plan.l x.plan.v k.tick some own;
    }
  where
    later : (e f l k : ℕ) → e + f ≤ k → e + (f + l) ≤ k + l
    later e f l k h = omega arith

    inside : (e f l v k : ℕ) → 1 ≤ f + v → k ≤ e + (f + v - 1) → k + l < e + (f + l + v)
    inside e f l v k some h = omega arith

second-stage : {x low : _} → FirstStage x low → SecondStage x low
second-stage {x} {low} s =
    let fit : frame_fits x = fits-of s.is in
    let f : ℕ = offset_of x in
    let u : ℕ = shortest_of x.plan in
    let d : ℕ = drift_of x.plan in
    record {
      is = s.is;
      premise = s.premise;
      small = omega arith;
      listening = refl;
      deaf = refl;
      window = λ kind i. sync-numbered x.sizes x.plan kind (x.before kind i) 1;
      some_first = some_more f x.plan.l (some-offset s.is);
      some = s.is.plan.v.0;
      early = second_early low x.plan.p f x.plan.h x.plan.l u d x.plan.dmin fit.before_2;
      late = second_late low x.plan.p f x.plan.h x.plan.l x.plan.v (f + x.plan.l + x.plan.v - 1) u d x.plan.dmax
          (last_plus (f + x.plan.l) x.plan.v s.is.plan.v.0) fit.after_2;
      eligible = stay-eligible s;
      calls = second-calls s;
    }

abbrev SecondKept : Frame → ℕ → ℕ → Type 0
SecondKept x low i = Keeps x 1 Biu i (offset_of x + x.plan.l) x.plan.v (from-2 x low) (to-2 x low)

second-kept : {x low : _} → SecondStage x low → (i : ℕ) → x.good Biu i ≡ true → SecondKept x low i
second-kept s i good = keeps s i good

-- The third stage.

abbrev ThirdStage : Frame → ℕ → Type 0
ThirdStage x low = IsStageOf x low 2 Rmu (offset_of x + x.plan.l + x.plan.v) x.plan.z (from-3 x low) (to-3 x low)

third-calls : {x low : _} → SecondStage x low → (j : ℕ) → x.good Biu j ≡ true
    → Calls x 2 Biu j (from-3 x low) (to-3 x low) (offset_of x + x.plan.l + x.plan.v) x.plan.z
unfolding state_through
third-calls {x} {low} s j good =
    let fit : frame_fits x = fits-of s.is in
    let f : ℕ = offset_of x in
    let u : ℕ = shortest_of x.plan in
    let d : ℕ = drift_of x.plan in
    let k : SecondKept x low j = second-kept s j good in
    let e : ℕ = (x.before Biu j).epoch in
    let some : 1 ≤ f + x.plan.l + x.plan.z = some_more (f + x.plan.l) x.plan.z (some_more f x.plan.l (some-offset s.is)) in
    let bound : to-2 x low + x.plan.dmax ≤ low + (f + x.plan.l + x.plan.z - 1) * u =
    less-of (to-2 x low + x.plan.dmax) (u + d) (low + (f + x.plan.l + x.plan.z - 1) * u)
    (third_own low x.plan.p f x.plan.h x.plan.l x.plan.v x.plan.z (f + x.plan.l + x.plan.z - 1) u d x.plan.dmax
    (last_plus (f + x.plan.l) x.plan.z s.is.plan.z.0) fit.after_3) in
    let own : k.tick ≤ e + (f + x.plan.l + x.plan.z - 1) =
    k.in_time (e + (f + x.plan.l + x.plan.z - 1))
    (le_trans (to-2 x low + x.plan.dmax) (low + (f + x.plan.l + x.plan.z - 1) * u) (time_of (x.clock Biu j) (e + (f + x.plan.l + x.plan.z - 1))) bound
    (offset-at s.is Biu j good (f + x.plan.l + x.plan.z - 1) refl).least) in
    let from = k.from_first in
    record {
      tick = k.tick + x.plan.v;
      at = ap (option_map (λ k2. k2 + x.plan.v)) k.is;
      between = ticks_on (clock-of s.is Biu j good)
          k.tick x.plan.v refl k.between;
      from_first = later e (f + x.plan.l) x.plan.v k.tick from;
      inside = inside e (f + x.plan.l) x.plan.v x.plan.z k.tick some own;
    }
  where
    later : (e f l k : ℕ) → e + f ≤ k → e + (f + l) ≤ k + l
    later e f l k h = omega arith

    inside : (e f l v k : ℕ) → 1 ≤ f + v → k ≤ e + (f + v - 1) → k + l < e + (f + l + v)
    inside e f l v k some h = omega arith

third-stage : {x low : _} → SecondStage x low → ThirdStage x low
third-stage {x} {low} s =
    let fit : frame_fits x = fits-of s.is in
    let f : ℕ = offset_of x in
    let u : ℕ = shortest_of x.plan in
    let d : ℕ = drift_of x.plan in
    record {
      is = s.is;
      premise = s.premise;
      small = omega arith;
      listening = refl;
      deaf = refl;
      window = λ kind i. sync-numbered x.sizes x.plan kind (x.before kind i) 2;
      some_first = some_more (f + x.plan.l) x.plan.v (some_more f x.plan.l (some-offset s.is));
      some = s.is.plan.z.0;
      early = third_early low x.plan.p f x.plan.h x.plan.l x.plan.v u d x.plan.dmin fit.before_3;
      late = third_late low x.plan.p f x.plan.h x.plan.l x.plan.v x.plan.z (f + x.plan.l + x.plan.v + x.plan.z - 1) u d x.plan.dmax
          (last_plus (f + x.plan.l + x.plan.v) x.plan.z s.is.plan.z.0) fit.after_3;
      eligible = stay-eligible s;
      calls = third-calls s;
    }

-- How near they are.

first-near : {x low : _} (s : FirstStage x low) → NoneCallsUnlike x Biu → (a b : ℕ) (good_a : x.good Rmu a ≡ true) (good_b : x.good Rmu b ≡ true)
    → AreNear (near_1 x.plan) (time_of (x.clock Rmu a) (first-kept s a good_a).tick) (time_of (x.clock Rmu b) (first-kept s b good_b).tick)
unfolding first-kept
first-near s none =
    middles-near s
    (λ a b j good_a good_b below faulty. none 0 a b j (omega arith) refl good_a good_b below faulty)

-- the middles of the second stage are near whichever kind has no asymmetric node
second-near : {x low : _} (s : FirstStage x low) → NoneCallsUnlike x Biu ⊎ NoneCallsUnlike x Rmu
    → (a b : ℕ) (good_a : x.good Biu a ≡ true) (good_b : x.good Biu b ≡ true)
    → AreNear (near_2 x.plan) (time_of (x.clock Biu a) (second-kept (second-stage s) a good_a).tick)
    (time_of (x.clock Biu b) (second-kept (second-stage s) b good_b).tick)
unfolding first-kept second-kept second-stage second-calls
second-near {x} {low} s (inr none) a b good_a good_b =
    let t : SecondStage x low = second-stage s in
    weaker (near_2 x.plan) (omega arith)
    (middles-near t
    (λ a b j good_a good_b below faulty. none 1 a b j (omega arith) refl good_a good_b below faulty) a b good_a good_b)
second-near {x} {low} s (inl none) a b good_a good_b =
    let t : SecondStage x low = second-stage s in
    let u : ℕ = shortest_of x.plan in
    let d : ℕ = drift_of x.plan in
    let spread : ℕ = near_1 x.plan + d * x.plan.l in
    let calls : Lie x low 1 Biu (offset_of x + x.plan.l) x.plan.v (from-2 x low) (to-2 x low) t spread =
    lie-within t spread (λ i j good_i good_j.
    near_on (clock-of s.is Rmu i good_i) (clock-of s.is Rmu j good_j)
    (first-kept s i good_i).tick (first-kept s j good_j).tick x.plan.l refl refl
    (first-near s none i j good_i good_j)) in
    near-between spread (eps_of x.plan) (tick_of x.plan) calls.least x.plan.dmin refl (fits-of s.is).delays
    (closer-still calls.lie a good_a)
    (closer-still calls.lie b good_b)

third-near : {x low : _} (s : FirstStage x low)
    → Lie x low 2 Rmu (offset_of x + x.plan.l + x.plan.v) x.plan.z (from-3 x low) (to-3 x low) (third-stage (second-stage s)) (near_3 x.plan)
unfolding second-kept second-stage third-stage third-calls
third-near {x} {low} s =
    let t : SecondStage x low = second-stage s in
    let r : ThirdStage x low = third-stage t in
    lie-within r (near_3 x.plan) (λ i j good_i good_j.
    near_on (clock-of s.is Biu i good_i) (clock-of s.is Biu j good_j)
    (second-kept t i good_i).tick (second-kept t j good_j).tick x.plan.v refl refl
    (second-near s s.premise.one_kind i j good_i good_j))

-- The next frame.

later-of : (x : Frame) → ℕ → ℕ
later-of x least = least + x.plan.z * shortest_of x.plan + min (x.plan.c * shortest_of x.plan) x.plan.dmin

biu-takes : (e k f l v z c : ℕ) → e + (f + l) ≤ k → k < e + (f + l + v) → (e + (f + l + v + z) ≤ k + v + z + c) × (k + v + z + c < e + (f + l + v + z) + max z (v + c))
biu-takes e k f l v z c p q = (omega arith, omega arith)

rmu-takes : (e k f l v z c : ℕ) → e + (f + l + v) ≤ k → k < e + (f + l + v + z) → (e + (f + l + v + z) ≤ k + z) × (k + z < e + (f + l + v + z) + max z (v + c))
rmu-takes e k f l v z c p q = (omega arith, omega arith)

-- the middle of the second stage stays through the third
second-stays : (x : Frame) (i : ℕ) → (state_through x 3 Biu i).k2 ≡ (state_through x 2 Biu i).k2
unfolding state_through close_sync sync_outcome_of
second-stays x i = refl

begin-next : {x low : _} (s : FirstStage x low) (me : Side) (i : ℕ) → x.good me i ≡ true → BeginsNext x me i (later-of x (third-near s).least)
unfolding later-of state_through second-kept third-stage third-calls
begin-next {x} {low} s Biu i good =
    let t : SecondStage x low = second-stage s in
    let r : ThirdStage x low = third-stage t in
    let fit : frame_fits x = fits-of s.is in
    let u : ℕ = shortest_of x.plan in
    let d : ℕ = drift_of x.plan in
    let k : SecondKept x low i = second-kept t i good in
    let near = third-near s in
    let e : (state_through x 3 Biu i).epoch ≡ (x.before Biu i).epoch = epoch-is x 3 Biu i in
    let bounds = biu-takes (x.before Biu i).epoch k.tick (offset_of x) x.plan.l x.plan.v x.plan.z x.plan.c k.from_first k.inside in
    let between = biu_begins near.least fit
    (ticks_on (clock-of s.is Biu i good) (k.tick + x.plan.v) (x.plan.z + x.plan.c) (ticks-as k.tick x.plan.v x.plan.z x.plan.c) (near.lie.at i good)) in
    record {
      takes = record {
        epoch = k.tick + x.plan.v + x.plan.z + x.plan.c;
        known = ap (option_map (λ k2. k2 + x.plan.v + x.plan.z + x.plan.c)) (second-stays x i ∙ k.is);
        least = omega (arith, e, bounds.0);
        most = omega (arith, e, bounds.1);
      };
      not_early = between.least;
      not_late = between.most;
    }
  where
    ticks-as : (k v z c : ℕ) → k + v + z + c ≡ k + v + (z + c)
    ticks-as k v z c = omega arith
begin-next {x} {low} s Rmu i good =
    let t : SecondStage x low = second-stage s in
    let r : ThirdStage x low = third-stage t in
    let fit : frame_fits x = fits-of s.is in
    let f : ℕ = offset_of x in
    let u : ℕ = shortest_of x.plan in
    let d : ℕ = drift_of x.plan in
    let k : Keeps x 2 Rmu i (f + x.plan.l + x.plan.v) x.plan.z (from-3 x low) (to-3 x low) =
    keeps r i good in
    let near = third-near s in
    let e : (state_through x 3 Rmu i).epoch ≡ (x.before Rmu i).epoch = epoch-is x 3 Rmu i in
    let bounds = rmu-takes (x.before Rmu i).epoch k.tick f x.plan.l x.plan.v x.plan.z x.plan.c k.from_first k.inside in
    let closer : IsBetween (near.least + x.plan.dmin) (near.least + near_3 x.plan + x.plan.dmax + tick_of x.plan) (time_of (x.clock Rmu i) k.tick) =
    closer-still near.lie i good in
    let between = rmu_begins near.least fit
    (ticks_on (clock-of s.is Rmu i good) k.tick x.plan.z refl closer) in
    record {
      takes = record {
        epoch = k.tick + x.plan.z;
        known = ap (option_map (λ k3. k3 + x.plan.z)) k.is;
        least = omega (arith, e, bounds.0);
        most = omega (arith, e, bounds.1);
      };
      not_early = between.least;
      not_late = between.most;
    }

-- The windows.

-- a message that is sent at an offset of an exact window
timely-below : {x low : _} → IsFrame x low → (n : ℕ) → n < 3 * sync_slot_of x.sizes → (me : Side) (i j : ℕ) → x.good me i ≡ true → x.good (other me) j ≡ true
    → IsTimelyMessage x n me i j
timely-below {x} {low} is n below me i j here good =
    record {
      tick = tick;
      sent = ap (λ (w : Window). send_tick_of x.sizes x.plan st w.slot w.stage) (window me i) ∙ at;
      own = (
        subst (λ k. k ≤ tick) (sym (ap (λ (w : Window). (x.before (other me) j).epoch + w.first) (window (other me) j))) (within (x.before (other me) j).epoch a x.plan.h),
        subst (λ k. tick ≤ k) (sym (ap (λ (w : Window). (x.before (other me) j).epoch + w.last) (window (other me) j)))
            (inside (x.before (other me) j).epoch a x.plan.h x.plan.l fit.in_l),
      );
      heard = λ time may. (
        subst (λ k. k ≤ stamp_of (x.clock me i) time) (sym (ap (λ (w : Window). (x.before me i).epoch + w.first) (window me i)))
            (stamp_from (x.clock me i) clock.moves time ((x.before me i).epoch + a) (omega (arith, early, begin.most, sent.least, may.not_early))),
        subst (λ k. stamp_of (x.clock me i) time ≤ k) (sym (ap (λ (w : Window). (x.before me i).epoch + w.last) (window me i)))
            (stamp_to (x.clock me i) clock.moves time ((x.before me i).epoch + (a + x.plan.l - 1)) (omega (arith, late, end.least, sent.most, may.not_late))),
      );
    }
  where
    a : ℕ
    a = n * x.plan.l

    tick : ℕ
    tick = (x.before (other me) j).epoch + (a + x.plan.h)

    st : NodeState
    st = state_in x n (other me) j

    fit : frame_fits x
    fit = fits-of is

    clock : Steady (shortest_of x.plan) (drift_of x.plan) (x.clock me i)
    clock = clock-of is me i here

    window : (kind : Side) (i : ℕ) → window_in x n kind i ≡ exact_window x.plan n
    window kind i = exact-numbered x.sizes x.plan kind (x.before kind i) n below

    number : 3 * (n / 3) + (n % 3 + 1) - 1 ≡ n
    number = omega arith

    at : send_tick_of x.sizes x.plan st (n / 3) (n % 3 + 1) ≡ Some tick
    at =
        let away : (n / 3 == sync_slot_of x.sizes) ≡ false = less-differs (n / 3) (sync_slot_of x.sizes) (exact-slot x.sizes n below) in
        let sends : send_tick_of x.sizes x.plan st (n / 3) (n % 3 + 1) ≡ Some (st.epoch + send_offset_of x.plan (n / 3) (n % 3 + 1)) = rw away refl in
        sends ∙ ap (λ w. Some (st.epoch + (w * x.plan.l + x.plan.h))) number
        ∙ ap (λ e. Some (e + (a + x.plan.h))) (epoch-is x (n - 3 * sync_slot_of x.sizes) (other me) j)

    a_le : a ≤ offset_of x
    a_le = mul-le-mul_right x.plan.l (omega arith)

    begin : IsBetween (low + a * shortest_of x.plan) (low + x.plan.p + a * tick_of x.plan) (time_of (x.clock me i) ((x.before me i).epoch + a))
    begin = offset-at is me i here a refl

    end : IsBetween (low + (a + x.plan.l - 1) * shortest_of x.plan) (low + x.plan.p + (a + x.plan.l - 1) * tick_of x.plan) (time_of (x.clock me i) ((x.before me i).epoch + (a + x.plan.l - 1)))
    end = offset-at is me i here (a + x.plan.l - 1) refl

    sent : IsBetween (low + (a + x.plan.h) * shortest_of x.plan) (low + x.plan.p + (a + x.plan.h) * tick_of x.plan) (time_of (x.clock (other me) j) tick)
    sent = offset-at is (other me) j good (a + x.plan.h) refl

    early : low + x.plan.p + a * tick_of x.plan ≤ low + (a + x.plan.h) * shortest_of x.plan + x.plan.dmin
    early = exact_early low x.plan.p a (offset_of x) x.plan.h (shortest_of x.plan) (drift_of x.plan) x.plan.dmin a_le fit.before_1

    late : low + x.plan.p + (a + x.plan.h) * tick_of x.plan + x.plan.dmax ≤ low + (a + x.plan.l - 1) * shortest_of x.plan
    late = exact_late low x.plan.p a (offset_of x) x.plan.h x.plan.l (a + x.plan.l - 1) (shortest_of x.plan) (drift_of x.plan) x.plan.dmax a_le
        (last_plus a x.plan.l is.plan.l.0) fit.after_1

    within : (e a h : ℕ) → e + a ≤ e + (a + h)
    within e a h = omega arith

    inside : (e a h l : ℕ) → h < l → e + (a + h) ≤ e + (a + l - 1)
    inside e a h l less = omega arith

-- a call in a stage of the sync slot is timely
timely-stage : {x low q me first ticks from to : _} → IsStageOf x low q me first ticks from to → (i j : ℕ) → x.good me i ≡ true
    → x.good (other me) j ≡ true → IsTimelyMessage x (sync_window x q) me i j
timely-stage {x} {q} {me} {first} {ticks} {from} {to} s i j here good =
    let call : Calls x q (other me) j from to first ticks = s.calls j good in
    let from_first = call.from_first in
    let inside = call.inside in
    let slot : ℕ = sync_slot_of x.sizes in
    let same : sync_window x q - 3 * slot ≡ q = number slot q in
    let in_sync : (slot == slot) ≡ true = eq_self slot in
    let sends : send_tick_of x.sizes x.plan (state_through x q (other me) j) slot (q + 1) ≡ call_tick_of x.sizes x.plan (state_through x q (other me) j) (q + 1) = rw in_sync refl in
    let some = s.some in
    record {
      tick = call.tick;
      sent = ap (λ (w : Window). send_tick_of x.sizes x.plan (state_in x (sync_window x q) (other me) j) w.slot w.stage) (s.window me i)
          ∙ ap (λ n. send_tick_of x.sizes x.plan (state_through x n (other me) j) slot (q + 1)) same ∙ sends ∙ call.at;
      own = (
        subst (λ k. k ≤ call.tick) (sym (first-is s (other me) j)) from_first,
        subst (λ k. call.tick ≤ k) (sym (last-is me s (other me) j)) (omega (arith, inside, some)),
      );
      heard = in-window s i j here good;
    }
  where
    number : (slot q : ℕ) → 3 * slot + q - 3 * slot ≡ q
    number slot q = omega arith

-- a node that listens in a window of the sync slot listens in its stage
listens-in : (x : Frame) (q : ℕ) (me : Side) (i first ticks : ℕ) → window_in x (sync_window x q) me i ≡ window_of (sync_slot_of x.sizes) (q + 1) first ticks
    → listens me (role_of x.sizes (window_in x (sync_window x q) me i).slot) (window_in x (sync_window x q) me i).stage ≡ true → listens me Sync (q + 1) ≡ true
listens-in x q me i first ticks e listening =
    sym (ap (λ (w : Window). listens me (role_of x.sizes w.slot) w.stage) e ∙ ap (λ role. listens me role (q + 1)) (sync_role x.sizes)) ∙ listening

-- a message in a window of the sync slot is timely
timely-in-sync : {x low : _} → FirstStage x low → (q : ℕ) → q < 3 → (me : Side) (i j : ℕ) → x.good me i ≡ true → x.good (other me) j ≡ true
    → listens me (role_of x.sizes (window_in x (sync_window x q) me i).slot) (window_in x (sync_window x q) me i).stage ≡ true
    → IsTimelyMessage x (sync_window x q) me i j
timely-in-sync s zero small Rmu i j here good listening = timely-stage s i j here good
timely-in-sync {x} s zero small Biu i j here good listening =
    let h : listens Biu Sync (0 + 1) ≡ true = listens-in x 0 Biu i (offset_of x) x.plan.l (s.window Biu i) listening in
    absurd (cc)
timely-in-sync s (suc zero) small Biu i j here good listening =
    timely-stage (second-stage s) i j here good
timely-in-sync {x} s (suc zero) small Rmu i j here good listening =
    let h : listens Rmu Sync (1 + 1) ≡ true = listens-in x 1 Rmu i (offset_of x + x.plan.l) x.plan.v ((second-stage s).window Rmu i) listening in
    absurd (cc)
timely-in-sync s (suc (suc zero)) small Rmu i j here good listening =
    timely-stage (third-stage (second-stage s)) i j here good
timely-in-sync {x} {low} s (suc (suc zero)) small Biu i j here good listening =
    let r : ThirdStage x low = third-stage (second-stage s) in
    let h : listens Biu Sync (2 + 1) ≡ true = listens-in x 2 Biu i (offset_of x + x.plan.l + x.plan.v) x.plan.z (r.window Biu i) listening in
    absurd (cc)
timely-in-sync s (suc (suc (suc n))) small me i j here good listening = absurd (omega (arith, small))

each-timely : {x low : _} → FirstStage x low → EachMessageIsTimely x
each-timely {x} s n bound me i j here good listening =
    elim (cases_lt n (3 * sync_slot_of x.sizes)) [
      | inl below ↦ timely-below s.is n below me i j here good
      | inr late ↦
          let q : ℕ = n - 3 * sync_slot_of x.sizes in
          let e : sync_window x q ≡ n = omega (arith, late) in
          let P : ℕ → Type 0 = λ n. listens me (role_of x.sizes (window_in x n me i).slot) (window_in x n me i).stage ≡ true → IsTimelyMessage x n me i j in
          subst P e (timely-in-sync s q (omega (arith, late, bound)) me i j here good) listening
    ]

-- The frame.

pub keeps-time : OneFrameKeepsTime
keeps-time x low is premise =
    let s : FirstStage x low = first-stage is premise in
    let t : SecondStage x low = second-stage s in
    let r : ThirdStage x low = third-stage t in
    record {
      timely = each-timely s;
      later = later-of x (third-near s).least;
      next = begin-next s;
      eligible = stay-eligible r;
    }
