-- One stage of the sync slot of a frame, from any states: what good nodes hear in it, the middles
-- that they keep, and that these are near.
use Rattle.std.proofs.{Common.{◌≡◌, ℕ, zero, suc, ◌+◌, ◌-◌, ◌*◌, ◌<◌, ◌≤◌, ◌&&◌, max, Bool, true, false, not, Some, unwrap_or, inl, inr, ◌⊎◌, refl, sym, ◌∙◌, ap, subst, arith}, lemmas.Bool.{and_from, not_from_false, not-true}, lemmas.Option.same_Some}
use Rattle.rb_base.specs.{Nodes.{Side, other, has}, Nodes.Side.{Biu, Rmu}, Sizes.sync_slot_of}
use Rattle.rb_base.proofs.Plain.{and_first, and_second}
use Rattle.rb_rules.specs.{declared.plan.Window.Window, declared.role.Role.TheVariants.Sync, Clock.{stamp_of, time_of}, NodeState.NodeState, Plan.{f0_of, longest_of, shortest_of}, Rounds.IsTickOf, Sense.stamp_in, Slots.listens, Standing.{does_wrong, has_evidence, is_eligible}, SyncStage.{call_tick_of, close_sync, expects_call, sync_outcome_of}, Windows.window_of}
use Rattle.rb_rules.proofs.{Drift.{has_lengths, times_rise_strictly}, Middles.{AreNear, IsBetween}, Standings.{expected_is_taken, others_stay, right_is_no_evidence}}
use Rattle.rb_laws_agreement.proofs.Tests.{true_or_false}
use Rattle.rb_laws_synchrony.specs.{OneFrame.{BringsTheCall, Frame, IsFrame, KeepsPremise, MayArrive, listener, span_in, state_through, sync_window, window_in}, OneStage.{HearNear, HearsGoodCalls, IsCalledBetween, KeepsMiddle, LieNear, NearCalls, TakeNear, middle_kept, stamp_taken}}
use Rattle.rb_laws_synchrony.proofs.{Middles.{HasLeast, least_of}, OneStages.{FindsMiddle, finds, middles-are-near, middles-lie-among}, PlanNumbers.{Fits, drift_of, eps_of, fits, le_trans}, StageMiddles.tick_of, Synchronous.at_offset, Times.{Steady, stamp_from, stamp_to, steady-clock, tick_le}}

-- The plan and the clocks.

abbrev pub frame_fits : Frame → Type 0
frame_fits x = Fits x.plan (shortest_of x.plan) (drift_of x.plan) (f0_of x.sizes x.plan)

pub fits-of : {x low : _} → IsFrame x low → frame_fits x
fits-of {x} is = fits x.sizes is.plan is.feasible

pub clock-of : {x low : _} → IsFrame x low → (me : Side) (i : ℕ) → x.good me i ≡ true
    → Steady (shortest_of x.plan) (drift_of x.plan) (x.clock me i)
clock-of {x} is me i good =
    steady-clock (fits-of is)
    (has_lengths (shortest_of x.plan) (longest_of x.plan) (x.clock me i) (is.clocks me i good))

-- no stage changes the epoch
pub epoch-is : (x : Frame) (q : ℕ) (me : Side) (i : ℕ) → (state_through x q me i).epoch ≡ (x.before me i).epoch
unfolding state_through close_sync sync_outcome_of
epoch-is x zero me i = refl
epoch-is x (suc q) me i = epoch-is x q me i

-- at a good node an offset of the frame comes between these times
pub offset-at : {x low : _} → IsFrame x low → (me : Side) (i : ℕ) → x.good me i ≡ true → (offset : ℕ) {tick : ℕ}
    → tick ≡ (x.before me i).epoch + offset
    → IsBetween (low + offset * shortest_of x.plan) (low + x.plan.p + offset * tick_of x.plan) (time_of (x.clock me i) tick)
offset-at {x} is me i good offset e =
    let begun = is.begun me i good in
    at_offset (clock-of is me i good) x.plan.p (x.before me i).epoch offset e
    (record { least = begun.0; most = begun.1 })

-- A stage.

-- node `j` of `kind` calls in stage q + 1, between two times and at a tick of its window
pub record Calls (x : Frame) (q : ℕ) (kind : Side) (j from to first ticks : ℕ) : Type 0 where
  pub tick : ℕ
  pub at : call_tick_of x.sizes x.plan (state_through x q kind j) (q + 1) ≡ Some tick
  pub between : IsBetween from to (time_of (x.clock kind j) tick)
  pub from_first : (x.before kind j).epoch + first ≤ tick
  pub inside : tick < (x.before kind j).epoch + (first + ticks)

-- the stage after q stages, in which nodes of kind `me` listen
pub record IsStageOf (x : Frame) (low q : ℕ) (me : Side) (first ticks from to : ℕ) : Type 0 where
  pub is : IsFrame x low
  pub premise : KeepsPremise x
  pub small : q < 3
  pub listening : listens me Sync (q + 1) ≡ true
  pub deaf : listens (other me) Sync (q + 1) ≡ false
  pub window : (kind : Side) (i : ℕ) → window_in x (sync_window x q) kind i ≡ window_of (sync_slot_of x.sizes) (q + 1) first ticks
  pub some_first : 1 ≤ first
  pub some : 1 ≤ ticks
  pub early : low + x.plan.p + first * tick_of x.plan ≤ from + x.plan.dmin
  pub late : to + x.plan.dmax ≤ low + (first + ticks - 1) * shortest_of x.plan
  pub eligible : (kind : Side) (i j : ℕ) → x.good kind i ≡ true → x.good (other kind) j ≡ true
      → is_eligible (state_through x q kind i).far j ≡ true
  pub calls : (j : ℕ) → x.good (other me) j ≡ true → Calls x q (other me) j from to first ticks

-- the first tick of a window comes no later than the first call
starts : {x low q me first ticks from to : _} → IsStageOf x low q me first ticks from to → (i : ℕ) → x.good me i ≡ true
    → time_of (x.clock me i) ((x.before me i).epoch + first) ≤ from + x.plan.dmin
starts {x} {low} {me} {first} {from} s i good =
    le_trans (time_of (x.clock me i) ((x.before me i).epoch + first)) (low + x.plan.p + first * tick_of x.plan) (from + x.plan.dmin)
    (offset-at s.is me i good first refl).most s.early

ends : {x low q me first ticks from to : _} → IsStageOf x low q me first ticks from to → (i : ℕ) → x.good me i ≡ true
    → to + x.plan.dmax ≤ time_of (x.clock me i) ((x.before me i).epoch + (first + ticks - 1))
ends {x} {low} {me} {first} {ticks} {to} s i good =
    le_trans (to + x.plan.dmax) (low + (first + ticks - 1) * shortest_of x.plan) (time_of (x.clock me i) ((x.before me i).epoch + (first + ticks - 1)))
    s.late (offset-at s.is me i good (first + ticks - 1) refl).least

pub first-is : {x low q me first ticks from to : _} → IsStageOf x low q me first ticks from to → (kind : Side) (i : ℕ)
    → (span_in x (sync_window x q) kind i).first ≡ (x.before kind i).epoch + first
first-is {x} s kind i = ap (λ (w : Window). (x.before kind i).epoch + w.first) (s.window kind i)

pub last-is : {x low q : _} (me : Side) {first ticks from to : ℕ} → IsStageOf x low q me first ticks from to → (kind : Side) (i : ℕ)
    → (span_in x (sync_window x q) kind i).last ≡ (x.before kind i).epoch + (first + ticks - 1)
last-is {x} me s kind i = ap (λ (w : Window). (x.before kind i).epoch + w.last) (s.window kind i)

-- what a good node sends in the stage comes in its window
pub in-window : {x low q me first ticks from to : _} → (s : IsStageOf x low q me first ticks from to) → (i j : ℕ) → x.good me i ≡ true
    → (good : x.good (other me) j ≡ true) → (time : ℕ) → MayArrive x.plan (x.clock (other me) j) (s.calls j good).tick time
    → IsTickOf (span_in x (sync_window x q) me i) (stamp_of (x.clock me i) time)
in-window {x} {q} {me} {first} {ticks} {from} {to} s i j here good time may =
    let clock : Steady (shortest_of x.plan) (drift_of x.plan) (x.clock me i) = clock-of s.is me i here in
    let call : Calls x q (other me) j from to first ticks = s.calls j good in
    let e = first-is s me i in
    let f = last-is me s me i in
    let begin = starts s i here in
    let end = ends s i here in
    let low_stamp = stamp_from (x.clock me i) clock.moves time ((x.before me i).epoch + first) (omega (arith, begin, call.between.least, may.not_early)) in
    let high_stamp = stamp_to (x.clock me i) clock.moves time ((x.before me i).epoch + (first + ticks - 1)) (omega (arith, end, call.between.most, may.not_late)) in
    (subst (λ k. k ≤ stamp_of (x.clock me i) time) (sym e) low_stamp, subst (λ k. stamp_of (x.clock me i) time ≤ k) (sym f) high_stamp)

-- the calls lie between `least` and `most`, and `least` is no earlier than `from`
pub record CallsLie (x : Frame) (low q : ℕ) (me : Side) (first ticks from to : ℕ) (s : IsStageOf x low q me first ticks from to) (least most : ℕ) : Type 0 where
  pub not_before : from ≤ least
  pub at : (j : ℕ) (good : x.good (other me) j ≡ true) → IsBetween least most (time_of (x.clock (other me) j) (s.calls j good).tick)

brings : {x low q me first ticks from to : _} (s : IsStageOf x low q me first ticks from to) (i j : ℕ) → x.good me i ≡ true
    → (good : x.good (other me) j ≡ true) → BringsTheCall x q me i j (s.calls j good).tick
brings {q} {me} s i j here good = (s.is.hears q me i j s.small here good).calls s.listening (s.calls j good).tick (s.calls j good).at

called : (x : Frame) (low q : ℕ) (me : Side) (first ticks from to : ℕ) (s : IsStageOf x low q me first ticks from to) (least most : ℕ)
    → CallsLie x low q me first ticks from to s least most → (i j : ℕ) → x.good me i ≡ true → x.good (other me) j ≡ true
    → IsCalledBetween (x.clock me i) (least + x.plan.dmin) (most + x.plan.dmax) (x.came (q + 1) me i j)
called x low q me first ticks from to s least most lie i j here good =
    let b : BringsTheCall x q me i j (s.calls j good).tick = brings s i j here good in
    let between = lie.at j good in
    record {
      time = b.time;
      message = b.message;
      came = b.came (in-window s i j here good b.time b.arrives);
      not_early = omega (arith, between.least, b.arrives.not_early);
      not_late = omega (arith, between.most, b.arrives.not_late);
    }

-- a good node hears good calls
hears : {x low q me first ticks from to s least most : _}
    → CallsLie x low q me first ticks from to s least most → (i : ℕ) → x.good me i ≡ true
    → HearsGoodCalls x.plan (x.good (other me)) (least + x.plan.dmin) (most + x.plan.dmax) (listener x q me i)
hears {x} {low} {q} {me} {first} {ticks} {from} {to} {s} {least} {most} lie i here =
    let clock : Steady (shortest_of x.plan) (drift_of x.plan) (x.clock me i) = clock-of s.is me i here in
    let begin = starts s i here in
    let small = s.small in
    let some = s.some_first in
    let later = times_rise_strictly (x.clock me i) clock.moves 0 ((x.before me i).epoch + first) (omega (arith, some)) in
    record {
      listening = s.listening;
      a_stage = (omega arith, omega (arith, small));
      clock = s.is.clocks me i here;
      ticks = (fits-of s.is).some;
      begun = omega (arith, begin, later, lie.not_before);
      numbered = s.is.numbered (other me);
      eligible = λ j good. s.eligible me i j here good;
      called = λ j good. called x low q me first ticks from to s least most lie i j here good;
      most = s.premise.most q me i s.small s.listening here;
    }

all-lie : {x low q me first ticks from to : _} (s : IsStageOf x low q me first ticks from to)
    → CallsLie x low q me first ticks from to s from to
all-lie s = record { not_before = omega arith; at = λ j good. (s.calls j good).between }

-- The middle.

-- the middle that a good node keeps of the stage
pub record Keeps (x : Frame) (q : ℕ) (me : Side) (i first ticks from to : ℕ) : Type 0 where
  pub tick : ℕ
  pub is : middle_kept (listener x q me i) ≡ Some tick
  pub from_first : (x.before me i).epoch + first ≤ tick
  pub inside : tick < (x.before me i).epoch + (first + ticks)
  pub between : IsBetween (from + x.plan.dmin) (to + x.plan.dmax + tick_of x.plan) (time_of (x.clock me i) tick)
  pub in_time : (last : ℕ) → to + x.plan.dmax ≤ time_of (x.clock me i) last → tick ≤ last

pub keeps : {x low q me first ticks from to : _} → IsStageOf x low q me first ticks from to → (i : ℕ) → x.good me i ≡ true
    → Keeps x q me i first ticks from to
keeps {x} {q} {me} {first} {ticks} {from} {to} s i here =
    let clock : Steady (shortest_of x.plan) (drift_of x.plan) (x.clock me i) = clock-of s.is me i here in
    let fit : frame_fits x = fits-of s.is in
    let longest : longest_of x.plan ≡ tick_of x.plan = fit.longest in
    let good : ℕ → Bool = x.good (other me) in
    let h : HearsGoodCalls x.plan good (from + x.plan.dmin) (to + x.plan.dmax) (listener x q me i) =
    hears (all-lie s) i here in
    let f : FindsMiddle (listener x q me i) (from + x.plan.dmin) (to + x.plan.dmax) =
    finds h in
    let k : KeepsMiddle x.plan good (from + x.plan.dmin) (to + x.plan.dmax) (listener x q me i) =
    middles-lie-among x.plan good (from + x.plan.dmin) (to + x.plan.dmax) (listener x q me i) h in
    let same : k.tick ≡ f.tick = same_Some k.tick f.tick (sym k.kept ∙ f.kept) in
    let times : time_of (x.clock me i) k.tick ≡ time_of (x.clock me i) f.tick = ap (time_of (x.clock me i)) same in
    let begin = starts s i here in
    let some = s.some in
    let by : (last : ℕ) → to + x.plan.dmax ≤ time_of (x.clock me i) last → f.tick ≤ last =
    λ last le. le_trans f.tick (stamp_of (x.clock me i) (to + x.plan.dmax)) last f.between.most (stamp_to (x.clock me i) clock.moves (to + x.plan.dmax) last le) in
    let last : f.tick ≤ (x.before me i).epoch + (first + ticks - 1) = by ((x.before me i).epoch + (first + ticks - 1)) (ends s i here) in
    record {
      tick = f.tick;
      is = f.kept;
      from_first = tick_le (x.clock me i) clock.moves ((x.before me i).epoch + first) f.tick (omega (arith, begin, k.not_early, times));
      inside = omega (arith, last, some);
      between = record { least = omega (arith, times, k.not_early); most = omega (arith, times, longest, k.not_late) };
      in_time = by;
    }

-- if the calls lie between closer bounds, so does the middle
pub closer-still : {x low q me first ticks from to s least most : _}
    → CallsLie x low q me first ticks from to s least most → (i : ℕ) (here : x.good me i ≡ true)
    → IsBetween (least + x.plan.dmin) (most + x.plan.dmax + tick_of x.plan) (time_of (x.clock me i) (keeps s i here).tick)
closer-still {x} {q} {me} {first} {ticks} {from} {to} {s} {least} {most} lie i here =
    let fit : frame_fits x = fits-of s.is in
    let longest : longest_of x.plan ≡ tick_of x.plan = fit.longest in
    let kept : Keeps x q me i first ticks from to = keeps s i here in
    let k : KeepsMiddle x.plan (x.good (other me)) (least + x.plan.dmin) (most + x.plan.dmax) (listener x q me i) =
    middles-lie-among x.plan (x.good (other me)) (least + x.plan.dmin) (most + x.plan.dmax) (listener x q me i)
    (hears lie i here) in
    let same : k.tick ≡ kept.tick = same_Some k.tick kept.tick (sym k.kept ∙ kept.is) in
    let times : time_of (x.clock me i) k.tick ≡ time_of (x.clock me i) kept.tick = ap (time_of (x.clock me i)) same in
    record { least = omega (arith, times, k.not_early); most = omega (arith, times, longest, k.not_late) }

-- Near middles.

-- the stamp that is taken of a good source
taken : {x low q me first ticks from to : _} (s : IsStageOf x low q me first ticks from to) (i j : ℕ) (here : x.good me i ≡ true)
    → (good : x.good (other me) j ≡ true)
    → stamp_taken (listener x q me i) j ≡ Some (stamp_of (x.clock me i) (brings s i j here good).time)
taken {x} {q} {me} s i j here good =
    let st : NodeState = state_through x q me i in
    let b : BringsTheCall x q me i j (s.calls j good).tick = brings s i j here good in
    let e : is_eligible st.far j ≡ true = s.eligible me i j here good in
    let expected : expects_call me st (q + 1) j ≡ true =
    and_from (listens me Sync (q + 1)) (has st.far.trusted j) s.listening (and_first (has st.far.trusted j) (not (has st.far.direct j)) e) in
    expected_is_taken stamp_in st.far (expects_call me st (q + 1)) (x.came (q + 1) me i) j expected e
    ∙ ap stamp_in (b.came (in-window s i j here good b.time b.arrives))

near-calls : {x low q me first ticks from to : _} (s : IsStageOf x low q me first ticks from to) (a b j : ℕ) → x.good me a ≡ true → x.good me b ≡ true
    → x.good (other me) j ≡ true → NearCalls (x.plan.dmax - x.plan.dmin) (listener x q me a) (listener x q me b) j
near-calls {x} {q} {me} {first} s a b j good_a good_b good =
    let mine : BringsTheCall x q me a j (s.calls j good).tick = brings s a j good_a good in
    let yours : BringsTheCall x q me b j (s.calls j good).tick = brings s b j good_b good in
    let between = (s.calls j good).between in
    let fit : frame_fits x = fits-of s.is in
    let delays : x.plan.dmax ≡ x.plan.dmin + eps_of x.plan = fit.delays in
    let some = s.some_first in
    let late_a = times_rise_strictly (x.clock me a) (clock-of s.is me a good_a).moves 0 ((x.before me a).epoch + first) (omega (arith, some)) in
    let late_b = times_rise_strictly (x.clock me b) (clock-of s.is me b good_b).moves 0 ((x.before me b).epoch + first) (omega (arith, some)) in
    let begin_a = starts s a good_a in
    let begin_b = starts s b good_b in
    record {
      mine = mine.time;
      yours = yours.time;
      mine_taken = taken s a j good_a good;
      yours_taken = taken s b j good_b good;
      mine_begun = omega (arith, late_a, begin_a, between.least, mine.arrives.not_early);
      yours_begun = omega (arith, late_b, begin_b, between.least, yours.arrives.not_early);
      above = omega (arith, delays, mine.arrives.not_late, yours.arrives.not_early);
      under = omega (arith, delays, yours.arrives.not_late, mine.arrives.not_early);
    }

-- if no source is asymmetric, the middles are near
pub middles-near : {x low q me first ticks from to : _} (s : IsStageOf x low q me first ticks from to)
    → ((a b j : ℕ) → x.good me a ≡ true → x.good me b ≡ true → j < 16 → x.good (other me) j ≡ false
    → TakeNear (x.plan.dmax - x.plan.dmin) (listener x q me a) (listener x q me b) j)
    → (a b : ℕ) (good_a : x.good me a ≡ true) (good_b : x.good me b ≡ true)
    → AreNear (eps_of x.plan + tick_of x.plan) (time_of (x.clock me a) (keeps s a good_a).tick)
    (time_of (x.clock me b) (keeps s b good_b).tick)
middles-near {x} {q} {me} {first} {ticks} {from} {to} s alike a b good_a good_b =
    let fit : frame_fits x = fits-of s.is in
    let longest : longest_of x.plan ≡ tick_of x.plan = fit.longest in
    let good : ℕ → Bool = x.good (other me) in
    let all = all-lie s in
    let ka : Keeps x q me a first ticks from to = keeps s a good_a in
    let kb : Keeps x q me b first ticks from to = keeps s b good_b in
    let near : HearNear x.plan good (from + x.plan.dmin) (to + x.plan.dmax) (listener x q me a) (listener x q me b) = record {
      mine = hears all a good_a;
      yours = hears all b good_b;
      near = λ j below. elim (true_or_false (x.good (other me) j)) [
        | inl is ↦ inr (near-calls s a b j good_a good_b is)
        | inr faulty ↦ alike a b j good_a good_b below faulty
      ];
    } in
    let lie : LieNear (x.plan.dmax - x.plan.dmin + longest_of x.plan) (time_of (x.clock me a) ka.tick) (time_of (x.clock me b) kb.tick) =
    middles-are-near x.plan good (from + x.plan.dmin) (to + x.plan.dmax) (listener x q me a) (listener x q me b) near ka.tick kb.tick ka.is kb.is in
    record { above = omega (arith, longest, lie.0); under = omega (arith, longest, lie.1) }

-- the time of a node's call in the stage after `q` stages
call-time : Frame → ℕ → Side → ℕ → ℕ
call-time x q kind j = time_of (x.clock kind j) (unwrap_or (call_tick_of x.sizes x.plan (state_through x q kind j) (q + 1)) 0)

call-time-is : (x : Frame) (q : ℕ) (kind : Side) (j : ℕ) {tick : ℕ} → call_tick_of x.sizes x.plan (state_through x q kind j) (q + 1) ≡ Some tick
    → call-time x q kind j ≡ time_of (x.clock kind j) tick
unfolding call-time
call-time-is x q kind j at = ap (λ o. time_of (x.clock kind j) (unwrap_or o 0)) at

pub record Lie (x : Frame) (low q : ℕ) (me : Side) (first ticks from to : ℕ) (s : IsStageOf x low q me first ticks from to) (spread : ℕ) : Type 0 where
  pub least : ℕ
  pub lie : CallsLie x low q me first ticks from to s least (least + spread)

pub lie-within : {x low q me first ticks from to : _} (s : IsStageOf x low q me first ticks from to) (spread : ℕ)
    → ((a b : ℕ) (good_a : x.good (other me) a ≡ true) (good_b : x.good (other me) b ≡ true)
    → AreNear spread (time_of (x.clock (other me) a) (s.calls a good_a).tick) (time_of (x.clock (other me) b) (s.calls b good_b).tick))
    → Lie x low q me first ticks from to s spread
lie-within {x} {q} {me} {from} s spread near =
    let is : (j : ℕ) (good : x.good (other me) j ≡ true) → call-time x q (other me) j ≡ time_of (x.clock (other me) j) (s.calls j good).tick =
    λ j good. call-time-is x q (other me) j (s.calls j good).at in
    let found : HasLeast (x.good (other me)) (call-time x q (other me)) spread 16 =
    least_of (x.good (other me)) (call-time x q (other me)) spread (λ a b good_a good_b.
    let pair = near a b good_a good_b in omega (arith, pair.above, is a good_a, is b good_b)) 16 in
    record {
      least = max found.least from;
      lie = record {
        not_before = omega arith;
        at = λ j good.
            let within = found.at j (s.is.numbered (other me) j good) good in
            let between = (s.calls j good).between in
            record {
              least = omega (arith, is j good, within.least, between.least);
              most = omega (arith, is j good, within.most);
            };
      };
    }

-- Who stays eligible.

stays : (x : Frame) (q : ℕ) (me : Side) (i j : ℕ) → j < 16 → is_eligible (state_through x q me i).far j ≡ true
    → does_wrong (expects_call me (state_through x q me i) (q + 1) j) (x.came (q + 1) me i j) ≡ false
    → is_eligible (state_through x (suc q) me i).far j ≡ true
unfolding state_through close_sync sync_outcome_of
stays x q me i j small eligible right =
    let st : NodeState = state_through x q me i in
    let trusts : has st.far.trusted j ≡ true = and_first (has st.far.trusted j) (not (has st.far.direct j)) eligible in
    let spared : has st.far.direct j ≡ false = not-true (has st.far.direct j) (and_second (has st.far.trusted j) (not (has st.far.direct j)) eligible) in
    let still = others_stay (has_evidence st.far (expects_call me st (q + 1)) (x.came (q + 1) me i)) st.far j small
    (right_is_no_evidence st.far (expects_call me st (q + 1)) (x.came (q + 1) me i) j right) ∙ spared in
    and_from (has st.far.trusted j) (not (has (state_through x (suc q) me i).far.direct j)) trusts (not_from_false (has (state_through x (suc q) me i).far.direct j) still)

either : (me kind : Side) → (kind ≡ me) ⊎ (kind ≡ other me)
either Biu Biu = inl refl
either Biu Rmu = inr refl
either Rmu Biu = inr refl
either Rmu Rmu = inl refl

-- good nodes stay eligible at each other through the stage
pub stay-eligible : {x low q me first ticks from to : _} → IsStageOf x low q me first ticks from to → (kind : Side) (i j : ℕ)
    → x.good kind i ≡ true → x.good (other kind) j ≡ true → is_eligible (state_through x (suc q) kind i).far j ≡ true
stay-eligible {x} {q} {me} s kind =
    elim (either me kind) [ inl same ↦ subst Eligible (sym same) listening | inr same ↦ subst Eligible (sym same) deaf ]
  where
    Eligible : Side → Type 0
    Eligible kind = (i j : ℕ) → x.good kind i ≡ true → x.good (other kind) j ≡ true → is_eligible (state_through x (suc q) kind i).far j ≡ true

    listening : Eligible me
    listening i j here good =
        let st : NodeState = state_through x q me i in
        let b : BringsTheCall x q me i j (s.calls j good).tick = brings s i j here good in
        let e : is_eligible st.far j ≡ true = s.eligible me i j here good in
        let expected : expects_call me st (q + 1) j ≡ true =
        and_from (listens me Sync (q + 1)) (has st.far.trusted j) s.listening (and_first (has st.far.trusted j) (not (has st.far.direct j)) e) in
        stays x q me i j (s.is.numbered (other me) j good) e
        (ap (λ b. does_wrong b (x.came (q + 1) me i j)) expected
        ∙ ap (does_wrong true) (b.came (in-window s i j here good b.time b.arrives)))

    deaf : Eligible (other me)
    deaf i j here good =
        let st : NodeState = state_through x q (other me) i in
        let unexpected : expects_call (other me) st (q + 1) j ≡ false = ap (λ b. b && has st.far.trusted j) s.deaf in
        stays x q (other me) i j (s.is.numbered (other (other me)) j good) (s.eligible (other me) i j here good)
        (ap (λ b. does_wrong b (x.came (q + 1) (other me) i j)) unexpected
        ∙ ap (does_wrong false) ((s.is.hears q (other me) i j s.small here good).quiet s.deaf))
