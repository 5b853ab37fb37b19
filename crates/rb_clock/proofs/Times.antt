-- The time of a tick, a segment at a time.
use Rattle.std.proofs.{Common.{◌≡◌, ℕ, zero, suc, ◌+◌, ◌-◌, ◌*◌, ◌/◌, ◌%◌, ◌<◌, ◌≤◌, inl, inr, min, List, [], ◌∷◌, true, false, length, take, drop, get_or, subst, arith, sym, ◌∙◌, refl, Fits, w64, nat_le, nat_lt, ◌==◌}, lemmas.Bool.{cases_lt, and_parts, ltb-true, le-leb, lt-leb}, lemmas.Grind.{common_steps, div_ceil_times}, lemmas.Bool.Decides.nat_tests, lemmas.List.{drop_all, length-take}, Math.Nat.mul-le-mul_left}
use Rattle.rb_rules.specs.Clock.{Timeline, ComesBy, IsClock, IsStamp, stamp_of, length_after, time_of, tick_length, rise_above, are_rising, are_within}
use Rattle.rb_rules.proofs.{Drift.{has_lengths, clock_moves, first_stands, times_rise_to, drift}, Stamps.{stamp_le, stamp_is}}

-- wider bounds hold too
pub within_wider : (shortest longest low high : ℕ) (segments : List (ℕ × ℕ)) → low ≤ shortest → longest ≤ high
    → are_within shortest longest segments ≡ true → are_within low high segments ≡ true
within_wider shortest longest low high [] a b w = refl
within_wider shortest longest low high (s ∷ ss) a b w = grind (arith, common_steps, within_wider shortest longest low high ss a b)

-- ---- which length stands

-- no segment begins at or before a tick below which none begins
pub stands : (before tick from : ℕ) (segments : List (ℕ × ℕ)) → tick ≤ from → rise_above from segments ≡ true → length_after before segments tick ≡ before
stands before tick from [] le rises = refl
stands before tick from (s ∷ ss) le rises =
    let parts = and_parts (nat_lt from s.0) (rise_above s.0 ss) rises in
    let later : from < s.0 = ltb-true from s.0 parts.0 in
    let not_yet : nat_le s.0 tick ≡ false = lt-leb s.0 tick (omega arith) in
    rw not_yet (stands before tick s.0 ss (omega arith) parts.1)

pub rises_first : (from : ℕ) (s : ℕ × ℕ) (rest : List (ℕ × ℕ)) → rise_above from (s ∷ rest) ≡ true → from < s.0
rises_first from s rest h = ltb-true from s.0 (and_parts (nat_lt from s.0) (rise_above s.0 rest) h).0

pub rises_rest : (from : ℕ) (s : ℕ × ℕ) (rest : List (ℕ × ℕ)) → rise_above from (s ∷ rest) ≡ true → rise_above s.0 rest ≡ true
rises_rest from s rest h = (and_parts (nat_lt from s.0) (rise_above s.0 rest) h).1

-- before the first tick of the next segment the length stays
pub before_next : (from before tick : ℕ) (s : ℕ × ℕ) (rest : List (ℕ × ℕ)) → rise_above from (s ∷ rest) ≡ true → tick < s.0
    → length_after before (s ∷ rest) tick ≡ before
before_next from before tick s rest rises lt =
    let not_yet : nat_le s.0 tick ≡ false = lt-leb s.0 tick lt in
    rw not_yet (stands before tick s.0 rest (omega arith) (rises_rest from s rest rises))

-- from the first tick of the next segment on its lengths follow
pub after_next : (before tick : ℕ) (s : ℕ × ℕ) (rest : List (ℕ × ℕ)) → s.0 ≤ tick
    → length_after before (s ∷ rest) tick ≡ length_after s.1 rest tick
after_next before tick s rest le = let reached : nat_le s.0 tick ≡ true = le-leb s.0 tick le in rw reached refl

-- ---- where the walk over the segments is

-- `now` is the time of tick `from`, and ticks last `ticks` until a segment of `left` changes that
pub record IsAt (clock : Timeline) (now from ticks : ℕ) (left : List (ℕ × ℕ)) : Type 0 where
  pub time : now ≡ time_of clock from
  pub rising : rise_above from left ≡ true
  pub lengths : (tick : ℕ) → from ≤ tick → tick_length clock tick ≡ length_after ticks left tick

-- `n` ticks of the length `ticks` take n * ticks
pub time_run : (clock : Timeline) (from n ticks : ℕ) → ((j : ℕ) → j < n → tick_length clock (from + j) ≡ ticks)
    → time_of clock (from + n) ≡ time_of clock from + n * ticks
time_run clock from zero ticks h = let e : from + 0 ≡ from = omega arith in rw e (omega arith)
time_run clock from (suc n) ticks h =
    let so_far : time_of clock (from + n) ≡ time_of clock from + n * ticks = time_run clock from n ticks (λ j l. h j (omega arith)) in
    let last : tick_length clock (from + n) ≡ ticks = h n (omega arith) in
    let one : from + suc n ≡ suc (from + n) = omega arith in
    rw (one, last, so_far) (omega arith)

-- each tick before `until` has the length `ticks`
abbrev pub Stays : ℕ → ℕ → List (ℕ × ℕ) → Type 0
Stays ticks until left = (tick : ℕ) → tick < until → length_after ticks left tick ≡ ticks

-- if the length stays before `tick`, its time is (tick - from) * ticks after `now`
pub time_to : (clock : Timeline) (now from ticks tick : ℕ) (left : List (ℕ × ℕ)) → IsAt clock now from ticks left → Stays ticks tick left
    → from ≤ tick → now + (tick - from) * ticks ≡ time_of clock tick
time_to clock now from ticks tick left at stays le =
    let n : from + (tick - from) ≡ tick = omega arith in
    let run : time_of clock (from + (tick - from)) ≡ time_of clock from + (tick - from) * ticks =
    time_run clock from (tick - from) ticks (λ j l. at.lengths (from + j) (omega arith) ∙ stays (from + j) (omega arith)) in
    let run_to : time_of clock tick ≡ time_of clock from + (tick - from) * ticks = rw n at run in
    rw at.time (sym run_to)

-- no segment is left
pub stays_on : (ticks until i : ℕ) (segments : List (ℕ × ℕ)) → length segments ≤ i → Stays ticks until (drop i segments)
stays_on ticks until i segments past tick h = rw (drop_all i segments past) refl

-- the length stays up to a tick before which the next segment does not begin
pub stays_to : (clock : Timeline) (now from ticks until : ℕ) (left rest : List (ℕ × ℕ)) (s : ℕ × ℕ) → left ≡ s ∷ rest
    → IsAt clock now from ticks left → until ≤ s.0 → Stays ticks until left
stays_to clock now from ticks until left rest s e at le tick h =
    rw e (before_next from ticks tick s rest (rw e at at.rising) (omega arith))

-- the walk begins with the first segment
pub at_start : (clock : Timeline) (s : ℕ × ℕ) (rest : List (ℕ × ℕ)) → clock.segments ≡ s ∷ rest → are_rising clock.segments ≡ true
    → IsAt clock clock.start 0 s.1 rest
at_start clock s rest e rising =
    let parts = and_parts (s.0 == 0) (rise_above 0 rest) (rw e at rising) in
    record { time = refl; rising = parts.1; lengths = λ tick le. rw e (first_stands s rest tick (rw e at rising)) }

-- the walk goes on to the first tick of the next segment
pub at_next : (clock : Timeline) (now from ticks : ℕ) (left rest : List (ℕ × ℕ)) (s : ℕ × ℕ) → left ≡ s ∷ rest → IsAt clock now from ticks left
    → IsAt clock (now + (s.0 - from) * ticks) s.0 s.1 rest
at_next clock now from ticks left rest s e at =
    let rises : rise_above from (s ∷ rest) ≡ true = rw e at at.rising in
    let later : from < s.0 = rises_first from s rest rises in
    record {
      time = time_to clock now from ticks s.0 left at (stays_to clock now from ticks s.0 left rest s e at (omega arith)) (omega arith);
      rising = rises_rest from s rest rises;
      lengths = λ tick le. at.lengths tick (omega arith) ∙ (rw e (after_next ticks tick s rest le));
    }

-- ---- sizes

-- a time is at most that of as many longest ticks after the latest start
pub time_bound : (clock : Timeline) (tick : ℕ) → IsClock 1 2000000 clock → time_of clock tick ≤ 1000000000000 + tick * 2000000
time_bound clock tick is =
    let e : 0 + tick ≡ tick = omega arith in
    let most : time_of clock tick ≤ clock.start + tick * 2000000 = rw e at (drift clock 1 2000000 (has_lengths 1 2000000 clock is) 0 tick).1 in
    omega (arith, is.start)

-- the length that stands is a clock's
pub at_length : (clock : Timeline) (now from ticks : ℕ) (left : List (ℕ × ℕ)) → IsClock 1 2000000 clock → IsAt clock now from ticks left
    → (1 ≤ ticks) × (ticks ≤ 2000000)
at_length clock now from ticks left is at =
    let bounds = has_lengths 1 2000000 clock is from in
    let here : tick_length clock from ≡ ticks = at.lengths from (omega arith) ∙ stands ticks from from left (omega arith) at.rising in
    rw here at bounds

-- the time that n ticks of such a length take
pub product_bound : (n ticks : ℕ) → n ≤ 8589934592 → ticks ≤ 2000000 → n * ticks ≤ 17179869184000000
product_bound n ticks few short = omega (arith, mul-le-mul_left n short)

-- what the walk adds fits if it goes no further than a tick that may be asked for
pub product_fits : (clock : Timeline) (now from ticks until tick : ℕ) (left : List (ℕ × ℕ)) → IsClock 1 2000000 clock → IsAt clock now from ticks left
    → until ≤ tick → tick ≤ 8589934592 → Fits w64 ((until - from) * ticks)
product_fits clock now from ticks until tick left is at le few =
    omega (arith, product_bound (until - from) ticks (omega arith) (at_length clock now from ticks left is at).1)

pub sum_fits : (clock : Timeline) (now from ticks until tick : ℕ) (left : List (ℕ × ℕ)) → IsClock 1 2000000 clock → IsAt clock now from ticks left
    → from ≤ 8589934592 → until ≤ tick → tick ≤ 8589934592 → Fits w64 (now + (until - from) * ticks)
sum_fits clock now from ticks until tick left is at early le few =
    omega (arith, product_bound (until - from) ticks (omega arith) (at_length clock now from ticks left is at).1, at.time, time_bound clock from is)

pub small_time : (clock : Timeline) (time tick : ℕ) → IsClock 1 2000000 clock → time ≡ time_of clock tick → tick ≤ 2147483648 → time < 9007199254740992
small_time clock time tick is e few = omega (arith, time_bound clock tick is)

-- the walk begins with the length of the first segment
pub begins : (clock : Timeline) (segments : List (ℕ × ℕ)) (ticks : ℕ) → IsClock 1 2000000 clock → clock.segments ≡ segments → 1 ≤ length segments
    → ticks ≡ (get_or segments 0 (0, 0)).1 → IsAt clock clock.start 0 ticks (drop 1 segments)
begins clock [] ticks is e some first = absurd (omega arith)
begins clock (s ∷ rest) ticks is e some first = subst (λ t. IsAt clock clock.start 0 t rest) (sym first) (at_start clock s rest e is.rising)

pub none_left : (segments : List (ℕ × ℕ)) → (length (take (length segments - 1) (drop 1 segments)) == 0) ≡ true → length (drop 1 segments) ≤ 0
none_left [] e = omega arith
none_left (s ∷ rest) e =
    let none : length (take (length (s ∷ rest) - 1) rest) ≡ 0 = grind (arith, nat_tests) in
    omega (arith, length-take (length (s ∷ rest) - 1) rest)

-- if no segment is left after the first, all ticks have the length of the first
pub one_length : (clock : Timeline) (ticks tick : ℕ) (left : List (ℕ × ℕ)) → IsAt clock clock.start 0 ticks left → length left ≤ 0
    → clock.start + tick * ticks ≡ time_of clock tick
one_length clock ticks tick left at none =
    let all : tick - 0 ≡ tick = omega arith in
    rw all at (time_to clock clock.start 0 ticks tick left at (stays_on ticks tick 0 left none) (omega arith))

pub one_product : (clock : Timeline) (ticks tick : ℕ) (left : List (ℕ × ℕ)) → IsClock 1 2000000 clock → IsAt clock clock.start 0 ticks left
    → tick ≤ 8589934592 → Fits w64 (tick * ticks)
one_product clock ticks tick left is at few = omega (arith, product_bound tick ticks few (at_length clock clock.start 0 ticks left is at).1)

pub one_sum : (clock : Timeline) (ticks tick : ℕ) (left : List (ℕ × ℕ)) → IsClock 1 2000000 clock → IsAt clock clock.start 0 ticks left
    → tick ≤ 8589934592 → Fits w64 (clock.start + tick * ticks)
one_sum clock ticks tick left is at few = omega (arith, product_bound tick ticks few (at_length clock clock.start 0 ticks left is at).1, is.start)

-- ---- the stamp

-- a tick by which the time has come, and before which the length stays
pub record Ends (clock : Timeline) (time from ticks : ℕ) (left : List (ℕ × ℕ)) : Type 0 where
  pub until : ℕ
  pub most : until ≤ 2147483648
  pub after : from ≤ until
  pub come : time ≤ time_of clock until
  pub stays : Stays ticks until left

-- a tick by which a time has come is later than one before the time
later_tick : (clock : Timeline) (now from time tick : ℕ) → now ≡ time_of clock from → now < time → time ≤ time_of clock tick → from ≤ tick
later_tick clock now from time tick is before come =
    elim (cases_lt tick from) [ inl lt ↦ absurd (omega (arith, times_rise_to clock tick from (omega arith))) | inr le ↦ le ]

-- no segment is left
pub ends_last : (clock : Timeline) (now from ticks time i : ℕ) (segments : List (ℕ × ℕ)) → ComesBy 2147483648 clock time
    → IsAt clock now from ticks (drop i segments) → now < time → length segments ≤ i → Ends clock time from ticks (drop i segments)
ends_last clock now from ticks time i segments comes at before past = record {
  until = comes.tick;
  most = comes.in_time;
  after = later_tick clock now from time comes.tick at.time before comes.come;
  come = comes.come;
  stays = stays_on ticks comes.tick i segments past;
}

-- the next segment is past all ticks
pub ends_past : (clock : Timeline) (now from ticks time : ℕ) (left rest : List (ℕ × ℕ)) (s : ℕ × ℕ) → ComesBy 2147483648 clock time
    → IsAt clock now from ticks left → now < time → left ≡ s ∷ rest → 2147483648 ≤ s.0 → Ends clock time from ticks left
ends_past clock now from ticks time left rest s comes at before e past = record {
  until = comes.tick;
  most = comes.in_time;
  after = later_tick clock now from time comes.tick at.time before comes.come;
  come = comes.come;
  stays = stays_to clock now from ticks comes.tick left rest s e at (omega (arith, comes.in_time));
}

-- the time comes before the next segment
pub ends_here : (clock : Timeline) (now from ticks time : ℕ) (left rest : List (ℕ × ℕ)) (s : ℕ × ℕ)
    → IsAt clock now from ticks left → left ≡ s ∷ rest → s.0 < 2147483648 → time ≤ now + (s.0 - from) * ticks → Ends clock time from ticks left
ends_here clock now from ticks time left rest s at e early come =
    let later : from < s.0 = rises_first from s rest (rw e at at.rising) in
    let stays = stays_to clock now from ticks s.0 left rest s e at (omega arith) in
    record {
      until = s.0;
      most = omega arith;
      after = omega arith;
      come = (let e : now + (s.0 - from) * ticks ≡ time_of clock s.0 = time_to clock now from ticks s.0 left at stays (omega arith) in omega arith);
      stays = stays;
    }

-- fewer than one more length make no more ticks
no_more : (n m ticks : ℕ) → n * ticks < m * ticks + ticks → n ≤ m
no_more n m ticks lt =
    elim (cases_lt m n) [ inl more ↦ absurd (omega (arith, mul-le-mul_left ticks more)) | inr le ↦ le ]

-- if the length stays until `time`, the stamp is as many ticks after `from` as the rest of the time
-- takes
pub stamp_after : (clock : Timeline) (now from ticks until time n : ℕ) (left : List (ℕ × ℕ)) → IsAt clock now from ticks left → Stays ticks until left
    → from ≤ until → time ≤ time_of clock until → now < time → time ≤ now + n * ticks → now + n * ticks < time + ticks
    → IsStamp clock time (from + n)
stamp_after clock now from ticks until time zero left at stays le come later enough least = absurd (omega arith)
stamp_after clock now from ticks until time (suc m) left at stays le come later enough least =
    let to_until : now + (until - from) * ticks ≡ time_of clock until = time_to clock now from ticks until left at stays le in
    let few : suc m ≤ until - from = no_more (suc m) (until - from) ticks (omega arith) in
    let to_stamp : now + (from + suc m - from) * ticks ≡ time_of clock (from + suc m) =
    time_to clock now from ticks (from + suc m) left at (λ tick h. stays tick (omega arith)) (omega arith) in
    let to_before : now + (from + m - from) * ticks ≡ time_of clock (from + m) =
    time_to clock now from ticks (from + m) left at (λ tick h. stays tick (omega arith)) (omega arith) in
    let all : from + suc m - from ≡ suc m = omega arith in
    let all_but_one : from + m - from ≡ m = omega arith in
    let stamp_time : now + suc m * ticks ≡ time_of clock (from + suc m) = rw all at to_stamp in
    let before_time : now + m * ticks ≡ time_of clock (from + m) = rw all_but_one at to_before in
    record {
      reached = omega arith;
      least = λ tick h. omega (arith, times_rise_to clock tick (from + m) (omega arith));
    }

-- a division finds the stamp
pub stamp_found : (clock : Timeline) (now from ticks time n : ℕ) (left : List (ℕ × ℕ)) → IsClock 1 2000000 clock → IsAt clock now from ticks left
    → Ends clock time from ticks left → now < time → n ≡ (time - now) / ticks + min 1 ((time - now) % ticks) → IsStamp clock time (from + n)
stamp_found clock now from ticks time n left is at ends before e =
    let rounded = div_ceil_times (time - now) ticks (omega (arith, (at_length clock now from ticks left is at).0)) in
    let enough : time - now ≤ n * ticks = rw e rounded.0 in
    let least : n * ticks < time - now + ticks = rw e rounded.1 in
    stamp_after clock now from ticks ends.until time n left at ends.stays ends.after ends.come before (omega arith) (omega arith)

-- the stamp is at most the tick by which `time` has come
pub stamp_most : (clock : Timeline) (from ticks time stamp : ℕ) (left : List (ℕ × ℕ)) → Ends clock time from ticks left → IsStamp clock time stamp
    → stamp ≤ 2147483648
stamp_most clock from ticks time stamp left ends is = omega (arith, stamp_le clock time stamp ends.until is ends.come, ends.most)

-- the stamp is the one that is computed tick by tick
pub stamp_computed : (clock : Timeline) (time stamp : ℕ) → IsClock 1 2000000 clock → IsStamp clock time stamp → stamp ≡ stamp_of clock time
stamp_computed clock time stamp is stamped = stamp_is clock (clock_moves 1 2000000 clock (omega arith) is) time stamp stamped
