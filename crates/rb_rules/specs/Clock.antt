-- Clocks: the time of each tick, and the stamp of each time.
use Rattle.std.specs.Prelude.{◌≡◌, ℕ, zero, suc, ◌+◌, ◌<◌, ◌≤◌, ◌==◌, ◌&&◌, Bool, true, false, List, [], ◌∷◌, nat_le, nat_lt, if◌then◌else◌}

-- what a clock shows: the time of tick 0, and the segments of its ticks, each with its first tick
-- and the length of its ticks
pub record Timeline : Type 0 where
  pub start : ℕ
  pub segments : List (ℕ × ℕ)

-- the length of a tick: that of the last of these segments that begins at or before it, or `before`
-- if none does
abbrev pub length_after : ℕ → List (ℕ × ℕ) → ℕ → ℕ
length_after before [] tick = before
length_after before (s ∷ ss) tick = length_after (if nat_le s.0 tick then s.1 else before) ss tick

-- the length of a tick: that of the last segment that begins at or before it
abbrev pub tick_length : Timeline → ℕ → ℕ
tick_length clock tick = length_after 0 clock.segments tick

-- the time of a tick, added up tick by tick
abbrev pub time_of : Timeline → ℕ → ℕ
time_of clock zero = clock.start
time_of clock (suc tick) = time_of clock tick + tick_length clock tick

-- the stamp of a time is the least tick that is not before it
pub record IsStamp (clock : Timeline) (time stamp : ℕ) : Type 0 where
  pub reached : time ≤ time_of clock stamp
  pub least : (tick : ℕ) → tick < stamp → time_of clock tick < time

-- some tick up to `last` is at or after the time
pub record ComesBy (last : ℕ) (clock : Timeline) (time : ℕ) : Type 0 where
  pub tick : ℕ
  pub in_time : tick ≤ last
  pub come : time ≤ time_of clock tick

-- the first of the `others` ticks from `tick` on whose time is at least `time`, or tick `tick +
-- others` if there is none among them; `now` is the time of `tick`
abbrev pub first_among : Timeline → ℕ → ℕ → ℕ → ℕ → ℕ
first_among clock zero tick now time = tick
first_among clock (suc others) tick now time =
    elim (nat_le time now) [ true ↦ tick | false ↦ first_among clock others (suc tick) (now + tick_length clock tick) time ]

-- the stamp, found tick by tick. Each tick takes at least one unit, so no more ticks than units
-- have to be tried
abbrev pub stamp_of : Timeline → ℕ → ℕ
stamp_of clock time = first_among clock time 0 clock.start time

-- the first ticks of the segments rise strictly, from above `tick` on
abbrev pub rise_above : ℕ → List (ℕ × ℕ) → Bool
rise_above tick [] = true
rise_above tick (s ∷ ss) = nat_lt tick s.0 && rise_above s.0 ss

-- the segments begin at tick 0 and rise strictly
abbrev pub are_rising : List (ℕ × ℕ) → Bool
are_rising [] = false
are_rising (s ∷ ss) = (s.0 == 0) && rise_above 0 ss

-- the ticks of each segment have a length within the bounds, both included
abbrev pub are_within : ℕ → ℕ → List (ℕ × ℕ) → Bool
are_within shortest longest [] = true
are_within shortest longest (s ∷ ss) = (nat_le shortest s.1 && nat_le s.1 longest) && are_within shortest longest ss

-- the clock starts early enough, its segments begin at tick 0 and rise, and the lengths of its
-- ticks are within the bounds
pub record IsClock (shortest longest : ℕ) (clock : Timeline) : Type 0 where
  pub start : clock.start ≤ 1000000000000
  pub rising : are_rising clock.segments ≡ true
  pub within : are_within shortest longest clock.segments ≡ true
