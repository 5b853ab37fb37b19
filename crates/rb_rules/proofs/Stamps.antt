-- A stamp is the least tick that is not before the time, and later times have later stamps.
use Rattle.std.proofs.{Common.{◌≡◌, ℕ, zero, suc, ◌+◌, ◌<◌, ◌≤◌, Bool, true, false, refl, ap, arith, inl, inr, nat_le}, lemmas.Bool.cases_lt, lemmas.Bool.Decides.nat_tests}
use Rattle.rb_rules.specs.Clock.{Timeline, time_of, tick_length, first_among, stamp_of, IsStamp}

-- each tick of the clock takes some time
abbrev pub Moves : Timeline → Type 0
Moves clock = (tick : ℕ) → 1 ≤ tick_length clock tick

one_more : (clock : Timeline) (time stamp : ℕ) → ((tick : ℕ) → tick < stamp → time_of clock tick < time) → time_of clock stamp < time
    → (tick : ℕ) → tick < suc stamp → time_of clock tick < time
one_more clock time stamp before here tick h =
    elim (cases_lt tick stamp) [ inl lt ↦ before tick lt | inr le ↦ let same : tick ≡ stamp = omega arith in rw same here ]

-- the search finds the stamp if all ticks before its first are before the time, and `others` is at
-- least the time that is left from `now` to `time`
first_among-is : (clock : Timeline) → Moves clock → (others tick now time : ℕ) → now ≡ time_of clock tick → time ≤ now + others
    → ((earlier : ℕ) → earlier < tick → time_of clock earlier < time) → IsStamp clock time (first_among clock others tick now time)
first_among-is clock moves zero tick now time is enough before = record { reached = omega arith; least = before }
first_among-is clock moves (suc others) tick now time is enough before =
    let go : (b : Bool) → nat_le time now ≡ b
    → IsStamp clock time (elim b [ true ↦ tick | false ↦ first_among clock others (suc tick) (now + tick_length clock tick) time ]) =
    elim [
      | true ↦ λ e. let le : time ≤ now = grind (arith, nat_tests) in record { reached = omega arith; least = before }
      | false ↦ λ e.
          let lt : now < time = grind (arith, nat_tests) in
          first_among-is clock moves others (suc tick) (now + tick_length clock tick) time (ap (λ n. n + tick_length clock tick) is)
          (omega (arith, moves tick)) (one_more clock time tick before (omega arith))
    ] in
    go (nat_le time now) refl

-- what is computed is the stamp
pub stamp_of-is : (clock : Timeline) → Moves clock → (time : ℕ) → IsStamp clock time (stamp_of clock time)
stamp_of-is clock moves time = first_among-is clock moves time 0 clock.start time refl (omega arith) (λ earlier h. absurd (omega arith))

-- later times have later stamps
pub stamps_rise : (clock : Timeline) (time later stamp later_stamp : ℕ) → IsStamp clock time stamp → IsStamp clock later later_stamp
    → time ≤ later → stamp ≤ later_stamp
stamps_rise clock time later stamp later_stamp is later_is le =
    elim (cases_lt later_stamp stamp) [ inl lt ↦ absurd (omega (arith, is.least later_stamp lt, later_is.reached)) | inr ge ↦ ge ]

-- a time has one stamp
pub one_stamp : (clock : Timeline) (time stamp other : ℕ) → IsStamp clock time stamp → IsStamp clock time other → stamp ≡ other
one_stamp clock time stamp other is other_is =
    let up = stamps_rise clock time time stamp other is other_is (omega arith) in
    let down = stamps_rise clock time time other stamp other_is is (omega arith) in
    omega arith

pub stamp_is : (clock : Timeline) → Moves clock → (time stamp : ℕ) → IsStamp clock time stamp → stamp ≡ stamp_of clock time
stamp_is clock moves time stamp is = one_stamp clock time stamp (stamp_of clock time) is (stamp_of-is clock moves time)

-- a tick whose time has come is no earlier than the stamp
pub stamp_le : (clock : Timeline) (time stamp tick : ℕ) → IsStamp clock time stamp → time ≤ time_of clock tick → stamp ≤ tick
stamp_le clock time stamp tick is come =
    elim (cases_lt tick stamp) [ inl lt ↦ absurd (omega (arith, is.least tick lt)) | inr ge ↦ ge ]
