-- How the time of a clock grows.
use Rattle.std.proofs.{Common.{◌≡◌, ℕ, zero, suc, ◌+◌, ◌-◌, ◌*◌, ◌<◌, ◌≤◌, Bool, true, false, List, [], ◌∷◌, refl, arith, inl, inr, nat_le, ◌&&◌, ◌==◌, if◌then◌else◌}, lemmas.Bool.{cases_lt, and_parts, leb-true, eqb-true, le-leb}}
use Rattle.rb_rules.specs.Clock.{Timeline, length_after, time_of, tick_length, IsStamp, IsClock, are_rising, are_within, rise_above}
use Rattle.rb_rules.proofs.Stamps.{Moves, stamp_le}

-- ticks take between the shortest and the longest
abbrev pub HasLengths : ℕ → ℕ → Timeline → Type 0
HasLengths shortest longest clock = (tick : ℕ) → (shortest ≤ tick_length clock tick) × (tick_length clock tick ≤ longest)

-- `n` ticks take between `n` shortest and `n` longest ones
pub drift : (clock : Timeline) (shortest longest : ℕ) → HasLengths shortest longest clock → (tick n : ℕ)
    → (time_of clock tick + n * shortest ≤ time_of clock (tick + n)) × (time_of clock (tick + n) ≤ time_of clock tick + n * longest)
drift clock shortest longest within tick zero = let e : tick + 0 ≡ tick = omega arith in rw e (omega arith, omega arith)
drift clock shortest longest within tick (suc n) =
    let e : tick + suc n ≡ suc (tick + n) = omega arith in
    let so_far : (time_of clock tick + n * shortest ≤ time_of clock (tick + n)) × (time_of clock (tick + n) ≤ time_of clock tick + n * longest) =
    drift clock shortest longest within tick n in
    let next = within (tick + n) in
    rw e (omega (arith, so_far.0, next.0), omega (arith, so_far.1, next.1))

-- later ticks are no earlier in time
pub times_rise : (clock : Timeline) (tick n : ℕ) → time_of clock tick ≤ time_of clock (tick + n)
times_rise clock tick zero = let e : tick + 0 ≡ tick = omega arith in rw e (omega arith)
times_rise clock tick (suc n) =
    let e : tick + suc n ≡ suc (tick + n) = omega arith in rw e (omega (arith, times_rise clock tick n))

pub times_rise_to : (clock : Timeline) (tick later : ℕ) → tick ≤ later → time_of clock tick ≤ time_of clock later
times_rise_to clock tick later le =
    let e : tick + (later - tick) ≡ later = omega arith in rw e at (times_rise clock tick (later - tick))

-- later ticks of a clock that moves are later in time
pub times_rise_strictly : (clock : Timeline) → Moves clock → (tick later : ℕ) → tick < later → time_of clock tick < time_of clock later
times_rise_strictly clock moves tick later lt =
    let e : suc tick + (later - suc tick) ≡ later = omega arith in
    let rest : time_of clock (suc tick) ≤ time_of clock later = rw e at (times_rise clock (suc tick) (later - suc tick)) in
    omega (arith, moves tick)

-- a stamp is less than one longest tick after its time, but for tick 0, which any earlier time has
pub stamp_near : (clock : Timeline) (longest : ℕ) → ((tick : ℕ) → tick_length clock tick ≤ longest) → (time tick : ℕ)
    → IsStamp clock time (suc tick) → time_of clock (suc tick) < time + longest
stamp_near clock longest within time tick is = omega (arith, is.least tick (omega arith), within tick)

-- a time between those of two ticks has a stamp between the two
pub stamp_between : (clock : Timeline) (time stamp first last : ℕ) → IsStamp clock time stamp
    → time_of clock first < time → time ≤ time_of clock last → (first < stamp) × (stamp ≤ last)
stamp_between clock time stamp first last is after before = (
  elim (cases_lt first stamp) [ inl lt ↦ lt | inr ge ↦ absurd (omega (arith, is.reached, times_rise_to clock stamp first ge)) ],
  stamp_le clock time stamp last is before,
)

-- a length after some segments is within the bounds of their lengths and of the one before
pub length_within : (shortest longest before : ℕ) (segments : List (ℕ × ℕ)) (tick : ℕ) → shortest ≤ before → before ≤ longest
    → are_within shortest longest segments ≡ true → (shortest ≤ length_after before segments tick) × (length_after before segments tick ≤ longest)
length_within shortest longest before [] tick low high within = (low, high)
length_within shortest longest before (s ∷ ss) tick low high within =
    let parts = and_parts (nat_le shortest s.1 && nat_le s.1 longest) (are_within shortest longest ss) within in
    let bounds = and_parts (nat_le shortest s.1) (nat_le s.1 longest) parts.0 in
    let go : (b : Bool) → (shortest ≤ length_after (if b then s.1 else before) ss tick) × (length_after (if b then s.1 else before) ss tick ≤ longest) =
    elim [
      | true ↦ length_within shortest longest s.1 ss tick (leb-true shortest s.1 bounds.0) (leb-true s.1 longest bounds.1) parts.1
      | false ↦ length_within shortest longest before ss tick low high parts.1
    ] in
    go (nat_le s.0 tick)

-- the first of some rising segments begins at tick 0, so its length or a later one stands at each
-- tick
pub first_stands : (s : ℕ × ℕ) (ss : List (ℕ × ℕ)) (tick : ℕ) → are_rising (s ∷ ss) ≡ true → length_after 0 (s ∷ ss) tick ≡ length_after s.1 ss tick
first_stands s ss tick rising =
    let zero_is : s.0 ≡ 0 = eqb-true s.0 0 (and_parts (s.0 == 0) (rise_above 0 ss) rising).0 in
    let reached : nat_le s.0 tick ≡ true = le-leb s.0 tick (omega arith) in
    rw reached refl

segments_have : (shortest longest : ℕ) (segments : List (ℕ × ℕ)) (tick : ℕ) → are_rising segments ≡ true → are_within shortest longest segments ≡ true
    → (shortest ≤ length_after 0 segments tick) × (length_after 0 segments tick ≤ longest)
segments_have shortest longest [] tick rising within = absurd (cc)
segments_have shortest longest (s ∷ ss) tick rising within =
    let parts = and_parts (nat_le shortest s.1 && nat_le s.1 longest) (are_within shortest longest ss) within in
    let bounds = and_parts (nat_le shortest s.1) (nat_le s.1 longest) parts.0 in
    rw (first_stands s ss tick rising)
    (length_within shortest longest s.1 ss tick (leb-true shortest s.1 bounds.0) (leb-true s.1 longest bounds.1) parts.1)

-- the ticks of a clock have its lengths
pub has_lengths : (shortest longest : ℕ) (clock : Timeline) → IsClock shortest longest clock → HasLengths shortest longest clock
has_lengths shortest longest clock is tick = segments_have shortest longest clock.segments tick is.rising is.within

-- if the shortest is not nothing the clock moves
pub clock_moves : (shortest longest : ℕ) (clock : Timeline) → 1 ≤ shortest → IsClock shortest longest clock → Moves clock
clock_moves shortest longest clock some is tick = omega (arith, (has_lengths shortest longest clock is tick).0)
