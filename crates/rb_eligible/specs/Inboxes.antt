-- The arrivals that an inbox records.
use Rattle.std.specs.Prelude.{ℕ, ◌≡◌, ◌≤◌, ◌<◌, ◌==◌, ◌&&◌, not, Bool, true, false, ◌⊎◌, List, [], ◌∷◌, length, filter, map, slice_index_or}
use Rattle.rb_base.specs.Nodes.{has}
use Rattle.rb_rules.specs.{declared.sense.Expect.Expect, declared.sense.Sense.Sense, Sense.{Arrival, sense_of}}
use Rattle.rb_frame.specs.Spellings.{len_of}
use Rattle.rb_eligible.specs.{declared.reading.Sole.Sole, Readings.bytes_of}

-- an arrival, and the number of the node that it came from
pub record Received : Type 0 where
  pub source : ℕ
  pub arrival : Arrival

-- the arrivals of one source, in their order
abbrev pub arrivals_of : ℕ → List Received → List Arrival
arrivals_of source received = map (λ r. r.arrival) (filter (λ r. r.source == source) received)

-- what came of each source
abbrev pub sense_in : Expect → List Received → ℕ → Sense
sense_in e received source = sense_of e (arrivals_of source received)

-- what is kept: the sources from which something came, those whose arrivals can be no message, and
-- the sole arrivals of the others
pub record KeptArrivals : Type 0 where
  pub came : ℕ
  pub spoilt : ℕ
  pub soles : List Sole

-- what is kept of one source
abbrev pub sole_at : List Sole → ℕ → Sole
sole_at soles source = slice_index_or soles source (record { at = 0; low = 0; tail = 0 })

-- from this source one arrival came, and it is no longer than any message
abbrev pub is_sole : KeptArrivals → ℕ → Bool
is_sole kept source = has kept.came source && not (has kept.spoilt source)

-- the only arrival is longer than any message, or there are more
abbrev pub IsSpoilt : List Arrival → Type 0
IsSpoilt arrivals = ((a : Arrival) × ((arrivals ≡ a ∷ []) × (12 < length a.bytes))) ⊎ (1 < length arrivals)

-- what is kept of one source is what its arrivals show
abbrev pub IsKept : Bool → Bool → Sole → List Arrival → Type 0
IsKept false false sole arrivals = arrivals ≡ []
IsKept false true sole arrivals = ⊥
IsKept true false sole arrivals =
    (len_of sole.tail ≤ 12)
    × (arrivals ≡ record { stamp = sole.at; bytes = bytes_of sole } ∷ [])
IsKept true true sole arrivals = IsSpoilt arrivals

-- the inbox stands for what was received
abbrev pub HoldsArrivals : KeptArrivals → List Received → Type 0
HoldsArrivals kept received = (source : ℕ) → source < 16
    → IsKept (has kept.came source) (has kept.spoilt source) (sole_at kept.soles source) (arrivals_of source received)

-- what is kept is that of some arrivals, and no sole arrival is longer than any message
pub record IsInbox (kept : KeptArrivals) : Type 0 where
  pub all : length kept.soles ≡ 16
  pub short : (source : ℕ) → source < 16 → len_of (sole_at kept.soles source).tail ≤ 12
  pub stands : (received : List Received) × HoldsArrivals kept received

-- the stamp that is kept of a source, if there is one, is at most n
abbrev pub IsUpTo : ℕ → Bool → Bool → Sole → Type 0
IsUpTo n false spoilt sole = Unit {0}
IsUpTo n true false sole = sole.at ≤ n
IsUpTo n true true sole = Unit {0}

-- no stamp that the inbox keeps is above n
abbrev pub StampsUpTo : ℕ → KeptArrivals → Type 0
StampsUpTo n kept = (source : ℕ) → source < 16 → IsUpTo n (has kept.came source) (has kept.spoilt source) (sole_at kept.soles source)
