-- The spots of what is pending.
use Rattle.std.specs.Prelude.{ℕ, ◌≡◌, Some, List, slice_get}
use Rattle.rb_rules.specs.Hearing.{Coming}
use Rattle.rb_queue.specs.{declared.pending.Pending.Pending, declared.beside.Spot.Spot, Waiting.Held, Waiting.Ready.{Comes, Ticks}, Queued.Takeable, Queued.Takeable.{InLane, Beside}}
use Rattle.rb_queue.specs.declared.beside.Spot.TheVariants as spot

-- the i-th that is listed is the arrival at this place of the lane
pub record IsArrival (listed : List Takeable) (i : ℕ) (arrivals : List Coming) (place : ℕ) : Type 0 where
  pub coming : Coming
  pub found : slice_get listed i ≡ Some (InLane (Comes place coming))
  pub stands : slice_get arrivals place ≡ Some coming

-- the i-th that is listed is kept beside at this place
pub record IsKept (listed : List Takeable) (i : ℕ) (more : List Pending) (place : ℕ) : Type 0 where
  pub kept : Pending
  pub found : slice_get listed i ≡ Some (Beside place kept)
  pub stands : slice_get more place ≡ Some kept

-- the i-th that is listed stands here
abbrev pub IsSpot : List Takeable → ℕ → Held → List Pending → Spot → Type 0
IsSpot listed i lane more (spot.Arrival place) = IsArrival listed i lane.arrivals place
IsSpot listed i lane more spot.Tick = slice_get listed i ≡ Some (InLane Ticks)
IsSpot listed i lane more (spot.Kept place) = IsKept listed i more place
