-- How a lane is looked through.
use Rattle.std.specs.Prelude.{⊤, ℕ, nat_le, nat_lt, ◌≡◌, ◌≤◌, ◌==◌, ◌&&◌, ◌||◌, Bool, false, Option, None, Some, List, [], ◌∷◌, slice_get}
use Rattle.rb_rules.specs.Hearing.{Coming}
use Rattle.rb_queue.specs.{Waiting.{Held, ready_of}, Waiting.Ready.{Comes, Ticks}}

-- the arrival comes at this time from one of the sources that begin with the first and stand before
-- the end
abbrev pub is_between : ℕ → ℕ → ℕ → Coming → Bool
is_between time first end c = nat_le first c.from && nat_lt c.from end && (c.time == time)

-- the i-th that is listed is the arrival at this place of the lane
pub record StandsAt (listed : List (ℕ × Coming)) (i : ℕ) (arrivals : List Coming) (place : ℕ) : Type 0 where
  pub coming : Coming
  pub found : slice_get listed i ≡ Some (place, coming)
  pub stands : slice_get arrivals place ≡ Some coming

-- the arrival comes at an earlier time than the other, or at that time from a lower source
abbrev pub comes_before : Coming → Coming → Bool
comes_before c d = nat_lt c.time d.time || ((c.time == d.time) && nat_lt c.from d.from)

-- the arrival at this place is the first of all: of the least time, of the lowest source at that
-- time, and of what comes so the first
pub record IsFirst (arrivals : List Coming) (place : ℕ) : Type 0 where
  pub coming : Coming
  pub stands : slice_get arrivals place ≡ Some coming
  pub known : coming.from ≤ 255
  pub time : (k : ℕ) (c : Coming) → slice_get arrivals k ≡ Some c → coming.time ≤ c.time
  pub source : (k : ℕ) (c : Coming) → slice_get arrivals k ≡ Some c → c.time ≡ coming.time → coming.from ≤ c.from
  pub front : (k : ℕ) (c : Coming) → slice_get arrivals k ≡ Some c → c.time ≡ coming.time → c.from ≡ coming.from → place ≤ k

-- if there are arrivals, this is the place of the first
abbrev pub HasFirst : List Coming → ℕ → Type 0
HasFirst [] place = ⊤
HasFirst (c ∷ arrivals) place = IsFirst (c ∷ arrivals) place

-- each arrival is due by the time `latest`
abbrev pub AreBy : ℕ → List Coming → Type 0
AreBy latest arrivals = (k : ℕ) (c : Coming) → slice_get arrivals k ≡ Some c → c.time ≤ latest

-- there is a tick, and it comes before a time
abbrev pub is_sooner : Option ℕ → ℕ → Bool
is_sooner None time = false
is_sooner (Some ahead) time = nat_lt ahead time

-- the i-th that is ready is the arrival at this place
pub record ComesAt (i : ℕ) (lane : Held) (place : ℕ) : Type 0 where
  pub coming : Coming
  pub found : slice_get (ready_of lane) i ≡ Some (Comes place coming)
  pub stands : slice_get lane.arrivals place ≡ Some coming

-- the place of the i-th that is ready. If there is none, the i-th is the tick
abbrev pub IsReadyAt : ℕ → Held → Option ℕ → Type 0
IsReadyAt i lane None = slice_get (ready_of lane) i ≡ Some Ticks
IsReadyAt i lane (Some place) = ComesAt i lane place
