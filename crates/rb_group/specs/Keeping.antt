-- The deliveries whose values a group holds.
use Rattle.std.specs.Prelude.{ℕ, ◌≡◌, ◌<◌, Option, Some, None, List, get_or, is_some, length, slice_set, if◌then◌else◌}
use Rattle.rb_base.specs.{declared.values.Delivery.Delivery, declared.values.Heard.Heard}
use Rattle.rb_group.specs.Groups.{value_of}

-- what is kept of a group: its members, and the first value of each of the 16 BIUs that there may
-- be
pub record KeptGroup : Type 0 where
  pub members : ℕ
  pub kept : List (Option Heard)

-- with this value in a place, if none is there
abbrev pub with_first : List (Option Heard) → ℕ → Heard → List (Option Heard)
with_first kept place value = if is_some (get_or kept place None) then kept else slice_set kept place (Some value)

-- the values that are kept are those of these deliveries, in order
pub record HasHeard (g : KeptGroup) (deliveries : List Delivery) : Type 0 where
  pub many : length g.kept ≡ 16
  pub each : (i : ℕ) → i < 16 → get_or g.kept i None ≡ value_of g.members deliveries i
