-- What the root of a document says of the bus: its size, its number of frames and its plan.
use Rattle.std.specs.Prelude.{ℕ, ◌-◌, ◌≤◌, Bool, ◌&&◌, ◌||◌, ◌==◌, nat_le, List, Option, Some, None, option_and_then, codes, if◌then◌else◌}
use Rattle.toml.specs.Data.{Data, Members, get, get_member}
use Rattle.rb_base.specs.Sizes.{IsShape, Sizes}
use Rattle.rb_rules.specs.{Lawful.IsVersion, Plan.IsPlan, declared.message.Version.Version, declared.message.Version.TheVariants.{One, Two}, declared.plan.Plan.Plan}
use Rattle.rb_scenario_document.specs.{Values.{has_number, is_within, may_have_number, number_at, number_or}, Walk.absent_or}
use Rattle.rb_scenario_entries.specs.declared.bus.Bus.{Bus}

-- 1 to 16 BIUs, 1 to 16 RMUs and 1 to 64 data slots
abbrev pub has_sizes : Members → Bool
has_sizes t = has_number (codes "biu") 1 16 t && has_number (codes "rmu") 1 16 t && has_number (codes "slots") 1 64 t

unfoldable pub sizes_of : Members → Sizes
sizes_of t =
    record { bius = number_at (codes "biu") 0 t; rmus = number_at (codes "rmu") 0 t; data_slots = number_at (codes "slots") 0 t }

-- what stands at a key of the plan
abbrev pub in_plan : List ℕ → Members → Option Data
in_plan key t = option_and_then (get key) (get_member (codes "plan") t)

-- an integer within the bounds stands there, or nothing
abbrev pub may_plan : List ℕ → ℕ → ℕ → Members → Bool
may_plan key low high t = absent_or (is_within low high) (in_plan key t)

-- the number that stands there, or else the default
abbrev pub planned : List ℕ → ℕ → Members → ℕ
planned key default t = number_or default (in_plan key t)

-- the version of messages, and the number of the bus, which is 0 in version 1
abbrev pub has_version : Members → Bool
has_version t =
    may_have_number (codes "version") 1 2 t && may_have_number (codes "bus") 0 255 t
    && ((number_at (codes "version") 1 t == 2) || (number_at (codes "bus") 0 t == 0))

unfoldable pub version_of : Members → Version
version_of t = if number_at (codes "version") 1 t == 2 then Two (number_at (codes "bus") 0 t) else One

-- the lengths of ticks, and the bounds of delays
abbrev pub has_units : Members → Bool
has_units t =
    may_plan (codes "u") 2 1000000 t && may_plan (codes "r") 0 (planned (codes "u") 10000 t - 1) t
    && may_plan (codes "dmin") 1 1000000000 t && may_plan (codes "dmax") 1 1000000000 t
    && nat_le (planned (codes "dmin") 5000 t) (planned (codes "dmax") 15000 t)

-- the lengths of windows, and the bound on the skew
abbrev pub has_windows : Members → Bool
has_windows t =
    may_plan (codes "l") 1 1000 t && may_plan (codes "h") 1 1000 t && may_plan (codes "v") 1 1000 t
    && may_plan (codes "z") 1 1000 t && may_plan (codes "c") 0 1000 t && may_plan (codes "p") 0 1000000000 t

-- the plan, with the numbers that stand in for those that are left out
unfoldable pub plan_of : Members → Plan
plan_of t = record {
  u = planned (codes "u") 10000 t;
  r = planned (codes "r") 1 t;
  dmin = planned (codes "dmin") 5000 t;
  dmax = planned (codes "dmax") 15000 t;
  l = planned (codes "l") 15 t;
  h = planned (codes "h") 6 t;
  v = planned (codes "v") 18 t;
  z = planned (codes "z") 20 t;
  c = planned (codes "c") 1 t;
  p = planned (codes "p") 60200 t;
  version = version_of t;
  probation = number_at (codes "probation") 0 t;
}

abbrev pub has_plan : Members → Bool
has_plan t = has_units t && has_windows t && has_version t && may_have_number (codes "probation") 0 4096 t

-- the bus that a document is for: all its numbers are in range
unfoldable pub has_bus : Members → Bool
has_bus t = has_sizes t && has_number (codes "frames") 1 4096 t && has_plan t

abbrev pub bus_of : Members → Bus
bus_of t = record { shape = sizes_of t; frames = number_at (codes "frames") 0 t; plan = plan_of t }

abbrev pub bus_in : Members → Option Bus
bus_in t = if has_bus t then Some (bus_of t) else None

-- what holds of the bus of every document in range
pub record IsBus (bus : Bus) : Type 0 where
  pub shape : IsShape bus.shape
  pub frames : (1 ≤ bus.frames) × (bus.frames ≤ 4096)
  pub plan : IsPlan bus.plan
  pub version : IsVersion bus.plan.version
