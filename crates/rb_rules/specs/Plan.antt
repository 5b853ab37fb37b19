-- The timing plan: the sizes of a frame, and the seven inequalities that make a plan feasible.
use Rattle.std.specs.Prelude.{ℕ, suc, ◌+◌, ◌-◌, ◌*◌, ◌<◌, ◌≤◌, min, max, ℤ, pos, ◌-ℤ◌, ◌*ℤ◌, ◌≤ℤ◌, int_lt, List, [], ◌∷◌, All, position, slice_get, Option, option_map}
use Rattle.rb_base.specs.Sizes.{Sizes, sync_slot_of}
use Rattle.rb_rules.specs.declared.plan.Plan.{Plan}

-- the numbers of a plan are in range
pub record IsPlan (plan : Plan) : Type 0 where
  pub u : (2 ≤ plan.u) × (plan.u ≤ 1000000)
  pub r : plan.r < plan.u
  pub dmin : (1 ≤ plan.dmin) × (plan.dmin ≤ plan.dmax)
  pub dmax : plan.dmax ≤ 1000000000
  pub l : (1 ≤ plan.l) × (plan.l ≤ 1000)
  pub h : (1 ≤ plan.h) × (plan.h ≤ 1000)
  pub v : (1 ≤ plan.v) × (plan.v ≤ 1000)
  pub z : (1 ≤ plan.z) × (plan.z ≤ 1000)
  pub c : plan.c ≤ 1000
  pub p : plan.p ≤ 1000000000
  pub probation : plan.probation ≤ 4096

-- the offset of the sync slot: each slot before it has three windows of `l` ticks
abbrev pub f0_of : Sizes → Plan → ℕ
f0_of sizes plan = 3 * sync_slot_of sizes * plan.l

-- the offset at which the windows end and the tail begins
abbrev pub tail_start_of : Sizes → Plan → ℕ
tail_start_of sizes plan = f0_of sizes plan + plan.l + plan.v + plan.z

-- the least and the greatest length of a tick
abbrev pub shortest_of : Plan → ℕ
shortest_of plan = plan.u - plan.r

abbrev pub longest_of : Plan → ℕ
longest_of plan = plan.u + plan.r

-- how far two good clocks drift apart in `ticks` ticks, at most
abbrev pub drift_in : Plan → ℕ → ℕ
drift_in plan ticks = 2 * plan.r * ticks

-- the skew allowed inside a frame: that of the epochs, and the drift up to the tick that sends the
-- first sync message
abbrev pub skew_of : Sizes → Plan → ℕ
skew_of sizes plan = plan.p + drift_in plan (f0_of sizes plan + plan.h)

-- the least time from the sending tick, which has offset `h` in the window, to the last tick of a
-- window of `ticks` ticks; negative if the window ends before the sending tick
abbrev pub rest_of : Plan → ℕ → ℤ
rest_of plan ticks = (pos ticks -ℤ pos (1 + plan.h)) *ℤ pos (shortest_of plan)

-- how far apart the next epochs may come
abbrev pub next_skew_of : Plan → ℕ
next_skew_of plan =
    2 * (plan.dmax - plan.dmin) + 2 * longest_of plan + drift_in plan (plan.l + plan.v + plan.z)
    + max (plan.c * longest_of plan) (plan.dmax + longest_of plan) - min (plan.c * shortest_of plan) plan.dmin

-- the two sides of an inequality; it holds if the left is at least the right
pub record Sides : Type 0 where
  pub left : ℤ
  pub right : ℤ

-- the seven inequalities in order. Of the first six the odd ones keep a message from arriving
-- before its window, and the even ones from arriving after it: the first two below the sync slot
-- and in its stage 1, the next two in stage 2, the last two in stage 3. The seventh bounds the next
-- skew
abbrev pub inequalities_of : Sizes → Plan → List Sides
inequalities_of sizes plan =
    record { left = pos (plan.h * shortest_of plan + plan.dmin); right = pos (skew_of sizes plan) }
    ∷ record { left = rest_of plan plan.l; right = pos (skew_of sizes plan + plan.dmax) }
    ∷ record { left = pos (plan.h * longest_of plan + 2 * plan.dmin); right = pos (skew_of sizes plan + drift_in plan plan.l) }
    ∷ record { left = rest_of plan plan.v; right = pos (skew_of sizes plan + 2 * plan.dmax + longest_of plan + drift_in plan plan.l) }
    ∷ record { left = pos (plan.h * longest_of plan + 3 * plan.dmin); right = pos (skew_of sizes plan + drift_in plan (plan.l + plan.v)) }
    ∷ record { left = rest_of plan plan.z; right = pos (skew_of sizes plan + 3 * plan.dmax + 2 * longest_of plan + drift_in plan (plan.l + plan.v)) }
    ∷ record { left = pos plan.p; right = pos (next_skew_of plan) }
    ∷ []

-- the sides of an inequality, counted from 1
abbrev pub sides_of : Sizes → Plan → ℕ → Option Sides
sides_of sizes plan n = slice_get (inequalities_of sizes plan) (n - 1)

-- all seven inequalities hold
abbrev pub IsFeasible : Sizes → Plan → Type 0
IsFeasible sizes plan = All (λ sides. sides.right ≤ℤ sides.left) (inequalities_of sizes plan)

-- the number of the first inequality that fails, counted from 1
abbrev pub first_failing : Sizes → Plan → Option ℕ
first_failing sizes plan = option_map suc (position (λ sides. int_lt sides.left sides.right) (inequalities_of sizes plan))
