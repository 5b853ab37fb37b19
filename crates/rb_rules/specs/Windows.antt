-- The windows of a frame. Offsets count ticks from the frame's first.
use Rattle.std.specs.{Prelude.{ℕ, ◌+◌, ◌-◌, ◌*◌, ◌/◌, ◌%◌, Bool, ◌&&◌, nat_le, Option, find, List, [], ◌∷◌, ◌++◌, map}, List.range_with_len}
use Rattle.rb_base.specs.Sizes.{Sizes, sync_slot_of}
use Rattle.rb_rules.specs.{declared.plan.Plan.Plan, declared.plan.Window.Window, Plan.{f0_of, tail_start_of}}

-- the window of `ticks` ticks from the offset `first` on
abbrev pub window_of : ℕ → ℕ → ℕ → ℕ → Window
window_of slot stage first ticks = record { slot = slot; stage = stage; first = first; last = first + ticks - 1 }

-- the windows below the sync slot, by their number: three stages a slot, each of `l` ticks
abbrev pub exact_window : Plan → ℕ → Window
exact_window plan number = window_of (number / 3) (number % 3 + 1) (number * plan.l) plan.l

-- the three stages of the sync slot
abbrev pub sync_windows : Sizes → Plan → List Window
sync_windows sizes plan =
    window_of (sync_slot_of sizes) 1 (f0_of sizes plan) plan.l
    ∷ window_of (sync_slot_of sizes) 2 (f0_of sizes plan + plan.l) plan.v
    ∷ window_of (sync_slot_of sizes) 3 (f0_of sizes plan + plan.l + plan.v) plan.z
    ∷ []

-- the windows of a frame in order, without the tail
abbrev pub windows_of_frame : Sizes → Plan → List Window
windows_of_frame sizes plan =
    map (exact_window plan) (range_with_len 0 (3 * sync_slot_of sizes)) ++ sync_windows sizes plan

-- the offset lies in the window
abbrev pub holds_offset : ℕ → Window → Bool
holds_offset offset window = nat_le window.first offset && nat_le offset window.last

-- the window of an offset; there is none from the tail on
abbrev pub window_at : Sizes → Plan → ℕ → Option Window
window_at sizes plan offset = find (holds_offset offset) (windows_of_frame sizes plan)

-- the tail, from the end of the windows to the tick before the next frame's first, which has the
-- offset `epoch`. It is empty if the windows end there
abbrev pub tail_of : Sizes → Plan → ℕ → Window
tail_of sizes plan epoch =
    record { slot = sync_slot_of sizes; stage = 4; first = tail_start_of sizes plan; last = epoch - 1 }

-- the offset at which the message of a stage below the sync slot is sent
abbrev pub send_offset_of : Plan → ℕ → ℕ → ℕ
send_offset_of plan slot stage = (3 * slot + stage - 1) * plan.l + plan.h
