-- When a listener knows that a frame of the bus comes to its end: it hears calls to resynchronize
-- of most RMUs at nearly one time.
use Rattle.std.specs.Prelude.{ℕ, ◌-◌, ◌*◌, ◌==◌, ◌&&◌, nat_lt, nat_le, min, Bool, true, false, Option, Some, None, List, [], ◌∷◌, get_or}
use Rattle.rb_base.specs.{Nodes.{set_of, size}, Sizes.{Sizes, sync_slot_of}}
use Rattle.rb_rules.specs.{declared.message.Message.Message, declared.message.Tag.Tag, declared.plan.Plan.Plan}
use Rattle.rb_listen.specs.declared.passes.Call.{Call}
use Rattle.rb_rules.specs.declared.message.Tag.TheVariants as tag

-- more than half of all RMUs are in the set
abbrev pub are_most : Sizes → ℕ → Bool
are_most sizes set = nat_lt sizes.rmus (2 * size set)

abbrev pub is_sync : Tag → Bool
is_sync tag.Word = false
is_sync tag.Fault = false
is_sync tag.Sync = true

-- the message is a call with which an RMU resynchronizes the BIUs
abbrev pub is_call : Sizes → Message → Bool
is_call sizes m = is_sync m.tag && (m.slot == sync_slot_of sizes) && (m.stage == 2)

-- how many ticks the calls of a pass may lie apart
abbrev pub reach_of : Plan → ℕ
reach_of plan = min plan.v plan.z

-- the call is one of this frame, and came in the ticks of this reach from tick `from` on
abbrev pub falls_in : ℕ → ℕ → ℕ → Option Call → Bool
falls_in reach frame from None = false
falls_in reach frame from (Some c) = (c.frame == frame) && nat_le from c.at && nat_le (c.at - from) reach

-- the RMUs whose newest call is such a one; `newest` has the newest call of each RMU
abbrev pub calling : ℕ → ℕ → ℕ → List (Option Call) → ℕ
calling reach frame from newest = set_of (λ j. falls_in reach frame from (get_or newest j None))

-- with the call there begins a pass: it and the newest calls of most RMUs are of one frame, and
-- these came in the ticks of the reach from it on
abbrev pub begins_pass : Sizes → Plan → List (Option Call) → Option Call → Bool
begins_pass sizes plan newest None = false
begins_pass sizes plan newest (Some c) = are_most sizes (calling (reach_of plan) c.frame c.at newest)

abbrev pub frame_in : Option Call → Option ℕ
frame_in None = None
frame_in (Some c) = Some c.frame

abbrev pub pass_among : Sizes → Plan → List (Option Call) → List (Option Call) → Option ℕ
pass_among sizes plan newest [] = None
pass_among sizes plan newest (call ∷ others) =
    elim (begins_pass sizes plan newest call) [ true ↦ frame_in call | false ↦ pass_among sizes plan newest others ]

-- the frame, modulo 65536, for which this is the moment of a pass. There is one at most: two sets
-- of more than half of all RMUs have an RMU in common, and its newest call is of one frame
unfoldable pub pass_of : Sizes → Plan → List (Option Call) → Option ℕ
pass_of sizes plan newest = pass_among sizes plan newest newest
