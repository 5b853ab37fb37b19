-- Ticks that end a window.
use Rattle.std.specs.Prelude.{ℕ, ◌≡◌, ◌<◌, true}
use Rattle.rb_base.specs.{Nodes.Side, Sizes.{Sizes, sync_slot_of}}
use Rattle.rb_rules.specs.{declared.plan.Plan.Plan, Core.{is_last, state_at, window_here}, NodeState.NodeState}

-- tick k ends a window of a slot before the sync slot
pub record EndsExactWindow (sizes : Sizes) (plan : Plan) (me : Side) (st : NodeState) (k : ℕ) : Type 0 where
  pub last : is_last sizes plan me (state_at sizes plan me st k) k ≡ true
  pub slot : (window_here sizes plan me (state_at sizes plan me st k) k).slot < sync_slot_of sizes
