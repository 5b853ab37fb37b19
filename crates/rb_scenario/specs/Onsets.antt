-- Which nodes are good in which slot, by the onsets alone.
use Rattle.std.specs.Prelude.{ℕ, Bool, ◌&&◌, nat_lt, List, Option, None, get_or}
use Rattle.rb_base.specs.{Sizes.Sizes, declared.node.NodeName.NodeName, declared.node.NodeName.TheVariants.{Biu, Rmu}}
use Rattle.rb_rules.specs.Goodness.{is_before}

-- the node is good in this slot of this frame
abbrev pub is_good_by : Sizes → List (Option (ℕ × ℕ)) → List (Option (ℕ × ℕ)) → NodeName → ℕ → ℕ → Bool
is_good_by sizes biu rmu (Biu i) frame slot = nat_lt i sizes.bius && is_before (get_or biu i None) frame slot
is_good_by sizes biu rmu (Rmu i) frame slot = nat_lt i sizes.rmus && is_before (get_or rmu i None) frame slot
