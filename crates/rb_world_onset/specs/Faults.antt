-- From which slot on the nodes of a bus are not good, apart from the rest of a scenario.
use Rattle.std.specs.Prelude.{◌≡◌, ℕ, ◌&&◌, nat_lt, Bool, true, false, List, Option, Some, None, IfSome, get_or}
use Rattle.rb_base.specs.{Nodes.Side, Sizes.Sizes}
use Rattle.rb_rules.specs.Goodness.{Scenario, is_before, is_good}

-- the numbers of nodes, and the onset of each node, if it has one
pub record Faults : Type 0 where
  pub sizes : Sizes
  pub biu_onsets : List (Option (ℕ × ℕ))
  pub rmu_onsets : List (Option (ℕ × ℕ))

abbrev pub faults_of : Scenario → Faults
faults_of sc = record { sizes = sc.sizes; biu_onsets = sc.biu_onsets; rmu_onsets = sc.rmu_onsets }

-- node i is one of the first `count` nodes, and good in this slot of this frame
abbrev pub is_good_among : ℕ → List (Option (ℕ × ℕ)) → ℕ → ℕ → ℕ → Bool
is_good_among count onsets frame slot i = nat_lt i count && is_before (get_or onsets i None) frame slot

-- the earlier of two onsets, of which the second counts only if it comes after this slot of this
-- frame
abbrev pub earlier_after : ℕ → ℕ → Option (ℕ × ℕ) → Option (ℕ × ℕ) → Option (ℕ × ℕ)
earlier_after frame slot next None = next
earlier_after frame slot next (Some onset) = elim (is_before (Some onset) frame slot && is_before next onset.0 onset.1) [ true ↦ Some onset | false ↦ next ]

-- a node that is good in a slot of a frame is not good at this place any more
pub record Stops (sc : Scenario) (frame slot : ℕ) (change : ℕ × ℕ) : Type 0 where
  pub side : Side
  pub node : ℕ
  pub good : is_good sc side node frame slot ≡ true
  pub not_there : is_good sc side node change.0 change.1 ≡ false

-- from a slot of a frame on the same nodes are good before the change, and there one of them is not
-- any more
pub record IsNextChange (sc : Scenario) (frame slot : ℕ) (change : Option (ℕ × ℕ)) : Type 0 where
  pub later : is_before change frame slot ≡ true
  pub steady : (side : Side) → (i f s : ℕ) → is_before (Some (frame, slot)) f s ≡ false → is_before change f s ≡ true → is_good sc side i f s ≡ is_good sc side i frame slot
  pub stops : IfSome change (Stops sc frame slot)
