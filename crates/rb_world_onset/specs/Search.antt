-- How the next onset is looked for among the nodes of a kind.
use Rattle.std.specs.Prelude.{◌≡◌, ◌⊎◌, ℕ, ◌<◌, true, false, List, Option, Some, None, get_or}
use Rattle.rb_rules.specs.Goodness.{is_before}

-- one of the first `count` nodes is good in a slot of a frame, and this is its onset
pub record IsOnsetAmong (count : ℕ) (onsets : List (Option (ℕ × ℕ))) (frame slot : ℕ) (next : Option (ℕ × ℕ)) : Type 0 where
  pub node : ℕ
  pub within : node < count
  pub good : is_before (get_or onsets node None) frame slot ≡ true
  pub is : next ≡ get_or onsets node None

-- the earliest of the onsets of the first `count` nodes that come after a slot of a frame, or the
-- first that was known, if that is earlier
pub record IsNextAmong (count : ℕ) (onsets : List (Option (ℕ × ℕ))) (frame slot : ℕ) (first next : Option (ℕ × ℕ)) : Type 0 where
  pub sooner : (f s : ℕ) → is_before next f s ≡ true → is_before first f s ≡ true
  pub later : is_before first frame slot ≡ true → is_before next frame slot ≡ true
  pub steady : (i f s : ℕ) → i < count → is_before (Some (frame, slot)) f s ≡ false → is_before next f s ≡ true
      → is_before (get_or onsets i None) f s ≡ is_before (get_or onsets i None) frame slot
  pub origin : (next ≡ first) ⊎ IsOnsetAmong count onsets frame slot next
