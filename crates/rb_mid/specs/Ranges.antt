-- Between which numbers the middle is.
use Rattle.std.specs.Prelude.{ℕ, ◌<◌, ◌≤◌, ◌^◌, List}
use Rattle.rb_rules.specs.Middle.{IsMiddle}
use Rattle.rb_mid.specs.declared.Range.{Range}

-- the middle of the stamps, a number of 64 bits if there is one, is in the range
pub record IsWithin (stamps : List ℕ) (range : Range) : Type 0 where
  pub least : (m : ℕ) → IsMiddle m stamps → range.low ≤ m
  pub most : (m : ℕ) → m < 2 ^ 64 → IsMiddle m stamps → m ≤ range.high
