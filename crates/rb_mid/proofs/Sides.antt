-- On which side of a stamp the middle is.
use Rattle.std.proofs.{Common.{◌≡◌, ℕ, ◌+◌, ◌*◌, ◌<◌, ◌≤◌, List, length, nat_le, arith, inl, inr}, lemmas.Bool.{cases_lt, le-leb, leb-true}}
use Rattle.rb_base.proofs.Counts.{count_if-le}
use Rattle.rb_rules.specs.Middle.{below, up_to}
use Rattle.rb_rules.proofs.Ranks.{below-le}
use Rattle.rb_mid.specs.{declared.Range.Range, Ranges.IsWithin}

-- at most as many stamps are up to a lower number
up_to-most : (m n : ℕ) (stamps : List ℕ) → m ≤ n → up_to m stamps ≤ up_to n stamps
up_to-most m n stamps le =
    count_if-le (λ x. nat_le x m) (λ x. nat_le x n) (λ x is. let low : x ≤ m = leb-true x m is in le-leb x n (omega arith)) stamps

-- fewer than half of the stamps are at most one below the middle
pub above_low : (stamps : List ℕ) (stamp count next : ℕ) (range : Range) → count ≡ up_to stamp stamps → 2 * count < length stamps
    → next ≤ stamp + 1 → IsWithin stamps range → IsWithin stamps (record { low = next; high = range.high })
above_low stamps stamp count next range is few most within = record {
  least = λ m middle. elim (cases_lt stamp m) [
    | inl less ↦ omega (arith, less, most)
    | inr ge ↦ absurd (omega (arith, is, few, middle.half_up_to, up_to-most m stamp stamps ge))
  ];
  most = within.most;
}

-- half of the stamps at least are below one above the middle
pub under_high : (stamps : List ℕ) (stamp count next : ℕ) (range : Range) → count ≡ below stamp stamps → length stamps ≤ 2 * count
    → stamp ≤ next + 1 → IsWithin stamps range → IsWithin stamps (record { low = range.low; high = next })
under_high stamps stamp count next range is many least within = record {
  least = within.least;
  most = λ m fits middle. elim (cases_lt m stamp) [
    | inl less ↦ omega (arith, less, least)
    | inr ge ↦ absurd (omega (arith, is, many, middle.few_below, below-le stamp m stamps ge))
  ];
}

pub ruleset sides = (above_low, under_high)
