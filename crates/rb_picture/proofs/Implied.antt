-- the faulty nodes that a lost majority implies
use Rattle.std.proofs.{Common.{◌≡◌, ◌∙◌, ℕ, ◌+◌, ◌*◌, ◌<◌, ◌≤◌, nat_lt, ◌||◌, inl, inr, arith, sym}, Math.Nat.min-le_right, lemmas.Bool.{or_cases, or_from, or_left, or_right}}
use Rattle.rb_base.specs.Nodes.{has, set_of, size}
use Rattle.rb_base.proofs.{Sets.has-set_of, SetSizes.{size_apart, size_first}}
use Rattle.rb_picture.specs.{Extents.least_rows, Laws.{HasLostMajority, RowsAreImplied}}

abbrev either : ℕ → ℕ → ℕ
either s t = set_of (λ i. has s i || has t i)

has-either : (s t i : ℕ) → i < 16 → has (either s t) i ≡ (has s i || has t i)
has-either s t i low = has-set_of i (λ j. has s j || has t j) low

abbrev first : ℕ → ℕ
first count = set_of (λ i. nat_lt i count)

has-first : (count i : ℕ) → i < 16 → has (first count) i ≡ nat_lt i count
has-first count i low = has-set_of i (λ j. nat_lt j count) low

-- the faulty and the convicted are apart
faulty_parts : (count good faulty convicted : ℕ) → HasLostMajority count good faulty convicted → size faulty + size convicted ≤ size (either faulty convicted)
faulty_parts count good faulty convicted lost =
    size_apart (either faulty convicted) faulty convicted
    (λ i low is. has-either faulty convicted i low ∙ or_left (has faulty i) (has convicted i) is)
    (λ i low is. has-either faulty convicted i low ∙ or_right (has faulty i) (has convicted i) is)
    lost.faulty_trusted

-- the good nodes are apart from the faulty and the convicted ones
all_parts : (count good faulty convicted : ℕ) → HasLostMajority count good faulty convicted → size good + size (either faulty convicted) ≤ size (first count)
all_parts count good faulty convicted lost =
    size_apart (first count) good (either faulty convicted)
    (λ i low is. has-first count i low ∙ lost.good_in_bus i low is)
    (λ i low is. has-first count i low
    ∙ elim (or_cases (has faulty i) (has convicted i) (sym (has-either faulty convicted i low) ∙ is)) [ inl e ↦ lost.faulty_in_bus i low e | inr e ↦ lost.convicted_in_bus i low e ])
    (λ i low is. has-either faulty convicted i low
    ∙ or_from (has faulty i) (has convicted i) (lost.faulty_not_good i low is) (lost.good_trusted i low is))

pub rows_are_implied : RowsAreImplied
unfolding least_rows
rows_are_implied count good faulty convicted lost =
    omega (
      arith,
      min-le_right 16 (2 * size good + size convicted),
      faulty_parts count good faulty convicted lost,
      all_parts count good faulty convicted lost,
      size_first count lost.at_most_16,
      lost.few_good,
    )
