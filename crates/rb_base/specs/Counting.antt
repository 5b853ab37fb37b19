-- Numbers in order, and how many of a list pass a test.
use Rattle.std.specs.{Prelude.{ℕ, ◌+◌, Bool, List, [], ◌∷◌, cond}, List.range_with_len}

-- the numbers below n, in order
abbrev pub numbers : ℕ → List ℕ
numbers n = range_with_len 0 n

-- how many of the items pass
abbrev pub count_if : {X : Type 0} → (X → Bool) → List X → ℕ
count_if passes [] = 0
count_if passes (x ∷ xs) = cond (passes x) 1 0 + count_if passes xs
