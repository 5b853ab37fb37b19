-- The least of each four marks.
use Rattle.std.specs.Prelude.{◌≡◌, ℕ, ◌+◌, ◌*◌, ◌/◌, ◌<◌, min, List, get_or, length}

-- the least of the four numbers from a place on
abbrev pub four_at : List ℕ → ℕ → ℕ
four_at all i = min (min (get_or all i 0) (get_or all (i + 1) 0)) (min (get_or all (i + 2) 0) (get_or all (i + 3) 0))

-- Beside 32 marks the least of each four is kept, but of those that are open. There the last number
-- stands. If a place is kept, its four are open
pub record AreFours (all leasts : List ℕ) (opened at : ℕ) : Type 0 where
  pub marks : length all ≡ 32
  pub many : length leasts ≡ 8
  pub within : opened < 8
  pub none : get_or leasts opened 0 ≡ 18446744073709551615
  pub others : (j : ℕ) → j < 8 → (j ≡ opened → ⊥) → get_or leasts j 0 ≡ four_at all (j * 4)
  pub there : at < 32 → at / 4 ≡ opened
