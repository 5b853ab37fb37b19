-- What comes over a link, kept as numbers.
use Rattle.std.specs.{Prelude.{ℕ, ◌≡◌, ◌≤◌, ◌+◌, ◌*◌, ◌/◌, ◌%◌, List, ◌++◌, drop, length, replicate, take}, Int.{from_le_bytes, to_le_bytes, w32, w64}}

-- the last four bytes, and how many bytes there are, are kept as one number
abbrev pub high_of : ℕ → ℕ
high_of tail = tail % 4294967296

abbrev pub len_of : ℕ → ℕ
len_of tail = tail / 4294967296

-- the first `len` of the bytes that are kept as the two numbers `low` and `high`
unfoldable pub spelled : ℕ → ℕ → ℕ → List ℕ
spelled low high len = take len (to_le_bytes w64 low ++ to_le_bytes w32 high)

-- the bytes that are kept as the two numbers `low` and `tail` and, from the thirteenth on, as
-- `rest`
unfoldable pub bytes_in : ℕ → ℕ → List ℕ → List ℕ
bytes_in low tail rest = take (len_of tail) (to_le_bytes w64 low ++ to_le_bytes w32 (high_of tail) ++ rest)

-- the bytes, filled up with zeros
unfoldable pub filled : List ℕ → List ℕ
filled bytes = bytes ++ drop (length bytes) (replicate 32 0)

-- what bytes are kept as
unfoldable pub low_in : List ℕ → ℕ
low_in bytes = from_le_bytes w64 (take 8 (filled bytes))

unfoldable pub tail_in : List ℕ → ℕ
tail_in bytes = from_le_bytes w32 (take 4 (drop 8 (filled bytes))) + length bytes * 4294967296

unfoldable pub rest_in : List ℕ → List ℕ
rest_in bytes = drop 12 (filled bytes)

-- there are at most 32 bytes, and zeros stand behind them
pub record IsFilled (low tail : ℕ) (rest : List ℕ) : Type 0 where
  pub few : len_of tail ≤ 32
  pub others : length rest ≡ 20
  pub low_is : low_in (bytes_in low tail rest) ≡ low
  pub tail_is : tail_in (bytes_in low tail rest) ≡ tail
  pub rest_is : rest_in (bytes_in low tail rest) ≡ rest
