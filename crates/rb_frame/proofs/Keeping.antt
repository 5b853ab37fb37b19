-- Bytes and the numbers that they are kept as.
use Rattle.std.proofs.{Common.{◌≡◌, ℕ, ◌+◌, ◌*◌, ◌<◌, ◌≤◌, ◌-◌, List, ◌++◌, length, take, drop, get_or, replicate, inl, inr, refl, sym, ◌∙◌, ap, arith, length-drop, append_assoc, lit≤, length-append, drop-drop}, lemmas.Bool.cases_lt, lemmas.List.{get_or-drop, get_or-take, length-take, take-append-drop, take-append-le, get_or_append_left, get_or-append_right, drop-replicate, get_or-replicate, get_or_past, length-replicate}, lemmas.Grind.common_steps, lemmas.Nat.{le_bytes_4, le_bytes_8}, Math.Seq.take-append_seam}
use Rattle.std.specs.Int.{from_le_bytes, to_le_bytes, w32, w64}
use Rattle.rb_frame.specs.Spellings.{IsFilled, bytes_in, filled, high_of, len_of, low_in, rest_in, spelled, tail_in}

-- as many bytes are kept as the tail says
pub length_bytes : (low tail : ℕ) (rest : List ℕ) → len_of tail ≤ 32 → length rest ≡ 20 → length (bytes_in low tail rest) ≡ len_of tail
unfolding bytes_in
length_bytes low tail rest few others = omega (arith, others, length-take (len_of tail) (to_le_bytes w64 low ++ to_le_bytes w32 (high_of tail) ++ rest))

-- bytes that are few enough are in the numbers alone
pub short_bytes : (low tail : ℕ) (rest : List ℕ) → len_of tail ≤ 12 → bytes_in low tail rest ≡ spelled low (high_of tail) (len_of tail)
unfolding bytes_in spelled
short_bytes low tail rest short = take-append-le (len_of tail) (to_le_bytes w64 low ++ to_le_bytes w32 (high_of tail)) rest short

-- a part of bytes is of bytes
pub small_part : (xs : List ℕ) → ((i : ℕ) → get_or xs i 0 < 256) → (n i : ℕ) → get_or (take n xs) i 0 < 256
small_part xs small n i =
    elim (cases_lt i n) [
      | inl less ↦ rw (get_or-take n xs i 0 less) (small i)
      | inr more ↦ (let most : length (take n xs) ≤ i = omega (arith, length-take n xs) in grind (arith, most, common_steps))
    ]

small_rest : (xs : List ℕ) → ((i : ℕ) → get_or xs i 0 < 256) → (n i : ℕ) → get_or (drop n xs) i 0 < 256
small_rest xs small n i = rw (get_or-drop n xs i 0) (small (n + i))

-- a zero is a byte
zeros_small : (n i : ℕ) → get_or (replicate n 0) i 0 < 256
zeros_small n i =
    elim (cases_lt i n) [
      | inl less ↦ rw (get_or-replicate {A = ℕ} n i 0 0 less) (lit≤ tt)
      | inr more ↦ rw (get_or_past {X = ℕ} (replicate n 0) i 0 (omega (arith, length-replicate {A = ℕ} n 0))) (lit≤ tt)
    ]

-- bytes that are filled up are bytes
pub filled_small : (bytes : List ℕ) → ((i : ℕ) → get_or bytes i 0 < 256) → (i : ℕ) → get_or (filled bytes) i 0 < 256
unfolding filled
filled_small bytes small i =
    elim (cases_lt i (length bytes)) [
      | inl less ↦ rw (get_or_append_left bytes (drop (length bytes) (replicate 32 0)) 0 i less) (small i)
      | inr more ↦ rw (get_or-append_right bytes (drop (length bytes) (replicate 32 0)) (length bytes) i 0 refl more, drop-replicate {X = ℕ} (length bytes) 32 0)
          (zeros_small (32 - length bytes) (i - length bytes))
    ]

pub filled_length : (bytes : List ℕ) → length bytes ≤ 32 → length (filled bytes) ≡ 32
unfolding filled
filled_length bytes few = omega (arith, few, length-drop {A = ℕ} (length bytes) (replicate 32 0), length-append bytes (drop (length bytes) (replicate 32 0)))

-- filled bytes begin with the bytes themselves
pub filled_begins : (bytes : List ℕ) → take (length bytes) (filled bytes) ≡ bytes
unfolding filled
filled_begins bytes = take-append_seam bytes (drop (length bytes) (replicate 32 0))

-- the numbers of the first twelve bytes and the other bytes are all 32 bytes
pub all_is : (all : List ℕ) (low high : ℕ) → length all ≡ 32 → ((i : ℕ) → get_or all i 0 < 256) → low ≡ from_le_bytes w64 (take 8 all) → high ≡ from_le_bytes w32 (take 4 (drop 8 all))
    → to_le_bytes w64 low ++ to_le_bytes w32 high ++ drop 12 all ≡ all
all_is all low high whole small low_is high_is =
    let first : to_le_bytes w64 low ≡ take 8 all = le_bytes_8 (take 8 all) low (omega (arith, length-take 8 all)) (small_part all small 8) low_is in
    let others = drop 8 all in
    let next : to_le_bytes w32 high ≡ take 4 others =
    le_bytes_4 (take 4 others) high (omega (arith, length-take 4 others, length-drop 8 all)) (small_part others (small_rest all small 8) 4) high_is in
    (λ i. first i ++ next i ++ drop 12 all)
    ∙ append_assoc (take 8 all) (take 4 others) (drop 12 all)
    ∙ ap (λ xs. take 8 all ++ (take 4 others ++ xs)) (sym (drop-drop 4 8 all))
    ∙ ap (λ xs. take 8 all ++ xs) (take-append-drop 4 others)
    ∙ take-append-drop 8 all

pub kept : (bytes : List ℕ) (low high tail : ℕ) (rest : List ℕ) → length bytes ≤ 32 → ((i : ℕ) → get_or (filled bytes) i 0 < 256) → high < 4294967296
    → low ≡ from_le_bytes w64 (take 8 (filled bytes)) → high ≡ from_le_bytes w32 (take 4 (drop 8 (filled bytes))) → tail ≡ high + length bytes * 4294967296 → rest ≡ drop 12 (filled bytes)
    → bytes_in low tail rest ≡ bytes
unfolding bytes_in
kept bytes low high tail rest few small fits low_is high_is tail_is rest_is =
    let high_in : high_of tail ≡ high = omega (arith, tail_is, fits) in
    let len_in : len_of tail ≡ length bytes = omega (arith, tail_is, fits) in
    (λ i. take (len_in i) (to_le_bytes w64 low ++ to_le_bytes w32 (high_in i) ++ rest_is i))
    ∙ ap (take (length bytes)) (all_is (filled bytes) low high (filled_length bytes few) small low_is high_is) ∙ filled_begins bytes

pub kept_filled : (bytes : List ℕ) (low high tail : ℕ) (rest : List ℕ) → length bytes ≤ 32 → ((i : ℕ) → get_or (filled bytes) i 0 < 256) → high < 4294967296
    → low ≡ from_le_bytes w64 (take 8 (filled bytes)) → high ≡ from_le_bytes w32 (take 4 (drop 8 (filled bytes))) → tail ≡ high + length bytes * 4294967296 → rest ≡ drop 12 (filled bytes)
    → IsFilled low tail rest
unfolding low_in tail_in rest_in
kept_filled bytes low high tail rest few small fits low_is high_is tail_is rest_is =
    let is = kept bytes low high tail rest few small fits low_is high_is tail_is rest_is in
    record {
      few = omega (arith, tail_is, fits, few);
      others = ap length rest_is ∙ omega (arith, length-drop 12 (filled bytes), filled_length bytes few);
      low_is = ap low_in is ∙ sym low_is;
      tail_is = ap tail_in is ∙ ap (λ h. h + length bytes * 4294967296) (sym high_is) ∙ sym tail_is;
      rest_is = ap rest_in is ∙ sym rest_is;
    }
