-- The exclusive or of the bytes of numbers.
use Rattle.std.proofs.{Common.{◌≡◌, ℕ, ◌/◌, ◌%◌, ◌^◌, [], ◌∷◌, ◌++◌, bit_xor, sym, ◌∙◌, ap, arith}, lemmas.Grind.common_steps, lemmas.Nat.{xor_comm, xor_mod, xor_shr}}
use Rattle.std.specs.{Int.{to_le_bytes, w32, w64}, Int.Bits.xor_assoc}
use Rattle.rb_rules.specs.Spelling.{check_of}

-- the exclusive or of four bytes
all_of : ℕ → ℕ → ℕ → ℕ → ℕ
all_of a b c d = bit_xor (bit_xor a b) (bit_xor c d)

-- the two inner bytes may change places
swap_two : (a b c d : ℕ) → all_of a b c d ≡ all_of a c b d
unfolding all_of
swap_two a b c d =
    xor_assoc a b (bit_xor c d)
    ∙ ap (bit_xor a) (sym (xor_assoc b c d) ∙ ap (λ x. bit_xor x d) (xor_comm b c) ∙ xor_assoc c b d)
    ∙ sym (xor_assoc a c (bit_xor b d))

-- four bytes one after another have the same effect as their exclusive or
one_by_one : (s a b c d : ℕ) → bit_xor (bit_xor (bit_xor (bit_xor s a) b) c) d ≡ bit_xor s (all_of a b c d)
unfolding all_of
one_by_one s a b c d = xor_assoc (bit_xor (bit_xor s a) b) c d ∙ ap (λ x. bit_xor x (bit_xor c d)) (xor_assoc s a b) ∙ xor_assoc s (bit_xor a b) (bit_xor c d)

-- the exclusive or of the four bytes of a number
of_bytes : ℕ → ℕ
of_bytes n = all_of (n % 256) (n / 256 % 256) (n / 65536 % 256) (n / 16777216 % 256)

check_bytes : (n : ℕ) → check_of (to_le_bytes w32 n) ≡ bit_xor 0 (of_bytes n)
unfolding of_bytes all_of
check_bytes n = one_by_one 0 (n % 256) (n / 256 % 256) (n / 65536 % 256) (n / 16777216 % 256)

byte_of : (a b k : ℕ) → bit_xor a b / 2 ^ k % 2 ^ 8 ≡ bit_xor (a / 2 ^ k % 2 ^ 8) (b / 2 ^ k % 2 ^ 8)
byte_of a b k = ap (λ n. n % 2 ^ 8) (xor_shr a b k) ∙ xor_mod (a / 2 ^ k) (b / 2 ^ k) 8

-- the exclusive or of two numbers has as its bytes' exclusive or that of both
of_both : (a b : ℕ) → of_bytes (bit_xor a b) ≡ bit_xor (of_bytes a) (of_bytes b)
unfolding of_bytes all_of
of_both a b =
    let a0 = a % 256 in
    let a1 = a / 256 % 256 in
    let a2 = a / 65536 % 256 in
    let a3 = a / 16777216 % 256 in
    let b0 = b % 256 in
    let b1 = b / 256 % 256 in
    let b2 = b / 65536 % 256 in
    let b3 = b / 16777216 % 256 in
    (λ i. all_of (xor_mod a b 8 i) (byte_of a b 8 i) (byte_of a b 16 i) (byte_of a b 24 i))
    ∙ (λ i. bit_xor (swap_two a0 b0 a1 b1 i) (swap_two a2 b2 a3 b3 i))
    ∙ swap_two (bit_xor a0 a1) (bit_xor b0 b1) (bit_xor a2 a3) (bit_xor b2 b3)

pub from_zero : (x : ℕ) → bit_xor 0 x ≡ x
from_zero x = xor_comm 0 x ∙ grind (arith, common_steps)

-- the check of a number is found by laying its halves over each other
pub check_four : (n half : ℕ) → half ≡ bit_xor n (n / 65536) → bit_xor half (half / 256) % 256 ≡ check_of (to_le_bytes w32 n)
unfolding of_bytes all_of
check_four n half is =
    let n0 = n % 256 in
    let n1 = n / 256 % 256 in
    let n2 = n / 65536 % 256 in
    let n3 = n / 16777216 % 256 in
    let high : n / 65536 / 256 % 256 ≡ n3 = omega arith in
    let low_part : half % 256 ≡ bit_xor n0 n2 = ap (λ h. h % 256) is ∙ xor_mod n (n / 65536) 8 in
    let high_part : half / 256 % 256 ≡ bit_xor n1 n3 = ap (λ h. h / 256 % 256) is ∙ byte_of n (n / 65536) 8 ∙ ap (bit_xor n1) high in
    xor_mod half (half / 256) 8 ∙ (λ i. bit_xor (low_part i) (high_part i)) ∙ swap_two n0 n2 n1 n3 ∙ sym (from_zero (of_bytes n)) ∙ sym (check_bytes n)

-- the check of three numbers is that of the three laid over each other
pub check_three : (a b c : ℕ) → check_of (to_le_bytes w32 (bit_xor (bit_xor a b) c)) ≡ check_of (to_le_bytes w32 a ++ to_le_bytes w32 b ++ to_le_bytes w32 c)
unfolding of_bytes all_of
check_three a b c =
    let all : of_bytes (bit_xor (bit_xor a b) c) ≡ bit_xor (bit_xor (of_bytes a) (of_bytes b)) (of_bytes c) =
    of_both (bit_xor a b) c ∙ ap (λ x. bit_xor x (of_bytes c)) (of_both a b) in
    let first : check_of (to_le_bytes w32 a ++ to_le_bytes w32 b ++ to_le_bytes w32 c) ≡ bit_xor (bit_xor (bit_xor 0 (of_bytes a)) (of_bytes b)) (of_bytes c) =
    one_by_one (check_of (to_le_bytes w32 a ++ to_le_bytes w32 b)) (c % 256) (c / 256 % 256) (c / 65536 % 256) (c / 16777216 % 256)
    ∙ ap (λ x. bit_xor x (of_bytes c)) (one_by_one (check_of (to_le_bytes w32 a)) (b % 256) (b / 256 % 256) (b / 65536 % 256) (b / 16777216 % 256) ∙ ap (λ x. bit_xor x (of_bytes b)) (check_bytes a)) in
    check_bytes (bit_xor (bit_xor a b) c) ∙ ap (bit_xor 0) all ∙ sym (xor_assoc 0 (bit_xor (of_bytes a) (of_bytes b)) (of_bytes c))
    ∙ ap (λ x. bit_xor x (of_bytes c)) (sym (xor_assoc 0 (of_bytes a) (of_bytes b))) ∙ sym first

-- eight bytes are those of two numbers
pub two_halves : (n : ℕ) → to_le_bytes w64 n ≡ to_le_bytes w32 (n % 4294967296) ++ to_le_bytes w32 (n / 4294967296)
two_halves n =
    let a0 : n % 256 ≡ n % 4294967296 % 256 = omega arith in
    let a1 : n / 256 % 256 ≡ n % 4294967296 / 256 % 256 = omega arith in
    let a2 : n / 65536 % 256 ≡ n % 4294967296 / 65536 % 256 = omega arith in
    let a3 : n / 16777216 % 256 ≡ n % 4294967296 / 16777216 % 256 = omega arith in
    let b1 : n / 1099511627776 % 256 ≡ n / 4294967296 / 256 % 256 = omega arith in
    let b2 : n / 281474976710656 % 256 ≡ n / 4294967296 / 65536 % 256 = omega arith in
    let b3 : n / 72057594037927936 % 256 ≡ n / 4294967296 / 16777216 % 256 = omega arith in
    λ i. a0 i ∷ a1 i ∷ a2 i ∷ a3 i ∷ (n / 4294967296 % 256) ∷ b1 i ∷ b2 i ∷ b3 i ∷ []

pub check_twelve : (low high : ℕ) → check_of (to_le_bytes w32 (bit_xor (bit_xor (low % 4294967296) (low / 4294967296)) high)) ≡ check_of (to_le_bytes w64 low ++ to_le_bytes w32 high)
check_twelve low high = check_three (low % 4294967296) (low / 4294967296) high ∙ ap (λ xs. check_of (xs ++ to_le_bytes w32 high)) (sym (two_halves low))
