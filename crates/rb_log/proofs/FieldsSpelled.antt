-- A field that was read was there.
use Rattle.std.proofs.{Common.{◌≡◌, ℕ, zero, suc, ◌+◌, ◌*◌, ◌<◌, ◌≤◌, Bool, true, false, nat_le, List, [], ◌∷◌, ◌++◌, length, drop, get_or, refl, sym, ap, ◌∙◌, arith}, lemmas.Bool.Decides.nat_tests, lemmas.List.{drop_more, drop-drop, get_or-drop, length-drop}, lemmas.Nat.{be_bytes_2, be_bytes_4}}
use Rattle.std.specs.{Prelude.{Result, Ok, Err}, Int.{from_be_bytes, w16, w32}}
use Rattle.byteorder.specs.Endian.{big_bytes, big_number}
use Rattle.rb_rules.specs.Spelling.{AreBytes}
use Rattle.rb_log.specs.{Fields.{◌>>=◌, field, number_at}, declared.refusal.LogRefusal.LogRefusal}

-- the first step gave a value, and the next one gave `last`
pub record Steps {A B : Type 0} (r : Result A LogRefusal) (next : A → Result B LogRefusal) (last : B) : Type 0 where
  pub value : A
  pub first : r ≡ Ok value
  pub rest : next value ≡ Ok last

pub went_on : {A B : Type 0} (r : Result A LogRefusal) (next : A → Result B LogRefusal) (last : B) → (r >>= next) ≡ Ok last → Steps r next last
went_on (Ok value) next last is = record { value = value; first = refl; rest = is }
went_on (Err fault) next last is = absurd (cc)

-- what holds after each value that a step can give holds after the step
pub stepped : {A B : Type 0} (r : Result A LogRefusal) (next : A → Result B LogRefusal) (last : B) (P : Type 0) → (r >>= next) ≡ Ok last
    → ((value : A) → r ≡ Ok value → next value ≡ Ok last → P) → P
stepped (Ok value) next last P is from = from value refl is
stepped (Err fault) next last P is from = absurd (cc)

pub record IsField (bytes : List ℕ) (place size low high n : ℕ) : Type 0 where
  pub inside : place + size ≤ length bytes
  pub number : n ≡ number_at bytes place size
  pub above : low ≤ n
  pub below : n ≤ high

pub field_ok : (bytes : List ℕ) (place size low high n : ℕ) → field bytes place size low high ≡ Ok n → IsField bytes place size low high n
unfolding field
field_ok bytes place size low high n is =
    go (nat_le (place + size) (length bytes)) refl (nat_le low (number_at bytes place size)) refl (nat_le (number_at bytes place size) high) refl
  where
    go : (whole : Bool) → nat_le (place + size) (length bytes) ≡ whole → (above : Bool) → nat_le low (number_at bytes place size) ≡ above
        → (below : Bool) → nat_le (number_at bytes place size) high ≡ below → IsField bytes place size low high n
    go true w true a true b =
        let same : Ok (number_at bytes place size) ≡ Ok n = rw (w, a, b) at is in
        let number : n ≡ number_at bytes place size = cc in
        record { inside = grind (arith, nat_tests); number = number; above = grind (arith, nat_tests); below = grind (arith, nat_tests) }
    go true w true a false b = absurd (let same = rw (w, a, b) at is in cc)
    go true w false a b e = absurd (let same = rw (w, a) at is in cc)
    go false w a e b f = absurd (let same = rw w at is in cc)

small_four : (a b c d : ℕ) → a < 256 → b < 256 → c < 256 → d < 256 → (i : ℕ) → get_or (a ∷ b ∷ c ∷ d ∷ []) i 0 < 256
small_four a b c d p q r s zero = p
small_four a b c d p q r s (suc zero) = q
small_four a b c d p q r s (suc (suc zero)) = r
small_four a b c d p q r s (suc (suc (suc zero))) = s
small_four a b c d p q r s (suc (suc (suc (suc i)))) = omega arith

small_two : (a b : ℕ) → a < 256 → b < 256 → (i : ℕ) → get_or (a ∷ b ∷ []) i 0 < 256
small_two a b p q zero = p
small_two a b p q (suc zero) = q
small_two a b p q (suc (suc i)) = omega arith

four_bytes : (xs : List ℕ) → 4 ≤ length xs → AreBytes xs → xs ≡ big_bytes 4 (big_number 4 xs) ++ drop 4 xs
four_bytes [] some small = absurd (omega arith)
four_bytes (a ∷ []) some small = absurd (omega arith)
four_bytes (a ∷ b ∷ []) some small = absurd (omega arith)
four_bytes (a ∷ b ∷ c ∷ []) some small = absurd (omega arith)
four_bytes (a ∷ b ∷ c ∷ d ∷ rest) some small =
    let n = big_number 4 (a ∷ b ∷ c ∷ d ∷ rest) in
    let same : big_number 4 (a ∷ b ∷ c ∷ d ∷ rest) ≡ from_be_bytes w32 (a ∷ b ∷ c ∷ d ∷ []) = omega arith in
    let are : big_bytes 4 (big_number 4 (a ∷ b ∷ c ∷ d ∷ rest)) ≡ a ∷ b ∷ c ∷ d ∷ [] =
    be_bytes_4 (a ∷ b ∷ c ∷ d ∷ []) n refl (small_four a b c d (small 0) (small 1) (small 2) (small 3)) same in
    sym (ap (λ (l : List ℕ). l ++ rest) are)

two_bytes : (xs : List ℕ) → 2 ≤ length xs → AreBytes xs → xs ≡ big_bytes 2 (big_number 2 xs) ++ drop 2 xs
two_bytes [] some small = absurd (omega arith)
two_bytes (a ∷ []) some small = absurd (omega arith)
two_bytes (a ∷ b ∷ rest) some small =
    let n = big_number 2 (a ∷ b ∷ rest) in
    let same : big_number 2 (a ∷ b ∷ rest) ≡ from_be_bytes w16 (a ∷ b ∷ []) = omega arith in
    let are : big_bytes 2 (big_number 2 (a ∷ b ∷ rest)) ≡ a ∷ b ∷ [] =
    be_bytes_2 (a ∷ b ∷ []) n refl (small_two a b (small 0) (small 1)) same in
    sym (ap (λ (l : List ℕ). l ++ rest) are)

bytes_behind : (bytes : List ℕ) (place : ℕ) → AreBytes bytes → AreBytes (drop place bytes)
bytes_behind bytes place small k = rw (get_or-drop place bytes k 0) (small (place + k))

-- four bytes, two bytes and one byte at a place are those of the number
pub four_there : (bytes : List ℕ) (place low high n : ℕ) → AreBytes bytes → IsField bytes place 4 low high n
    → drop place bytes ≡ big_bytes 4 n ++ drop (place + 4) bytes
unfolding number_at
four_there bytes place low high n small f =
    let enough : 4 ≤ length (drop place bytes) = omega (arith, length-drop place bytes, f.inside) in
    rw (f.number, ← drop-drop 4 place bytes) (four_bytes (drop place bytes) enough (bytes_behind bytes place small))

pub two_there : (bytes : List ℕ) (place low high n : ℕ) → AreBytes bytes → IsField bytes place 2 low high n
    → drop place bytes ≡ big_bytes 2 n ++ drop (place + 2) bytes
unfolding number_at
two_there bytes place low high n small f =
    let enough : 2 ≤ length (drop place bytes) = omega (arith, length-drop place bytes, f.inside) in
    rw (f.number, ← drop-drop 2 place bytes) (two_bytes (drop place bytes) enough (bytes_behind bytes place small))

pub one_there : (bytes : List ℕ) (place low high n : ℕ) → IsField bytes place 1 low high n → drop place bytes ≡ n ∷ drop (place + 1) bytes
unfolding number_at
one_there bytes place low high n f =
    let at : drop place bytes ≡ get_or bytes place 0 ∷ drop (place + 1) bytes = drop_more bytes place 0 (omega (arith, f.inside)) in
    let read : get_or (drop place bytes) 0 0 * 1 + 0 ≡ get_or bytes place 0 = rw at (omega arith) in
    let same : n ≡ get_or bytes place 0 = f.number ∙ read in
    rw same at
