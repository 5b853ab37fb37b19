-- The numbers that the bytes of a message are kept as.
use Rattle.std.proofs.{Common.{◌≡◌, ℕ, ◌+◌, ◌*◌, ◌/◌, ◌%◌, ◌<◌, ◌≤◌, ◌^◌, List, [], ◌∷◌, ◌++◌, take, drop, bit_xor, replicate, refl, sym, ◌∙◌, ap, arith}, lemmas.Grind.common_steps, lemmas.Nat.from_le_bytes-to_le_bytes_8}
use Rattle.std.specs.Int.{to_be_bytes, to_le_bytes, w16, w32, w64}
use Rattle.rb_rules.specs.{declared.message.Message.Message, declared.message.Version.Version, declared.message.Version.TheVariants.{One, Two}, Spelling.{IsZeroUnlessWord, Spells, check_of, fields_of, spelling_of, tag_byte}}
use Rattle.rb_rules.proofs.Spellings.{has_value}
use Rattle.rb_frame.specs.Spellings.{IsFilled, bytes_in, filled, high_of, len_of, low_in, rest_in, spelled, tail_in}

pub xor_with_0 : (x : ℕ) → bit_xor x 0 ≡ x
xor_with_0 x = grind (arith, common_steps)

-- the check of ten bytes is that of twelve, of which two are zeros
pub check_ten : (low high : ℕ) → high < 65536 → check_of (to_le_bytes w64 low ++ to_le_bytes w32 high) ≡ check_of (spelled low high 10)
unfolding spelled
check_ten low high small =
    let c : high / 65536 % 256 ≡ 0 = omega (arith, small) in
    let d : high / 16777216 % 256 ≡ 0 = omega (arith, small) in
    let ten = check_of (to_le_bytes w64 low ++ (high % 256) ∷ (high / 256 % 256) ∷ []) in
    (λ i. bit_xor (bit_xor ten (c i)) (d i)) ∙ xor_with_0 (bit_xor ten 0) ∙ xor_with_0 ten

pub check_bus : (low high both bus : ℕ) → high < 65536 → bus < 256 → both ≡ high + bus * 65536
    → check_of (to_le_bytes w64 low ++ to_le_bytes w32 both) ≡ check_of (spelled low high 10 ++ bus ∷ [])
unfolding spelled
check_bus low high both bus small byte is =
    let a : both % 256 ≡ high % 256 = omega (arith, is) in
    let b : both / 256 % 256 ≡ high / 256 % 256 = omega (arith, is) in
    let c : both / 65536 % 256 ≡ bus = omega (arith, is, small, byte) in
    let d : both / 16777216 % 256 ≡ 0 = omega (arith, is, small, byte) in
    (λ i. check_of (to_le_bytes w64 low ++ a i ∷ b i ∷ c i ∷ d i ∷ [])) ∙ xor_with_0 (check_of (spelled low high 10 ++ bus ∷ []))

-- a tail with the length 11 spells ten bytes and then the check
pub eleven_bytes : (low high check tail : ℕ) → high < 65536 → check < 256 → tail ≡ high + check * 65536 + 47244640256 → bytes_in low tail (replicate 20 0) ≡ spelled low high 10 ++ check ∷ []
unfolding bytes_in spelled
eleven_bytes low high check tail small byte is =
    let len : len_of tail ≡ 11 = omega (arith, is, small, byte) in
    let a : high_of tail % 256 ≡ high % 256 = omega (arith, is) in
    let b : high_of tail / 256 % 256 ≡ high / 256 % 256 = omega (arith, is) in
    let c : high_of tail / 65536 % 256 ≡ check = omega (arith, is, small, byte) in
    ap (λ n. take n (to_le_bytes w64 low ++ to_le_bytes w32 (high_of tail) ++ replicate 20 0)) len ∙ (λ i. to_le_bytes w64 low ++ a i ∷ b i ∷ c i ∷ [])

pub eleven_filled : (low high check tail : ℕ) → low < 18446744073709551616 → high < 65536 → check < 256 → tail ≡ high + check * 65536 + 47244640256 → IsFilled low tail (replicate 20 0)
unfolding bytes_in spelled low_in tail_in rest_in filled
eleven_filled low high check tail fits small byte is =
    let bytes = eleven_bytes low high check tail small byte is in
    record {
      few = omega (arith, is, small, byte);
      others = refl;
      low_is = ap low_in bytes ∙ from_le_bytes-to_le_bytes_8 low fits;
      tail_is = ap tail_in bytes ∙ omega (arith, is, small);
      rest_is = ap rest_in bytes;
    }

-- a tail with the length 12 spells ten bytes, the number of the bus and then the check
pub twelve_bytes : (low high bus check tail : ℕ) → high < 65536 → bus < 256 → check < 256 → tail ≡ high + bus * 65536 + check * 16777216 + 51539607552
    → bytes_in low tail (replicate 20 0) ≡ spelled low high 10 ++ bus ∷ [] ++ check ∷ []
unfolding bytes_in spelled
twelve_bytes low high bus check tail small number byte is =
    let len : len_of tail ≡ 12 = omega (arith, is, small, number, byte) in
    let a : high_of tail % 256 ≡ high % 256 = omega (arith, is) in
    let b : high_of tail / 256 % 256 ≡ high / 256 % 256 = omega (arith, is) in
    let c : high_of tail / 65536 % 256 ≡ bus = omega (arith, is, small, number) in
    let d : high_of tail / 16777216 % 256 ≡ check = omega (arith, is, small, number, byte) in
    ap (λ n. take n (to_le_bytes w64 low ++ to_le_bytes w32 (high_of tail) ++ replicate 20 0)) len ∙ (λ i. to_le_bytes w64 low ++ a i ∷ b i ∷ c i ∷ d i ∷ [])

pub twelve_filled : (low high bus check tail : ℕ) → low < 18446744073709551616 → high < 65536 → bus < 256 → check < 256 → tail ≡ high + bus * 65536 + check * 16777216 + 51539607552
    → IsFilled low tail (replicate 20 0)
unfolding bytes_in spelled low_in tail_in rest_in filled
twelve_filled low high bus check tail fits small number byte is =
    let bytes = twelve_bytes low high bus check tail small number byte is in
    record {
      few = omega (arith, is, small, number, byte);
      others = refl;
      low_is = ap low_in bytes ∙ from_le_bytes-to_le_bytes_8 low fits;
      tail_is = ap tail_in bytes ∙ omega (arith, is, small);
      rest_is = ap rest_in bytes;
    }

-- the first ten bytes of a message are its fields
ten_bytes : (m : Message) (tag low high : ℕ) → tag ≡ tag_byte m.tag
    → to_le_bytes w64 low ≡ tag ∷ to_be_bytes w16 m.frame ++ to_be_bytes w16 m.slot ++ m.stage ∷ take 2 (to_be_bytes w32 m.value)
    → to_le_bytes w32 high ≡ drop 2 (to_be_bytes w32 m.value) ++ 0 ∷ 0 ∷ [] → spelled low high 10 ≡ fields_of m
unfolding spelled
ten_bytes m tag low high tag_is first next =
    (λ i. take 10 (first i ++ next i)) ∙ (λ i. tag_is i ∷ to_be_bytes w16 m.frame ++ to_be_bytes w16 m.slot ++ m.stage ∷ to_be_bytes w32 m.value)

-- in version One the fields are sent with their check after them
pub sent_one : (version : Version) (m : Message) (tag low high : ℕ) (spelling : List ℕ) → version ≡ One → tag ≡ tag_byte m.tag
    → to_le_bytes w64 low ≡ tag ∷ to_be_bytes w16 m.frame ++ to_be_bytes w16 m.slot ++ m.stage ∷ take 2 (to_be_bytes w32 m.value)
    → to_le_bytes w32 high ≡ drop 2 (to_be_bytes w32 m.value) ++ 0 ∷ 0 ∷ [] → spelling ≡ spelled low high 10 ++ check_of (spelled low high 10) ∷ []
    → spelling ≡ spelling_of version m
sent_one version m tag low high spelling is_one tag_is first next is =
    is ∙ ap (λ ten. ten ++ check_of ten ∷ []) (ten_bytes m tag low high tag_is first next) ∙ ap (λ v. spelling_of v m) (sym is_one)

pub sent_two : (version : Version) (bus : ℕ) (m : Message) (tag low high : ℕ) (spelling : List ℕ) → version ≡ Two bus → tag ≡ tag_byte m.tag
    → to_le_bytes w64 low ≡ tag ∷ to_be_bytes w16 m.frame ++ to_be_bytes w16 m.slot ++ m.stage ∷ take 2 (to_be_bytes w32 m.value)
    → to_le_bytes w32 high ≡ drop 2 (to_be_bytes w32 m.value) ++ 0 ∷ 0 ∷ []
    → spelling ≡ spelled low high 10 ++ bus ∷ [] ++ check_of (spelled low high 10 ++ bus ∷ []) ∷ [] → spelling ≡ spelling_of version m
sent_two version bus m tag low high spelling is_two tag_is first next is =
    is ∙ ap (λ ten. ten ++ bus ∷ [] ++ check_of (ten ++ bus ∷ []) ∷ []) (ten_bytes m tag low high tag_is first next) ∙ ap (λ v. spelling_of v m) (sym is_two)

pub sent : (version : Version) (m : Message) (spelling : List ℕ) → spelling ≡ spelling_of version m → m.frame < 2 ^ 16 → m.slot < 2 ^ 16 → 1 ≤ m.stage → m.stage ≤ 3 → m.value < 2 ^ 32
    → IsZeroUnlessWord m.tag m.value → Spells version spelling m
sent version m spelling is frame slot some_stage most_stages value suits =
    (record { frame = frame; slot = slot; some_stage = some_stage; most_stages = most_stages; value = has_value m.tag m.value value suits }, is)
