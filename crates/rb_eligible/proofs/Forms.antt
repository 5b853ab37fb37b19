-- The message that the bytes of an arrival spell, by the numbers that they are kept as.
use Rattle.std.proofs.{Common.{◌≡◌, ℕ, ◌≤◌, ◌/◌, ◌%◌, ◌+◌, ◌*◌, ◌==◌, ◌&&◌, Bool, true, false, List, [], ◌∷◌, ◌++◌, length, take, slice_index, bit_xor, if◌then◌else◌, Option, None, refl, sym, ◌∙◌, ap, subst, arith}, lemmas.Bool.{eq-eqb, eqb-true}, lemmas.Grind.common_steps, lemmas.List.length-take, Math.Bool.and_assoc}
use Rattle.std.specs.{Int.{to_le_bytes, w32, w64}, Int.Bits.xor_assoc}
use Rattle.rb_base.proofs.Plain.{and_first}
use Rattle.rb_rules.specs.{declared.message.Message.Message, declared.message.Version.Version, declared.message.Version.TheVariants.{One, Two}, Spelling.{check_of, has_form, message_in, message_with, tag_in}}
use Rattle.rb_frame.specs.Spellings.{spelled}
use Rattle.rb_frame.proofs.{Checks.from_zero, Sending.xor_with_0}

xor_same : (x : ℕ) → bit_xor x x ≡ 0
xor_same x = grind (arith, common_steps)

-- two numbers whose exclusive or is 0 are equal
xor_none : (x y : ℕ) → bit_xor x y ≡ 0 → y ≡ x
xor_none x y none = sym (from_zero y) ∙ ap (λ z. bit_xor z y) (sym none) ∙ xor_assoc x y y ∙ ap (bit_xor x) (xor_same y) ∙ xor_with_0 x

-- the check at the end is right if and only if its exclusive or with the other bytes' is 0
check_right : (x y : ℕ) → (bit_xor x y == 0) ≡ (y == x)
check_right x y = go (y == x) refl (bit_xor x y == 0) refl
  where
    go : (b : Bool) → (y == x) ≡ b → (z : Bool) → (bit_xor x y == 0) ≡ z → (bit_xor x y == 0) ≡ (y == x)
    go true e z f = rw (eqb-true y x e) (eq-eqb (bit_xor x x) 0 (xor_same x) ∙ sym (eq-eqb x x refl))
    go false e true f = f ∙ sym (eq-eqb y x (xor_none x y (eqb-true (bit_xor x y) 0 f)))
    go false e false f = f ∙ sym e

length_spelled : (low high len : ℕ) → len ≤ 12 → length (spelled low high len) ≡ len
unfolding spelled
length_spelled low high len short = omega (arith, length-take len (to_le_bytes w64 low ++ to_le_bytes w32 high))

same_length : (low high len n : ℕ) → len ≤ 12 → (rest other : Bool) → (len ≡ n → rest ≡ other) → ((len == n) && rest) ≡ ((length (spelled low high len) == n) && other)
same_length low high len n short rest other same = go (len == n) refl ∙ ap (λ k. (k == n) && other) (sym (length_spelled low high len short))
  where
    go : (b : Bool) → (len == n) ≡ b → ((len == n) && rest) ≡ ((len == n) && other)
    go true e = ap (λ r. (len == n) && r) (same (eqb-true len n e))
    go false e = ap (λ b. b && rest) e ∙ sym (ap (λ b. b && other) e)

eleven : (low high : ℕ) → (check_of (to_le_bytes w64 low ++ to_le_bytes w32 (high % 16777216)) == 0) ≡ (slice_index (spelled low high 11) 10 == check_of (take 10 (spelled low high 11)))
unfolding spelled
eleven low high =
    let b0 : high % 16777216 % 256 ≡ high % 256 = omega arith in
    let b1 : high % 16777216 / 256 % 256 ≡ high / 256 % 256 = omega arith in
    let b2 : high % 16777216 / 65536 % 256 ≡ high / 65536 % 256 = omega arith in
    let b3 : high % 16777216 / 16777216 % 256 ≡ 0 = omega arith in
    let bytes : to_le_bytes w32 (high % 16777216) ≡ (high % 256) ∷ (high / 256 % 256) ∷ (high / 65536 % 256) ∷ 0 ∷ [] = λ i. b0 i ∷ b1 i ∷ b2 i ∷ b3 i ∷ [] in
    let first = check_of (take 10 (to_le_bytes w64 low ++ to_le_bytes w32 high)) in
    ap (λ xs. check_of (to_le_bytes w64 low ++ xs) == 0) bytes ∙ ap (λ x. x == 0) (xor_with_0 (bit_xor first (high / 65536 % 256))) ∙ check_right first (high / 65536 % 256)

twelve : (bus low high : ℕ) → ((high / 65536 % 256 == bus) && (check_of (to_le_bytes w64 low ++ to_le_bytes w32 high) == 0))
    ≡ ((slice_index (spelled low high 12) 10 == bus) && (slice_index (spelled low high 12) 11 == check_of (take 11 (spelled low high 12))))
unfolding spelled
twelve bus low high = ap (λ b. (high / 65536 % 256 == bus) && b) (check_right (check_of (take 11 (to_le_bytes w64 low ++ to_le_bytes w32 high))) (high / 16777216 % 256))

-- a spelling has the form of version One if and only if it has eleven bytes and its check is 0
pub form_one : (low high len check : ℕ) → len ≤ 12 → check ≡ check_of (to_le_bytes w64 low ++ to_le_bytes w32 (high % 16777216))
    → ((len == 11) && (check == 0)) ≡ has_form One (spelled low high len)
form_one low high len check short is =
    same_length low high len 11 short (check == 0) (slice_index (spelled low high len) 10 == check_of (take 10 (spelled low high len)))
    (λ e. rw (e, is) (eleven low high))

pub form_two : (bus low high len check : ℕ) → len ≤ 12 → check ≡ check_of (to_le_bytes w64 low ++ to_le_bytes w32 high)
    → ((len == 12) && ((high / 65536 % 256 == bus) && (check == 0))) ≡ has_form (Two bus) (spelled low high len)
form_two bus low high len check short is =
    same_length low high len 12 short ((high / 65536 % 256 == bus) && (check == 0))
    ((slice_index (spelled low high len) 10 == bus) && (slice_index (spelled low high len) 11 == check_of (take 11 (spelled low high len))))
    (λ e. rw (e, is) (twelve bus low high))
    ∙ sym (and_assoc (length (spelled low high len) == 12) (slice_index (spelled low high len) 10 == bus) (slice_index (spelled low high len) 11 == check_of (take 11 (spelled low high len))))

-- the message with the fields in `low` and `high`
abbrev pub fields_read : ℕ → ℕ → Option Message
fields_read low high =
    message_with (tag_in (low % 256)) (low / 256 % 256 * 256 + low / 65536 % 256) (low / 16777216 % 256 * 256 + low / 4294967296 % 256) (low / 1099511627776 % 256)
    (low / 281474976710656 % 256 * 16777216 + low / 72057594037927936 % 256 * 65536 + high % 256 * 256 + high / 256 % 256)

read_eleven : (low high : ℕ) → has_form One (spelled low high 11) ≡ true → message_in One (spelled low high 11) ≡ fields_read low high
unfolding message_in spelled
read_eleven low high form = ap (λ b. if b then fields_read low high else None) form

read_twelve : (bus low high : ℕ) → has_form (Two bus) (spelled low high 12) ≡ true → message_in (Two bus) (spelled low high 12) ≡ fields_read low high
unfolding message_in spelled
read_twelve bus low high form = ap (λ b. if b then fields_read low high else None) form

-- bytes with the form of a message are read as its fields
pub message_from : (version : Version) (low high len : ℕ) → len ≤ 12 → has_form version (spelled low high len) ≡ true → message_in version (spelled low high len) ≡ fields_read low high
message_from One low high len short form =
    let is : len ≡ 11 = sym (length_spelled low high len short) ∙ eqb-true (length (spelled low high len)) 11 (and_first _ _ form) in
    subst (λ n. has_form One (spelled low high n) ≡ true → message_in One (spelled low high n) ≡ fields_read low high) (sym is) (read_eleven low high) form
message_from (Two bus) low high len short form =
    let is : len ≡ 12 = sym (length_spelled low high len short) ∙ eqb-true (length (spelled low high len)) 12 (and_first _ _ (and_first _ _ form)) in
    subst (λ n. has_form (Two bus) (spelled low high n) ≡ true → message_in (Two bus) (spelled low high n) ≡ fields_read low high) (sym is) (read_twelve bus low high) form

-- bytes without the form of a message are not read as one
pub no_message : (version : Version) (bytes : List ℕ) → has_form version bytes ≡ false → message_in version bytes ≡ None
unfolding message_in
no_message version bytes form = rw form refl
