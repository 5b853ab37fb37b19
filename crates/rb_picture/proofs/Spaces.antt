-- fields, and the text that they give
use Rattle.std.proofs.{Common.{◌≡◌, ◌≢◌, ◌∙◌, ℕ, zero, suc, ◌+◌, ◌<◌, ◌≤◌, ◌^◌, ◌%◌, ◌==◌, nat_lt, ◌&&◌, Bool, true, false, List, [], ◌∷◌, ◌++◌, length, get_or, codes, refl, sym, ap, append_assoc, length-append, arith}, lemmas.Bool.{and_parts, false≢true, lt-ltb, ltb-false, ltb-true, ne_eqb}, lemmas.Str.Ascii.IsAscii-nil, Math.ListN.get_or-append, Math.Seq.get_or-append_seam, lemmas.Fmt.decimal_by_steps}
use Rattle.std.specs.{Fmt.decimal, Str.IsAscii}
use Rattle.rb_base.specs.{declared.node.NodeName.NodeName, declared.node.NodeName.TheVariants.{Biu, Rmu}, declared.values.Heard.Heard, declared.values.Heard.TheVariants.{Word, Fault}}
use Rattle.rb_rules.specs.{declared.cause.Cause.Cause, declared.cause.Cause.TheVariants.{FewGoodBiu, FewGoodRmu, TwoSided}}
use Rattle.rb_report.specs.Report.{cause_text, heard_text, node_text, with_fields}
use Rattle.rb_picture.specs.Fields.{HeardFits, NodeFits, above, field_at, first_field, later_fields}

-- a greater byte is another one
pub is_other : (k c x : ℕ) → c ≤ k → nat_lt k x ≡ true → (x == c) ≡ false
is_other k c x low greater = ne_eqb x c (λ same. absurd (omega (arith, low, same, ltb-true k x greater)))

pub above_both : (k : ℕ) (xs ys : List ℕ) → above k xs ≡ true → above k ys ≡ true → above k (xs ++ ys) ≡ true
above_both k [] ys first second = second
above_both k (x ∷ xs) ys first second =
    let two = and_parts (nat_lt k x) (above k xs) first in
    rw (two.0, above_both k xs ys two.1 second) refl

above_less : (k x : ℕ) → nat_lt (suc k) x ≡ true → nat_lt k x ≡ true
above_less k x greater = lt-ltb k x (omega (arith, ltb-true (suc k) x greater))

pub also_above : (k : ℕ) (xs : List ℕ) → above (suc k) xs ≡ true → above k xs ≡ true
also_above k [] h = refl
also_above k (x ∷ xs) h =
    let two = and_parts (nat_lt (suc k) x) (above (suc k) xs) h in
    rw (above_less k x two.0, also_above k xs two.1) refl

pub first_is : (xs rest : List ℕ) → above 32 xs ≡ true → first_field (xs ++ 32 ∷ rest) ≡ xs
first_is [] rest h = refl
first_is (x ∷ xs) rest h =
    let two = and_parts (nat_lt 32 x) (above 32 xs) h in
    rw (is_other 32 32 x (omega arith) two.0) (ap (λ l. x ∷ l) (first_is xs rest two.1))

pub later_is : (xs rest : List ℕ) → above 32 xs ≡ true → later_fields (xs ++ 32 ∷ rest) ≡ rest
later_is [] rest h = refl
later_is (x ∷ xs) rest h =
    let two = and_parts (nat_lt 32 x) (above 32 xs) h in
    rw (is_other 32 32 x (omega arith) two.0) (later_is xs rest two.1)

pub first_of_one : (xs : List ℕ) → above 32 xs ≡ true → first_field xs ≡ xs
first_of_one [] h = refl
first_of_one (x ∷ xs) h =
    let two = and_parts (nat_lt 32 x) (above 32 xs) h in
    rw (is_other 32 32 x (omega arith) two.0) (ap (λ l. x ∷ l) (first_of_one xs two.1))

pub first_by_index : (xs rest : List ℕ) → ((i : ℕ) → i < length xs → get_or xs i 0 ≢ 32) → first_field (xs ++ 32 ∷ rest) ≡ xs
first_by_index [] rest none = refl
first_by_index (x ∷ xs) rest none =
    rw (ne_eqb x 32 (none 0 (omega arith))) (ap (λ l. x ∷ l) (first_by_index xs rest (λ i less. none (suc i) (omega (arith, less)))))

pub later_by_index : (xs rest : List ℕ) → ((i : ℕ) → i < length xs → get_or xs i 0 ≢ 32) → later_fields (xs ++ 32 ∷ rest) ≡ rest
later_by_index [] rest none = refl
later_by_index (x ∷ xs) rest none =
    rw (ne_eqb x 32 (none 0 (omega arith))) (later_by_index xs rest (λ i less. none (suc i) (omega (arith, less))))

pub all_by_index : (xs : List ℕ) → ((i : ℕ) → i < length xs → get_or xs i 0 ≢ 32) → first_field xs ≡ xs
all_by_index [] none = refl
all_by_index (x ∷ xs) none =
    rw (ne_eqb x 32 (none 0 (omega arith))) (ap (λ l. x ∷ l) (all_by_index xs (λ i less. none (suc i) (omega (arith, less)))))

pub none_by_index : (xs : List ℕ) → ((i : ℕ) → i < length xs → get_or xs i 0 ≢ 32) → later_fields xs ≡ []
none_by_index [] none = refl
none_by_index (x ∷ xs) none =
    rw (ne_eqb x 32 (none 0 (omega arith))) (none_by_index xs (λ i less. none (suc i) (omega (arith, less))))

digit_above : (k d : ℕ) → k < 48 → above k ((48 + d) ∷ []) ≡ true
digit_above k d low = rw (lt-ltb k (48 + d) (omega (arith, low))) refl

pub decimal_above : (k n : ℕ) → k < 48 → n < 2 ^ 64 → above k (decimal n) ≡ true
decimal_above k n low small =
    decimal_by_steps (λ m ds. above k ds ≡ true) (λ m less. digit_above k m low)
    (λ m ds least before. above_both k ds ((48 + m % 10) ∷ []) before (digit_above k (m % 10) low)) n small

abbrev pub under : ℕ → List ℕ → Bool
under k [] = true
under k (x ∷ xs) = nat_lt x k && under k xs

under_both : (k : ℕ) (xs ys : List ℕ) → under k xs ≡ true → under k ys ≡ true → under k (xs ++ ys) ≡ true
under_both k [] ys first second = second
under_both k (x ∷ xs) ys first second =
    let two = and_parts (nat_lt x k) (under k xs) first in
    rw (two.0, under_both k xs ys two.1 second) refl

digit_under : (d : ℕ) → d < 10 → under 58 ((48 + d) ∷ []) ≡ true
digit_under d less = rw (lt-ltb (48 + d) 58 (omega (arith, less))) refl

decimal_under : (n : ℕ) → n < 2 ^ 64 → under 58 (decimal n) ≡ true
decimal_under n small =
    decimal_by_steps (λ m ds. under 58 ds ≡ true) (λ m less. digit_under m less)
    (λ m ds least before. under_both 58 ds ((48 + m % 10) ∷ []) before (digit_under (m % 10) (omega arith))) n small

ascii_more : (x : ℕ) (xs : List ℕ) → x < 128 → IsAscii xs → IsAscii (x ∷ xs)
ascii_more x xs low more zero = low
ascii_more x xs low more (suc i) = more i

pub under_ascii : (xs : List ℕ) → under 128 xs ≡ true → IsAscii xs
under_ascii [] h = IsAscii-nil
under_ascii (x ∷ xs) h =
    let two = and_parts (nat_lt x 128) (under 128 xs) h in
    ascii_more x xs (ltb-true x 128 two.0) (under_ascii xs two.1)

pub decimal_ascii : (n : ℕ) → n < 2 ^ 64 → under 128 (decimal n) ≡ true
decimal_ascii n small = less_under (decimal n) (decimal_under n small) where
  less_under : (xs : List ℕ) → under 58 xs ≡ true → under 128 xs ≡ true
  less_under [] h = refl
  less_under (x ∷ xs) h =
      let two = and_parts (nat_lt x 58) (under 58 xs) h in
      rw (lt-ltb x 128 (omega (arith, ltb-true x 58 two.0)), less_under xs two.1) refl

-- no number is spelled `none`
pub no_number : (n : ℕ) → n < 2 ^ 64 → decimal n ≡ codes "none" → ⊥
no_number n small is = false≢true (sym (ap (λ t. under 58 t) is) ∙ decimal_under n small)

above_get : (xs : List ℕ) (i : ℕ) → above 31 xs ≡ true → i < length xs → 31 < get_or xs i 0
above_get [] i h less = absurd (omega (arith, less))
above_get (x ∷ xs) zero h less = ltb-true 31 x (and_parts (nat_lt 31 x) (above 31 xs) h).0
above_get (x ∷ xs) (suc i) h less = above_get xs i (and_parts (nat_lt 31 x) (above 31 xs) h).1 (omega (arith, less))

-- the first line feed is behind the bytes above 31
pub is_first : (bytes xs tail : List ℕ) (i : ℕ) → above 31 xs ≡ true → bytes ≡ xs ++ 10 ∷ tail → i ≤ length xs → get_or bytes i 0 ≡ 10 → i ≡ length xs
is_first bytes xs tail i h is within found = within_or (nat_lt i (length xs)) refl where
  within_or : (b : Bool) → nat_lt i (length xs) ≡ b → i ≡ length xs
  within_or true less =
      let before = ltb-true i (length xs) less in
      absurd (omega (arith, above_get xs i h before, get_or-append xs (10 ∷ tail) 0 i before, ap (λ t. get_or t i 0) is, found))
  within_or false not_less = omega (arith, within, ltb-false i (length xs) not_less)

pub goes_past : (bytes xs tail : List ℕ) (i : ℕ) → above 31 xs ≡ true → bytes ≡ xs ++ 10 ∷ tail → i ≤ length xs → (get_or bytes i 0 ≡ 10 → ⊥) → i + 1 ≤ length xs
goes_past bytes xs tail i h is within other = past_or (nat_lt i (length xs)) refl where
  past_or : (b : Bool) → nat_lt i (length xs) ≡ b → i + 1 ≤ length xs
  past_or true less = omega (arith, ltb-true i (length xs) less)
  past_or false not_less =
      let same : i ≡ length xs = omega (arith, within, ltb-false i (length xs) not_less) in
      absurd (other (ap (λ k. get_or bytes k 0) same ∙ ap (λ t. get_or t (length xs) 0) is ∙ get_or-append_seam xs 10 tail 0))

pub never_at_end : (bytes xs tail : List ℕ) (i : ℕ) → bytes ≡ xs ++ 10 ∷ tail → i ≤ length xs → length bytes ≤ i → ⊥
never_at_end bytes xs tail i is within end = absurd (omega (arith, within, end, ap length is, length-append xs (10 ∷ tail)))

pub ruleset line_feeds = (is_first, goes_past, never_at_end)

pub node_above : (node : NodeName) → NodeFits node → above 32 (node_text node) ≡ true
node_above (Biu i) small = decimal_above 32 i (omega arith) (omega (arith, small))
node_above (Rmu i) small = decimal_above 32 i (omega arith) (omega (arith, small))

pub heard_above : (heard : Heard) → HeardFits heard → above 32 (heard_text heard) ≡ true
heard_above (Word word) small = decimal_above 32 word (omega arith) (omega (arith, small))
heard_above Fault small = refl

pub node_under : (node : NodeName) → NodeFits node → under 128 (node_text node) ≡ true
node_under (Biu i) small = decimal_ascii i (omega (arith, small))
node_under (Rmu i) small = decimal_ascii i (omega (arith, small))

pub heard_under : (heard : Heard) → HeardFits heard → under 128 (heard_text heard) ≡ true
heard_under (Word word) small = decimal_ascii word (omega (arith, small))
heard_under Fault small = refl

pub cause_under : (cause : Cause) → under 128 (cause_text cause) ≡ true
cause_under FewGoodBiu = refl
cause_under FewGoodRmu = refl
cause_under TwoSided = refl

pub cause_above : (cause : Cause) → above 32 (cause_text cause) ≡ true
cause_above FewGoodBiu = refl
cause_above FewGoodRmu = refl
cause_above TwoSided = refl

fields_more : (a w : List ℕ) (fs : List (List ℕ)) → with_fields (a ++ w) fs ≡ a ++ with_fields w fs
fields_more a w [] = refl
fields_more a w (f ∷ fs) = ap (λ t. with_fields t fs) (append_assoc a w (codes " " ++ f)) ∙ fields_more a (w ++ (codes " " ++ f)) fs

-- a field is followed by a space and the fields behind it
pub fields_next : (w f : List ℕ) (fs : List (List ℕ)) → with_fields w (f ∷ fs) ≡ w ++ (32 ∷ with_fields f fs)
fields_next w f fs = fields_more w (codes " " ++ f) fs ∙ ap (λ t. w ++ t) (fields_more (codes " ") f fs)

-- all bytes of these texts are above `k`
abbrev pub all_above : ℕ → List (List ℕ) → Bool
all_above k [] = true
all_above k (f ∷ fs) = above k f && all_above k fs

abbrev pub all_under : List (List ℕ) → Bool
all_under [] = true
all_under (f ∷ fs) = under 128 f && all_under fs

pub fields_under : (w : List ℕ) (fs : List (List ℕ)) → all_under (w ∷ fs) ≡ true → under 128 (with_fields w fs) ≡ true
fields_under w [] h = (and_parts (under 128 w) true h).0
fields_under w (f ∷ fs) h =
    let two = and_parts (under 128 w) (all_under (f ∷ fs)) h in
    rw (fields_next w f fs) (under_both 128 w (32 ∷ with_fields f fs) two.0 (fields_under f fs two.1))

-- fields without spaces are found again by their places
pub field_is : (n : ℕ) (w : List ℕ) (fs : List (List ℕ)) → all_above 32 (w ∷ fs) ≡ true → n ≤ length fs → field_at n (with_fields w fs) ≡ get_or (w ∷ fs) n []
field_is zero w [] h less = first_of_one w (and_parts (above 32 w) true h).0
field_is zero w (f ∷ fs) h less = ap first_field (fields_next w f fs) ∙ first_is w (with_fields f fs) (and_parts (above 32 w) (all_above 32 (f ∷ fs)) h).0
field_is (suc n) w [] h less = absurd (omega (arith, less))
field_is (suc n) w (f ∷ fs) h less =
    let two = and_parts (above 32 w) (all_above 32 (f ∷ fs)) h in
    ap (λ t. field_at n (later_fields t)) (fields_next w f fs) ∙ ap (λ t. field_at n t) (later_is w (with_fields f fs) two.0) ∙ field_is n f fs two.1 (omega (arith, less))

-- no byte of the fields is a line feed
pub fields_above : (w : List ℕ) (fs : List (List ℕ)) → all_above 32 (w ∷ fs) ≡ true → above 31 (with_fields w fs) ≡ true
fields_above w [] h = also_above 31 w (and_parts (above 32 w) true h).0
fields_above w (f ∷ fs) h =
    let two = and_parts (above 32 w) (all_above 32 (f ∷ fs)) h in
    rw (fields_next w f fs) (above_both 31 w (32 ∷ with_fields f fs) (also_above 31 w two.0) (fields_above f fs two.1))
