-- What receivers hold stands for the deliveries that they heard.
use Rattle.std.proofs.{Common.{◌≡◌, ℕ, ◌<◌, ◌==◌, ◌⊎◌, inl, inr, nat_lt, Bool, true, false, cond, Option, None, List, [], ◌∷◌, ◌++◌, filter, length, map, get_or, replicate, slice_set, refl, sym, ap, ◌∙◌, subst, append_assoc, arith}, lemmas.Bool.{and_from, and_left, and_parts, and_right, cases_eq, eq-eqb, lt-ltb, ltb-true, ne_eqb}, lemmas.List.{append-nil, get_or-replicate, get_or-set_other, get_or-set_same, length-set}}
use Rattle.rb_base.specs.declared.values.Heard.{Heard}
use Rattle.rb_rules.specs.declared.record.SlotLine.{SlotLine}
use Rattle.rb_long.specs.{Delivered.{is_from, is_named, letter_with, open_at, values_of}, Reading.{OpenLetter, open_after, with_value}}
use Rattle.rb_long_run.specs.{Hearing.{Hears, Open, letter_of, lines_text, read_of, with_line, with_lines}, Reports.{given_text, slot_text}}

-- at first nothing is heard
pub none-heard : Hears (replicate 16 (replicate 16 None)) []
none-heard = record {
  many = refl;
  each = λ r below. ap length (get_or-replicate 16 r (replicate 16 None) [] below);
  known = λ r s below within. ap (λ (xs : List (Option OpenLetter)). get_or xs s None) (get_or-replicate 16 r (replicate 16 None) [] below) ∙ get_or-replicate 16 s None None within;
}

-- Values of one sender.

after-one : (o : Option OpenLetter) (values : List Heard) (v : Heard) → open_after o (values ++ v ∷ []) ≡ (with_value v (open_after o values)).after
after-one o [] v = refl
after-one o (x ∷ values) v = after-one (with_value x o).after values v

values-with : (r s : ℕ) (past : List SlotLine) (line : SlotLine) → values_of r s (past ++ line ∷ []) ≡ values_of r s past ++ cond (is_from r s line) (line.value ∷ []) []
values-with r s [] line = by (is_from r s line)
  where
    by : (b : Bool) → map (λ (l : SlotLine). l.value) (cond b (line ∷ []) []) ≡ cond b (line.value ∷ []) []
    by true = refl
    by false = refl
values-with r s (x ∷ past) line = by (is_from r s x) (values-with r s past line)
  where
    by : (b : Bool) → map (λ (l : SlotLine). l.value) (filter (is_from r s) (past ++ line ∷ [])) ≡ values_of r s past ++ cond (is_from r s line) (line.value ∷ []) []
        → map (λ (l : SlotLine). l.value) (cond b (x ∷ filter (is_from r s) (past ++ line ∷ [])) (filter (is_from r s) (past ++ line ∷ [])))
        ≡ map (λ (l : SlotLine). l.value) (cond b (x ∷ filter (is_from r s) past) (filter (is_from r s) past)) ++ cond (is_from r s line) (line.value ∷ []) []
    by true same = ap (λ vs. x.value ∷ vs) same
    by false same = same

open-from : (r s : ℕ) (past : List SlotLine) (line : SlotLine) → is_from r s line ≡ true → open_at r s (past ++ line ∷ []) ≡ (with_value line.value (open_at r s past)).after
open-from r s past line from =
    ap (open_after None) (values-with r s past line ∙ ap (λ b. values_of r s past ++ cond b (line.value ∷ []) []) from)
    ∙ after-one None (values_of r s past) line.value

open-other : (r s : ℕ) (past : List SlotLine) (line : SlotLine) → is_from r s line ≡ false → open_at r s (past ++ line ∷ []) ≡ open_at r s past
open-other r s past line other =
    ap (open_after None) (values-with r s past line ∙ ap (λ b. values_of r s past ++ cond b (line.value ∷ []) []) other ∙ append-nil (values_of r s past))

-- One delivery.

pub letter-same : (all : Open) (past : List SlotLine) (line : SlotLine) → Hears all past → letter_of all line ≡ letter_with past line
letter-same all past line is = by (is_named line) refl
  where
    by : (b : Bool) → is_named line ≡ b → cond b (read_of all line).given None ≡ cond b (with_value line.value (open_at line.receiver line.sender past)).given None
    by true named =
        let parts = and_parts (nat_lt line.receiver 16) (nat_lt line.sender 16) named in
        ap (λ (o : Option OpenLetter). (with_value line.value o).given) (is.known line.receiver line.sender (ltb-true line.receiver 16 parts.0) (ltb-true line.sender 16 parts.1))
    by false named = refl

-- a line of other nodes says nothing of receiver `r` and sender `s`
not-named : (line : SlotLine) (r s : ℕ) → r < 16 → s < 16 → is_named line ≡ false → is_from r s line ≡ false
not-named line r s below within named = by (cases_eq line.receiver r) (cases_eq line.sender s)
  where
    by : (line.receiver ≡ r) ⊎ (line.receiver ≡ r → ⊥) → (line.sender ≡ s) ⊎ (line.sender ≡ s → ⊥) → is_from r s line ≡ false
    by (inl e) (inl f) = absurd (
        let yes : is_named line ≡ true = and_from (nat_lt line.receiver 16) (nat_lt line.sender 16) (lt-ltb line.receiver 16 (omega (arith, e, below))) (lt-ltb line.sender 16 (omega (arith, f, within))) in
        let never : true ≡ false = sym yes ∙ named in cc)
    by (inr ne) f = and_left (line.receiver == r) (line.sender == s) (ne_eqb line.receiver r ne)
    by (inl e) (inr ne) = and_right (line.receiver == r) (line.sender == s) (ne_eqb line.sender s ne)

unnamed : (all : Open) (past : List SlotLine) (line : SlotLine) → is_named line ≡ false → Hears all past → Hears all (past ++ line ∷ [])
unnamed all past line named is = record {
  many = is.many;
  each = is.each;
  known = λ r s below within. is.known r s below within ∙ sym (open-other r s past line (not-named line r s below within named));
}

-- the lists with `o` as item `s` of list `r`
abbrev written : Open → ℕ → ℕ → Option OpenLetter → Open
written all r s o = slice_set all r (slice_set (get_or all r []) s o)

row-same : (all : Open) (r s : ℕ) (o : Option OpenLetter) → r < length all → get_or (written all r s o) r [] ≡ slice_set (get_or all r []) s o
row-same all r s o below = get_or-set_same all r (slice_set (get_or all r []) s o) [] below

row-other : (all : Open) (r s q : ℕ) (o : Option OpenLetter) → (q ≡ r → ⊥) → get_or (written all r s o) q [] ≡ get_or all q []
row-other all r s q o ne = get_or-set_other all r q (slice_set (get_or all r []) s o) [] ne

named-one : (all : Open) (past : List SlotLine) (line : SlotLine) → line.receiver < 16 → line.sender < 16 → Hears all past
    → Hears (written all line.receiver line.sender (read_of all line).after) (past ++ line ∷ [])
named-one all past line below within is = record {
  many = length-set all line.receiver (slice_set (get_or all line.receiver []) line.sender (read_of all line).after) ∙ is.many;
  each = λ r few. each-by r few (cases_eq r line.receiver);
  known = λ r s few few_s. known-by r s few few_s (cases_eq r line.receiver) (cases_eq s line.sender);
}
  where
    after : Option OpenLetter
    after = (read_of all line).after

    in_all : line.receiver < length all
    in_all = let many = is.many in omega (arith, many, below)

    each-by : (r : ℕ) → r < 16 → (r ≡ line.receiver) ⊎ (r ≡ line.receiver → ⊥) → length (get_or (written all line.receiver line.sender after) r []) ≡ 16
    each-by r few (inl e) =
        subst (λ q. length (get_or (written all line.receiver line.sender after) q []) ≡ 16) (sym e)
        (ap length (row-same all line.receiver line.sender after in_all) ∙ length-set (get_or all line.receiver []) line.sender after ∙ is.each line.receiver below)
    each-by r few (inr ne) = ap length (row-other all line.receiver line.sender r after ne) ∙ is.each r few

    known-by : (r s : ℕ) → r < 16 → s < 16 → (r ≡ line.receiver) ⊎ (r ≡ line.receiver → ⊥) → (s ≡ line.sender) ⊎ (s ≡ line.sender → ⊥)
        → get_or (get_or (written all line.receiver line.sender after) r []) s None ≡ open_at r s (past ++ line ∷ [])
    known-by r s few few_s (inr ne) any =
        ap (λ (xs : List (Option OpenLetter)). get_or xs s None) (row-other all line.receiver line.sender r after ne)
        ∙ is.known r s few few_s
        ∙ sym (open-other r s past line (and_left (line.receiver == r) (line.sender == s) (ne_eqb line.receiver r (λ e. ne (sym e)))))
    known-by r s few few_s (inl e) (inr ne) =
        ap (λ q. get_or (get_or (written all line.receiver line.sender after) q []) s None) e
        ∙ ap (λ (xs : List (Option OpenLetter)). get_or xs s None) (row-same all line.receiver line.sender after in_all)
        ∙ get_or-set_other (get_or all line.receiver []) line.sender s after None ne
        ∙ ap (λ q. get_or (get_or all q []) s None) (sym e)
        ∙ is.known r s few few_s
        ∙ sym (open-other r s past line (and_right (line.receiver == r) (line.sender == s) (ne_eqb line.sender s (λ f. ne (sym f)))))
    known-by r s few few_s (inl e) (inl f) =
        ap (λ q. get_or (get_or (written all line.receiver line.sender after) q []) s None) e
        ∙ ap (λ (xs : List (Option OpenLetter)). get_or xs s None) (row-same all line.receiver line.sender after in_all)
        ∙ ap (λ q. get_or (slice_set (get_or all line.receiver []) line.sender after) q None) f
        ∙ get_or-set_same (get_or all line.receiver []) line.sender after None (let wide = is.each line.receiver below in omega (arith, wide, within))
        ∙ ap (λ (o : Option OpenLetter). (with_value line.value o).after) (is.known line.receiver line.sender below within)
        ∙ sym (open-from line.receiver line.sender past line (and_from (line.receiver == line.receiver) (line.sender == line.sender) (eq-eqb line.receiver line.receiver refl) (eq-eqb line.sender line.sender refl)))
        ∙ ap (λ q. open_at q line.sender (past ++ line ∷ [])) (sym e)
        ∙ ap (λ q. open_at r q (past ++ line ∷ [])) (sym f)

pub hears-one : (all : Open) (past : List SlotLine) (line : SlotLine) → Hears all past → Hears (with_line all line) (past ++ line ∷ [])
hears-one all past line is = by (is_named line) refl
  where
    by : (b : Bool) → is_named line ≡ b → Hears (cond b (written all line.receiver line.sender (read_of all line).after) all) (past ++ line ∷ [])
    by true named =
        let parts = and_parts (nat_lt line.receiver 16) (nat_lt line.sender 16) named in
        named-one all past line (ltb-true line.receiver 16 parts.0) (ltb-true line.sender 16 parts.1) is
    by false named = unnamed all past line named is

-- The words of a slot.

pub hears-all : (all : Open) (past lines : List SlotLine) → Hears all past → Hears (with_lines all lines) (past ++ lines)
hears-all all past [] is = subst (λ xs. Hears all xs) (sym (append-nil past)) is
hears-all all past (line ∷ lines) is =
    subst (λ xs. Hears (with_lines (with_line all line) lines) xs) (append_assoc past (line ∷ []) lines) (hears-all (with_line all line) (past ++ line ∷ []) lines (hears-one all past line is))

pub slot-same : (frame slot : ℕ) (all : Open) (past lines : List SlotLine) → Hears all past → lines_text frame slot all lines ≡ slot_text frame slot past lines
slot-same frame slot all past [] is = refl
slot-same frame slot all past (line ∷ lines) is =
    ap (λ o. given_text frame slot line o ++ lines_text frame slot (with_line all line) lines) (letter-same all past line is)
    ∙ ap (λ t. given_text frame slot line (letter_with past line) ++ t) (slot-same frame slot (with_line all line) (past ++ line ∷ []) lines (hears-one all past line is))
