-- Counting the vectors of the senders.
use Rattle.std.proofs.{Common.{◌≡◌, ℕ, zero, suc, ◌+◌, ◌*◌, ◌<◌, ◌≤◌, Bool, true, false, cond, not, ◌&&◌, ◌||◌, bit_and, bit_or, nat_lt, List, [], ◌∷◌, refl, sym, ◌∙◌, ap, add-one, arith}, lemmas.Bool.le-ltb, lemmas.Bool.Decides.nat_tests}
use Rattle.std.specs.{Int.from_bool, List.range_with_len}
use Rattle.rb_base.specs.{Counting.{count_if, numbers}, Nodes.{has, set_of, size}, declared.values.Heard.Heard}
use Rattle.rb_base.proofs.{Sets.{has-and, has-or, has-set_of, same_set_of}, SetSizes.size-set_of}
use Rattle.rb_diag.specs.Votes.{against, counts, most_against}
use Rattle.rb_rules.specs.Conviction.{convicted_by, names, naming, sparing}

abbrev pub one_if : Bool → ℕ
one_if b = cond b 1 0

-- a test as a number is what it counts
pub counted : (b : Bool) → from_bool b ≡ one_if b
counted true = refl
counted false = refl

pub one_if-le : (b : Bool) → one_if b ≤ 1
one_if-le true = omega arith
one_if-le false = omega arith

-- ---- counts over the numbers from a on

count_more : (p : ℕ → Bool) (a n : ℕ) → count_if p (range_with_len a (suc n)) ≡ count_if p (range_with_len a n) + one_if (p (a + n))
count_more p a zero =
    let e : a ≡ a + 0 = omega arith in
    let here : one_if (p a) ≡ one_if (p (a + 0)) = ap (λ k. one_if (p k)) e in
    omega (arith, here)
count_more p a (suc n) =
    let e : a + 1 + n ≡ a + suc n = omega arith in
    let last : one_if (p (a + 1 + n)) ≡ one_if (p (a + suc n)) = ap (λ k. one_if (p k)) e in
    omega (arith, count_more p (a + 1) n, last)

pub count_next : (p : ℕ → Bool) (n : ℕ) → count_if p (numbers (n + 1)) ≡ count_if p (numbers n) + one_if (p n)
count_next p n =
    let e : 0 + n ≡ n = omega arith in
    ap (λ k. count_if p (numbers k)) (add-one n) ∙ count_more p 0 n ∙ ap (λ k. count_if p (numbers n) + one_if (p k)) e

count_same : (p q : ℕ → Bool) (a n : ℕ) → ((i : ℕ) → a ≤ i → i < a + n → p i ≡ q i) → count_if p (range_with_len a n) ≡ count_if q (range_with_len a n)
count_same p q a zero same = refl
count_same p q a (suc n) same =
    let here : one_if (p a) ≡ one_if (q a) = ap one_if (same a (omega arith) (omega arith)) in
    omega (arith, here, count_same p q (a + 1) n (λ i low high. same i (omega arith) (omega arith)))

-- the items that pass `p` are those that pass `q` too and those that do not
count_parts : (p q : ℕ → Bool) (xs : List ℕ) → count_if (λ i. p i && q i) xs + count_if (λ i. p i && not (q i)) xs ≡ count_if p xs
count_parts p q [] = refl
count_parts p q (x ∷ xs) =
    let here : (a b : Bool) → cond (a && b) 1 0 + cond (a && not b) 1 0 ≡ cond a 1 0 =
    λ a b. elim a as (λ a. cond (a && b) 1 0 + cond (a && not b) 1 0 ≡ cond a 1 0) [
      | true ↦ elim b as (λ b. cond (true && b) 1 0 + cond (true && not b) 1 0 ≡ 1) [ true ↦ refl | false ↦ refl ]
      | false ↦ refl
    ] in
    omega (arith, here (p x) (q x), count_parts p q xs)

-- ---- the senders whose vectors count

more_than_half : (all one other : ℕ) → one + other ≡ all → nat_lt all (2 * one) ≡ nat_lt other one
more_than_half all one other sum = grind (arith, nat_tests)

-- more of the vectors that count name node j than spare it if and only if more than half name it
most_is : (others senders : ℕ) (vector : ℕ → Heard) (j : ℕ)
    → most_against (set_of (counts others senders vector)) vector j ≡ nat_lt (sparing others senders vector j) (naming others senders vector j)
unfolding against
most_is others senders vector j =
    let valid = set_of (counts others senders vector) in
    let named : against valid vector j ≡ naming others senders vector j =
    count_same (λ i. has valid i && names j (vector i)) (λ i. counts others senders vector i && names j (vector i)) 0 16
    (λ i _ h. ap (λ b. b && names j (vector i)) (has-set_of i (counts others senders vector) h)) in
    let all : naming others senders vector j + sparing others senders vector j ≡ size valid =
    count_parts (counts others senders vector) (λ i. names j (vector i)) (numbers 16) ∙ sym (size-set_of (counts others senders vector)) in
    ap (λ n. nat_lt (size valid) (2 * n)) named ∙ more_than_half (size valid) (naming others senders vector j) (sparing others senders vector j) all

-- to leave out the nodes that no sender names changes nothing in whom most name
pub suspects_is : (senders trusted named : ℕ) (vector : ℕ → Heard) (j : ℕ) → (has named j ≡ false → against senders vector j ≡ 0)
    → (has (bit_and trusted named) j && most_against senders vector j) ≡ (has trusted j && most_against senders vector j)
suspects_is senders trusted named vector j unnamed =
    let go : (t b : Bool) → has named j ≡ b → ((t && b) && most_against senders vector j) ≡ (t && most_against senders vector j) =
    λ t b. elim b as (λ b. has named j ≡ b → ((t && b) && most_against senders vector j) ≡ (t && most_against senders vector j)) [
      | true ↦ λ e. elim t as (λ t. ((t && true) && most_against senders vector j) ≡ (t && most_against senders vector j)) [ true ↦ refl | false ↦ refl ]
      | false ↦ λ e.
          let few : most_against senders vector j ≡ false = ap (λ n. nat_lt (size senders) (2 * n)) (unnamed e) ∙ le-ltb (size senders) (2 * 0) (omega arith) in
          elim t as (λ t. ((t && false) && most_against senders vector j) ≡ (t && most_against senders vector j)) [ true ↦ sym few | false ↦ refl ]
    ] in
    ap (λ b. b && most_against senders vector j) (has-and trusted named j) ∙ go (has trusted j) (has named j) refl

-- the trusted nodes that more than half of the vectors that count name are convicted
pub convicted_is : (others senders trusted : ℕ) (vector : ℕ → Heard) (senders_bits trusted_bits valid suspects named : ℕ)
    → senders_bits ≡ senders → trusted_bits ≡ trusted
    → valid ≡ set_of (counts others senders_bits vector)
    → ((j : ℕ) → (has suspects j && most_against valid vector j) ≡ (has trusted_bits j && most_against valid vector j))
    → named ≡ set_of (λ j. has suspects j && most_against valid vector j)
    → named ≡ convicted_by others senders trusted vector
unfolding convicted_by
convicted_is others senders trusted vector senders_bits trusted_bits valid suspects named same_senders same_trusted valid_is suspects_are named_is =
    let is : valid ≡ set_of (counts others senders vector) = valid_is ∙ ap (λ s. set_of (counts others s vector)) same_senders in
    named_is
    ∙ same_set_of (λ j. has suspects j && most_against valid vector j) (λ j. has trusted_bits j && most_against valid vector j) (λ j _. suspects_are j)
    ∙ ap (λ t. set_of (λ j. has t j && most_against valid vector j)) same_trusted
    ∙ ap (λ v. set_of (λ j. has trusted j && most_against v vector j)) is
    ∙ same_set_of (λ j. has trusted j && most_against (set_of (counts others senders vector)) vector j)
    (λ j. has trusted j && nat_lt (sparing others senders vector j) (naming others senders vector j))
    (λ j _. ap (λ b. has trusted j && b) (most_is others senders vector j))

-- ---- whom nobody names

-- a node that is in no sender's vector so far is not in the next one either
pub unnamed_next : (p : ℕ → Bool) (named next i : ℕ) (j : ℕ) → (has named j ≡ false → count_if p (numbers i) ≡ 0) → has next j ≡ p i
    → has (bit_or named next) j ≡ false → count_if p (numbers (i + 1)) ≡ 0
unnamed_next p named next i j so_far is none =
    let both : (a b : Bool) → (a || b) ≡ false → (a ≡ false) × (b ≡ false) =
    λ a b. elim a as (λ a. (a || b) ≡ false → (a ≡ false) × (b ≡ false)) [ true ↦ λ e. absurd (cc) | false ↦ λ e. (refl, e) ] in
    let parts = both (has named j) (has next j) (sym (has-or named next j) ∙ none) in
    let adds : one_if (p i) ≡ 0 = ap one_if (sym is ∙ parts.1) in
    omega (arith, count_next p i, so_far parts.0, adds)
