-- How many nodes sets have.
use Rattle.std.proofs.{Common.{◌≡◌, ℕ, zero, suc, ◌+◌, ◌/◌, ◌%◌, ◌^◌, ◌<◌, ◌≤◌, Bool, true, false, cond, not, ◌||◌, ◌&&◌, ◌==◌, nat_lt, count_ones, inl, inr, refl, sym, ◌∙◌, ap, add-one, arith}, lemmas.Bool.{cases_lt, le-ltb, lt-ltb}, lemmas.Bool.Decides.nat_tests, lemmas.List.FromFn.length-range_with_len, lemmas.Nat.ones_le_self, lemmas.Nat.Bits.{bit_at-lt, bit_at-suc, bit_at_lowest}}
use Rattle.std.specs.{Int.bit_at, Int.Count.ones_step, List.range_with_len}
use Rattle.rb_base.specs.{Counting.{count_if, numbers}, Nodes.{has, set_of, size}}
use Rattle.rb_base.proofs.{Counts.{count_if-le_length, count_if-same}, Plain.eq_self, Sets.{eq_other, has-set_of, has_none, same_set_of}}

abbrev one_if : Bool → ℕ
one_if b = cond b 1 0

-- ---- counts over the n numbers from a on

abbrev Each : (ℕ → Type 0) → ℕ → ℕ → Type 0
Each P a n = (i : ℕ) → a ≤ i → i < a + n → P i

later : (P : ℕ → Type 0) (a n : ℕ) → Each P a (suc n) → Each P (a + 1) n
later P a n each i low high = each i (omega arith) (omega arith)

now : (P : ℕ → Type 0) (a n : ℕ) → Each P a (suc n) → P a
now P a n each = each a (omega arith) (omega arith)

count_same : (p q : ℕ → Bool) (a n : ℕ) → Each (λ i. p i ≡ q i) a n → count_if p (range_with_len a n) ≡ count_if q (range_with_len a n)
count_same p q a zero each = refl
count_same p q a (suc n) each =
    let here : one_if (p a) ≡ one_if (q a) = ap one_if (now (λ i. p i ≡ q i) a n each) in
    omega (arith, here, count_same p q (a + 1) n (later (λ i. p i ≡ q i) a n each))

count_le : (p q : ℕ → Bool) (a n : ℕ) → Each (λ i. one_if (p i) ≤ one_if (q i)) a n → count_if p (range_with_len a n) ≤ count_if q (range_with_len a n)
count_le p q a zero each = omega arith
count_le p q a (suc n) each =
    omega (arith, now (λ i. one_if (p i) ≤ one_if (q i)) a n each, count_le p q (a + 1) n (later (λ i. one_if (p i) ≤ one_if (q i)) a n each))

count_le_two : (p q r : ℕ → Bool) (a n : ℕ) → Each (λ i. one_if (p i) ≤ one_if (q i) + one_if (r i)) a n
    → count_if p (range_with_len a n) ≤ count_if q (range_with_len a n) + count_if r (range_with_len a n)
count_le_two p q r a zero each = omega arith
count_le_two p q r a (suc n) each =
    omega (arith, now (λ i. one_if (p i) ≤ one_if (q i) + one_if (r i)) a n each, count_le_two p q r (a + 1) n (later (λ i. one_if (p i) ≤ one_if (q i) + one_if (r i)) a n each))

count_two_le : (p q r : ℕ → Bool) (a n : ℕ) → Each (λ i. one_if (q i) + one_if (r i) ≤ one_if (p i)) a n
    → count_if q (range_with_len a n) + count_if r (range_with_len a n) ≤ count_if p (range_with_len a n)
count_two_le p q r a zero each = omega arith
count_two_le p q r a (suc n) each =
    omega (arith, now (λ i. one_if (q i) + one_if (r i) ≤ one_if (p i)) a n each, count_two_le p q r (a + 1) n (later (λ i. one_if (q i) + one_if (r i) ≤ one_if (p i)) a n each))

count_none : (p : ℕ → Bool) (a n : ℕ) → Each (λ i. p i ≡ false) a n → count_if p (range_with_len a n) ≡ 0
count_none p a zero each = refl
count_none p a (suc n) each =
    let here : one_if (p a) ≡ 0 = ap one_if (now (λ i. p i ≡ false) a n each) in
    omega (arith, here, count_none p (a + 1) n (later (λ i. p i ≡ false) a n each))

count_below : (k a n : ℕ) → a ≤ k → k ≤ a + n → count_if (λ i. nat_lt i k) (range_with_len a n) + a ≡ k
count_below k a zero low high = omega arith
count_below k a (suc n) low high =
    elim (cases_lt a k) [
      | inl less ↦
          let here : one_if (nat_lt a k) ≡ 1 = ap one_if (lt-ltb a k less) in
          omega (arith, here, count_below k (a + 1) n (omega arith) (omega arith))
      | inr most ↦ let none : count_if (λ i. nat_lt i k) (range_with_len a (suc n)) ≡ 0 = count_none (λ i. nat_lt i k) a (suc n) (λ i from _. le-ltb i k (omega arith)) in omega (arith, none)
    ]

count_one : (k a n : ℕ) → a ≤ k → k < a + n → count_if (λ i. i == k) (range_with_len a n) ≡ 1
count_one k a zero low high = absurd (omega arith)
count_one k a (suc n) low high =
    elim (cases_lt a k) [
      | inl less ↦
          let here : one_if (a == k) ≡ 0 = ap one_if (eq_other a k (omega arith)) in
          omega (arith, here, count_one k (a + 1) n (omega arith) (omega arith))
      | inr most ↦
          let same : a ≡ k = omega arith in
          let here : one_if (a == k) ≡ 1 = ap one_if (ap (λ i. i == k) same ∙ eq_self k) in
          let none : count_if (λ i. i == k) (range_with_len (a + 1) n) ≡ 0 = count_none (λ i. i == k) (a + 1) n (λ i from _. eq_other i k (omega arith)) in
          omega (arith, here, none)
    ]

-- ---- what is in sets

-- what the first test passes the second passes
within : (b c : Bool) → (b ≡ true → c ≡ true) → one_if b ≤ one_if c
within true c h = rw (h refl) (omega arith)
within false c h = omega arith

within_two : (a b c : Bool) → (a ≡ true → (b || c) ≡ true) → one_if a ≤ one_if b + one_if c
within_two true true c h = omega arith
within_two true false c h = rw (h refl) (omega arith)
within_two false b c h = omega arith

two_within : (a b c : Bool) → (b ≡ true → a ≡ true) → (c ≡ true → a ≡ true) → (b ≡ true → c ≡ false) → one_if b + one_if c ≤ one_if a
two_within a true c hb hc apart = rw (hb refl, apart refl) (omega arith)
two_within a false c hb hc apart = omega (arith, within c a hc)

pub size-le : (s : ℕ) → size s ≤ 16
unfolding size
size-le s = omega (arith, count_if-le_length (has s) (numbers 16), length-range_with_len 0 16)

-- the set of the nodes that pass has as many nodes as pass
pub size-set_of : (p : ℕ → Bool) → size (set_of p) ≡ count_if p (numbers 16)
unfolding size
size-set_of p = count_same (has (set_of p)) p 0 16 (λ i _ h. has-set_of i p h)

pub size_none : size 0 ≡ 0
unfolding size
size_none = count_none (has 0) 0 16 (λ i _ _. has_none i)

pub size_first : (k : ℕ) → k ≤ 16 → size (set_of (λ i. nat_lt i k)) ≡ k
size_first k h = omega (arith, size-set_of (λ i. nat_lt i k), count_below k 0 16 (omega arith) (omega arith))

-- sets with the same nodes have as many
pub size_same : (s t : ℕ) → ((i : ℕ) → i < 16 → has s i ≡ has t i) → size s ≡ size t
unfolding size
size_same s t same = count_same (has s) (has t) 0 16 (λ i _ h. same i h)

-- a set within another has no more nodes
pub size_within : (s t : ℕ) → ((i : ℕ) → i < 16 → has s i ≡ true → has t i ≡ true) → size s ≤ size t
unfolding size
size_within s t gives = count_le (has s) (has t) 0 16 (λ i _ h. within (has s i) (has t i) (gives i h))

-- a set within two others has no more nodes than both together
pub size_within_two : (s t u : ℕ) → ((i : ℕ) → i < 16 → has s i ≡ true → (has t i || has u i) ≡ true) → size s ≤ size t + size u
unfolding size
size_within_two s t u gives = count_le_two (has s) (has t) (has u) 0 16 (λ i _ h. within_two (has s i) (has t i) (has u i) (gives i h))

-- two sets within another, with no node in both, have no more nodes together
pub size_apart : (s t u : ℕ)
    → ((i : ℕ) → i < 16 → has t i ≡ true → has s i ≡ true)
    → ((i : ℕ) → i < 16 → has u i ≡ true → has s i ≡ true)
    → ((i : ℕ) → i < 16 → has t i ≡ true → has u i ≡ false)
    → size t + size u ≤ size s
unfolding size
size_apart s t u gives_t gives_u apart =
    count_two_le (has s) (has t) (has u) 0 16 (λ i _ h. two_within (has s i) (has t i) (has u i) (gives_t i h) (gives_u i h) (apart i h))

-- a set is what two tests make of it
pub size_split : (s : ℕ) (p : ℕ → Bool) → size s ≡ size (set_of (λ i. has s i && p i)) + size (set_of (λ i. has s i && not (p i)))
unfolding size
size_split s p =
    let t = size-set_of (λ i. has s i && p i) in
    let u = size-set_of (λ i. has s i && not (p i)) in
    let both : (b c : Bool) → one_if b ≤ one_if (b && c) + one_if (b && not c) = λ b c. elim b as (λ b. one_if b ≤ one_if (b && c) + one_if (b && not c)) [
      | true ↦ elim c as (λ c. one_if true ≤ one_if (true && c) + one_if (true && not c)) [ true ↦ omega arith | false ↦ omega arith ]
      | false ↦ omega arith
    ] in
    let back : (b c : Bool) → one_if (b && c) + one_if (b && not c) ≤ one_if b = λ b c. elim b as (λ b. one_if (b && c) + one_if (b && not c) ≤ one_if b) [
      | true ↦ elim c as (λ c. one_if (true && c) + one_if (true && not c) ≤ one_if true) [ true ↦ omega arith | false ↦ omega arith ]
      | false ↦ omega arith
    ] in
    omega (
      arith,
      t,
      u,
      count_le_two (has s) (λ i. has s i && p i) (λ i. has s i && not (p i)) 0 16 (λ i _ _. both (has s i) (p i)),
      count_two_le (has s) (λ i. has s i && p i) (λ i. has s i && not (p i)) 0 16 (λ i _ _. back (has s i) (p i)),
    )

-- the set of one node has size 1
pub size_one : (k : ℕ) → k < 16 → size (set_of (λ i. i == k)) ≡ 1
size_one k h = size-set_of (λ i. i == k) ∙ count_one k 0 16 (omega arith) (omega arith)

-- a set with one more node is larger by 1
pub size_more : (s k : ℕ) → k < 16 → has s k ≡ false → size (set_of (λ i. has s i || (i == k))) ≡ size s + 1
unfolding size
size_more s k h out =
    let one = count_one k 0 16 (omega arith) (omega arith) in
    let most : (b c : Bool) → one_if (b || c) ≤ one_if b + one_if c = λ b c. elim b as (λ b. one_if (b || c) ≤ one_if b + one_if c) [
      | true ↦ omega arith
      | false ↦ omega arith
    ] in
    let least : (i : ℕ) → (b : Bool) → (i == k) ≡ b → one_if (has s i) + one_if b ≤ one_if (has s i || b) = λ i b. elim b as (λ b. (i == k) ≡ b → one_if (has s i) + one_if b ≤ one_if (has s i || b)) [
      | true ↦ λ e. let same : i ≡ k = grind (arith, nat_tests) in let none : has s i ≡ false = ap (has s) same ∙ out in rw none (omega arith)
      | false ↦ λ e. elim (has s i) as (λ b. one_if b + one_if false ≤ one_if (b || false)) [ true ↦ omega arith | false ↦ omega arith ]
    ] in
    omega (
      arith,
      one,
      size-set_of (λ i. has s i || (i == k)),
      count_le_two (λ i. has s i || (i == k)) (has s) (λ i. i == k) 0 16 (λ i _ _. most (has s i) (i == k)),
      count_two_le (λ i. has s i || (i == k)) (has s) (λ i. i == k) 0 16 (λ i _ _. least i (i == k) refl),
    )

-- a set with one node less is smaller by 1
pub size_less : (s k : ℕ) → k < 16 → has s k ≡ true → size (set_of (λ i. has s i && not (i == k))) + 1 ≡ size s
size_less s k h here =
    let is : set_of (λ i. has s i && (i == k)) ≡ set_of (λ i. i == k) = same_set_of (λ i. has s i && (i == k)) (λ i. i == k) (λ i _. only i (i == k) refl) in
    omega (arith, size_split s (λ i. i == k), ap size is, size_one k h)
  where
    only : (i : ℕ) → (b : Bool) → (i == k) ≡ b → (has s i && b) ≡ b
    only i true e = let same : i ≡ k = grind (arith, nat_tests) in let in_set : has s i ≡ true = ap (has s) same ∙ here in rw in_set refl
    only i false e = elim (has s i) as (λ b. (b && false) ≡ false) [ true ↦ refl | false ↦ refl ]

-- a set that has a node is not empty
pub size_some : (s k : ℕ) → k < 16 → has s k ≡ true → 0 < size s
size_some s k h here =
    let is : (i : ℕ) → i < 16 → has (set_of (λ j. j == k)) i ≡ true → has s i ≡ true = λ i l e.
    let test : (i == k) ≡ true = sym (has-set_of i (λ j. j == k) l) ∙ e in
    let same : i ≡ k = grind (arith, nat_tests) in
    ap (has s) same ∙ here in
    omega (arith, size_one k h, size_within (set_of (λ j. j == k)) s is)

-- ---- as the machine counts

bit_weight : (b : ℕ) → b < 2 → one_if (b == 1) ≡ b
bit_weight zero h = refl
bit_weight (suc zero) h = refl
bit_weight (suc (suc b)) h = absurd (omega arith)

shift : (p : ℕ → Bool) (a n : ℕ) → count_if p (range_with_len (a + 1) n) ≡ count_if (λ i. p (suc i)) (range_with_len a n)
shift p a zero = refl
shift p a (suc n) =
    let here : one_if (p (a + 1)) ≡ one_if (p (suc a)) = ap (λ k. one_if (p k)) (add-one a) in
    omega (arith, here, shift p (a + 1) n)

ones_counted : (n s : ℕ) → s < 2 ^ n → count_ones s ≡ count_if (has s) (range_with_len 0 n)
ones_counted zero s fits = omega (arith, ones_le_self s)
ones_counted (suc n) s fits =
    let lowest : one_if (has s 0) ≡ s % 2 = bit_weight (bit_at s 0) (bit_at-lt s 0) ∙ bit_at_lowest s in
    let rest : count_if (has s) (range_with_len 1 n) ≡ count_if (has (s / 2)) (range_with_len 0 n) =
    shift (has s) 0 n ∙ count_if-same (λ i. has s (suc i)) (has (s / 2)) (λ i. ap (λ b. b == 1) (bit_at-suc s i)) (range_with_len 0 n) in
    omega (arith, ones_step s, lowest, rest, ones_counted n (s / 2) (omega arith))

pub size-ones : (s : ℕ) → s < 2 ^ 16 → count_ones s ≡ size s
unfolding size
size-ones s fits = ones_counted 16 s fits
