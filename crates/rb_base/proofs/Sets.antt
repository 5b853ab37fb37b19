-- Sets of nodes: what is in a set that a test makes, and when two sets are one.
use Rattle.std.proofs.{Common.{◌≡◌, ◌≢◌, ℕ, min, max, zero, suc, ◌+◌, ◌-◌, ◌*◌, ◌/◌, ◌%◌, ◌^◌, ◌<◌, ◌≤◌, ◌⊎◌, Bool, true, false, cond, not, ◌||◌, ◌&&◌, ◌==◌, nat_lt, bit_and, bit_or, w16, inl, inr, refl, sym, ◌∙◌, ap, add-zero, arith}, lemmas.Bool.{cases_lt, cases_order, le-ltb, lt-ltb}, lemmas.Bool.Decides.nat_tests, lemmas.Nat.{and_le_l, and_le_r, or_lt}, lemmas.Nat.Bits.{bit_at-lt, bit_at-suc, bit_at_lowest, bit_at-pow_other, bit_at-pow_same, bit_at-trailing_zeros, bit_at-zero, bit_at_above, bit_at_and, bit_at_cat_high, bit_at_cat_low, bit_at_clear_other, bit_at_clear_same, bit_at_not, bit_at_ones, bit_at_ones_above, bit_at_or, bit_at_set_other, bit_at_set_same, same_from_bits_below}, Math.Pow.pow_mono}
use Rattle.std.specs.Int.{bit_at, trailing_zeros}
use Rattle.rb_base.specs.Nodes.{TakesFirst, has, set_below, set_of}
use Rattle.rb_base.proofs.Plain.{and-false, and-same, and-true, eq_self, more-differs, or-false, or-true}

set_below-lt : (n : ℕ) (p : ℕ → Bool) → set_below n p < 2 ^ n
unfolding set_below
set_below-lt zero p = omega arith
set_below-lt (suc n) p =
    elim (p n) as (λ b. set_below n p + cond b (2 ^ n) 0 < 2 ^ suc n) [ true ↦ omega (arith, set_below-lt n p) | false ↦ omega (arith, set_below-lt n p) ]

-- the top bit leaves the bits below it as they are
low : (n i s : ℕ) → i < n → has (s + 2 ^ n) i ≡ has s i
low n i s h = let e : s + 2 ^ n ≡ 1 * 2 ^ n + s = omega arith in rw e (ap (λ b. b == 1) (bit_at_cat_low 1 n s i h))

top : (n s : ℕ) → s < 2 ^ n → has (s + 2 ^ n) n ≡ true
top n s h =
    let e : s + 2 ^ n ≡ 1 * 2 ^ n + s = omega arith in
    let none : n - n ≡ 0 = omega arith in
    rw e (ap (λ b. b == 1) (bit_at_cat_high 1 n s n h (omega arith) ∙ ap (λ k. bit_at 1 k) none))

no_top : (n s : ℕ) → s < 2 ^ n → has s n ≡ false
no_top n s h = ap (λ b. b == 1) (bit_at_above s n n h (omega arith))

next_bit : (n i s : ℕ) (b v : Bool) → (i < n → has s i ≡ v) → (i ≡ n → b ≡ v) → s < 2 ^ n → i < suc n → has (s + cond b (2 ^ n) 0) i ≡ v
next_bit n i s b v below here fits h =
    elim (cases_order i n) [
      | inl same ↦
          rw same (elim b as (λ b. b ≡ v → has (s + cond b (2 ^ n) 0) n ≡ v) [ true ↦ λ q. top n s fits ∙ q | false ↦ λ q. rw add-zero (no_top n s fits ∙ q) ] (here same))
      | inr order ↦ elim order [
        | inl less ↦ elim b as (λ b. has (s + cond b (2 ^ n) 0) i ≡ v) [ true ↦ low n i s less ∙ below less | false ↦ rw add-zero (below less) ]
        | inr more ↦ absurd (omega arith)
      ]
    ]

has-set_below : (n i : ℕ) (p : ℕ → Bool) → i < n → has (set_below n p) i ≡ p i
unfolding set_below
has-set_below zero i p h = absurd (omega arith)
has-set_below (suc n) i p h = next_bit n i (set_below n p) (p n) (p i) (has-set_below n i p) (λ e. ap p (sym e)) (set_below-lt n p) h

pub set_of-lt : (p : ℕ → Bool) → set_of p < 2 ^ 16
unfolding set_of
set_of-lt p = set_below-lt 16 p

-- a node is in `set_of p` if and only if it passes
pub has-set_of : (i : ℕ) (p : ℕ → Bool) → i < 16 → has (set_of p) i ≡ p i
unfolding set_of
has-set_of i p h = has-set_below 16 i p h

-- no set has a node from 16 on
pub has_above : (s i : ℕ) → s < 2 ^ 16 → 16 ≤ i → has s i ≡ false
has_above s i fits h = ap (λ b. b == 1) (bit_at_above s 16 i fits h)

same_bit : (a b : ℕ) → a < 2 → b < 2 → (a == 1) ≡ (b == 1) → a ≡ b
same_bit a b ha hb e = grind (arith, nat_tests)

-- sets with the same nodes are one
pub same_set : (s t : ℕ) → s < 2 ^ 16 → t < 2 ^ 16 → ((i : ℕ) → i < 16 → has s i ≡ has t i) → s ≡ t
same_set s t hs ht same =
    same_from_bits_below 16 s t hs ht (λ i h. same_bit (bit_at s i) (bit_at t i) (bit_at-lt s i) (bit_at-lt t i) (same i h))

-- a set whose nodes are those that pass is the set of these
pub is_set_of : (s : ℕ) (p : ℕ → Bool) → s < 2 ^ 16 → ((i : ℕ) → i < 16 → has s i ≡ p i) → s ≡ set_of p
is_set_of s p fits each = same_set s (set_of p) fits (set_of-lt p) (λ i h. each i h ∙ sym (has-set_of i p h))

-- tests that agree make one set
pub same_set_of : (p q : ℕ → Bool) → ((i : ℕ) → i < 16 → p i ≡ q i) → set_of p ≡ set_of q
same_set_of p q same = is_set_of (set_of p) q (set_of-lt p) (λ i h. has-set_of i p h ∙ same i h)

-- a set is the set of what it has
pub set_of-has : (s : ℕ) → s < 2 ^ 16 → set_of (has s) ≡ s
set_of-has s fits = sym (is_set_of s (has s) fits (λ i h. refl))

pub has_none : (i : ℕ) → has 0 i ≡ false
has_none i = ap (λ b. b == 1) (bit_at-zero i)

or_bit : (a b : ℕ) → a < 2 → b < 2 → (max a b == 1) ≡ ((a == 1) || (b == 1))
or_bit zero zero ha hb = refl
or_bit zero (suc zero) ha hb = refl
or_bit zero (suc (suc b)) ha hb = absurd (omega arith)
or_bit (suc zero) zero ha hb = refl
or_bit (suc zero) (suc zero) ha hb = refl
or_bit (suc zero) (suc (suc b)) ha hb = absurd (omega arith)
or_bit (suc (suc a)) b ha hb = absurd (omega arith)

and_bit : (a b : ℕ) → a < 2 → b < 2 → (min a b == 1) ≡ ((a == 1) && (b == 1))
and_bit zero zero ha hb = refl
and_bit zero (suc zero) ha hb = refl
and_bit zero (suc (suc b)) ha hb = absurd (omega arith)
and_bit (suc zero) zero ha hb = refl
and_bit (suc zero) (suc zero) ha hb = refl
and_bit (suc zero) (suc (suc b)) ha hb = absurd (omega arith)
and_bit (suc (suc a)) b ha hb = absurd (omega arith)

not_bit : (a : ℕ) → a < 2 → ((1 - a) == 1) ≡ not (a == 1)
not_bit zero ha = refl
not_bit (suc zero) ha = refl
not_bit (suc (suc a)) ha = absurd (omega arith)

-- `s | t`
pub has-or : (s t i : ℕ) → has (bit_or s t) i ≡ (has s i || has t i)
has-or s t i = ap (λ b. b == 1) (bit_at_or s t i) ∙ or_bit (bit_at s i) (bit_at t i) (bit_at-lt s i) (bit_at-lt t i)

-- `s & t`
pub has-and : (s t i : ℕ) → has (bit_and s t) i ≡ (has s i && has t i)
has-and s t i = ap (λ b. b == 1) (bit_at_and s t i) ∙ and_bit (bit_at s i) (bit_at t i) (bit_at-lt s i) (bit_at-lt t i)

-- `!s`
pub has-complement : (s i : ℕ) → s < 2 ^ 16 → i < 16 → has (65535 - s) i ≡ not (has s i)
has-complement s i fits h = ap (λ b. b == 1) (bit_at_not w16 s i fits h) ∙ not_bit (bit_at s i) (bit_at-lt s i)

pub union_is : (s t : ℕ) → s < 2 ^ 16 → t < 2 ^ 16 → bit_or s t ≡ set_of (λ i. has s i || has t i)
union_is s t hs ht = is_set_of _ _ (or_lt 16 s t hs ht) (λ i h. has-or s t i)

pub common_is : (s t : ℕ) → s < 2 ^ 16 → bit_and s t ≡ set_of (λ i. has s i && has t i)
common_is s t hs = is_set_of _ _ (let le : bit_and s t ≤ s = and_le_l s t in omega arith) (λ i h. has-and s t i)

-- `s & !t`
pub without_is : (s t : ℕ) → s < 2 ^ 16 → t < 2 ^ 16 → bit_and s (65535 - t) ≡ set_of (λ i. has s i && not (has t i))
without_is s t hs ht =
    is_set_of _ _
    (let le : bit_and s (65535 - t) ≤ s = and_le_l s (65535 - t) in omega arith)
    (λ i h. has-and s (65535 - t) i ∙ ap (λ b. has s i && b) (has-complement t i ht h))

pub eq_other : (i k : ℕ) → i ≢ k → (i == k) ≡ false
eq_other i k h = grind (arith, nat_tests)

apart : (i k : ℕ) → (i < k) ⊎ (k < i) → i ≢ k
apart i k order = elim order [ inl less ↦ omega arith | inr more ↦ omega arith ]

has-insert : (s i k : ℕ) → k < 16 → has (bit_or s (1 * 2 ^ k % 2 ^ 16)) i ≡ (has s i || (i == k))
has-insert s i k h =
    elim (cases_order i k) [
      | inl same ↦ rw same (ap (λ b. b == 1) (bit_at_set_same w16 s k h) ∙ sym (or-true (has s k)) ∙ ap (λ b. has s k || b) (sym (eq_self k)))
      | inr order ↦
          let ne : i ≢ k = apart i k order in
          ap (λ b. b == 1) (bit_at_set_other w16 s k h i ne) ∙ sym (or-false (has s i)) ∙ ap (λ b. has s i || b) (sym (eq_other i k ne))
    ]

has-remove : (s i k : ℕ) → k < 16 → i < 16 → has (bit_and s (65535 - 1 * 2 ^ k % 2 ^ 16)) i ≡ (has s i && not (i == k))
has-remove s i k h within =
    elim (cases_order i k) [
      | inl same ↦ rw same (ap (λ b. b == 1) (bit_at_clear_same w16 s k h) ∙ sym (and-false (has s k)) ∙ ap (λ b. has s k && not b) (sym (eq_self k)))
      | inr order ↦
          let ne : i ≢ k = apart i k order in
          ap (λ b. b == 1) (bit_at_clear_other w16 s k h i within ne) ∙ sym (and-true (has s i)) ∙ ap (λ b. has s i && not b) (sym (eq_other i k ne))
    ]

-- `s | 1 << k`
pub insert_is : (s k : ℕ) → s < 2 ^ 16 → k < 16 → bit_or s (1 * 2 ^ k % 2 ^ 16) ≡ set_of (λ i. has s i || (i == k))
insert_is s k hs hk = let one : 1 * 2 ^ k % 2 ^ 16 < 2 ^ 16 = omega arith in is_set_of _ _ (or_lt 16 s (1 * 2 ^ k % 2 ^ 16) hs one) (λ i h. has-insert s i k hk)

-- `s & !(1 << k)`
pub remove_is : (s k : ℕ) → s < 2 ^ 16 → k < 16 → bit_and s (65535 - 1 * 2 ^ k % 2 ^ 16) ≡ set_of (λ i. has s i && not (i == k))
remove_is s k hs hk =
    is_set_of _ _
    (let le : bit_and s (65535 - 1 * 2 ^ k % 2 ^ 16) ≤ s = and_le_l s (65535 - 1 * 2 ^ k % 2 ^ 16) in omega arith)
    (λ i h. has-remove s i k hk h)

-- `(1 << k) - 1`
pub first_is : (k : ℕ) → k ≤ 16 → 2 ^ k - 1 ≡ set_of (λ i. nat_lt i k)
first_is k h =
    let fits : 2 ^ k ≤ 2 ^ 16 = pow_mono h in
    is_set_of _ _ (omega (arith, fits))
    (λ i _. elim (cases_lt i k) [
      | inl less ↦ ap (λ b. b == 1) (bit_at_ones k i less) ∙ sym (lt-ltb i k less)
      | inr more ↦ ap (λ b. b == 1) (bit_at_ones_above k i more) ∙ sym (le-ltb i k more)
    ])

-- what is in a set that is known as the set of a test
pub has-is : (s i : ℕ) (p : ℕ → Bool) → s ≡ set_of p → i < 16 → has s i ≡ p i
has-is s i p e h = ap (λ t. has t i) e ∙ has-set_of i p h

-- the first that is taken out is in the set no more
pub first_gone : (before after k : ℕ) → k < 16 → TakesFirst before after k → has after k ≡ false
first_gone before after k h takes =
    has-is after k (λ i. has before i && not (i == k)) takes.rest h ∙ ap (λ b. has before k && not b) (eq_self k) ∙ and-false (has before k)

-- `1 << k`
pub only_is : (k : ℕ) → k < 16 → 1 * 2 ^ k % 2 ^ 16 ≡ set_of (λ i. i == k)
only_is k h =
    let fits : 2 ^ suc k ≤ 2 ^ 16 = pow_mono h in
    let whole : 1 * 2 ^ k % 2 ^ 16 ≡ 2 ^ k = omega (arith, fits) in
    rw whole
    (is_set_of _ _ (omega (arith, fits)) (λ i _. elim (cases_order i k) [
      | inl same ↦ rw same (ap (λ b. b == 1) (bit_at-pow_same k) ∙ sym (eq_self k))
      | inr order ↦ let ne : i ≢ k = apart i k order in ap (λ b. b == 1) (bit_at-pow_other k i ne) ∙ sym (eq_other i k ne)
    ]))

-- if `k` is the lowest 1 of `n`, then `n & n - 1` takes out `k` alone
has-lowest_out : (k i n : ℕ) → bit_at n k ≡ 1 → ((j : ℕ) → j < k → bit_at n j ≡ 0) → (has n i && has (n - 1) i) ≡ (has n i && not (i == k))
has-lowest_out zero zero n one none =
    let out : bit_at (n - 1) 0 ≡ 0 = omega (arith, bit_at_lowest n, bit_at_lowest (n - 1)) in
    ap (λ b. has n 0 && b == 1) out
has-lowest_out zero (suc i) n one none =
    let half : (n - 1) / 2 ≡ n / 2 = omega (arith, bit_at_lowest n) in
    rw (bit_at-suc n i, bit_at-suc (n - 1) i, half, more-differs (suc i) 0 (omega arith)) (and-same (has (n / 2) i) (has (n / 2) i) true (λ h. h))
has-lowest_out (suc k) zero n one none = rw (none 0 (omega arith)) refl
has-lowest_out (suc k) (suc i) n one none =
    let half : (n - 1) / 2 ≡ n / 2 - 1 = omega (arith, bit_at_lowest n, none 0 (omega arith)) in
    let next : (i == k) ≡ (suc i == suc k) = grind (arith, nat_tests) in
    rw (bit_at-suc n i, bit_at-suc (n - 1) i, half)
    (has-lowest_out k i (n / 2) (sym (bit_at-suc n k) ∙ one) (λ j h. sym (bit_at-suc n j) ∙ none (suc j) (omega arith)) ∙ ap (λ b. has (n / 2) i && not b) next)

-- `s & s - 1` takes the lowest node out of the set
pub takes_first : (s k : ℕ) → 0 < s → s < 2 ^ 16 → k ≡ trailing_zeros w16 s → TakesFirst s (bit_and s (s - 1)) k
takes_first s k some fits is =
    let all : (trailing_zeros w16 s < 16) × (bit_at s (trailing_zeros w16 s) ≡ 1) × ((i : ℕ) → i < trailing_zeros w16 s → bit_at s i ≡ 0) = bit_at-trailing_zeros w16 s some fits in
    let one : bit_at s k ≡ 1 = rw is all.1 in
    let none : (i : ℕ) → i < k → bit_at s i ≡ 0 = λ i h. all.2 i (let e : i < trailing_zeros w16 s = omega arith in e) in
    record {
      inside = ap (λ b. b == 1) one;
      first = λ i h. ap (λ b. b == 1) (none i h);
      rest = common_is s (s - 1) fits ∙ same_set_of _ _ (λ i _. has-lowest_out k i s one none);
      less = let le : bit_and s (s - 1) ≤ s - 1 = and_le_r s (s - 1) in omega arith;
    }
