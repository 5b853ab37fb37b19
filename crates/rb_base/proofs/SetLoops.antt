-- Sets that grow by one number after the other: of the numbers below k, those that pass a test.
use Rattle.std.proofs.{Common.{◌≡◌, ℕ, ◌+◌, ◌<◌, Bool, true, false, ◌||◌, ◌&&◌, ◌==◌, nat_lt, inl, inr, refl, sym, ◌∙◌, ap, arith}, lemmas.Bool.{cases_order, le-ltb, lt-ltb}}
use Rattle.rb_base.specs.Nodes.{has, set_of}
use Rattle.rb_base.proofs.{Plain.eq_self, Sets.{eq_other, has-set_of, has_none, is_set_of, same_set_of}}

-- the numbers below k that pass
abbrev pub passing_below : ℕ → (ℕ → Bool) → ℕ
passing_below k p = set_of (λ i. nat_lt i k && p i)

pub passing_none : (p : ℕ → Bool) → 0 ≡ passing_below 0 p
passing_none p = is_set_of 0 _ (omega arith) (λ i h. has_none i ∙ sym (ap (λ b. b && p i) (le-ltb i 0 (omega arith))))

joins : (i k : ℕ) (b : Bool) → (i ≡ k → b ≡ true) → ((nat_lt i k && b) || (i == k)) ≡ (nat_lt i (k + 1) && b)
joins i k b h =
    elim (cases_order i k) [
      | inl same ↦ rw (le-ltb i k (omega arith), lt-ltb i (k + 1) (omega arith), ap (λ j. j == k) same ∙ eq_self k, h same) refl
      | inr order ↦ elim order [
        | inl less ↦
            rw (lt-ltb i k less, lt-ltb i (k + 1) (omega arith), eq_other i k (omega arith))
            (elim b as (λ b. ((true && b) || false) ≡ (true && b)) [ true ↦ refl | false ↦ refl ])
        | inr more ↦ rw (le-ltb i k (omega arith), le-ltb i (k + 1) (omega arith), eq_other i k (omega arith)) refl
      ]
    ]

stays_out : (i k : ℕ) (b : Bool) → (i ≡ k → b ≡ false) → (nat_lt i k && b) ≡ (nat_lt i (k + 1) && b)
stays_out i k b h =
    elim (cases_order i k) [
      | inl same ↦ rw (le-ltb i k (omega arith), lt-ltb i (k + 1) (omega arith), h same) refl
      | inr order ↦ elim order [
        | inl less ↦ rw (lt-ltb i k less, lt-ltb i (k + 1) (omega arith)) refl
        | inr more ↦ rw (le-ltb i k (omega arith), le-ltb i (k + 1) (omega arith)) refl
      ]
    ]

-- number k passes, and its node joins, as `insert` says it
pub passing_more : (p : ℕ → Bool) (s k id : ℕ) → s ≡ passing_below k p → id ≡ k → p k ≡ true → set_of (λ i. has s i || (i == id)) ≡ passing_below (k + 1) p
passing_more p s k id so_far is passes =
    same_set_of _ _ (λ i h.
    ap (λ t. has t i || (i == id)) so_far
    ∙ ap (λ b. b || (i == id)) (has-set_of i (λ j. nat_lt j k && p j) h)
    ∙ ap (λ n. (nat_lt i k && p i) || (i == n)) is
    ∙ joins i k (p i) (λ same. ap p same ∙ passes))

-- number k does not pass, and the set stays
pub passing_same : (p : ℕ → Bool) (s k : ℕ) → s ≡ passing_below k p → p k ≡ false → s ≡ passing_below (k + 1) p
passing_same p s k so_far fails = so_far ∙ same_set_of _ _ (λ i h. stays_out i k (p i) (λ same. ap p same ∙ fails))

-- the numbers below 16 that pass are the set of all that pass
pub passing_all : (p : ℕ → Bool) (s k : ℕ) → s ≡ passing_below k p → k ≡ 16 → s ≡ set_of p
passing_all p s k at_end last = at_end ∙ ap (λ n. passing_below n p) last ∙ same_set_of _ _ (λ i h. ap (λ b. b && p i) (lt-ltb i 16 h))

-- if no number from `k` on passes, the numbers below `k` that pass are the set of all that pass
pub passing_most : (p : ℕ → Bool) (s k : ℕ) → s ≡ passing_below k p → ((i : ℕ) → i < 16 → nat_lt i k ≡ false → p i ≡ false) → s ≡ set_of p
passing_most p s k at_end none =
    at_end ∙ same_set_of _ _ (λ i h.
    let go : (b : Bool) → nat_lt i k ≡ b → (b && p i) ≡ p i = λ b. elim b as (λ b. nat_lt i k ≡ b → (b && p i) ≡ p i) [ true ↦ λ e. refl | false ↦ λ e. sym (none i h e) ] in
    go (nat_lt i k) refl)
