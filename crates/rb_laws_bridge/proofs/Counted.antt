-- Counting pairs by one of their BIUs: no two pairs share it, so each counts once.
use Rattle.std.proofs.{Common.{◌≡◌, ℕ, zero, suc, ◌+◌, ◌<◌, ◌≤◌, ◌==◌, ◌&&◌, ◌||◌, not, Bool, true, false, ◌⊎◌, inl, inr, cond, eqb, List, [], ◌∷◌, map, refl, sym, ◌∙◌, ap, arith}, lemmas.Bool.{and_from, cases_lt, eqb-true, not-true}, lemmas.Bool.Decides.nat_tests}
use Rattle.std.specs.List.{IsDistinct, list_any, range_with_len}
use Rattle.rb_base.specs.Counting.{count_if, numbers}
use Rattle.rb_base.proofs.{Counts.count_if-le, Plain.{and_first, and_second, differs-turned, more-differs}}

-- What is in a list.

abbrev pub IsIn : {X : Type 0} → X → List X → Type 0
IsIn x [] = ⊥
IsIn x (y ∷ ys) = (y ≡ x) ⊎ IsIn x ys

-- some item passes the test
pub record Found {X : Type 0} (passes : X → Bool) (xs : List X) : Type 0 where
  pub item : X
  pub inside : IsIn item xs
  pub is : passes item ≡ true

pub found : {X : Type 0} (passes : X → Bool) (xs : List X) → list_any passes xs ≡ true → Found passes xs
found passes [] some = cc
found {X} passes (x ∷ xs) some = by (passes x) refl some (found passes xs)
  where
    by : (b : Bool) → passes x ≡ b → (b || list_any passes xs) ≡ true → (list_any passes xs ≡ true → Found passes xs) → Found passes (x ∷ xs)
    by true here s later = record { item = x; inside = inl refl; is = here }
    by false none s later = let y : Found passes xs = later s in record { item = y.item; inside = inr y.inside; is = y.is }

-- an item that passes is found
pub any_of : {X : Type 0} (passes : X → Bool) {x : X} (xs : List X) → IsIn x xs → passes x ≡ true → list_any passes xs ≡ true
any_of passes [] h p = absurd h
any_of passes (y ∷ ys) (inl same) p = ap (λ b. b || list_any passes ys) (ap passes same ∙ p)
any_of passes (y ∷ ys) (inr later) p = by (passes y) (any_of passes ys later p)
  where
    by : (b : Bool) → list_any passes ys ≡ true → (b || list_any passes ys) ≡ true
    by true h = refl
    by false h = h

-- One number.

abbrev without : (ℕ → Bool) → ℕ → ℕ → Bool
without passes x i = passes i && not (i == x)

apart-from : {a b : ℕ} → a ≡ b → (a == b) ≡ false → ⊥
apart-from same e = grind (arith, nat_tests)

zero-more : (a b : ℕ) → a ≤ b → 0 + a ≤ b
zero-more a b h = omega (arith, h)

none-after : (x from n : ℕ) → x < from → count_if (λ i. i == x) (range_with_len from n) ≡ 0
none-after x from zero h = refl
none-after x from (suc n) h =
    ap (λ b. cond b 1 0 + count_if (λ i. i == x) (range_with_len (from + 1) n)) (more-differs from x h)
    ∙ ap (λ k. 0 + k) (none-after x (from + 1) n (omega arith))

at-most-once : (x from n : ℕ) → count_if (λ i. i == x) (range_with_len from n) ≤ 1
at-most-once x from zero = omega arith
at-most-once x from (suc n) = by (from == x) refl (at-most-once x (from + 1) n)
  where
    by : (b : Bool) → (from == x) ≡ b → count_if (λ i. i == x) (range_with_len (from + 1) n) ≤ 1
        → cond b 1 0 + count_if (λ i. i == x) (range_with_len (from + 1) n) ≤ 1
    by true e later =
        let same : from ≡ x = eqb-true from x e in
        let none : count_if (λ i. i == x) (range_with_len (from + 1) n) ≡ 0 = none-after x (from + 1) n (omega arith) in
        omega arith
    by false e later = omega (arith, later)

-- to leave out `x` lowers a count by at most the count of `x`
one-more : (passes : ℕ → Bool) (x : ℕ) (js : List ℕ) → count_if passes js ≤ count_if (without passes x) js + count_if (λ i. i == x) js
one-more passes x [] = omega arith
one-more passes x (j ∷ js) = by (passes j) (j == x) (one-more passes x js)
  where
    by : (p e : Bool) → count_if passes js ≤ count_if (without passes x) js + count_if (λ i. i == x) js
        → cond p 1 0 + count_if passes js ≤ (cond (p && not e) 1 0 + count_if (without passes x) js) + (cond e 1 0 + count_if (λ i. i == x) js)
    by true true h = omega arith
    by true false h = omega arith
    by false true h = omega arith
    by false false h = omega arith

one-less : (passes : ℕ → Bool) (x from n : ℕ) → from ≤ x → x < from + n → passes x ≡ true
    → count_if (without passes x) (range_with_len from n) + 1 ≤ count_if passes (range_with_len from n)
one-less passes x from zero low high pass = absurd (omega arith)
one-less passes x from (suc n) low high pass =
    by (from == x) refl (count_if-le (without passes x) passes (λ i e. and_first (passes i) (not (i == x)) e) rest) (λ less. one-less passes x (from + 1) n (omega arith) (omega arith) pass)
  where
    rest : List ℕ
    rest = range_with_len (from + 1) n

    step : (p : Bool) → count_if (without passes x) rest + 1 ≤ count_if passes rest
        → cond (p && true) 1 0 + count_if (without passes x) rest + 1 ≤ cond p 1 0 + count_if passes rest
    step true h = omega arith
    step false h = omega arith

    here : (p : Bool) → p ≡ true → count_if (without passes x) rest ≤ count_if passes rest
        → cond (p && false) 1 0 + count_if (without passes x) rest + 1 ≤ cond p 1 0 + count_if passes rest
    here true e h = omega arith
    here false e h = cc

    by : (b : Bool) → (from == x) ≡ b → count_if (without passes x) rest ≤ count_if passes rest
        → (from < x → count_if (without passes x) rest + 1 ≤ count_if passes rest)
        → cond (passes from && not b) 1 0 + count_if (without passes x) rest + 1 ≤ cond (passes from) 1 0 + count_if passes rest
    by true e fewer later = here (passes from) (ap passes (eqb-true from x e) ∙ pass) fewer
    by false e fewer later =
        elim (cases_lt from x) [
          | inl less ↦ step (passes from) (later less)
          | inr more ↦ let same : from ≡ x = omega arith in absurd (apart-from same e)
        ]

-- Items, by a number of each.

-- no item of `ys` has the number of `x`
pub later-apart : {X : Type 0} (key : X → ℕ) (x y : X) (ys : List X) → IsDistinct eqb (key x ∷ map key ys) → IsIn y ys → (key y == key x) ≡ false
unfolding IsDistinct
later-apart key x y [] d h = absurd h
later-apart key x y (z ∷ zs) d (inl same) = other (key x) (key z) (key y) d.0.0 (ap key same)
  where
    other : (a b c : ℕ) → eqb a b ≡ false → b ≡ c → (c == a) ≡ false
    other a b c e same = differs-turned a c (ap (λ c. a == c) (sym same) ∙ e)
later-apart key x y (z ∷ zs) d (inr later) = later-apart key x y zs (d.0.1, d.1.1) later

-- distinct items that are chosen are at most as many as the numbers below 16 that pass
pub items-few : {X : Type 0} (key : X → ℕ) (chosen : X → Bool) (passes : ℕ → Bool) (xs : List X) → IsDistinct eqb (map key xs)
    → ((x : X) → IsIn x xs → chosen x ≡ true → (passes (key x) ≡ true) × (key x < 16))
    → count_if chosen xs ≤ count_if passes (numbers 16)
unfolding IsDistinct
items-few key chosen passes [] d all = omega arith
items-few {X} key chosen passes (x ∷ xs) d all =
    by (chosen x) refl
    (λ each. items-few key chosen (without passes (key x)) xs d.1 each)
    (items-few key chosen passes xs d.1 (λ y inside c. all y (inr inside) c))
  where
    by : (b : Bool) → chosen x ≡ b
        → (((y : X) → IsIn y xs → chosen y ≡ true → (without passes (key x) (key y) ≡ true) × (key y < 16)) → count_if chosen xs ≤ count_if (without passes (key x)) (numbers 16))
        → count_if chosen xs ≤ count_if passes (numbers 16)
        → cond b 1 0 + count_if chosen xs ≤ count_if passes (numbers 16)
    by true e with without_it =
        let mine = all x (inl refl) e in
        let rest : count_if chosen xs ≤ count_if (without passes (key x)) (numbers 16) =
        with (λ y inside c.
        let its = all y (inr inside) c in
        (and_from (passes (key y)) (not (key y == key x)) its.0 (ap not (later-apart key x y xs d inside)), its.1)) in
        let less : count_if (without passes (key x)) (numbers 16) + 1 ≤ count_if passes (numbers 16) = one-less passes (key x) 0 16 (omega arith) (omega (arith, mine.1)) mine.0 in
        sum (count_if chosen xs) (count_if (without passes (key x)) (numbers 16)) (count_if passes (numbers 16)) rest less
      where
        sum : (a b c : ℕ) → a ≤ b → b + 1 ≤ c → 1 + a ≤ c
        sum a b c r l = omega (arith, r, l)
    by false e with without_it = zero-more (count_if chosen xs) (count_if passes (numbers 16)) without_it

none-passes : (passes : ℕ → Bool) → ((i : ℕ) → passes i ≡ true → false ≡ true) → (js : List ℕ) → count_if passes js ≤ 0
none-passes passes none [] = omega arith
none-passes passes none (j ∷ js) = by (passes j) refl (none-passes passes none js)
  where
    by : (b : Bool) → passes j ≡ b → count_if passes js ≤ 0 → cond b 1 0 + count_if passes js ≤ 0
    by true e later = absurd (let no : false ≡ true = none j e in cc)
    by false e later = zero-more (count_if passes js) 0 later

-- if each number that passes is the number of a chosen item, there are at most as many as chosen
-- items
pub numbers-few : {X : Type 0} (key : X → ℕ) (passes : ℕ → Bool) (chosen : X → Bool) (xs : List X)
    → ((i : ℕ) → passes i ≡ true → list_any (λ x. key x == i) xs ≡ true)
    → ((x : X) → IsIn x xs → passes (key x) ≡ true → chosen x ≡ true)
    → count_if passes (numbers 16) ≤ count_if chosen xs
numbers-few key passes chosen [] some each = none-passes passes some (numbers 16)
numbers-few {X} key passes chosen (x ∷ xs) some each =
    by (passes (key x)) refl
    (numbers-few key (without passes (key x)) chosen xs
    (λ i p. rest-some i (differs-turned i (key x) (not-true (i == key x) (and_second (passes i) (not (i == key x)) p))) (and_first (passes i) (not (i == key x)) p))
    (λ y inside p. each y (inr inside) (and_first (passes (key y)) (not (key y == key x)) p)))
    (λ other. numbers-few key passes chosen xs (λ i p. rest-some i (other i p) p) (λ y inside p. each y (inr inside) p))
  where
    later : (i : ℕ) (b : Bool) → b ≡ false → (b || list_any (λ y. key y == i) xs) ≡ true → list_any (λ y. key y == i) xs ≡ true
    later i true f h = cc
    later i false f h = h

    rest-some : (i : ℕ) → (key x == i) ≡ false → passes i ≡ true → list_any (λ y. key y == i) xs ≡ true
    rest-some i other p = later i (key x == i) other (some i p)

    counted : (c : Bool) → c ≡ true → count_if passes (numbers 16) ≤ 1 + count_if chosen xs → count_if passes (numbers 16) ≤ cond c 1 0 + count_if chosen xs
    counted true same h = h
    counted false same h = cc

    more : (c : Bool) → count_if passes (numbers 16) ≤ count_if chosen xs → count_if passes (numbers 16) ≤ cond c 1 0 + count_if chosen xs
    more true h = omega arith
    more false h = omega (arith, h)

    sum : (a b c d : ℕ) → a ≤ b → c ≤ 1 → d ≤ a + c → d ≤ 1 + b
    sum a b c d r o m = omega (arith, r, o, m)

    is-other : (i : ℕ) → passes i ≡ true → passes (key x) ≡ false → (t : Bool) → (key x == i) ≡ t → t ≡ false
    is-other i p q true h = absurd (let both : false ≡ true = sym q ∙ ap passes (eqb-true (key x) i h) ∙ p in cc)
    is-other i p q false h = refl

    by : (b : Bool) → passes (key x) ≡ b → count_if (without passes (key x)) (numbers 16) ≤ count_if chosen xs
        → (((i : ℕ) → passes i ≡ true → (key x == i) ≡ false) → count_if passes (numbers 16) ≤ count_if chosen xs)
        → count_if passes (numbers 16) ≤ cond (chosen x) 1 0 + count_if chosen xs
    by true e rest all =
        counted (chosen x) (each x (inl refl) e)
        (sum (count_if (without passes (key x)) (numbers 16)) (count_if chosen xs) (count_if (λ i. i == key x) (numbers 16)) (count_if passes (numbers 16))
        rest (at-most-once (key x) 0 16) (one-more passes (key x) (numbers 16)))
    by false e rest all = more (chosen x) (all (λ i p. is-other i p e (key x == i) refl))
