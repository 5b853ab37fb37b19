-- How many of a list pass a test.
use Rattle.std.proofs.{Common.{◌≡◌, ℕ, ◌+◌, ◌<◌, ◌≤◌, Bool, true, false, cond, not, ◌||◌, List, [], ◌∷◌, ◌++◌, length, map, take, get_or, refl, ap, arith}, lemmas.List.take_more, lemmas.List.Elements.{All-head, All-tail}, lemmas.List.Recursion.is_count_by}
use Rattle.std.specs.Prelude.{count_by, All}
use Rattle.rb_base.specs.Counting.{count_if}

-- one item counts at most once
pub once : (b : Bool) → cond b 1 0 ≤ 1
once true = omega arith
once false = omega arith

pub count_if-cons : {X : Type 0} (p : X → Bool) (x : X) (xs : List X) → count_if p (x ∷ xs) ≡ cond (p x) 1 0 + count_if p xs
count_if-cons p x xs = refl

pub count_if-append : {X : Type 0} (p : X → Bool) (xs ys : List X) → count_if p (xs ++ ys) ≡ count_if p xs + count_if p ys
count_if-append p [] ys = omega arith
count_if-append p (x ∷ xs) ys = omega (arith, count_if-append p xs ys)

pub count_if-take_more : {X : Type 0} (p : X → Bool) (xs : List X) (i : ℕ) (d : X) → i < length xs
    → count_if p (take (i + 1) xs) ≡ count_if p (take i xs) + cond (p (get_or xs i d)) 1 0
count_if-take_more p xs i d h = rw (take_more xs i d h) (omega (arith, count_if-append p (take i xs) (get_or xs i d ∷ [])))

pub count_if-map : {X Y : Type 0} (p : Y → Bool) (f : X → Y) (xs : List X) → count_if p (map f xs) ≡ count_if (λ x. p (f x)) xs
count_if-map p f [] = refl
count_if-map p f (x ∷ xs) = ap (λ n. cond (p (f x)) 1 0 + n) (count_if-map p f xs)

pub count_if-le_length : {X : Type 0} (p : X → Bool) (xs : List X) → count_if p xs ≤ length xs
count_if-le_length p [] = omega arith
count_if-le_length p (x ∷ xs) = omega (arith, once (p x), count_if-le_length p xs)

-- every item passes
pub count_if-all : {X : Type 0} (p : X → Bool) (xs : List X) → All (λ x. p x ≡ true) xs → count_if p xs ≡ length xs
count_if-all p [] all = refl
count_if-all p (x ∷ xs) all =
    let here : p x ≡ true = All-head (λ y. p y ≡ true) x xs all in
    rw here (omega (arith, count_if-all p xs (All-tail (λ y. p y ≡ true) x xs all)))

-- no item passes
pub count_if-none : {X : Type 0} (p : X → Bool) (xs : List X) → All (λ x. p x ≡ false) xs → count_if p xs ≡ 0
count_if-none p [] all = refl
count_if-none p (x ∷ xs) all =
    let here : p x ≡ false = All-head (λ y. p y ≡ false) x xs all in
    rw here (omega (arith, count_if-none p xs (All-tail (λ y. p y ≡ false) x xs all)))

-- what passes the first test passes the second
pub count_if-le : {X : Type 0} (p q : X → Bool) → ((x : X) → p x ≡ true → q x ≡ true) → (xs : List X) → count_if p xs ≤ count_if q xs
count_if-le p q gives [] = omega arith
count_if-le p q gives (x ∷ xs) =
    let here : (b c : Bool) → (b ≡ true → c ≡ true) → cond b 1 0 ≤ cond c 1 0 =
    λ b c. elim b as (λ b. (b ≡ true → c ≡ true) → cond b 1 0 ≤ cond c 1 0) [ true ↦ λ h. rw (h refl) (omega arith) | false ↦ λ h. omega arith ] in
    omega (arith, here (p x) (q x) (gives x), count_if-le p q gives xs)

-- what passes the first test passes one of the two others
pub count_if-le_two : {X : Type 0} (p q r : X → Bool) → ((x : X) → p x ≡ true → (q x || r x) ≡ true) → (xs : List X) → count_if p xs ≤ count_if q xs + count_if r xs
count_if-le_two p q r gives [] = omega arith
count_if-le_two p q r gives (x ∷ xs) =
    let here : (a b c : Bool) → (a ≡ true → (b || c) ≡ true) → cond a 1 0 ≤ cond b 1 0 + cond c 1 0 =
    λ a b c. elim a as (λ a. (a ≡ true → (b || c) ≡ true) → cond a 1 0 ≤ cond b 1 0 + cond c 1 0) [
      | true ↦ elim b as (λ b. (true ≡ true → (b || c) ≡ true) → 1 ≤ cond b 1 0 + cond c 1 0) [ true ↦ λ h. omega arith | false ↦ λ h. rw (h refl) (omega arith) ]
      | false ↦ λ h. omega arith
    ] in
    omega (arith, here (p x) (q x) (r x) (gives x), count_if-le_two p q r gives xs)

-- if no item passes both tests, the two counts together are at most the length of the list
pub count_if-apart : {X : Type 0} (p q : X → Bool) → ((x : X) → p x ≡ true → q x ≡ false) → (xs : List X) → count_if p xs + count_if q xs ≤ length xs
count_if-apart p q apart [] = omega arith
count_if-apart p q apart (x ∷ xs) =
    let here : (a b : Bool) → (a ≡ true → b ≡ false) → cond a 1 0 + cond b 1 0 ≤ 1 =
    λ a b. elim a as (λ a. (a ≡ true → b ≡ false) → cond a 1 0 + cond b 1 0 ≤ 1) [ true ↦ λ h. rw (h refl) (omega arith) | false ↦ λ h. omega (arith, once b) ] in
    omega (arith, here (p x) (q x) (apart x), count_if-apart p q apart xs)

-- each item passes a test or its opposite
pub count_if-not : {X : Type 0} (p : X → Bool) (xs : List X) → count_if p xs + count_if (λ x. not (p x)) xs ≡ length xs
count_if-not p [] = refl
count_if-not p (x ∷ xs) =
    let here : (b : Bool) → cond b 1 0 + cond (not b) 1 0 ≡ 1 = λ b. elim b as (λ b. cond b 1 0 + cond (not b) 1 0 ≡ 1) [ true ↦ refl | false ↦ refl ] in
    omega (arith, here (p x), count_if-not p xs)

-- the two tests agree on each item
pub count_if-same : {X : Type 0} (p q : X → Bool) → ((x : X) → p x ≡ q x) → (xs : List X) → count_if p xs ≡ count_if q xs
count_if-same p q same [] = refl
count_if-same p q same (x ∷ xs) = rw (same x) (ap (λ n. cond (q x) 1 0 + n) (count_if-same p q same xs))

-- the count as the library counts
pub count_if-count_by : {X : Type 0} (p : X → Bool) (xs : List X) → count_if p xs ≡ count_by p xs
count_if-count_by {X} p xs =
    let step : (b : Bool) (n : ℕ) → cond b 1 0 + n ≡ cond b (1 + n) n =
    λ b n. elim b as (λ b. cond b 1 0 + n ≡ cond b (1 + n) n) [ true ↦ refl | false ↦ omega arith ] in
    is_count_by (count_if p) p refl (λ x ys. step (p x) (count_if p ys)) xs
