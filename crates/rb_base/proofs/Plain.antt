-- Tests, numbers, options and lists: what std has no name for.
use Rattle.std.proofs.{Common.{◌≡◌, ℕ, zero, suc, max, ◌+◌, ◌*◌, ◌<◌, ◌≤◌, ◌⊎◌, Bool, true, false, cond, not, ◌||◌, ◌&&◌, ◌==◌, nat_lt, if◌then◌else◌, List, [], ◌∷◌, ◌++◌, length, take, filter, slice_get, Option, Some, None, is_some, option_map, Result, Ok, Err, OnErr, inl, inr, refl, sym, ◌∙◌, ap, arith}, lemmas.Bool.or_cases, lemmas.Bool.Decides.nat_tests}
use Rattle.std.specs.{List.{last_or, range_with_len}, Option.option_or}
use Rattle.rb_base.specs.Counting.{numbers}

-- ---- tests

pub true-false : {P : Type 0} → true ≡ false → P
true-false e = absurd (cc)

pub and_first : (a b : Bool) → (a && b) ≡ true → a ≡ true
and_first true b h = refl
and_first false b h = h

pub and_second : (a b : Bool) → (a && b) ≡ true → b ≡ true
and_second true b h = h
and_second false b h = cc

pub and-true : (a : Bool) → (a && true) ≡ a
and-true true = refl
and-true false = refl

pub and-false : (a : Bool) → (a && false) ≡ false
and-false true = refl
and-false false = refl

pub or-true : (a : Bool) → (a || true) ≡ true
or-true true = refl
or-true false = refl

pub or-false : (a : Bool) → (a || false) ≡ a
or-false true = refl
or-false false = refl

pub and-not_true : (a : Bool) → (a && not true) ≡ false
and-not_true true = refl
and-not_true false = refl

pub or_middle : (a b c : Bool) → b ≡ true → (a || b || c) ≡ true
or_middle true b c h = refl
or_middle false true c h = refl
or_middle false false c h = cc

pub all_four : (a b c d : Bool) → a ≡ true → b ≡ true → c ≡ true → d ≡ true → (a && b && c && d) ≡ true
all_four a b c d p q r s = rw (p, q, r, s) refl

-- the second is asked only if the first holds
pub and-same : (s a b : Bool) → (s ≡ true → a ≡ b) → (s && a) ≡ (s && b)
and-same true a b same = same refl
and-same false a b same = refl

pub not_both : (a b : Bool) → a ≡ true → not (a && b) ≡ true → b ≡ false
not_both true true p h = cc
not_both true false p h = refl
not_both false b p h = cc

pub same_bool : (a b : Bool) → (a ≡ true → b ≡ true) → (b ≡ true → a ≡ true) → a ≡ b
same_bool true b to from = sym (to refl)
same_bool false true to from = from refl
same_bool false false to from = refl

pub either_by : (P Q : Type 0) (p q : Bool) → (p ≡ true → P) → (q ≡ true → Q) → p || q ≡ true → P ⊎ Q
either_by P Q p q shows_p shows_q h = elim (or_cases p q h) [ inl e ↦ inl (shows_p e) | inr e ↦ inr (shows_q e) ]

-- ---- numbers

pub eq_self : (a : ℕ) → (a == a) ≡ true
eq_self a = grind (arith, nat_tests)

pub less-differs : (a b : ℕ) → a < b → (a == b) ≡ false
less-differs a b h = grind (arith, nat_tests)

pub more-differs : (a b : ℕ) → b < a → (a == b) ≡ false
more-differs a b h = grind (arith, nat_tests)

pub less-from_differs : (a b : ℕ) → (a == b) ≡ false → a ≤ b → a < b
less-from_differs a b h le = grind (arith, nat_tests)

pub eq-either_way : (a b : ℕ) → (a == b) ≡ (b == a)
eq-either_way a b = grind (arith, nat_tests)

pub eq-turned : (a b : ℕ) (c : Bool) → (a == b) ≡ c → (b == a) ≡ c
eq-turned a b true h = grind (arith, nat_tests)
eq-turned a b false h = grind (arith, nat_tests)

pub differs-turned : (a b : ℕ) → (a == b) ≡ false → (b == a) ≡ false
differs-turned a b h = eq-turned a b false h

pub none_below : (a : ℕ) → nat_lt 0 a ≡ false → a ≡ 0
none_below a h = grind (arith, nat_tests)

pub less-same : (a b c d : ℕ) → a ≡ b → c ≡ d → a < c → b < d
less-same a b c d p q h = omega arith

pub max-less : (a b n : ℕ) → a < n → b < n → max a b < n
max-less a b n h k = omega (arith, h, k)

pub times-more : (a n : ℕ) → (a + 1) * n ≡ a * n + n
times-more a n = omega arith

-- ---- options and results

pub none_not_some : {X P : Type 0} (x : X) → None ≡ Some x → P
none_not_some x e = absurd (cc)

pub none_and_some : {X P : Type 0} (x : X) (o : Option X) → o ≡ None → o ≡ Some x → P
none_and_some x None e f = cc
none_and_some x (Some y) e f = cc

pub none_and_known : {X P : Type 0} (o : Option X) (x : X) → is_some o ≡ false → o ≡ Some x → P
none_and_known None x e h = cc
none_and_known (Some y) x e h = cc

pub none-if : {X : Type 0} (o : Option X) → (is_some o ≡ true → ⊥) → o ≡ None
none-if None h = refl
none-if (Some x) h = absurd (h refl)

pub none-from : {X : Type 0} (o : Option X) → is_some o ≡ false → o ≡ None
none-from None h = refl
none-from (Some x) h = cc

pub some-from : {X : Type 0} (o : Option X) → is_some o ≡ true → (x : X) × (o ≡ Some x)
some-from None h = cc
some-from (Some x) h = (x, refl)

pub is_some-map : {X Y : Type 0} (f : X → Y) (o : Option X) → is_some (option_map f o) ≡ is_some o
is_some-map f None = refl
is_some-map f (Some x) = refl

pub option_map-back : {X Y : Type 0} (f : X → Y) (o : Option X) (y : Y) → option_map f o ≡ Some y → (x : X) × ((o ≡ Some x) × (f x ≡ y))
option_map-back f None y e = cc
option_map-back f (Some x) y e = (x, (refl, let same : f x ≡ y = cc in same))

pub option_map-twice : {X Y Z : Type 0} (f : X → Y) (g : Y → Z) (o : Option X) → option_map g (option_map f o) ≡ option_map (λ x. g (f x)) o
option_map-twice f g None = refl
option_map-twice f g (Some x) = refl

pub option_or-none : {X : Type 0} (o : Option X) → option_or o None ≡ o
option_or-none None = refl
option_or-none (Some x) = refl

pub option_or-joined : {X : Type 0} (a b c : Option X) → option_or a (option_or b c) ≡ option_or (option_or a b) c
option_or-joined None b c = refl
option_or-joined (Some x) b c = refl

pub option_or-if : {X : Type 0} (b : Bool) (v : X) (a other : Option X) → (if b then Some v else option_or a other) ≡ option_or (if b then Some v else a) other
option_or-if true v a other = refl
option_or-if false v a other = refl

pub on_err : {T E P : Type 0} (r : Result T E) → P → OnErr r P
on_err (Ok x) p = tt
on_err (Err e) p = p

-- ---- lists

pub append-none : {X : Type 0} (xs ys : List X) → xs ++ ys ≡ [] → (xs ≡ []) × (ys ≡ [])
append-none [] ys e = (refl, e)
append-none (x ∷ xs) ys e = cc

pub last_or-append : {X : Type 0} (o : Option X) (xs : List X) (x : X) → last_or o (xs ++ x ∷ []) ≡ Some x
last_or-append o [] x = refl
last_or-append o (y ∷ xs) x = last_or-append (Some y) xs x

pub take-all : {X : Type 0} (xs : List X) (n : ℕ) → n ≡ length xs → take n xs ≡ xs
take-all [] n e = ap (λ n. take n []) e
take-all (x ∷ xs) n e = ap (λ n. take n (x ∷ xs)) e ∙ ap (λ l. x ∷ l) (take-all xs (length xs) refl)

pub slice_get-front : {X : Type 0} (xs ys : List X) (i : ℕ) → i < length xs → slice_get (xs ++ ys) i ≡ slice_get xs i
slice_get-front [] ys i h = absurd (omega arith)
slice_get-front (x ∷ xs) ys zero h = refl
slice_get-front (x ∷ xs) ys (suc i) h = slice_get-front xs ys i (omega arith)

pub slice_get-back : {X : Type 0} (xs ys : List X) (i : ℕ) → slice_get (xs ++ ys) (length xs + i) ≡ slice_get ys i
slice_get-back [] ys i = ap (slice_get ys) (omega arith)
slice_get-back (x ∷ xs) ys i =
    let e : length (x ∷ xs) + i ≡ suc (length xs + i) = omega arith in
    ap (slice_get (x ∷ (xs ++ ys))) e ∙ slice_get-back xs ys i

-- what passes the second test passes the first
pub filter-fewer : (t u : ℕ → Bool) → ((i : ℕ) → u i ≡ true → t i ≡ true) → (is : List ℕ) → filter t is ≡ [] → filter u is ≡ []
filter-fewer t u more [] none = refl
filter-fewer t u more (i ∷ is) none =
    let go : (b c : Bool) → (c ≡ true → b ≡ true) → cond b (i ∷ filter t is) (filter t is) ≡ [] → cond c (i ∷ filter u is) (filter u is) ≡ [] =
    λ b c. elim b as (λ b. (c ≡ true → b ≡ true) → cond b (i ∷ filter t is) (filter t is) ≡ [] → cond c (i ∷ filter u is) (filter u is) ≡ []) [
      | true ↦ λ gives some. cc
      | false ↦ elim c as (λ c. (c ≡ true → false ≡ true) → filter t is ≡ [] → cond c (i ∷ filter u is) (filter u is) ≡ []) [
        | true ↦ λ gives rest. let no : false ≡ true = gives refl in cc
        | false ↦ λ gives rest. filter-fewer t u more is rest
      ]
    ] in
    go (t i) (u i) (more i) none

pub range-end : (a n j : ℕ) → a + n ≡ j → range_with_len a (suc n) ≡ range_with_len a n ++ j ∷ []
range-end a zero j e = let same : a ≡ j = omega arith in ap (λ k. k ∷ []) same
range-end a (suc n) j e = ap (λ l. a ∷ l) (range-end (a + 1) n j (omega arith))

pub range-more : (a n : ℕ) → range_with_len a (suc n) ≡ range_with_len a n ++ (a + n) ∷ []
range-more a n = range-end a n (a + n) refl

pub numbers-more : (n : ℕ) → numbers (n + 1) ≡ numbers n ++ n ∷ []
numbers-more n = let on : n + 1 ≡ suc n = omega arith in ap numbers on ∙ range-end 0 n n (omega arith)
