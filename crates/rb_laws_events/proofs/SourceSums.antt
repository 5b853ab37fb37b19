-- For the law that pending events are few: sums over the nodes from which something comes.
use Rattle.std.proofs.{Common.{◌≡◌, ℕ, zero, suc, ◌+◌, ◌*◌, ◌<◌, ◌≤◌, ◌==◌, nat_lt, nat_le, Bool, true, false, List, [], ◌∷◌, cond, filter, length, refl, ap, subst, arith, inl, inr}, lemmas.Bool.cases_lt, lemmas.Bool.Decides.nat_tests}
use Rattle.rb_rules.specs.Hearing.{Coming}
use Rattle.rb_laws_events.proofs.{PendingLists.{is_later, is_now}, SameHeard.Every}

-- the sum of `f` over the numbers below `n`
abbrev pub sum_to : (ℕ → ℕ) → ℕ → ℕ
sum_to f zero = 0
sum_to f (suc n) = sum_to f n + f n

pub sum-le : (f g : ℕ → ℕ) (n : ℕ) → ((j : ℕ) → f j ≤ g j) → sum_to f n ≤ sum_to g n
sum-le f g zero le = omega arith
sum-le f g (suc n) le = let rest = sum-le f g n le in let here : f n ≤ g n = le n in omega (arith, rest, here)

-- if `g` is larger than `f` by `d` at one number and nowhere smaller, its sum is larger by `d`
pub sum-larger : (f g : ℕ → ℕ) (a d n : ℕ) → a < n → ((j : ℕ) → f j ≤ g j) → f a + d ≤ g a → sum_to f n + d ≤ sum_to g n
sum-larger f g a d zero below le more = absurd (omega (arith, below))
sum-larger f g a d (suc n) below le more = elim (cases_lt a n) [
  | inl lt ↦ let rest = sum-larger f g a d n lt le more in let here : f n ≤ g n = le n in omega (arith, rest, here)
  | inr ge ↦
      let is : a ≡ n = omega (arith, below, ge) in
      let here : f n + d ≤ g n = subst (λ k. f k + d ≤ g k) is more in
      let rest = sum-le f g n le in
      omega (arith, rest, here)
]

pub sum-plus : (f g h : ℕ → ℕ) (n : ℕ) → ((j : ℕ) → f j ≤ g j + h j) → sum_to f n ≤ sum_to g n + sum_to h n
sum-plus f g h zero le = omega arith
sum-plus f g h (suc n) le = let rest = sum-plus f g h n le in let here : f n ≤ g n + h n = le n in omega (arith, rest, here)

pub sum-twos : (n : ℕ) → sum_to (λ _. 2) n ≡ 2 * n
sum-twos zero = omega arith
sum-twos (suc n) = let rest = sum-twos n in omega (arith, rest)

sum-none : (p : ℕ → Bool) (n : ℕ) → ((j : ℕ) → j < n → p j ≡ false) → sum_to (λ j. cond (p j) 1 0) n ≡ 0
sum-none p zero fails = refl
sum-none p (suc n) fails =
    let rest = sum-none p n (λ j lt. fails j (omega (arith, lt))) in
    let here : ◌≡◌ {A = ℕ} (cond (p n) 1 0) 0 = ap (λ b. cond b 1 0) (fails n (omega arith)) in
    omega (arith, rest, here)

-- if at most one number passes, at most 1 is counted
sum-once : (p : ℕ → Bool) (n : ℕ) → ((a b : ℕ) → p a ≡ true → p b ≡ true → a ≡ b) → sum_to (λ j. cond (p j) 1 0) n ≤ 1
sum-once p zero once = omega arith
sum-once p (suc n) once = by (sum-once p n once) (p n) refl
  where
    differs : (j : ℕ) → j < n → p n ≡ true → (b : Bool) → p j ≡ b → p j ≡ false
    differs j lt e true f = let is : j ≡ n = once j n f e in absurd (omega (arith, lt, is))
    differs j lt e false f = f

    by : sum_to (λ j. cond (p j) 1 0) n ≤ 1 → (b : Bool) → p n ≡ b → sum_to (λ j. cond (p j) 1 0) n + cond (p n) 1 0 ≤ 1
    by rest true e =
        let none = sum-none p n (λ j lt. differs j lt e (p j) refl) in
        let here : ◌≡◌ {A = ℕ} (cond (p n) 1 0) 1 = ap (λ b. cond b 1 0) e in
        omega (arith, none, here)
    by rest false e =
        let here : ◌≡◌ {A = ℕ} (cond (p n) 1 0) 0 = ap (λ b. cond b 1 0) e in
        omega (arith, rest, here)

-- if each item is of at most one source, all sources together have at most as many items as there
-- are
pub items-once : {X : Type 0} (q : ℕ → X → Bool) (n : ℕ) → ((x : X) (a b : ℕ) → q a x ≡ true → q b x ≡ true → a ≡ b) → (xs : List X)
    → sum_to (λ j. length (filter (q j) xs)) n ≤ length xs
items-once q n once [] = let none = sum-none (λ _. false) n (λ _ _. refl) in omega (arith, none)
items-once q n once (x ∷ xs) =
    let rest = items-once q n once xs in
    let one = sum-once (λ j. q j x) n (once x) in
    let both = sum-plus (λ j. length (filter (q j) (x ∷ xs))) (λ j. length (filter (q j) xs)) (λ j. cond (q j x) 1 0) n (λ j. by j (q j x)) in
    omega (arith, rest, one, both)
  where
    by : (j : ℕ) (b : Bool) → length (cond b (x ∷ filter (q j) xs) (filter (q j) xs)) ≤ length (filter (q j) xs) + cond b 1 0
    by j true = omega arith
    by j false = omega arith

-- how many messages come from source `j`, by time `t` and later
abbrev pub coming_of_source : ℕ → List Coming → ℕ → ℕ
coming_of_source t coming j = length (filter (is_now j t) coming) + length (filter (is_later j t) coming)

longer : (q : Coming → Bool) (c : Coming) (cs : List Coming) → length (filter q (c ∷ cs)) ≡ length (filter q cs) + cond (q c) 1 0
longer q c cs = by (q c)
  where
    by : (b : Bool) → length (cond b (c ∷ filter q cs) (filter q cs)) ≡ length (filter q cs) + cond b 1 0
    by true = omega arith
    by false = omega arith

-- an item is counted once at its source
counted : (t : ℕ) (c : Coming) → cond (is_now c.from t c) 1 0 + cond (is_later c.from t c) 1 0 ≡ 1
counted t c = elim (cases_lt t c.time) [
  | inl lt ↦
      let not_early : nat_le c.time t ≡ false = grind (arith, nat_tests) in
      let late : nat_lt t c.time ≡ true = grind (arith, nat_tests) in
      rw (itself c.from, not_early, late) refl
  | inr ge ↦
      let early : nat_le c.time t ≡ true = grind (arith, nat_tests) in
      let not_late : nat_lt t c.time ≡ false = grind (arith, nat_tests) in
      rw (itself c.from, early, not_late) refl
]
  where
    itself : (a : ℕ) → (a == a) ≡ true
    itself a = grind (arith, nat_tests)

-- at most as many messages come as come from all sources together
pub all-of-sources : (t n : ℕ) (coming : List Coming) → Every (λ c. c.from < n) coming → length coming ≤ sum_to (coming_of_source t coming) n
all-of-sources t n [] e = omega arith
all-of-sources t n (c ∷ cs) e =
    let rest = all-of-sources t n cs e.1 in
    let here = counted t c in
    let now = longer (is_now c.from t) c cs in
    let later = longer (is_later c.from t) c cs in
    let more = sum-larger (coming_of_source t cs) (coming_of_source t (c ∷ cs)) c.from 1 n e.0
    (λ j. let now = longer (is_now j t) c cs in let later = longer (is_later j t) c cs in omega (arith, now, later)) (omega (arith, here, now, later)) in
    omega (arith, rest, more)
