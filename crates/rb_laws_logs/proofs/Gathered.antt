-- For the law of record and replay: what a text takes of the items of a list, each with its number,
-- if it takes something of one alone.
use Rattle.std.proofs.{Common.{◌≡◌, ℕ, zero, suc, ◌+◌, ◌≤◌, ◌==◌, false, List, [], ◌∷◌, ◌++◌, refl, ap, ◌∙◌, arith, Option, Some, None, slice_get}, lemmas.Bool.ne_eqb, lemmas.List.append-nil}
use Rattle.std.specs.{List.cons_option, Prelude.{flat_map, filter_map, map}}
use Rattle.rb_rules.specs.{Book.map_from, ExactStage.present}

-- what is taken of each item in order, the first having this number
abbrev pub gather : {X : Type 0} → ℕ → (ℕ → X → List ℕ) → List X → List ℕ
gather n take [] = []
gather n take (x ∷ xs) = take n x ++ gather (n + 1) take xs

-- what is taken of a value, and nothing if there is none
abbrev pub if_there : {X : Type 0} → (X → List ℕ) → Option X → List ℕ
if_there take None = []
if_there take (Some x) = take x

pub gather-none : {X : Type 0} (n : ℕ) (take : ℕ → X → List ℕ) (xs : List X) → ((k : ℕ) (x : X) → n ≤ k → take k x ≡ []) → gather n take xs ≡ []
gather-none n take [] none = refl
gather-none n take (x ∷ xs) none = ap (λ l. l ++ gather (n + 1) take xs) (none n x (omega arith)) ∙ gather-none (n + 1) take xs (λ k y le. none k y (omega arith))

pub gather-one : {X : Type 0} (n i : ℕ) {m : ℕ} (take : ℕ → X → List ℕ) (xs : List X) {x : X} → slice_get xs i ≡ Some x → n + i ≡ m
    → ((k : ℕ) (y : X) → (k == m) ≡ false → take k y ≡ []) → gather n take xs ≡ take m x
gather-one n i take [] there sum none = cc
gather-one n zero {m} take (y ∷ ys) {x} there sum none =
    let same : y ≡ x = cc in
    let at : n ≡ m = omega arith in
    ap (λ l. take n y ++ l) (gather-none (n + 1) take ys (λ k z le. none k z (ne_eqb k m (λ e. omega arith))))
    ∙ append-nil (take n y) ∙ ap (take n) same ∙ ap (λ k. take k x) at
gather-one n (suc i) {m} take (y ∷ ys) there sum none =
    ap (λ l. l ++ gather (n + 1) take ys) (none n y (ne_eqb n m (λ e. omega arith)))
    ∙ gather-one (n + 1) i take ys there (omega arith) none

-- the items that are made of those of a list, as far as they are there
pub filtered : {X Y Z : Type 0} (take : Z → List ℕ) (pick : Y → Option Z) (make : ℕ → X → Y) (n : ℕ) (xs : List X)
    → flat_map take (filter_map pick (map_from n make xs)) ≡ gather n (λ k x. if_there take (pick (make k x))) xs
filtered take pick make n [] = refl
filtered {X} {Y} {Z} take pick make n (x ∷ xs) = by (pick (make n x)) (filtered take pick make (n + 1) xs)
  where
    by : (o : Option Z) → flat_map take (filter_map pick (map_from (n + 1) make xs)) ≡ gather (n + 1) (λ k x. if_there take (pick (make k x))) xs
        → flat_map take (cons_option o (filter_map pick (map_from (n + 1) make xs))) ≡ if_there take o ++ gather (n + 1) (λ k x. if_there take (pick (make k x))) xs
    by None rest = rest
    by (Some z) rest = ap (λ l. take z ++ l) rest

pub mapped : {Y Z : Type 0} (take : Z → List ℕ) (make : Y → Z) (ys : List Y) → flat_map take (map make ys) ≡ flat_map (λ y. take (make y)) ys
mapped take make [] = refl
mapped take make (y ∷ ys) = ap (λ l. take (make y) ++ l) (mapped take make ys)

pub present-append : {X : Type 0} (xs ys : List (Option X)) → present (xs ++ ys) ≡ present xs ++ present ys
present-append [] ys = refl
present-append (None ∷ xs) ys = present-append xs ys
present-append (Some x ∷ xs) ys = ap (λ l. x ∷ l) (present-append xs ys)

-- what is taken of made items is what is taken of each item as it is made
pub gather-made : {X Y : Type 0} (n : ℕ) (take : ℕ → Y → List ℕ) (make : ℕ → X → Y) (xs : List X)
    → gather n take (map_from n make xs) ≡ gather n (λ k x. take k (make k x)) xs
gather-made n take make [] = refl
gather-made n take make (x ∷ xs) = ap (λ l. take n (make n x) ++ l) (gather-made (n + 1) take make xs)
