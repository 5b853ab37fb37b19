-- Lists that are made by number.
use Rattle.std.proofs.{Common.{◌≡◌, ◌+◌, ◌<◌, ℕ, List, [], ◌∷◌, ◌++◌, map, set, length, get_or, sym, subst, ap, ◌∙◌, arith, inl, inr}, lemmas.Bool.cases_lt, lemmas.List.{get_or-set_other, get_or-set_same}, lemmas.List.FromFn.{get_or-map-range_with_len, length-map-range_with_len, map-range_with_len_more}}
use Rattle.std.specs.Prelude.{All}
use Rattle.rb_base.specs.Counting.{numbers}

-- a list of the first `i` values of `f` with `f i` after it has the first i + 1 values
pub made_more : {X : Type 0} (f : ℕ → X) (i : ℕ) (before after : List X) (x : X) → after ≡ before ++ x ∷ [] → before ≡ map f (numbers i) → x ≡ f i
    → after ≡ map f (numbers (i + 1))
made_more f i before after x pushed made is =
    let at : 0 + i ≡ i = omega arith in
    pushed ∙ ap (λ l. l ++ x ∷ []) made ∙ ap (λ z. map f (numbers i) ++ z ∷ []) is ∙ sym (map-range_with_len_more f 0 i i at)

-- after item `i` is set to `f i`, the first i + 1 items are values of `f`
pub filled_more : (f : ℕ → ℕ) (xs : List ℕ) (i x : ℕ) → i < length xs → x ≡ f i → ((k : ℕ) → k < i → get_or xs k 0 ≡ f k)
    → (k : ℕ) → k < i + 1 → get_or (set xs i x) k 0 ≡ f k
filled_more f xs i x inside is filled k h = elim (cases_lt k i) [
  | inl lt ↦ get_or-set_other xs i k x 0 (λ e. omega (arith, e, lt)) ∙ filled k lt
  | inr ge ↦ let same : k ≡ i = omega (arith, ge, h) in rw same (get_or-set_same xs i x 0 inside ∙ is)
]

-- what holds of each that is made by number
pub each_of : {X : Type 0} (P : X → Type 0) (f : ℕ → X) (n : ℕ) → ((i : ℕ) → i < n → P (f i)) → All P (map f (numbers n))
each_of P f n holds = λ k d lt.
    let at : 0 + k ≡ k = omega arith in
    let inside : k < n = omega (arith, lt, length-map-range_with_len f 0 n) in
    subst P (sym (get_or-map-range_with_len f 0 n k k d inside at)) (holds k inside)
