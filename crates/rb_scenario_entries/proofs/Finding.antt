-- Entries that are found, and lists that are made by number.
use Rattle.std.proofs.{Common.{◌≡◌, ◌+◌, ◌<◌, ℕ, zero, suc, List, [], ◌∷◌, ◌++◌, append_assoc, Bool, true, false, cond, Some, map, refl, sym, ap, ◌∙◌, subst, arith, inl, inr}, lemmas.Bool.{and_parts, and_left, and_right}, lemmas.Bool.and_from, lemmas.List.Folds.list_all-append, lemmas.List.FromFn.map-range_with_len_more}
use Rattle.std.specs.List.{find, list_all, range_with_len}
use Rattle.rb_base.specs.Counting.{numbers}
use Rattle.rb_scenario_entries.specs.{declared.refusal.Refusal.Refusal, Outcome.IsRefusalBy}

-- what is found passes a test that all pass
pub found_passes : {X : Type 0} (p q : X → Bool) (xs : List X) (x : X) → Some x ≡ find p xs → list_all q xs ≡ true → q x ≡ true
found_passes p q [] x e h = cc
found_passes p q (y ∷ ys) x e h =
    let parts = and_parts (q y) (list_all q ys) h in
    let go : (b : Bool) → p y ≡ b → q x ≡ true = λ b. elim b as (λ b. p y ≡ b → q x ≡ true) [
      | true ↦ λ is. let same : Some x ≡ Some y = e ∙ ap (λ b. cond b (Some y) (find p ys)) is in let eq : y ≡ x = cc in subst (λ z. q z ≡ true) eq parts.0
      | false ↦ λ is. found_passes p q ys x (e ∙ ap (λ b. cond b (Some y) (find p ys)) is) parts.1
    ] in go (p y) refl

-- if one item fails, the whole fails
pub all-numbers_fails : {X : Type 0} (p : X → Bool) (f : ℕ → X) (a n i : ℕ) → i < n → p (f (a + i)) ≡ false → list_all p (map f (range_with_len a n)) ≡ false
all-numbers_fails p f a zero i h e = absurd (omega arith)
all-numbers_fails p f a (suc n) zero h e =
    let is : a + 0 ≡ a = omega arith in
    and_left (p (f a)) (list_all p (map f (range_with_len (a + 1) n))) (subst (λ j. p (f j) ≡ false) is e)
all-numbers_fails p f a (suc n) (suc i) h e =
    let is : a + suc i ≡ a + 1 + i = omega arith in
    and_right (p (f a)) (list_all p (map f (range_with_len (a + 1) n))) (all-numbers_fails p f (a + 1) n i (omega arith) (subst (λ j. p (f j) ≡ false) is e))

pub all-below_fails : {X : Type 0} (p : X → Bool) (f : ℕ → X) (n i : ℕ) → i < n → p (f i) ≡ false → list_all p (map f (numbers n)) ≡ false
all-below_fails p f n i h e = let is : i ≡ 0 + i = omega arith in all-numbers_fails p f 0 n i h (subst (λ j. p (f j) ≡ false) is e)

-- one more item is made by its number
pub made_more : {X : Type 0} (f : ℕ → X) (i : ℕ) (xs ys zs : List X) (x : X) → zs ≡ ys ++ x ∷ [] → ys ≡ xs ++ map f (numbers i) → x ≡ f i
    → zs ≡ xs ++ map f (numbers (i + 1))
made_more f i xs ys zs x pushed before is =
    let at : 0 + i ≡ i = omega arith in
    pushed ∙ ap (λ l. l ++ x ∷ []) before ∙ ap (λ z. (xs ++ map f (numbers i)) ++ z ∷ []) is
    ∙ append_assoc xs (map f (numbers i)) (f i ∷ []) ∙ ap (λ l. xs ++ l) (sym (map-range_with_len_more f 0 i i at))

pub passing_more : {X : Type 0} (p : X → Bool) (f : ℕ → X) (i : ℕ) (x : X) → list_all p (map f (numbers i)) ≡ true → x ≡ f i → p x ≡ true
    → list_all p (map f (numbers (i + 1))) ≡ true
passing_more p f i x before is passes =
    let at : 0 + i ≡ i = omega arith in
    ap (list_all p) (map-range_with_len_more f 0 i i at) ∙ list_all-append p (map f (numbers i)) (f i ∷ [])
    ∙ and_from _ _ before (and_from _ _ (subst (λ z. p z ≡ true) is passes) refl)

-- a rule that fails for a part fails for the whole
pub refused_whole : (why : Refusal) (part whole : Bool) (refusal : Refusal) → (part ≡ false → whole ≡ false) → IsRefusalBy why part refusal → IsRefusalBy why whole refusal
refused_whole why part whole refusal h e = elim e [ inl memory ↦ inl memory | inr broken ↦ inr (broken.0, h broken.1) ]
