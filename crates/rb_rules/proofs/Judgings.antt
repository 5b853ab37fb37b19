-- For readers of the laws; no contract cites this yet. If two good receivers saw a node
-- differently, one of them accepted something from it. So the three classes leave nothing out, and
-- no two of them have a node in common.
use Rattle.std.proofs.{Common.{◌≡◌, ℕ, Bool, true, false, ◌&&◌, ◌||◌, not, List, [], ◌∷◌, ◌⊎◌, inl, inr, sym, subst, refl}, lemmas.Bool.{and_from, or_cases, or_right}}
use Rattle.std.specs.List.{list_any}
use Rattle.rb_base.specs.{Counting.numbers, Nodes.{Side, other, has}, declared.values.See.See, declared.values.See.TheVariants.{Nothing, Value, Time}}
use Rattle.rb_base.proofs.Plain.{and_first, and_second}
use Rattle.rb_rules.specs.Judging.{JudgedStage, are_alike, is_something, was_taken, was_unlike, is_asymmetric, is_benign}

not_later : (a b : Bool) → not b ≡ false → not (a || b) ≡ false
not_later true b h = refl
not_later false b h = h

-- one of two sights that are not alike is something
some_of_unlike : (eps : ℕ) (a b : See) → not (are_alike eps a b) ≡ true → (is_something a ≡ true) ⊎ (is_something b ≡ true)
some_of_unlike eps Nothing Nothing h = inl h
some_of_unlike eps Nothing (Value b) h = inr refl
some_of_unlike eps Nothing (Time b) h = inr refl
some_of_unlike eps (Value a) b h = inl refl
some_of_unlike eps (Time a) b h = inl refl

-- node `i` is good, and took something
abbrev took : (ℕ → Bool) → (ℕ → See) → ℕ → Bool
took good see i = good i && is_something (see i)

-- node `b` is good, and saw something unlike sight `a`
abbrev differs : ℕ → (ℕ → Bool) → (ℕ → See) → See → ℕ → Bool
differs eps good see a b = good b && not (are_alike eps a (see b))

-- if a sight is unlike `a`, that sight or `a` is something
one_unlike : (eps : ℕ) (good : ℕ → Bool) (see : ℕ → See) (a : See) (ys : List ℕ) → list_any (differs eps good see a) ys ≡ true
    → (is_something a ≡ true) ⊎ (list_any (took good see) ys ≡ true)
one_unlike eps good see a [] h = absurd (cc)
one_unlike eps good see a (y ∷ ys) h =
    elim (or_cases (differs eps good see a y) (list_any (differs eps good see a) ys) h) [
      | inl here ↦ elim (some_of_unlike eps a (see y) (and_second (good y) (not (are_alike eps a (see y))) here)) [
        | inl first ↦ inl first
        | inr second ↦
            inr (let now : took good see y ≡ true = and_from (good y) (is_something (see y)) (and_first (good y) (not (are_alike eps a (see y))) here) second in
            let P : Bool → Type 0 = λ t. (t || list_any (took good see) ys) ≡ true in subst P (sym now) refl)
      ]
      | inr later ↦ elim (one_unlike eps good see a ys later) [
        | inl first ↦ inl first
        | inr second ↦ inr (or_right (took good see y) (list_any (took good see) ys) second)
      ]
    ]

-- if two sights are unlike each other, one of them is something
some_unlike : (eps : ℕ) (good : ℕ → Bool) (see : ℕ → See) (xs ys : List ℕ)
    → list_any (λ a. good a && list_any (differs eps good see (see a)) ys) xs ≡ true
    → (list_any (took good see) xs ≡ true) ⊎ (list_any (took good see) ys ≡ true)
some_unlike eps good see [] ys h = absurd (cc)
some_unlike eps good see (x ∷ xs) ys h =
    let inner : Bool = list_any (differs eps good see (see x)) ys in
    let P : Bool → Type 0 = λ t. (t || list_any (took good see) xs) ≡ true in
    elim (or_cases (good x && inner) (list_any (λ a. good a && list_any (differs eps good see (see a)) ys) xs) h) [
      | inl here ↦ elim (one_unlike eps good see (see x) ys (and_second (good x) inner here)) [
        | inl first ↦ inl (subst P (sym (and_from (good x) (is_something (see x)) (and_first (good x) inner here) first)) refl)
        | inr second ↦ inr second
      ]
      | inr later ↦ elim (some_unlike eps good see xs ys later) [
        | inl first ↦ inl (or_right (took good see x) (list_any (took good see) xs) first)
        | inr second ↦ inr second
      ]
    ]

either_way : {P : Type 0} → P ⊎ P → P
either_way (inl p) = p
either_way (inr p) = p

-- a node that was seen unlike in a stage was taken in it
pub unlike_was_taken : (kind : Side) (j : ℕ) (s : JudgedStage) → was_unlike kind j s ≡ true → was_taken kind j s ≡ true
unlike_was_taken kind j s h =
    either_way (some_unlike s.eps (has (s.good (other kind))) (λ i. s.sight (other kind) i j) (numbers 16) (numbers 16) h)

-- an asymmetric node is not benign
pub asymmetric_was_taken : (kind : Side) (stages : List JudgedStage) (j : ℕ) → is_asymmetric kind stages j ≡ true → is_benign kind stages j ≡ false
asymmetric_was_taken kind [] j h = absurd (cc)
asymmetric_was_taken kind (s ∷ earlier) j h =
    let P : Bool → Type 0 = λ t. not (t || list_any (was_taken kind j) earlier) ≡ false in
    elim (or_cases (was_unlike kind j s) (list_any (was_unlike kind j) earlier) h) [
      | inl here ↦ subst P (sym (unlike_was_taken kind j s here)) refl
      | inr before ↦ not_later (was_taken kind j s) (list_any (was_taken kind j) earlier) (asymmetric_was_taken kind earlier j before)
    ]
