-- What stands by node, before there is any event: the same at each.
use Rattle.std.proofs.{Common.{◌≡◌, ℕ, ◌+◌, List, [], ◌∷◌, ◌++◌, map, sym, ap, ◌∙◌, arith}, lemmas.List.FromFn.map-range_with_len_more}
use Rattle.rb_base.specs.Counting.{numbers}

-- one more of `n` empty items is made
pub one_more : {X : Type 0} (empty : X) (n : ℕ) (all : List X) (next : X) (more : List X) → more ≡ all ++ next ∷ [] → next ≡ empty
    → all ≡ map (λ _. empty) (numbers n) → more ≡ map (λ _. empty) (numbers (n + 1))
one_more empty n all next more is none so_far =
    is ∙ ap (λ x. all ++ x ∷ []) none ∙ ap (λ xs. xs ++ empty ∷ []) so_far
    ∙ sym (map-range_with_len_more (λ _. empty) 0 n n (omega arith))
