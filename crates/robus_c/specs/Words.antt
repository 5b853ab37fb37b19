-- The words of a call.
use Rattle.std.specs.{Prelude.{ℕ, ◌==◌, List, [], ◌∷◌}, List.slice_split}

-- the words that bytes spell: their parts between NUL bytes, and none if there is no byte
abbrev pub words_in : List ℕ → List (List ℕ)
words_in [] = []
words_in (b ∷ bs) = slice_split (λ c. c == 0) (b ∷ bs)
