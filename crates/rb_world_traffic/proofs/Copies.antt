-- What holds if nothing is to be said.
use Rattle.std.proofs.{Common.{◌≡◌, ◌==◌, ℕ, true, List, [], ◌∷◌, length, refl, arith}, lemmas.Bool.eqb-true}

pub none_there : (xs : List ℕ) → (length xs == 0) ≡ true → xs ≡ []
none_there [] is = refl
none_there (x ∷ xs) is = let long : length (x ∷ xs) ≡ 0 = eqb-true (length (x ∷ xs)) 0 is in absurd (omega arith)
