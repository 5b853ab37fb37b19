-- What is kept of the letters that are not wholly sent.
use Rattle.std.specs.Prelude.{ℕ, ◌≡◌, ◌≤◌, All, true, List, [], ◌∷◌, drop, length, map}
use Rattle.arrayvec.specs.ArrayVec.{ArrayVec}
use Rattle.rb_long.specs.Spelling.{is_length, parts_in, spelling_of}

abbrev pub spelling_in : ArrayVec ℕ → List ℕ
spelling_in letter = spelling_of letter.items

-- the words that are still to come if `sent` words of the first letter were given
abbrev pub waiting_in : ℕ → List (ArrayVec ℕ) → List (List ℕ)
waiting_in sent [] = []
waiting_in sent (letter ∷ letters) = drop sent (spelling_in letter) ∷ map spelling_in letters

-- the first letter has a word left
abbrev pub HasMore : ℕ → List (ArrayVec ℕ) → Type 0
HasMore sent [] = sent ≡ 0
HasMore sent (letter ∷ letters) = sent ≤ parts_in (length letter.items)

-- the letters have their lengths, and the first has a word left
pub record AreWaiting (sent : ℕ) (letters : List (ArrayVec ℕ)) : Type 0 where
  pub lengths : All (λ (l : ArrayVec ℕ). is_length (length l.items) ≡ true) letters
  pub more : HasMore sent letters
