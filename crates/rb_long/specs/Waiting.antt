-- The letters that a sender has not wholly sent, each as its words that are still to come.
use Rattle.std.specs.Prelude.{⊤, ℕ, nat_le, nat_lt, Result, Ok, Err, List, [], ◌∷◌, ◌++◌, drop, length, get_or, Option, Some, None, if◌then◌else◌}
use Rattle.rb_long.specs.{Spelling.{is_length, spelling_of}, declared.refusal.LongRefusal.LongRefusal, declared.refusal.LongRefusal.TheVariants.{Length, Full}}

-- why a letter is not taken: it has no or too many bytes, or eight letters wait
abbrev pub refusal_of : List (List ℕ) → List ℕ → Option LongRefusal
refusal_of waiting letter =
    if is_length (length letter) then (if nat_lt (length waiting) 8 then None else Some Full) else Some Length

-- why the letter was not taken, if it was not
abbrev pub error_in : Result ⊤ LongRefusal → Option LongRefusal
error_in (Ok taken) = None
error_in (Err refusal) = Some refusal

-- the letter waits behind the others
abbrev pub with_letter : List (List ℕ) → List ℕ → List (List ℕ)
with_letter waiting letter = waiting ++ spelling_of letter ∷ []

-- the next word, 0 if nothing waits
abbrev pub next_word_of : List (List ℕ) → ℕ
next_word_of [] = 0
next_word_of (words ∷ rest) = get_or words 0 0

-- without that word. A letter whose last word it was has been sent
abbrev pub without_word : List (List ℕ) → List (List ℕ)
without_word [] = []
without_word (words ∷ rest) = if nat_le (length words) 1 then rest else drop 1 words ∷ rest
