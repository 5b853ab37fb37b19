-- How output comes into a host's bytes, and how a program answers there.
use Rattle.std.specs.{Prelude.{ℕ, ◌≡◌, ◌≤◌, ◌<◌, ◌⊎◌, List, [], length, take, drop, min, pos}, Str.IsUtf8}
use Rattle.robus_c.specs.{Words.words_in, declared.answer.Answer.Answer}

-- `after` begins with these bytes, or with as many of them as it has room for, and the rest is as
-- it was. The answer says how many there are; it has this number if all of them fit, and otherwise
-- 9
pub record IsPut (number : ℕ) (bytes before after : List ℕ) (answer : Answer) : Type 0 where
  pub many : answer.length ≡ length bytes
  pub front : take (min (length bytes) (length before)) after ≡ take (min (length bytes) (length before)) bytes
  pub rest : drop (min (length bytes) (length before)) after ≡ drop (min (length bytes) (length before)) before
  pub fits : length bytes ≤ length before → answer.status ≡ pos number
  pub too_small : length before < length bytes → answer.status ≡ pos 9

-- the bytes are not UTF-8, and nothing is put there
pub record AreNoText (words before after : List ℕ) (answer : Answer) : Type 0 where
  pub no_text : ¬ IsUtf8 words
  pub put : IsPut 8 [] before after answer

-- a program says this output, with a status of this number, to words and an input, and that output
-- is put there
pub record IsAnswered (Says : List (List ℕ) → List ℕ → List ℕ → ℕ → Type 0) (words : List (List ℕ)) (input before after : List ℕ) (answer : Answer) : Type 0 where
  pub number : ℕ
  pub output : List ℕ
  pub says : Says words input output number
  pub put : IsPut number output before after answer

-- the call answers; or memory runs out, and then nothing is put there
abbrev pub MayAnswer : (List (List ℕ) → List ℕ → List ℕ → ℕ → Type 0) → List (List ℕ) → List ℕ → List ℕ → List ℕ → Answer → Type 0
MayAnswer Says words input before after answer = IsPut 7 [] before after answer ⊎ IsAnswered Says words input before after answer

-- a call of a program
abbrev pub IsAnswer : (List (List ℕ) → List ℕ → List ℕ → ℕ → Type 0) → List ℕ → List ℕ → List ℕ → List ℕ → Answer → Type 0
IsAnswer Says words input before after answer = AreNoText words before after answer ⊎ MayAnswer Says (words_in words) input before after answer
