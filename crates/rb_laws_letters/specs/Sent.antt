-- The words of letters, and what a sender has made of its letters.
use Rattle.std.specs.{Prelude.{ℕ, ◌≡◌, ◌<◌, ◌==◌, not, All, true, Option, Some, None, List, [], ◌∷◌, ◌++◌, filter, length, map}, List.flat_map}
use Rattle.rb_base.specs.{declared.values.Heard.Heard, declared.values.Heard.TheVariants.Word}
use Rattle.rb_long.specs.{Spelling.{is_length, spelling_of}, Waiting.{next_word_of, refusal_of, with_letter, without_word}, declared.refusal.LongRefusal.LongRefusal}

-- Letters and words.

-- 1 to 255 bytes make a letter
pub record IsLetter (letter : List ℕ) : Type 0 where
  pub length : is_length (length letter) ≡ true
  pub bytes : All (λ b. b < 256) letter

-- the words of the letters, one letter after another
abbrev pub words_of : List (List ℕ) → List ℕ
words_of letters = flat_map spelling_of letters

-- the words without the zeros, which say nothing
abbrev pub without_zeros : List ℕ → List ℕ
without_zeros words = filter (λ w. not (w == 0)) words

-- words as the values that a port delivers
abbrev pub heard_words : List ℕ → List Heard
heard_words words = map (λ w. Word w) words

-- a list is the first part of another, which may be all of it
abbrev pub IsFirstPart : {X : Type 0} → List X → List X → Type 0
IsFirstPart {X} xs ys = (rest : List X) × (ys ≡ xs ++ rest)

-- A sender.

-- what is asked of a sender: to take a letter, or to give its next word
pub data Call : Type 0 where
  Push : (letter : List ℕ) → Call
  Next : Call

-- what waits at a sender, the letters that it has taken, and the words that it has given
pub record Sent : Type 0 where
  pub waiting : List (List ℕ)
  pub taken : List (List ℕ)
  pub words : List ℕ

-- at first nothing
abbrev pub nothing_sent : Sent
nothing_sent = record { waiting = []; taken = []; words = [] }

-- what was sent after a letter was pushed: the letter is taken if it is not refused
abbrev pub with_push : List ℕ → Option LongRefusal → Sent → Sent
with_push letter None s = record { waiting = with_letter s.waiting letter; taken = s.taken ++ letter ∷ []; words = s.words }
with_push letter (Some refusal) s = s

abbrev pub after_call : Call → Sent → Sent
after_call (Push letter) s = with_push letter (refusal_of s.waiting letter) s
after_call Next s = record { waiting = without_word s.waiting; taken = s.taken; words = s.words ++ next_word_of s.waiting ∷ [] }

-- a sender after the calls, one after another
abbrev pub after_calls : List Call → Sent → Sent
after_calls [] s = s
after_calls (call ∷ calls) s = after_calls calls (after_call call s)
