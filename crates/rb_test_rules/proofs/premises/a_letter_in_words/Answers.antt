use Rattle.std.proofs.{Common.{◌<◌, All, [], ◌∷◌, lit<, refl}, lemmas.List.Elements.{All-cons, All-nil}}
use Rattle.rb_laws_letters.specs.Sent.{IsLetter}
use Rattle.rb_test_rules.specs.Letters.{letter}
use Rattle.rb_test_rules.proofs.premises.a_letter_in_words.Goals as goal

one : {X : Type 0} (P : X → Type 0) (x : X) → P x → All P (x ∷ [])
one P x h = All-cons P x [] h (All-nil P)

bytes : All (λ byte. byte < 256) letter
bytes = one (λ byte. byte < 256) 65 (lit< tt)

pub returns-clause-letters : goal.returns-clause-letters
returns-clause-letters c = one IsLetter letter (record { length = refl; bytes = bytes })

pub returns-clause-bytes : goal.returns-clause-bytes
returns-clause-bytes c = one (λ letter. All (λ byte. byte < 256) letter) letter bytes

pub returns-clause-words : goal.returns-clause-words
returns-clause-words c = ([], refl)
