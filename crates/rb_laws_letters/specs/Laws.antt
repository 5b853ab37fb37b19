-- What is proved of letters: what a reader makes of words, and what ports receive.
use Rattle.std.specs.Prelude.{ℕ, ◌≡◌, ◌<◌, All, true, None, List, [], ◌∷◌, length}
use Rattle.rb_rules.specs.{Book.Record, Goodness.Scenario, Lawful.IsLawful, Ports.HandIn, Rounds.records_of}
use Rattle.rb_long.specs.{Delivered.{deliveries_in, letters_of, open_at, values_of}, Reading.{given_with, open_after}, Spelling.{is_length, spelling_of}}
use Rattle.rb_laws_letters.specs.{Offers.{IsGoodThrough, offered_by}, Sent.{Call, IsFirstPart, IsLetter, Sent, after_calls, heard_words, nothing_sent, without_zeros, words_of}}

-- Words.

-- the words of a letter, if none is open before them, give this letter alone, and leave none open
pub record IsRead (letter : List ℕ) : Type 0 where
  pub given : given_with None (heard_words (spelling_of letter)) ≡ letter ∷ []
  pub after : open_after None (heard_words (spelling_of letter)) ≡ None

abbrev pub LettersAreRead : Type 0
LettersAreRead = (letter : List ℕ) → IsLetter letter → IsRead letter

-- If words are, apart from any zeros among them, the first of these letters' words, the letters
-- that they give are the first of these, each whole and once, and all of these if all their words
-- are there
pub record GivesTheFirst (letters : List (List ℕ)) (words : List ℕ) : Type 0 where
  pub first : IsFirstPart (given_with None (heard_words words)) letters
  pub all : without_zeros words ≡ words_of letters → given_with None (heard_words words) ≡ letters

abbrev pub WordsGiveTheirLetters : Type 0
WordsGiveTheirLetters =
    (letters : List (List ℕ)) (words : List ℕ) → All IsLetter letters → IsFirstPart (without_zeros words) (words_of letters) → GivesTheFirst letters words

-- The words that a sender gives are, apart from any zeros among them, the first words of its
-- letters, whatever is pushed and whenever it is asked. All the words are there once nothing waits
pub record SendsItsLetters (s : Sent) : Type 0 where
  pub first : IsFirstPart (without_zeros s.words) (words_of s.taken)
  pub all : s.waiting ≡ [] → without_zeros s.words ≡ words_of s.taken
  pub lengths : All (λ l. is_length (length l) ≡ true) s.taken

abbrev pub SendersSendTheirLetters : Type 0
SendersSendTheirLetters = (calls : List Call) → SendsItsLetters (after_calls calls nothing_sent)

-- Rounds.

-- `records` are the first records of the run of a scenario, or all of them
abbrev pub AreFirst : Scenario → List HandIn → List Record → Type 0
AreFirst sc hands records = IsFirstPart records (records_of sc hands)

-- two ports have received the same of a sender
pub record ReceiveAlike (i j sender : ℕ) (records : List Record) : Type 0 where
  pub values : values_of i sender (deliveries_in records) ≡ values_of j sender (deliveries_in records)
  pub letters : letters_of i sender (deliveries_in records) ≡ letters_of j sender (deliveries_in records)
  pub left_open : open_at i sender (deliveries_in records) ≡ open_at j sender (deliveries_in records)

-- After each record of the run, two BIUs that are good in every slot recorded so far have received
-- the same from each sender: the same letters in the same slots. A breach is no slot: all that is
-- recorded was delivered before it
abbrev pub PortsReceiveAlike : Scenario → List HandIn → Type 0
PortsReceiveAlike sc hands =
    (records : List Record) → AreFirst sc hands records
    → (i j : ℕ) → IsGoodThrough sc i records → IsGoodThrough sc j records → (sender : ℕ) → ReceiveAlike i j sender records

abbrev pub GoodPortsReceiveAlike : Type 0
GoodPortsReceiveAlike = (sc : Scenario) (hands : List HandIn) → IsLawful sc → PortsReceiveAlike sc hands

-- The values that the port has received are the words that the sender offered, in order, with none
-- left out and none lost. If these words without their zeros are the first of some letters' words,
-- the letters that the port receives are the first of these letters, each whole and once, and all
-- of these letters if all their words were delivered
pub record ReceivesFrom (sc : Scenario) (hands : List HandIn) (records : List Record) (receiver sender : ℕ) : Type 0 where
  pub values : values_of receiver sender (deliveries_in records) ≡ heard_words (offered_by sc hands sender records)
  pub first : (letters : List (List ℕ)) → All IsLetter letters → IsFirstPart (without_zeros (offered_by sc hands sender records)) (words_of letters)
      → IsFirstPart (letters_of receiver sender (deliveries_in records)) letters
  pub all : (letters : List (List ℕ)) → All IsLetter letters → without_zeros (offered_by sc hands sender records) ≡ words_of letters
      → letters_of receiver sender (deliveries_in records) ≡ letters

-- after each record of the run, a BIU has so received from a sender, if both are good in every slot
-- recorded so far
abbrev pub PortsReceiveGoodSenders : Scenario → List HandIn → Type 0
PortsReceiveGoodSenders sc hands =
    (records : List Record) → AreFirst sc hands records
    → (receiver sender : ℕ) → IsGoodThrough sc receiver records → IsGoodThrough sc sender records → ReceivesFrom sc hands records receiver sender

abbrev pub GoodSendersAreReceived : Type 0
GoodSendersAreReceived = (sc : Scenario) (hands : List HandIn) → IsLawful sc → PortsReceiveGoodSenders sc hands

-- A port receives the letters that were pushed: if the words that a good sender offers are those
-- that it was given by what it keeps its letters in, its letters arrive at a good port, the first
-- of those that were taken, each whole and once; and all of them if none waits any more
pub record ReceivesTheLetters (records : List Record) (receiver sender : ℕ) (s : Sent) : Type 0 where
  pub first : IsFirstPart (letters_of receiver sender (deliveries_in records)) s.taken
  pub all : s.waiting ≡ [] → letters_of receiver sender (deliveries_in records) ≡ s.taken

abbrev pub LettersArrive : Type 0
LettersArrive =
    (sc : Scenario) (hands : List HandIn) → IsLawful sc → (records : List Record) → AreFirst sc hands records
    → (receiver sender : ℕ) → IsGoodThrough sc receiver records → IsGoodThrough sc sender records
    → (calls : List Call) → offered_by sc hands sender records ≡ (after_calls calls nothing_sent).words
    → All (λ l. All (λ b. b < 256) l) (after_calls calls nothing_sent).taken
    → ReceivesTheLetters records receiver sender (after_calls calls nothing_sent)
