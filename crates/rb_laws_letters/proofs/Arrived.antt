-- The letters that a sender of letters has taken, at a good port.
use Rattle.std.proofs.{Common.{◌≡◌, ℕ, ◌<◌, All, true, List, [], ◌∷◌, length, sym, ap, ◌∙◌, subst}, lemmas.List.Elements.{All-cons, All-head, All-nil, All-tail}}
use Rattle.rb_long.specs.Spelling.{is_length}
use Rattle.rb_laws_letters.specs.{Laws.{LettersArrive, ReceivesFrom, ReceivesTheLetters, SendsItsLetters}, Offers.offered_by, Sent.{IsFirstPart, IsLetter, Sent, after_calls, nothing_sent, without_zeros, words_of}}
use Rattle.rb_laws_letters.proofs.{Received.senders-received, Senders.senders-send}

are-letters : (letters : List (List ℕ)) → All (λ l. is_length (length l) ≡ true) letters → All (λ l. All (λ b. b < 256) l) letters → All IsLetter letters
are-letters [] long small = All-nil IsLetter
are-letters (l ∷ ls) long small =
    All-cons IsLetter l ls
    (record { length = All-head (λ l. is_length (length l) ≡ true) l ls long; bytes = All-head (λ l. All (λ b. b < 256) l) l ls small })
    (are-letters ls (All-tail (λ l. is_length (length l) ≡ true) l ls long) (All-tail (λ l. All (λ b. b < 256) l) l ls small))

pub letters-arrive : LettersArrive
letters-arrive sc hands law records first receiver sender good_receiver good_sender calls is small = from (after_calls calls nothing_sent) is small (senders-send calls)
  where
    received : ReceivesFrom sc hands records receiver sender
    received = senders-received sc hands law records first receiver sender good_receiver good_sender

    from : (s : Sent) → offered_by sc hands sender records ≡ s.words → All (λ l. All (λ b. b < 256) l) s.taken → SendsItsLetters s
        → ReceivesTheLetters records receiver sender s
    from s e bytes sends =
        let letters : All IsLetter s.taken = are-letters s.taken sends.lengths bytes in
        record {
          first = received.first s.taken letters (subst (λ ws. IsFirstPart (without_zeros ws) (words_of s.taken)) (sym e) sends.first);
          all = λ none. received.all s.taken letters (ap without_zeros e ∙ sends.all none);
        }
