-- Letters and their digits.
use Rattle.std.proofs.Common.{◌≡◌, ℕ, List, length, Bool, true, false, Some, None, Result, Ok, Err, if◌then◌else◌, refl, sym, ◌∙◌, ap, subst}
use Rattle.hex.specs.{Hex.{IsBytes, decode_of, encode_lower}, declared.FromHexError.FromHexError}
use Rattle.hex.proofs.HexLemmas.{decode_of-encode_lower, decode_of-ok}
use Rattle.rb_long.specs.Spelling.{is_length}
use Rattle.rb_top.specs.Words.{IsLetter, letter_bytes}

taken : (letter bytes : List ℕ) (fits : Bool) → is_length (length bytes) ≡ fits → Some letter ≡ (if fits then Some bytes else None) → IsBytes bytes → IsLetter letter
taken letter bytes true many is all =
    let same : letter ≡ bytes = cc in
    subst IsLetter (sym same) (record { many = many; all_bytes = all })
taken letter bytes false many is all = cc

-- bytes that were read from a text make a letter
pub letter_is : (text letter : List ℕ) (r : Result (List ℕ) FromHexError) → decode_of text ≡ r → Some letter ≡ letter_bytes r → IsLetter letter
letter_is text letter (Err e) read is = cc
letter_is text letter (Ok bytes) read is = taken letter bytes (is_length (length bytes)) refl is (decode_of-ok text bytes read).3

-- a letter is read from its digits
pub letter_read : (text letter : List ℕ) → IsLetter letter → text ≡ encode_lower letter → letter_bytes (decode_of text) ≡ Some letter
letter_read text letter is e =
    let read : decode_of text ≡ Ok letter = ap decode_of e ∙ decode_of-encode_lower letter is.all_bytes in
    ap (λ (r : Result (List ℕ) FromHexError). letter_bytes r) read ∙ ap (λ fits. if fits then Some letter else None) is.many

-- a text from which no letter is read is the digits of none
pub none_read : (text letter : List ℕ) → None ≡ letter_bytes (decode_of text) → IsLetter letter → ¬ (text ≡ encode_lower letter)
none_read text letter none is e = let read = letter_read text letter is e in cc

pub one_read : (text read letter : List ℕ) → Some read ≡ letter_bytes (decode_of text) → IsLetter letter → text ≡ encode_lower letter → read ≡ letter
one_read text read letter some is e = let again = letter_read text letter is e in cc
