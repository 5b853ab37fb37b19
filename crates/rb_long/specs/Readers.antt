-- What is kept of a sender's values.
use Rattle.std.specs.Prelude.{ℕ, ◌≡◌, nat_lt, Bool, Option, List, length, option_map}
use Rattle.arrayvec.specs.ArrayVec.{ArrayVec}
use Rattle.rb_long.specs.{Reading.{OpenLetter, Read, open_with}, declared.reading.Reader.Reader}

abbrev pub is_open : Reader → Bool
is_open reader = nat_lt (length reader.bytes.items) reader.wanted

-- the letter that is open
abbrev pub open_of : Reader → Option OpenLetter
open_of reader = open_with reader.wanted reader.bytes.items

-- the bytes of a letter that is given
abbrev pub letter_in : Option (ArrayVec ℕ) → Option (List ℕ)
letter_in given = option_map (λ (v : ArrayVec ℕ). v.items) given

-- the reader reads a value so: it then has this letter open, and gives this letter
pub record Reads (read : Read) (reader : Reader) (letter : Option (ArrayVec ℕ)) : Type 0 where
  pub after : open_of reader ≡ read.after
  pub given : letter_in letter ≡ read.given
