-- What a reader of one sender's values makes of them.
use Rattle.std.specs.{Prelude.{ℕ, ◌-◌, ◌^◌, ◌==◌, nat_lt, Bool, true, false, Option, Some, None, List, [], ◌∷◌, ◌++◌, drop, length, take, if◌then◌else◌}, List.list_all, Option.option_to_list}
use Rattle.rb_base.specs.{declared.values.Heard.Heard, declared.values.Heard.TheVariants.{Word, Fault}}
use Rattle.rb_long.specs.Spelling.{bytes_in, is_first, is_part}

-- a letter of which some bytes have come, and how many it will have
pub record OpenLetter : Type 0 where
  pub wanted : ℕ
  pub bytes : List ℕ

-- the letter is open if fewer bytes have come than it will have; otherwise no letter is open
abbrev pub open_with : ℕ → List ℕ → Option OpenLetter
open_with wanted bytes = if nat_lt (length bytes) wanted then Some (record { wanted = wanted; bytes = bytes }) else None

-- what comes of a value: the letter that is open after it, and the letter that is given with it
pub record Read : Type 0 where
  pub after : Option OpenLetter
  pub given : Option (List ℕ)

-- nothing is given
abbrev pub keeps : Option OpenLetter → Read
keeps letter = record { after = letter; given = None }

abbrev pub is_zero : ℕ → Bool
is_zero byte = byte == 0

-- the last bytes have come: those past the letter's end must be zeros
abbrev pub with_last : ℕ → List ℕ → Read
with_last wanted bytes =
    elim (list_all is_zero (drop wanted bytes)) [ true ↦ record { after = None; given = Some (take wanted bytes) } | false ↦ keeps None ]

-- the reader after these bytes of a letter have come
abbrev pub with_bytes : ℕ → List ℕ → Read
with_bytes wanted bytes =
    elim (nat_lt (length bytes) wanted) [ true ↦ keeps (Some (record { wanted = wanted; bytes = bytes })) | false ↦ with_last wanted bytes ]

-- the reader after three more bytes. If no letter is open they say nothing
abbrev pub with_part : List ℕ → Option OpenLetter → Read
with_part part None = keeps None
with_part part (Some letter) = with_bytes letter.wanted (letter.bytes ++ part)

-- a word: 0 says nothing, a first word drops the open letter and opens one, and any word that
-- spells nothing drops it
abbrev pub with_word : ℕ → Option OpenLetter → Read
with_word word letter =
    elim (word == 0) [
      | true ↦ keeps letter
      | false ↦ elim (is_first word) [
        | true ↦ keeps (Some (record { wanted = word - 2 ^ 24; bytes = [] }))
        | false ↦ elim (is_part word) [ true ↦ with_part (bytes_in word) letter | false ↦ keeps None ]
      ]
    ]

-- a value. Fault drops the open letter
abbrev pub with_value : Heard → Option OpenLetter → Read
with_value (Word word) letter = with_word word letter
with_value Fault letter = keeps None

-- the letter that is open after these values, one after another
abbrev pub open_after : Option OpenLetter → List Heard → Option OpenLetter
open_after letter [] = letter
open_after letter (value ∷ values) = open_after (with_value value letter).after values

-- the letters that are given with them
abbrev pub given_with : Option OpenLetter → List Heard → List (List ℕ)
given_with letter [] = []
given_with letter (value ∷ values) = option_to_list (with_value value letter).given ++ given_with (with_value value letter).after values
