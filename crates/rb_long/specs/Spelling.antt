-- How a letter of 1 to 255 bytes is spelled as words.
use Rattle.std.specs.Prelude.{ℕ, ◌+◌, ◌*◌, ◌/◌, ◌%◌, ◌^◌, nat_le, nat_lt, ◌&&◌, Bool, List, [], ◌∷◌, length, map, get_or}
use Rattle.rb_base.specs.Counting.{numbers}

-- a letter has from 1 to 255 bytes
abbrev pub is_length : ℕ → Bool
is_length n = nat_le 1 n && nat_le n 255

-- the word with which a letter of n bytes begins
abbrev pub first_word : ℕ → ℕ
first_word n = 2 ^ 24 + n

-- the word of three bytes
abbrev pub part_word : ℕ → ℕ → ℕ → ℕ
part_word a b c = 2 ^ 25 + 65536 * a + 256 * b + c

-- the word of three bytes of a letter. Past its end they are filled with zeros
abbrev pub part_at : List ℕ → ℕ → ℕ
part_at letter k = part_word (get_or letter (3 * k) 0) (get_or letter (3 * k + 1) 0) (get_or letter (3 * k + 2) 0)

-- how many words a letter of n bytes takes after its first, at three bytes each
abbrev pub parts_in : ℕ → ℕ
parts_in n = (n + 2) / 3

-- the words of a letter, each of three bytes
abbrev pub parts_of : List ℕ → List ℕ
parts_of letter = map (part_at letter) (numbers (parts_in (length letter)))

-- the words of a letter: its length, then its bytes
abbrev pub spelling_of : List ℕ → List ℕ
spelling_of letter = first_word (length letter) ∷ parts_of letter

-- the words that start a letter
abbrev pub is_first : ℕ → Bool
is_first word = nat_lt (2 ^ 24) word && nat_lt word (2 ^ 24 + 256)

-- the words of three bytes
abbrev pub is_part : ℕ → Bool
is_part word = nat_le (2 ^ 25) word && nat_lt word (2 ^ 25 + 2 ^ 24)

-- the three bytes of a word
abbrev pub bytes_in : ℕ → List ℕ
bytes_in word = word / 65536 % 256 ∷ word / 256 % 256 ∷ word % 256 ∷ []
