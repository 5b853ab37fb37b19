-- Fields of a log: numbers of one to four bytes at a place, the most significant byte first.
use Rattle.std.specs.Prelude.{ℕ, ◌+◌, ◌&&◌, nat_le, List, length, drop, Result, Ok, Err, if◌then◌else◌}
use Rattle.byteorder.specs.Endian.{big_number}
use Rattle.rb_log.specs.{declared.refusal.LogRefusal.LogRefusal, declared.refusal.LogRefusal.TheVariants.{BadField, Truncated}}

-- the number in `size` bytes from `place` on
unfoldable pub number_at : List ℕ → ℕ → ℕ → ℕ
number_at bytes place size = big_number size (drop place bytes)

-- one step of reading and then the next, unless a fault was met
infixl 10 ◌>>=◌
abbrev pub ◌>>=◌ : {A B : Type 0} → Result A LogRefusal → (A → Result B LogRefusal) → Result B LogRefusal
Ok x >>= next = next x
Err fault >>= next = Err fault

-- the number of the field of `size` bytes at `place`. It is refused if the bytes end before the
-- field does, or if the number is not between `low` and `high`
unfoldable pub field : List ℕ → ℕ → ℕ → ℕ → ℕ → Result ℕ LogRefusal
field bytes place size low high =
    let number = number_at bytes place size in
    if nat_le (place + size) (length bytes)
    then (if nat_le low number && nat_le number high then Ok number else Err (BadField place))
    else Err (Truncated (length bytes))
