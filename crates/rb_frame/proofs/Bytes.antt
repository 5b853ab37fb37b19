-- What the bytes that the code writes and reads are.
use Rattle.std.proofs.Common.{◌≡◌, ℕ, List, [], ◌∷◌, ◌++◌, take, set, slice_index, Option, Some, None, IfSome, IfNone, Fits, w8, refl, sym, arith}
use Rattle.std.specs.Int.{from_be_bytes, w16, w32}
use Rattle.byteorder.specs.Endian.{big_number}
use Rattle.rb_rules.specs.{declared.message.Message.Message, declared.message.Version.Version, declared.message.Version.TheVariants.{One, Two}, Spelling.{Spells, check_of, fields_of, spelling_of, message_in}}
use Rattle.rb_rules.proofs.Spellings.{has_value, only_so, none_so}

-- in version One a spelling is the fields and then the check
pub spelled_one : (version : Version) (m : Message) (fields spelling : List ℕ) (check : ℕ) → version ≡ One
    → fields ≡ fields_of m ++ 0 ∷ 0 ∷ [] → check ≡ check_of (take 10 fields) → spelling ≡ take 11 (set fields 10 check) → spelling ≡ spelling_of version m
spelled_one version m fields spelling check is_one is_fields is_check is = rw (is_one, is, is_check, is_fields) refl

-- in version Two a spelling is the fields, the number of the bus and then the check
pub spelled_two : (version : Version) (bus : ℕ) (m : Message) (fields spelling : List ℕ) (check : ℕ) → version ≡ Two bus
    → fields ≡ fields_of m ++ 0 ∷ 0 ∷ [] → check ≡ check_of (take 11 (set fields 10 bus)) → spelling ≡ set (set fields 10 bus) 11 check
    → spelling ≡ spelling_of version m
spelled_two version bus m fields spelling check is_two is_fields is_check is = rw (is_two, is, is_check, is_fields) refl

pub ruleset encoding = (spelled_one, spelled_two, has_value)

-- what the reader of numbers gives, in std's words
pub two : (bytes : List ℕ) → big_number 2 bytes ≡ from_be_bytes w16 bytes
two bytes = omega arith

pub four : (bytes : List ℕ) → big_number 4 bytes ≡ from_be_bytes w32 bytes
four bytes = omega arith

pub ruleset reading = (two, four)

-- what is read is spelled
pub read_is_spelled : (version : Version) (bytes : List ℕ) (read : Option Message) → read ≡ message_in version bytes
    → ((k : ℕ) → Fits w8 (slice_index bytes k)) → IfSome read (Spells version bytes)
read_is_spelled version bytes None is small = tt
read_is_spelled version bytes (Some m) is small = only_so version bytes m (sym is) (λ k. let byte = small k in omega arith)

-- if nothing is read from the bytes, they spell no message
pub none_is_spelled : (version : Version) (bytes : List ℕ) (read : Option Message) → read ≡ message_in version bytes
    → IfNone read ((m : Message) → ¬ Spells version bytes m)
none_is_spelled version bytes None is = none_so version bytes (sym is)
none_is_spelled version bytes (Some m) is = tt

pub ruleset decoding = (read_is_spelled, none_is_spelled)
