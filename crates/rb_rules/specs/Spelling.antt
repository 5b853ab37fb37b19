-- How messages are spelled. All numbers have the most significant byte first.
use Rattle.std.specs.{Prelude.{⊤, ℕ, ◌≡◌, ◌≤◌, ◌<◌, ◌^◌, Bool, true, ◌==◌, nat_le, ◌&&◌, if◌then◌else◌, Option, Some, None, List, [], ◌∷◌, ◌++◌, fold, length, take, slice_index, slice_range, bit_xor}, Int.{to_be_bytes, from_be_bytes, w16, w32}}
use Rattle.rb_rules.specs.{declared.message.Tag.Tag, declared.message.Tag.TheVariants.{Word, Fault, Sync}, declared.message.Message.Message, declared.message.Version.Version, declared.message.Version.TheVariants.{One, Two}}

-- the byte of a tag
abbrev pub tag_byte : Tag → ℕ
tag_byte Word = 1
tag_byte Fault = 2
tag_byte Sync = 3

-- only a word has a value
abbrev pub HasValue : Tag → ℕ → Type 0
HasValue Word value = value < 2 ^ 32
HasValue Fault value = value ≡ 0
HasValue Sync value = value ≡ 0

-- the value is 0 unless the tag is Word
abbrev pub IsZeroUnlessWord : Tag → ℕ → Type 0
IsZeroUnlessWord Word value = ⊤
IsZeroUnlessWord Fault value = value ≡ 0
IsZeroUnlessWord Sync value = value ≡ 0

-- the numbers of a message are in range
pub record IsMessage (m : Message) : Type 0 where
  pub frame : m.frame < 2 ^ 16
  pub slot : m.slot < 2 ^ 16
  pub some_stage : 1 ≤ m.stage
  pub most_stages : m.stage ≤ 3
  pub value : HasValue m.tag m.value

-- the exclusive or of the bytes
abbrev pub check_of : List ℕ → ℕ
check_of bytes = fold bit_xor 0 bytes

-- the ten bytes with which both versions begin: tag, frame, slot, stage, value
abbrev pub fields_of : Message → List ℕ
fields_of m = tag_byte m.tag ∷ to_be_bytes w16 m.frame ++ to_be_bytes w16 m.slot ++ m.stage ∷ to_be_bytes w32 m.value

-- the bytes before the check
abbrev pub body_of : Version → Message → List ℕ
body_of One m = fields_of m
body_of (Two bus) m = fields_of m ++ bus ∷ []

-- the body, then its check
abbrev pub spelling_of : Version → Message → List ℕ
spelling_of version m = body_of version m ++ check_of (body_of version m) ∷ []

-- the numbers of the message are in range, and the bytes are its spelling
abbrev pub Spells : Version → List ℕ → Message → Type 0
Spells version bytes m = IsMessage m × (bytes ≡ spelling_of version m)

-- the numbers are bytes, as the numbers of a slice of bytes are
abbrev pub AreBytes : List ℕ → Type 0
AreBytes numbers = (k : ℕ) → slice_index numbers k < 2 ^ 8

-- the tag that this byte spells
abbrev pub tag_in : ℕ → Option Tag
tag_in byte = if byte == 1 then Some Word else (if byte == 2 then Some Fault else (if byte == 3 then Some Sync else None))

-- whether a message with this tag may have this value
abbrev pub may_have : Tag → ℕ → Bool
may_have Word value = true
may_have Fault value = value == 0
may_have Sync value = value == 0

-- the message with these fields, if there is a tag, the stage is 1 to 3, and a message with the tag
-- may have the value
abbrev pub message_with : Option Tag → ℕ → ℕ → ℕ → ℕ → Option Message
message_with None frame slot stage value = None
message_with (Some tag) frame slot stage value =
    if nat_le 1 stage && nat_le stage 3 && may_have tag value
    then Some (record { tag = tag; frame = frame; slot = slot; stage = stage; value = value })
    else None

-- version One has 11 bytes, the check at 10; version Two has 12 bytes, the bus's number at 10 and
-- the check at 11
abbrev pub has_form : Version → List ℕ → Bool
has_form One bytes = (length bytes == 11) && (slice_index bytes 10 == check_of (take 10 bytes))
has_form (Two bus) bytes =
    (length bytes == 12) && (slice_index bytes 10 == bus) && (slice_index bytes 11 == check_of (take 11 bytes))

-- the message that the bytes spell, if there is one
unfoldable pub message_in : Version → List ℕ → Option Message
message_in version bytes =
    let tag = tag_in (slice_index bytes 0) in
    let frame = from_be_bytes w16 (slice_range bytes 1 3) in
    let slot = from_be_bytes w16 (slice_range bytes 3 5) in
    let stage = slice_index bytes 5 in
    let value = from_be_bytes w32 (slice_range bytes 6 10) in
    if has_form version bytes then message_with tag frame slot stage value else None
