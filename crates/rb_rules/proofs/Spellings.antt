-- What is spelled is read, what is read is spelled so, and both in one way.
use Rattle.std.proofs.{Common.{◌≡◌, ℕ, zero, suc, ◌+◌, ◌≤◌, ◌<◌, ◌^◌, Bool, true, false, ◌==◌, ◌&&◌, nat_le, if◌then◌else◌, refl, sym, ◌∙◌, ap, subst, arith, Option, Some, None, List, [], ◌∷◌, ◌++◌, length, drop, drop-cons, slice_index}, lemmas.Bool.{and_parts, leb-true, eqb-true, eq-eqb, le-leb}, lemmas.List.drop_all, lemmas.Nat.{from_be_bytes-to_be_bytes_2, from_be_bytes-to_be_bytes_4, be_bytes_2, be_bytes_4}}
use Rattle.std.specs.Int.{from_be_bytes, w16, w32}
use Rattle.rb_rules.specs.{declared.message.Tag.Tag, declared.message.Tag.TheVariants.{Word, Fault, Sync}, declared.message.Message.Message, declared.message.Version.Version, declared.message.Version.TheVariants.{One, Two}, Spelling.{IsMessage, HasValue, IsZeroUnlessWord, Spells, AreBytes, spelling_of, message_in, message_with, tag_in, may_have, has_form, check_of, body_of, fields_of, tag_byte}}

abbrev made : Tag → ℕ → ℕ → ℕ → ℕ → Message
made tag frame slot stage value = record { tag = tag; frame = frame; slot = slot; stage = stage; value = value }

-- ---- what is spelled is read

-- a value that is 0 unless the tag is Word suits the tag
pub has_value : (tag : Tag) (value : ℕ) → value < 2 ^ 32 → IsZeroUnlessWord tag value → HasValue tag value
has_value Word value small suits = small
has_value Fault value small suits = suits
has_value Sync value small suits = suits

-- a value that suits the tag has four bytes at most
value_small : (tag : Tag) (value : ℕ) → HasValue tag value → value < 2 ^ 32
value_small Word value suits = suits
value_small Fault value suits = omega arith
value_small Sync value suits = omega arith

-- the fields of a message make the message again
made_back : (tag : Tag) (frame slot stage value : ℕ) → 1 ≤ stage → stage ≤ 3 → HasValue tag value
    → message_with (tag_in (tag_byte tag)) frame slot stage value ≡ Some (made tag frame slot stage value)
made_back Word frame slot stage value some most suits = rw (le-leb 1 stage some, le-leb stage 3 most) refl
made_back Fault frame slot stage value some most suits = rw (le-leb 1 stage some, le-leb stage 3 most, eq-eqb value 0 suits) refl
made_back Sync frame slot stage value some most suits = rw (le-leb 1 stage some, le-leb stage 3 most, eq-eqb value 0 suits) refl

-- the spelling of a message is read as that message
pub read_back : (version : Version) (m : Message) → IsMessage m → message_in version (spelling_of version m) ≡ Some m
unfolding message_in
read_back One m is =
    let check = check_of (body_of One m) in
    let small = value_small m.tag m.value is.value in
    rw (eq-eqb check check refl, from_be_bytes-to_be_bytes_2 m.frame is.frame, from_be_bytes-to_be_bytes_2 m.slot is.slot, from_be_bytes-to_be_bytes_4 m.value small)
    (made_back m.tag m.frame m.slot m.stage m.value is.some_stage is.most_stages is.value)
read_back (Two bus) m is =
    let check = check_of (body_of (Two bus) m) in
    let small = value_small m.tag m.value is.value in
    rw (eq-eqb bus bus refl, eq-eqb check check refl, from_be_bytes-to_be_bytes_2 m.frame is.frame, from_be_bytes-to_be_bytes_2 m.slot is.slot, from_be_bytes-to_be_bytes_4 m.value small)
    (made_back m.tag m.frame m.slot m.stage m.value is.some_stage is.most_stages is.value)

-- bytes that spell a message are read as that message
pub spelled_is_read : (version : Version) (bytes : List ℕ) (m : Message) → Spells version bytes m → message_in version bytes ≡ Some m
spelled_is_read version bytes m spells = ap (message_in version) spells.1 ∙ read_back version m spells.0

-- ---- what is read is spelled so

-- if the tests of the other tags are right, they are with one more test before them
tag_case : (same : Bool) (byte k : ℕ) (here tag : Tag) (others : Option Tag) → (byte == k) ≡ same → tag_byte here ≡ k
    → (others ≡ Some tag → tag_byte tag ≡ byte) → (if same then Some here else others) ≡ Some tag → tag_byte tag ≡ byte
tag_case true byte k here tag others same is_k later is =
    let found : here ≡ tag = cc in
    ap tag_byte (sym found) ∙ is_k ∙ sym (eqb-true byte k same)
tag_case false byte k here tag others same is_k later is = later is

-- a tag that is read from a byte has that byte
tag_so : (byte : ℕ) (tag : Tag) → tag_in byte ≡ Some tag → tag_byte tag ≡ byte
tag_so byte tag is =
    tag_case (byte == 1) byte 1 Word tag _ refl refl
    (tag_case (byte == 2) byte 2 Fault tag _ refl refl
    (tag_case (byte == 3) byte 3 Sync tag None refl refl (λ none. absurd (cc)))) is

-- a value that may stand beside the tag suits it
value_so : (tag : Tag) (value : ℕ) → value < 2 ^ 32 → may_have tag value ≡ true → HasValue tag value
value_so Word value small may = small
value_so Fault value small may = eqb-true value 0 may
value_so Sync value small may = eqb-true value 0 may

-- the message has these fields
record HasFields (tag : Option Tag) (frame slot stage value : ℕ) (m : Message) : Type 0 where
  is_message : IsMessage m
  tag_is : tag ≡ Some m.tag
  frame_is : m.frame ≡ frame
  slot_is : m.slot ≡ slot
  stage_is : m.stage ≡ stage
  value_is : m.value ≡ value

-- a message that was made of a tag and four numbers has them as its fields
tests_so : (pass : Bool) (tag : Tag) (frame slot stage value : ℕ) (m : Message) → frame < 2 ^ 16 → slot < 2 ^ 16 → value < 2 ^ 32
    → (nat_le 1 stage && nat_le stage 3 && may_have tag value) ≡ pass → (if pass then Some (made tag frame slot stage value) else None) ≡ Some m
    → HasFields (Some tag) frame slot stage value m
tests_so true tag frame slot stage value m small_frame small_slot small_value pass is =
    let m_is : made tag frame slot stage value ≡ m = cc in
    let tests = and_parts (nat_le 1 stage && nat_le stage 3) (may_have tag value) pass in
    let stages = and_parts (nat_le 1 stage) (nat_le stage 3) tests.0 in
    let message : IsMessage (made tag frame slot stage value) = record {
      frame = small_frame;
      slot = small_slot;
      some_stage = leb-true 1 stage stages.0;
      most_stages = leb-true stage 3 stages.1;
      value = value_so tag value small_value tests.1;
    } in
    subst (HasFields (Some tag) frame slot stage value) m_is (record { is_message = message; tag_is = refl; frame_is = refl; slot_is = refl; stage_is = refl; value_is = refl })
tests_so false tag frame slot stage value m small_frame small_slot small_value pass is = absurd (cc)

made_so : (tag : Option Tag) (frame slot stage value : ℕ) (m : Message) → frame < 2 ^ 16 → slot < 2 ^ 16 → value < 2 ^ 32
    → message_with tag frame slot stage value ≡ Some m → HasFields tag frame slot stage value m
made_so None frame slot stage value m small_frame small_slot small_value is = absurd (cc)
made_so (Some tag) frame slot stage value m small_frame small_slot small_value is =
    tests_so _ tag frame slot stage value m small_frame small_slot small_value refl is

two_bytes : (a b : ℕ) → a < 2 ^ 8 → b < 2 ^ 8 → AreBytes (a ∷ b ∷ [])
two_bytes a b first second zero = first
two_bytes a b first second (suc zero) = second
two_bytes a b first second (suc (suc k)) = omega arith

four_bytes : (a b c d : ℕ) → a < 2 ^ 8 → b < 2 ^ 8 → c < 2 ^ 8 → d < 2 ^ 8 → AreBytes (a ∷ b ∷ c ∷ d ∷ [])
four_bytes a b c d first second third fourth zero = first
four_bytes a b c d first second third fourth (suc zero) = second
four_bytes a b c d first second third fourth (suc (suc k)) = two_bytes c d third fourth k

-- ten bytes from which a message is made are its fields
fields_so : (b0 b1 b2 b3 b4 b5 b6 b7 b8 b9 : ℕ) (rest : List ℕ) → AreBytes (b0 ∷ b1 ∷ b2 ∷ b3 ∷ b4 ∷ b5 ∷ b6 ∷ b7 ∷ b8 ∷ b9 ∷ rest) → (m : Message)
    → message_with (tag_in b0) (from_be_bytes w16 (b1 ∷ b2 ∷ [])) (from_be_bytes w16 (b3 ∷ b4 ∷ [])) b5 (from_be_bytes w32 (b6 ∷ b7 ∷ b8 ∷ b9 ∷ [])) ≡ Some m
    → IsMessage m × (b0 ∷ b1 ∷ b2 ∷ b3 ∷ b4 ∷ b5 ∷ b6 ∷ b7 ∷ b8 ∷ b9 ∷ [] ≡ fields_of m)
fields_so b0 b1 b2 b3 b4 b5 b6 b7 b8 b9 rest small m is =
    let frame_small = two_bytes b1 b2 (small 1) (small 2) in
    let slot_small = two_bytes b3 b4 (small 3) (small 4) in
    let value_small = four_bytes b6 b7 b8 b9 (small 6) (small 7) (small 8) (small 9) in
    let has = made_so (tag_in b0) (from_be_bytes w16 (b1 ∷ b2 ∷ [])) (from_be_bytes w16 (b3 ∷ b4 ∷ [])) b5 (from_be_bytes w32 (b6 ∷ b7 ∷ b8 ∷ b9 ∷ [])) m
    (omega (arith, small 1, small 2)) (omega (arith, small 3, small 4)) (omega (arith, small 6, small 7, small 8, small 9)) is in
    let tag = tag_so b0 m.tag has.tag_is in
    let frame = be_bytes_2 (b1 ∷ b2 ∷ []) m.frame refl frame_small has.frame_is in
    let slot = be_bytes_2 (b3 ∷ b4 ∷ []) m.slot refl slot_small has.slot_is in
    let value = be_bytes_4 (b6 ∷ b7 ∷ b8 ∷ b9 ∷ []) m.value refl value_small has.value_is in
    (has.is_message, λ i. sym tag i ∷ (sym frame i ++ sym slot i ++ sym has.stage_is i ∷ sym value i))

-- a message was read only if the test passed
passed : (pass : Bool) (read : Option Message) (m : Message) → (if pass then read else None) ≡ Some m → (pass ≡ true) × (read ≡ Some m)
passed true read m is = (refl, is)
passed false read m is = absurd (cc)

-- eleven bytes from which a message is read spell that message
so_one : (b0 b1 b2 b3 b4 b5 b6 b7 b8 b9 b10 : ℕ) (m : Message) → let bytes = b0 ∷ b1 ∷ b2 ∷ b3 ∷ b4 ∷ b5 ∷ b6 ∷ b7 ∷ b8 ∷ b9 ∷ b10 ∷ [] in
    AreBytes bytes → message_in One bytes ≡ Some m → Spells One bytes m
unfolding message_in
so_one b0 b1 b2 b3 b4 b5 b6 b7 b8 b9 b10 m small is =
    let fields = b0 ∷ b1 ∷ b2 ∷ b3 ∷ b4 ∷ b5 ∷ b6 ∷ b7 ∷ b8 ∷ b9 ∷ [] in
    let read = passed (has_form One (fields ++ b10 ∷ [])) _ m is in
    let check = eqb-true b10 (check_of fields) read.0 in
    let so = fields_so b0 b1 b2 b3 b4 b5 b6 b7 b8 b9 (b10 ∷ []) small m read.1 in
    (so.0, ap (λ last. fields ++ last ∷ []) check ∙ ap (λ body. body ++ check_of body ∷ []) so.1)

so_two : (bus b0 b1 b2 b3 b4 b5 b6 b7 b8 b9 b10 b11 : ℕ) (m : Message) → let bytes = b0 ∷ b1 ∷ b2 ∷ b3 ∷ b4 ∷ b5 ∷ b6 ∷ b7 ∷ b8 ∷ b9 ∷ b10 ∷ b11 ∷ [] in
    AreBytes bytes → message_in (Two bus) bytes ≡ Some m → Spells (Two bus) bytes m
unfolding message_in
so_two bus b0 b1 b2 b3 b4 b5 b6 b7 b8 b9 b10 b11 m small is =
    let fields = b0 ∷ b1 ∷ b2 ∷ b3 ∷ b4 ∷ b5 ∷ b6 ∷ b7 ∷ b8 ∷ b9 ∷ [] in
    let read = passed (has_form (Two bus) (fields ++ b10 ∷ b11 ∷ [])) _ m is in
    let form = and_parts (b10 == bus) (b11 == check_of (fields ++ b10 ∷ [])) read.0 in
    let number = eqb-true b10 bus form.0 in
    let check = eqb-true b11 (check_of (fields ++ b10 ∷ [])) form.1 in
    let so = fields_so b0 b1 b2 b3 b4 b5 b6 b7 b8 b9 (b10 ∷ b11 ∷ []) small m read.1 in
    (so.0, ap (λ last. fields ++ b10 ∷ last ∷ []) check ∙ ap (λ body. body ++ check_of body ∷ []) (λ i. so.1 i ++ number i ∷ []))

-- n items from place i on, one by one
abbrev items_from : ℕ → ℕ → List ℕ → List ℕ
items_from i zero xs = []
items_from i (suc n) xs = slice_index xs i ∷ items_from (suc i) n xs

-- the list from place i on if n items are left
drop_is : (n i : ℕ) (xs : List ℕ) → length xs ≡ i + n → drop i xs ≡ items_from i n xs
drop_is zero i xs h = drop_all i xs (omega arith)
drop_is (suc n) i xs h =
    drop-cons xs i 0 (omega arith) ∙ ap (λ (rest : List ℕ). slice_index xs i ∷ rest) (drop_is n (suc i) xs (omega arith))

-- bytes from which a message is read spell that message
pub only_so : (version : Version) (bytes : List ℕ) (m : Message) → message_in version bytes ≡ Some m → AreBytes bytes → Spells version bytes m
unfolding message_in
only_so One bytes m is small =
    let form = (passed (has_form One bytes) _ m is).0 in
    let eleven = and_parts (length bytes == 11) _ form in
    let written = drop_is 11 0 bytes (eqb-true (length bytes) 11 eleven.0) in
    let P : List ℕ → Type 0 = λ bytes. AreBytes bytes → message_in One bytes ≡ Some m → Spells One bytes m in
    subst P (sym written) (so_one _ _ _ _ _ _ _ _ _ _ _ m) small is
only_so (Two bus) bytes m is small =
    let form = (passed (has_form (Two bus) bytes) _ m is).0 in
    let parts = and_parts ((length bytes == 12) && (slice_index bytes 10 == bus)) _ form in
    let twelve = and_parts (length bytes == 12) _ parts.0 in
    let written = drop_is 12 0 bytes (eqb-true (length bytes) 12 twelve.0) in
    let P : List ℕ → Type 0 = λ bytes. AreBytes bytes → message_in (Two bus) bytes ≡ Some m → Spells (Two bus) bytes m in
    subst P (sym written) (so_two bus _ _ _ _ _ _ _ _ _ _ _ _ m) small is

-- ---- in one way

-- bytes from which nothing is read spell no message
pub none_so : (version : Version) (bytes : List ℕ) → message_in version bytes ≡ None → (m : Message) → ¬ Spells version bytes m
none_so version bytes none m spells = let read = spelled_is_read version bytes m spells in cc

-- no message has two spellings in one version
pub one_spelling : (version : Version) (a b : List ℕ) (m : Message) → Spells version a m → Spells version b m → a ≡ b
one_spelling version a b m first second = first.1 ∙ sym second.1

-- no bytes spell two messages
pub one_message : (version : Version) (bytes : List ℕ) (m n : Message) → Spells version bytes m → Spells version bytes n → m ≡ n
one_message version bytes m n first second =
    let is_m = spelled_is_read version bytes m first in
    let is_n = spelled_is_read version bytes n second in cc
