-- For the laws of agreement: what a good node sends is taken for what it is.
use Rattle.std.specs.Prelude.{⊤}
use Rattle.std.proofs.Common.{◌≡◌, ℕ, ◌%◌, ◌^◌, ◌<◌, ◌≤◌, ◌==◌, true, false, List, [], ◌∷◌, Some, if◌then◌else◌, refl, ◌∙◌, ap, arith}
use Rattle.rb_base.specs.{Sizes.{Sizes, sync_slot_of}, declared.values.Heard.Heard}
use Rattle.rb_base.proofs.Plain.{all_four, eq_self}
use Rattle.rb_rules.specs.{declared.message.Message.Message, declared.message.Version.Version, declared.sense.Expect.Expect, declared.sense.Sense.TheVariants.{One, Bad}, ExactStage.message_of, NodeState.NodeState, NodeSteps.expect_of, Sense.{tag_suits, suits, sense_of, sense_of_one, value_in}, SyncStage.call_of, Spelling.{IsMessage, Spells, spelling_of, message_in}}
use Rattle.rb_rules.proofs.Spellings.{spelled_is_read}
use Rattle.rb_base.specs.declared.values.Heard.TheVariants as heard
use Rattle.rb_rules.specs.declared.message.Tag.TheVariants as tag

-- a sole arrival that spells a message meant for the window is that message
pub spelled_is_one : (e : Expect) (stamp : ℕ) (bytes : List ℕ) (m : Message) → Spells e.version bytes m → suits e m ≡ true
    → sense_of e (record { stamp = stamp; bytes = bytes } ∷ []) ≡ One stamp m
spelled_is_one e stamp bytes m spells suits =
    let read : message_in e.version bytes ≡ Some m = spelled_is_read e.version bytes m spells in
    ap (λ found. sense_of_one e stamp found) read ∙ ap (λ b. if b then One stamp m else Bad) suits

-- a node's value for a window below the sync slot is meant for that window at each node that is in
-- the same frame
pub value_suits : (sizes : Sizes) (version : Version) (sender receiver : NodeState) (slot stage : ℕ) (value : Heard)
    → sender.frame ≡ receiver.frame → (slot == sync_slot_of sizes) ≡ false
    → suits (expect_of sizes version receiver slot stage) (message_of sender slot stage value) ≡ true
value_suits sizes version sender receiver slot stage (heard.Word word) same below =
    all_four (sender.frame % 65536 == receiver.frame % 65536) (slot == slot) (stage == stage) (tag_suits (slot == sync_slot_of sizes) tag.Word)
    (ap (λ f. f % 65536 == receiver.frame % 65536) same ∙ eq_self (receiver.frame % 65536)) (eq_self slot) (eq_self stage)
    (ap (λ b. tag_suits b tag.Word) below)
value_suits sizes version sender receiver slot stage heard.Fault same below =
    all_four (sender.frame % 65536 == receiver.frame % 65536) (slot == slot) (stage == stage) (tag_suits (slot == sync_slot_of sizes) tag.Fault)
    (ap (λ f. f % 65536 == receiver.frame % 65536) same ∙ eq_self (receiver.frame % 65536)) (eq_self slot) (eq_self stage)
    (ap (λ b. tag_suits b tag.Fault) below)

-- the message of a value has that value in it
pub value_is_in : (sender : NodeState) (slot stage stamp : ℕ) (value : Heard) → value_in (One stamp (message_of sender slot stage value)) ≡ Some value
value_is_in sender slot stage stamp (heard.Word word) = refl
value_is_in sender slot stage stamp heard.Fault = refl

-- a message can carry the value
abbrev pub IsCarried : Heard → Type 0
IsCarried (heard.Word word) = word < 2 ^ 32
IsCarried heard.Fault = ⊤

-- a node's value is a message in range
pub value_is_message : (sender : NodeState) (slot stage : ℕ) (value : Heard) → slot < 2 ^ 16 → 1 ≤ stage → stage ≤ 3 → IsCarried value
    → IsMessage (message_of sender slot stage value)
value_is_message sender slot stage (heard.Word word) s some most fits =
    record { frame = omega arith; slot = s; some_stage = some; most_stages = most; value = fits }
value_is_message sender slot stage heard.Fault s some most fits =
    record { frame = omega arith; slot = s; some_stage = some; most_stages = most; value = refl }

-- a node's value below the sync slot is heard as said, by a node in the same frame on the same bus
pub value_is_heard : (sizes : Sizes) (version : Version) (sender receiver : NodeState) (slot stage stamp : ℕ) (value : Heard)
    → sender.frame ≡ receiver.frame → (slot == sync_slot_of sizes) ≡ false → slot < 2 ^ 16 → 1 ≤ stage → stage ≤ 3 → IsCarried value
    → sense_of (expect_of sizes version receiver slot stage)
    (record { stamp = stamp; bytes = spelling_of version (message_of sender slot stage value) } ∷ [])
    ≡ One stamp (message_of sender slot stage value)
value_is_heard sizes version sender receiver slot stage stamp value same below s some most fits =
    spelled_is_one (expect_of sizes version receiver slot stage) stamp (spelling_of version (message_of sender slot stage value)) (message_of sender slot stage value)
    (value_is_message sender slot stage value s some most fits, refl) (value_suits sizes version sender receiver slot stage value same below)

-- a call is heard as a call
pub call_is_heard : (sizes : Sizes) (version : Version) (sender receiver : NodeState) (stage stamp : ℕ)
    → sender.frame ≡ receiver.frame → sync_slot_of sizes < 2 ^ 16 → 1 ≤ stage → stage ≤ 3
    → sense_of (expect_of sizes version receiver (sync_slot_of sizes) stage) (record { stamp = stamp; bytes = spelling_of version (call_of sizes sender stage) } ∷ [])
    ≡ One stamp (call_of sizes sender stage)
call_is_heard sizes version sender receiver stage stamp same s some most =
    let is : IsMessage (call_of sizes sender stage) = record { frame = omega arith; slot = s; some_stage = some; most_stages = most; value = refl } in
    let suited : suits (expect_of sizes version receiver (sync_slot_of sizes) stage) (call_of sizes sender stage) ≡ true =
    all_four (sender.frame % 65536 == receiver.frame % 65536) (sync_slot_of sizes == sync_slot_of sizes) (stage == stage) (sync_slot_of sizes == sync_slot_of sizes)
    (ap (λ f. f % 65536 == receiver.frame % 65536) same ∙ eq_self (receiver.frame % 65536)) (eq_self (sync_slot_of sizes)) (eq_self stage)
    (eq_self (sync_slot_of sizes)) in
    spelled_is_one (expect_of sizes version receiver (sync_slot_of sizes) stage) stamp (spelling_of version (call_of sizes sender stage)) (call_of sizes sender stage)
    (is, refl) suited
