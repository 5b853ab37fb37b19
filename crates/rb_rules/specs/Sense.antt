-- What a node makes of the arrivals of one source in a window.
use Rattle.std.specs.Prelude.{ℕ, ◌==◌, ◌&&◌, Bool, true, false, if◌then◌else◌, Option, Some, None, List, [], ◌∷◌}
use Rattle.rb_base.specs.declared.values.Heard.{Heard}
use Rattle.rb_rules.specs.{declared.message.Message.Message, declared.message.Tag.Tag, declared.sense.Expect.Expect, declared.sense.Sense.Sense, declared.sense.Sense.TheVariants.{Silent, One, Bad}, Spelling.message_in}
use Rattle.rb_base.specs.declared.values.Heard.TheVariants as heard
use Rattle.rb_rules.specs.declared.message.Tag.TheVariants as tag

-- an arrival: its stamp, a tick of the receiver's clock, and its bytes
pub record Arrival : Type 0 where
  pub stamp : ℕ
  pub bytes : List ℕ

-- a call to resynchronize suits the sync slot; a word and a fault suit the other slots
abbrev pub tag_suits : Bool → Tag → Bool
tag_suits in_sync tag.Word = if in_sync then false else true
tag_suits in_sync tag.Fault = if in_sync then false else true
tag_suits in_sync tag.Sync = in_sync

-- the message is meant for the window
abbrev pub suits : Expect → Message → Bool
suits e m = (m.frame == e.frame) && (m.slot == e.slot) && (m.stage == e.stage) && tag_suits e.sync m.tag

-- the sense of a sole arrival, by its stamp and by the message that its bytes spell
abbrev pub sense_of_one : Expect → ℕ → Option Message → Sense
sense_of_one e stamp None = Bad
sense_of_one e stamp (Some m) = if suits e m then One stamp m else Bad

-- the sense of all arrivals from a source: silent if there is none, bad if there is more than one.
-- Bytes are read in the bus's own version, its number included
abbrev pub sense_of : Expect → List Arrival → Sense
sense_of e [] = Silent
sense_of e (a ∷ []) = sense_of_one e a.stamp (message_in e.version a.bytes)
sense_of e (a ∷ (b ∷ others)) = Bad

abbrev pub is_silent : Sense → Bool
is_silent Silent = true
is_silent (One stamp m) = false
is_silent Bad = false

abbrev pub is_one : Sense → Bool
is_one Silent = false
is_one (One stamp m) = true
is_one Bad = false

-- the value that a message carries; a call to resynchronize carries none
abbrev pub value_of : Tag → ℕ → Option Heard
value_of tag.Word value = Some (heard.Word value)
value_of tag.Fault value = Some heard.Fault
value_of tag.Sync value = None

-- the value of the message that came, if one came
abbrev pub value_in : Sense → Option Heard
value_in Silent = None
value_in (One stamp m) = value_of m.tag m.value
value_in Bad = None

-- the stamp with which a message came
abbrev pub stamp_in : Sense → Option ℕ
stamp_in Silent = None
stamp_in (One stamp m) = Some stamp
stamp_in Bad = None
