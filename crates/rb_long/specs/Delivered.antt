-- The letters among what ports deliver.
use Rattle.std.specs.{Prelude.{ℕ, ◌==◌, nat_lt, ◌&&◌, Bool, Option, None, List, [], filter, map, if◌then◌else◌}, List.flat_map}
use Rattle.rb_base.specs.declared.values.Heard.{Heard}
use Rattle.rb_rules.specs.{declared.record.SlotLine.SlotLine, Book.Record, Book.Record.{Frame, Slot, Ended, Breach}}
use Rattle.rb_long.specs.Reading.{OpenLetter, given_with, open_after, with_value}

-- a bus has no more BIUs
abbrev pub is_named : SlotLine → Bool
is_named line = nat_lt line.receiver 16 && nat_lt line.sender 16

-- whether this receiver delivers of this sender
abbrev pub is_from : ℕ → ℕ → SlotLine → Bool
is_from receiver sender line = (line.receiver == receiver) && (line.sender == sender)

-- the values that the receiver delivers of the sender, in order
abbrev pub values_of : ℕ → ℕ → List SlotLine → List Heard
values_of receiver sender lines = map (λ (l : SlotLine). l.value) (filter (is_from receiver sender) lines)

-- the letter that is open at the receiver of the sender after these deliveries
abbrev pub open_at : ℕ → ℕ → List SlotLine → Option OpenLetter
open_at receiver sender lines = open_after None (values_of receiver sender lines)

-- the letters that the receiver gives of the sender in these deliveries
abbrev pub letters_of : ℕ → ℕ → List SlotLine → List (List ℕ)
letters_of receiver sender lines = given_with None (values_of receiver sender lines)

-- the letter that a delivery gives after these
abbrev pub letter_with : List SlotLine → SlotLine → Option (List ℕ)
letter_with past line =
    if is_named line then (with_value line.value (open_at line.receiver line.sender past)).given else None

-- the deliveries of a record
abbrev pub lines_in : Record → List SlotLine
lines_in (Frame frame nodes ports) = []
lines_in (Slot frame slot lines) = lines
lines_in Ended = []
lines_in (Breach place cause) = []

-- the deliveries of several records
abbrev pub deliveries_in : List Record → List SlotLine
deliveries_in records = flat_map lines_in records
