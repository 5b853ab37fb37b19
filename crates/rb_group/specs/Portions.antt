-- What a port delivered in a frame, by the records of a run.
use Rattle.std.specs.{Prelude.{ℕ, ◌==◌, List, [], ◌∷◌, if◌then◌else◌}, List.flat_map}
use Rattle.rb_base.specs.{declared.values.Delivery.Delivery, declared.values.Heard.Heard}
use Rattle.rb_rules.specs.{declared.record.SlotLine.SlotLine, Book.Record, Book.Record.{Frame, Slot, Ended, Breach}}
use Rattle.rb_group.specs.{declared.voters.Which.Which, Groups.group_value}

-- a line of a slot as a delivery
abbrev pub delivery_of : ℕ → ℕ → SlotLine → Delivery
delivery_of frame slot line = record { frame = frame; slot = slot; sender = line.sender; value = line.value }

-- what a line says that a receiver delivered
abbrev pub line_told : ℕ → ℕ → ℕ → SlotLine → List Delivery
line_told frame slot receiver line = if line.receiver == receiver then delivery_of frame slot line ∷ [] else []

-- what a receiver delivered in a slot
abbrev pub deliveries_in : ℕ → ℕ → ℕ → List SlotLine → List Delivery
deliveries_in frame slot receiver lines = flat_map (line_told frame slot receiver) lines

-- what a receiver delivered in a frame, as far as a record tells
abbrev pub told_of : ℕ → ℕ → Record → List Delivery
told_of frame receiver (Frame f nodes ports) = []
told_of frame receiver (Slot f slot lines) = if f == frame then deliveries_in frame slot receiver lines else []
told_of frame receiver Ended = []
told_of frame receiver (Breach place cause) = []

-- what a receiver delivered in a frame, in order
abbrev pub port_deliveries : ℕ → ℕ → List Record → List Delivery
port_deliveries frame receiver records = flat_map (told_of frame receiver) records

-- the value that a receiver finds for a group in a frame
abbrev pub value_at : Which → ℕ → List Record → ℕ → ℕ → Heard
value_at which members records frame receiver = group_value which members (port_deliveries frame receiver records)
