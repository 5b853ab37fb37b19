-- What is said of a group of replicas in a run, record by record.
use Rattle.std.specs.{Prelude.{ℕ, ◌+◌, ◌-◌, max, nat_lt, if◌then◌else◌, Option, Some, None, List, [], ◌∷◌, ◌++◌}, List.flat_map}
use Rattle.rb_base.specs.{Counting.numbers, Nodes.Side.Biu, Sizes.Sizes, declared.values.Delivery.Delivery, declared.values.Heard.Heard}
use Rattle.rb_rules.specs.{Book.Record, Book.Record.{Frame, Slot, Ended, Breach}, Goodness.{Scenario, is_good}}
use Rattle.rb_report.specs.Report.{breach_text, end_text, group_text}
use Rattle.rb_group.specs.{Groups.group_value, Portions.{told_of, value_at}}
use Rattle.rb_group_run.specs.declared.asked.Asked.{Asked}

-- How far records tell.

-- the frame of a record. That of the end is the one after all `frames` of the run
abbrev pub frame_of : ℕ → Record → ℕ
frame_of frames (Frame frame nodes ports) = frame
frame_of frames (Slot frame slot lines) = frame
frame_of frames Ended = frames
frame_of frames (Breach place cause) = place.frame

-- the last frame of which records tell
abbrev pub reached : ℕ → List Record → ℕ
reached frames [] = 0
reached frames (r ∷ rs) = max (frame_of frames r) (reached frames rs)

-- What is said.

-- what a port finds, by what was told of it
abbrev pub value_found : Asked → (ℕ → List Delivery) → ℕ → Heard
value_found asked told i = group_value asked.which asked.members (told i)

abbrev pub last_data_slot : Sizes → ℕ
last_data_slot sizes = sizes.bius + sizes.data_slots - 1

-- the line of a BIU, if it is good in the last data slot of the frame, with the value that it finds
abbrev pub port_text : Scenario → ℕ → (ℕ → Heard) → ℕ → List ℕ
port_text sc frame value i = if is_good sc Biu i frame (last_data_slot sc.sizes) then group_text frame i (value i) else []

-- the lines of a frame, by BIU
abbrev pub frame_text : Scenario → ℕ → (ℕ → Heard) → List ℕ
frame_text sc frame value = flat_map (port_text sc frame value) (numbers sc.sizes.bius)

-- the last line of a run of `frames` frames
abbrev pub ending_text : ℕ → Record → List ℕ
ending_text frames (Frame frame nodes ports) = []
ending_text frames (Slot frame slot lines) = []
ending_text frames Ended = end_text frames
ending_text frames (Breach place cause) = breach_text place cause

-- what a record says after others: the values of the frame that they tell of, if it is of a later
-- one, and the end
abbrev pub record_text : Scenario → Asked → List Record → Record → List ℕ
record_text sc asked before r =
    (if nat_lt (reached sc.frames before) (frame_of sc.frames r)
    then frame_text sc (reached sc.frames before) (value_at asked.which asked.members before (reached sc.frames before)) else [])
    ++ ending_text sc.frames r

-- the text of records in order, after others
abbrev pub text_after : Scenario → Asked → List Record → List Record → List ℕ
text_after sc asked before [] = []
text_after sc asked before (r ∷ rs) = record_text sc asked before r ++ text_after sc asked (before ++ r ∷ []) rs

abbrev pub groups_text : Scenario → Asked → List Record → List ℕ
groups_text sc asked records = text_after sc asked [] records

-- Turn by turn.

-- what a turn says that is this record, if it is one
abbrev pub turn_text : Scenario → Asked → List Record → Option Record → List ℕ
turn_text sc asked before None = []
turn_text sc asked before (Some r) = record_text sc asked before r

-- the last line, if it is the last record
abbrev pub ending_in : ℕ → Option Record → List ℕ
ending_in frames None = []
ending_in frames (Some r) = ending_text frames r

-- the frame of a record, or `newest` if there is no record
abbrev pub frame_or : ℕ → ℕ → Option Record → ℕ
frame_or frames newest None = newest
frame_or frames newest (Some r) = frame_of frames r

-- what a receiver delivered in a frame, as far as it tells
abbrev pub told_in : ℕ → ℕ → Option Record → List Delivery
told_in frame receiver None = []
told_in frame receiver (Some r) = told_of frame receiver r
