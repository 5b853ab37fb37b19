-- Record and replay.
use Rattle.std.specs.{Prelude.{Ok, ℕ, ◌≡◌, Bool, true, false, if◌then◌else◌, None, List, [], ◌∷◌, ◌++◌}, List.{flat_map, list_any}}
use Rattle.rb_base.specs.{declared.event.Event.Event, declared.node.NodeName.NodeName, declared.node.NodeName.TheVariants.Biu}
use Rattle.rb_rules.specs.{declared.record.NodeLine.NodeLine, declared.record.SlotLine.SlotLine, Book.Record, Book.Record.{Frame, Slot, Ended, Breach}, Entries.IsListed, Goodness.{Scenario, is_good}, Lawful.{IsLawful, kind_of}, Links.same_node, Rounds.records_of}
use Rattle.rb_plan.specs.Timetable.{Timetable}
use Rattle.rb_log.specs.{Header.header_of, LogText.{Log, log_in}, Writing.{given, written}}
use Rattle.rb_report.specs.Report.{breach_text, convicted_text, delivery_text, end_text, epoch_text}
use Rattle.rb_laws_logs.specs.{Given.{AreGiven, index_of}, Replays.replay_text}

-- The lines of one node in the report of a run.

-- the line of a node's first tick of a frame, without the time
abbrev pub first_tick_of : NodeName → ℕ → NodeLine → List ℕ
first_tick_of name frame n = if same_node n.node name then epoch_text frame name n.tick None else []

-- the line of the nodes that a node holds convicted when it begins a frame
abbrev pub convicted_by : NodeName → ℕ → NodeLine → List ℕ
convicted_by name frame n = if same_node n.node name then convicted_text frame name n.biu n.rmu else []

-- the line of what a node delivered in a slot
abbrev pub delivered_by : NodeName → ℕ → ℕ → SlotLine → List ℕ
delivered_by name frame slot l = if same_node (Biu l.receiver) name then delivery_text frame slot l.receiver l.sender l.value else []

-- the report of records, the newest block before them being that of frame `newest`, with all lines
-- of other nodes, all times and all lines of ports left out
abbrev pub lines_after : NodeName → ℕ → List Record → List ℕ
lines_after name newest [] = []
lines_after name newest (Frame frame nodes ports ∷ records) =
    flat_map (first_tick_of name frame) nodes ++ flat_map (convicted_by name frame) nodes ++ lines_after name frame records
lines_after name newest (Slot frame slot lines ∷ records) = flat_map (delivered_by name frame slot) lines ++ lines_after name newest records
lines_after name newest (Ended ∷ records) = end_text newest ++ lines_after name newest records
lines_after name newest (Breach place cause ∷ records) = breach_text place cause ++ lines_after name newest records

abbrev pub report_of_node : NodeName → List Record → List ℕ
report_of_node name records = lines_after name 0 records

-- The laws.

abbrev pub is_breach : Record → Bool
is_breach (Frame frame nodes ports) = false
is_breach (Slot frame slot lines) = false
is_breach Ended = false
is_breach (Breach place cause) = true

-- the run has no breach
abbrev pub EndsWithoutBreach : Scenario → Type 0
EndsWithoutBreach sc = list_any is_breach (records_of sc []) ≡ false

-- the node is good with the last block, and so at each place before it
abbrev pub IsGoodThroughout : Scenario → NodeName → Type 0
IsGoodThroughout sc name = is_good sc (kind_of name) (index_of name) sc.frames 0 ≡ true

-- each node is given one list of events
abbrev pub OneListIsGiven : Type 0
OneListIsGiven =
    (sc : Scenario) → IsLawful sc → IsListed sc → (name : NodeName)
    → (events : List Event) × (AreGiven sc name events × ((others : List Event) → AreGiven sc name others → others ≡ events))

-- a node that is good throughout a run without a breach, and is given once more what it was given,
-- says once more what the report says of it
abbrev pub ReplayIsTheReport : Type 0
ReplayIsTheReport =
    (sc : Scenario) → IsLawful sc → EndsWithoutBreach sc → (name : NodeName) → IsGoodThroughout sc name
    → (events : List Event) → AreGiven sc name events
    → replay_text sc.sizes sc.plan name (flat_map given events) ≡ report_of_node name (records_of sc [])

-- what the recorder writes of its events is a log, and what a replay tells of that log is this
-- report
abbrev pub ALogTellsTheReport : Type 0
ALogTellsTheReport =
    (sc : Scenario) → IsLawful sc → IsListed sc → EndsWithoutBreach sc → (name : NodeName) → IsGoodThroughout sc name
    → (events : List Event) → AreGiven sc name events → (t : Timetable) → t.sizes ≡ sc.sizes → t.plan ≡ sc.plan
    → (log : Log) × ((log_in (header_of t name ++ written 0 events) ≡ Ok log)
    × (replay_text log.timetable.sizes log.timetable.plan log.node log.events ≡ report_of_node name (records_of sc [])))
