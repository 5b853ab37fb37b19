-- What holds of every log that is recorded.
use Rattle.std.specs.{Prelude.{◌≡◌, List, Ok}, List.flat_map}
use Rattle.rb_base.specs.{declared.event.Event.Event, declared.node.NodeName.NodeName}
use Rattle.rb_rules.specs.{Entries.IsListed, Goodness.Scenario, Lawful.{IsLawful, IsNodeOf}}
use Rattle.rb_laws_logs.specs.Given.{AreGiven}
use Rattle.rb_log.specs.{LogText.log_in, Writing.given}
use Rattle.rb_record.specs.Recording.{log_text}

-- if faulty nodes do what the entries list, what is recorded of a node is a log, which says the
-- numbers of the bus, the node, and what the node was given
abbrev pub RecordedIsRead : Type 0
RecordedIsRead =
    (sc : Scenario) → IsLawful sc → IsListed sc → (name : NodeName) → IsNodeOf sc.sizes name → (events : List Event) → AreGiven sc name events
    → log_in (log_text sc name events) ≡ Ok (record { timetable = record { sizes = sc.sizes; plan = sc.plan }; node = name; events = flat_map given events })

-- there is one log of a node: what it is given in the run is one list
abbrev pub OneLog : Type 0
OneLog = (sc : Scenario) (name : NodeName) (events others : List Event) → AreGiven sc name events → AreGiven sc name others → events ≡ others
