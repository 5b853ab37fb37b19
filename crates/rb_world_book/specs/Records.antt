-- Turns, milestones and ways, as the definitions of a run have them.
use Rattle.std.specs.Prelude.{Option, Some, None}
use Rattle.rb_rules.specs.{Book.{Record, Milestone}, WorldStep.Way}
use Rattle.rb_world_book.specs.{declared.milestone.Milestone.Milestone as KeptMilestone, declared.milestone.Way.Way as KeptWay, declared.turn.Turn.Turn}
use Rattle.rb_world_book.specs.declared.milestone.Milestone.TheVariants as kept
use Rattle.rb_world_book.specs.declared.milestone.Way.TheVariants as kept_way
use Rattle.rb_world_book.specs.declared.turn.Turn.TheVariants as turn

abbrev pub milestone_of : KeptMilestone → Milestone
milestone_of (kept.Begin frame) = Milestone.Begin frame
milestone_of (kept.Stage place) = Milestone.Stage place
milestone_of kept.End = Milestone.End

abbrev pub way_of : KeptWay → Way
way_of kept_way.ByAnEvent = Way.ByAnEvent
way_of kept_way.ByItself = Way.ByItself

-- the record that a turn is, if it is one
abbrev pub record_of : Turn → Option Record
record_of turn.Quiet = None
record_of (turn.Frame f) = Some (Record.Frame f.frame f.nodes.items f.ports.items)
record_of (turn.Slot s) = Some (Record.Slot s.frame s.slot s.lines.items)
record_of turn.Ended = Some Record.Ended
record_of (turn.Breach place cause) = Some (Record.Breach place cause)
