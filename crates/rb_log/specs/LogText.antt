-- What a log says, by the bytes that spell it.
use Rattle.std.specs.Prelude.{ℕ, List, Result, Ok}
use Rattle.rb_base.specs.{Nodes.other, declared.node.NodeName.NodeName}
use Rattle.rb_rules.specs.{Core.CoreEvent, Lawful.kind_of, Slots.count_of}
use Rattle.rb_plan.specs.Timetable.{Timetable}
use Rattle.rb_log.specs.{Entries.events_at, Fields.{◌>>=◌}, Header.header_in, declared.refusal.LogRefusal.LogRefusal}

-- the numbers of the bus, the node whose log it is, and what it was given
pub record Log : Type 0 where
  pub timetable : Timetable
  pub node : NodeName
  pub events : List CoreEvent

-- how many nodes may have sent what arrives at the node
abbrev pub senders_of : Timetable → NodeName → ℕ
senders_of t node = count_of (other (kind_of node)) t.sizes

-- the log that the bytes spell, or their first fault, from the front
unfoldable pub log_in : List ℕ → Result Log LogRefusal
log_in bytes = do
  header ← header_in bytes
  events ← events_at (senders_of header.plan header.node) bytes header.size 0
  Ok (record { timetable = header.plan; node = header.node; events = events })
