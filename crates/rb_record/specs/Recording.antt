-- The log of what a node is given in a run, and how it is written while the run goes on.
use Rattle.std.specs.{Prelude.{⊤, ℕ, ◌≡◌, ◌+◌, ◌≤◌, true, false, Option, List, [], ◌∷◌, ◌++◌}, Io.KnownBytes.Appends}
use Rattle.rb_base.specs.{declared.event.Event.Event, declared.node.NodeName.NodeName}
use Rattle.rb_rules.specs.Goodness.{Scenario}
use Rattle.rb_laws_logs.specs.Given.{AreGiven, first_run, given_in}
use Rattle.rb_log.specs.{Header.header_of, Laws.ticks_in, Writing.{HasBytes, Tally, ticks_given, written}}
use Rattle.rb_plan.specs.Timetable.{Timetable}
use Rattle.rb_outside.specs.Bytes.{AppendsPart}
use Rattle.rb_world.specs.Worlds.{KeptWorld, Stands}
use Rattle.rb_record.specs.Buffering.{PassesOn}

-- the numbers of a bus
abbrev pub timetable_of : Scenario → Timetable
timetable_of sc = record { sizes = sc.sizes; plan = sc.plan }

-- the log in which a node of the bus is given `events`
abbrev pub log_text : Scenario → NodeName → List Event → List ℕ
log_text sc name events = header_of (timetable_of sc) name ++ written 0 events

-- the log of all that the node is given in the run was written
pub record WritesAll (sc : Scenario) (name : NodeName) (held since : Option (List ℕ)) : Type 0 where
  pub events : List Event
  pub given : AreGiven sc name events
  pub text : Appends held since (log_text sc name events)

-- a first part of the log of all that the node is given in the run was written
pub record WritesPart (sc : Scenario) (name : NodeName) (held since : Option (List ℕ)) : Type 0 where
  pub events : List Event
  pub given : AreGiven sc name events
  pub text : AppendsPart held since (log_text sc name events)

-- While the run goes on.

-- a log of `ticks` ticks has room for event e: a log has at most 2^31 ticks, and an arrival has
-- bytes
abbrev pub HasRoom : ℕ → Event → Type 0
HasRoom ticks e = (ticks + ticks_given e ≤ 2147483648) × HasBytes e.kind

-- a log of `ticks` ticks has room for the events, one after another
abbrev pub MayTell : ℕ → List Event → Type 0
MayTell ticks [] = ⊤
MayTell ticks (e ∷ events) = HasRoom ticks e × MayTell (ticks + ticks_given e) events

-- the writer was told `events`, with which `bytes` are complete, whatever follows
pub record IsTold (before after : Tally) (events : List Event) (bytes : List ℕ) : Type 0 where
  pub text : (others : List Event) → written before.waiting (events ++ others) ≡ bytes ++ written after.waiting others
  pub ticks : after.ticks ≡ before.ticks + ticks_in events

-- `events` come next in the log, and the bytes that are complete with them were passed on
pub record PassesNext (log later : Tally) (before after : List ℕ) (events : List Event) (held since : Option (List ℕ)) : Type 0 where
  pub bytes : List ℕ
  pub told : IsTold log later events bytes
  pub passed : PassesOn before after bytes held since

-- a write failed: a first part was written of what waited and of what is written if these events
-- come next, whatever follows
abbrev pub PassesPartOf : Tally → List ℕ → List Event → Option (List ℕ) → Option (List ℕ) → Type 0
PassesPartOf log before events held since = (others : List Event) → AppendsPart held since (before ++ written log.waiting (events ++ others))

-- From the start of the run.

-- a writer that was given nothing yet
abbrev pub fresh_log : Tally
fresh_log = record { ticks = 0; waiting = 0 }

-- the world has had n steps, the first due event taken each time, and of the log's records all was
-- written or waits that is complete with what the node was given
pub record IsRecorded (sc : Scenario) (name : NodeName) (n : ℕ) (k : KeptWorld) (log : Tally) (waiting : List ℕ) (held since : Option (List ℕ)) : Type 0 where
  pub bus : k.bus ≡ sc
  pub stands : Stands k (first_run sc n)
  pub passes : PassesNext fresh_log log [] waiting (given_in sc name n) held since

-- the log is recorded so after at least `records` steps, and the run goes on
pub record IsRecordedSoFar (sc : Scenario) (name : NodeName) (records : ℕ) (k : KeptWorld) (log : Tally) (waiting : List ℕ) (held since : Option (List ℕ)) : Type 0 where
  pub steps : ℕ
  pub many : records ≤ steps
  pub going : (first_run sc steps).book.ended ≡ false
  pub recorded : IsRecorded sc name steps k log waiting held since

-- the run has ended, and all is written or waits but the log's end
pub record IsRecordedWhole (sc : Scenario) (name : NodeName) (k : KeptWorld) (log : Tally) (waiting : List ℕ) (held since : Option (List ℕ)) : Type 0 where
  pub steps : ℕ
  pub over : (first_run sc steps).book.ended ≡ true
  pub recorded : IsRecorded sc name steps k log waiting held since

-- a first part was written of the records of all that the node is given
pub record IsRecordedInPart (sc : Scenario) (name : NodeName) (held since : Option (List ℕ)) : Type 0 where
  pub events : List Event
  pub given : AreGiven sc name events
  pub text : AppendsPart held since (written 0 events)
