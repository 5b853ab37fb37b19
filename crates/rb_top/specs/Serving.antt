-- What comes of a run that is opened for a command, and of a log that is given to one.
use Rattle.std.specs.{Prelude.{⊤, ℕ, ◌≡◌, ◌⊎◌, List}, Io.KnownBytes.Appends}
use Rattle.rb_outside.specs.{Bytes.AppendsPart, Causes.Rose}
use Rattle.rb_base.specs.declared.node.NodeName.{NodeName}
use Rattle.rb_rules.specs.{Book.Record, Goodness.Scenario}
use Rattle.rb_record.specs.Recording.{WritesAll as WritesAllOf, WritesPart as WritesPartOfLog}
use Rattle.rb_run.specs.{Runs.{WritesAll, WritesPart}, Seen.{SeenDrive, SeenSink}}
use Rattle.rb_scenario.specs.{Acceptance.as_scenario, declared.scenario.Scenario.Scenario as Accepted}
use Rattle.rb_program.specs.{declared.status.Status.Status, Statuses.{HasEnded, IsOfRun}}
use Rattle.rb_top.specs.{Commands.{EndsAs, IsSummary}, Texts.Telling}
use Rattle.rb_program.specs.declared.status.Status.TheVariants as answer

-- a run was opened, the drive gave all its turns, and what is said of their records was written
pub record IsTold (says : List Record → List ℕ) (sc : Scenario) (status : Status) (drive : SeenDrive) (sink : SeenSink) : Type 0 where
  pub ends : EndsAs sc status
  pub written : WritesAll says sc drive sink.held sink.held'

-- what comes of a run that was opened and told, by the answer
pub record Reports (tells : Telling) (accepted : Accepted) (status : Status) (sink : SeenSink) (drive : SeenDrive) : Type 0 where
  pub ended : HasEnded status → IsTold (tells (as_scenario accepted)) (as_scenario accepted) status drive sink
  pub part : status ≡ answer.WriteFault → WritesPart (tells (as_scenario accepted)) (as_scenario accepted) drive sink.held sink.held'
  pub cause : status ≡ answer.WriteFault → Rose sink.faults sink.faults'
  pub one_of : IsOfRun status

-- a generated run was opened, the drive gave all its turns, and what is due of them was written
pub record IsSummed (seed frames : ℕ) (status : Status) (drive : SeenDrive) (sink : SeenSink) : Type 0 where
  pub text : List ℕ
  pub due : IsSummary seed frames drive status text
  pub written : Appends sink.held sink.held' text

-- the first bytes of the four lines were written, the run having ended without a breach
pub record FailsToSum (seed frames : ℕ) (drive : SeenDrive) (sink : SeenSink) : Type 0 where
  pub text : List ℕ
  pub due : IsSummary seed frames drive answer.Done text
  pub written : AppendsPart sink.held sink.held' text

-- what comes of a generated run that was opened, by the answer
pub record Sums (seed frames : ℕ) (status : Status) (sink : SeenSink) (drive : SeenDrive) : Type 0 where
  pub ended : HasEnded status → IsSummed seed frames status drive sink
  pub part : status ≡ answer.WriteFault → FailsToSum seed frames drive sink
  pub cause : status ≡ answer.WriteFault → Rose sink.faults sink.faults'
  pub one_of : IsOfRun status

-- a run was opened and ended so, and the log of a node in it was written
pub record IsLogged (sc : Scenario) (node : NodeName) (status : Status) (sink : SeenSink) : Type 0 where
  pub ends : EndsAs sc status
  pub written : WritesAllOf sc node sink.held sink.held'

-- what comes of a run that was opened and recorded, by the answer
pub record Logs (accepted : Accepted) (node : NodeName) (status : Status) (sink : SeenSink) : Type 0 where
  pub ended : HasEnded status → IsLogged (as_scenario accepted) node status sink
  pub part : status ≡ answer.WriteFault → WritesPartOfLog (as_scenario accepted) node sink.held sink.held'
  pub cause : status ≡ answer.WriteFault → Rose sink.faults sink.faults'
  pub one_of : IsOfRun status

-- an answer of a form without a run, whose input has been read
abbrev pub IsOfText : Status → Type 0
IsOfText answer.Done = ⊤
IsOfText answer.WriteFault = ⊤
IsOfText answer.OutOfMemory = ⊤
IsOfText answer.Breach = ⊥
IsOfText answer.Usage = ⊥
IsOfText answer.Refused = ⊥
IsOfText answer.TooLong = ⊥
IsOfText answer.ReadFault = ⊥

-- an answer of a log that is replayed, or is none
abbrev pub IsOfLog : Status → Type 0
IsOfLog answer.Done = ⊤
IsOfLog answer.Refused = ⊤
IsOfLog answer.WriteFault = ⊤
IsOfLog answer.OutOfMemory = ⊥
IsOfLog answer.Breach = ⊥
IsOfLog answer.Usage = ⊥
IsOfLog answer.TooLong = ⊥
IsOfLog answer.ReadFault = ⊥

-- a text that is due of the bytes was written
pub record WritesOf (IsText : List ℕ → List ℕ → Type 0) (bytes : List ℕ) (sink : SeenSink) : Type 0 where
  pub text : List ℕ
  pub due : IsText bytes text
  pub written : Appends sink.held sink.held' text

-- the first bytes of a text that is due of the bytes were written
pub record WritesPartOf (IsText : List ℕ → List ℕ → Type 0) (bytes : List ℕ) (sink : SeenSink) : Type 0 where
  pub text : List ℕ
  pub due : IsText bytes text
  pub written : AppendsPart sink.held sink.held' text

-- a text of either kind
abbrev pub Either : (List ℕ → List ℕ → Type 0) → (List ℕ → List ℕ → Type 0) → List ℕ → List ℕ → Type 0
Either IsLine IsText bytes text = IsLine bytes text ⊎ IsText bytes text

-- a text that is due of the bytes of a log was written, or a line that refuses them, or a first
-- part of either and a write failed
pub record TellsOfLog (IsText IsLine : List ℕ → List ℕ → Type 0) (bytes : List ℕ) (status : Status) (sink : SeenSink) : Type 0 where
  pub done : status ≡ answer.Done → WritesOf IsText bytes sink
  pub refused : status ≡ answer.Refused → WritesOf IsLine bytes sink
  pub part : status ≡ answer.WriteFault → WritesPartOf (Either IsLine IsText) bytes sink
  pub cause : status ≡ answer.WriteFault → Rose sink.faults sink.faults'
  pub one_of : IsOfLog status
