-- What is promised of the commands that read a source, each as a call of its own.
use Rattle.std.specs.Prelude.{ℕ, Bool, IsTrue, List, Option, Some}
use Rattle.rb_rules.specs.Goodness.{Scenario}
use Rattle.rb_run.specs.{Histories.HasDriven, Seen.{SeenDrive, SeenSink, SeenSource, drive_of}}
use Rattle.rb_world_book.specs.declared.turn.Turn.{Turn}
use Rattle.rb_program.specs.{declared.status.Status.Status, Statuses.HasEnded}
use Rattle.rb_top.specs.{declared.form.Form.Form, Answers.{CommandAnswers, Completes, command_of}, Inputs.{IsReadBy, IsTextOf, scenario_limit}, Promise.KeepsItsPromise}

-- The answer of a command that asks no drive. It says the same whatever a drive has told
pub record AnswersAlone (form : Form) (status : Status) (source : SeenSource) (sink : SeenSink) : Type 0 where
  pub promise : HasEnded status → KeepsItsPromise form status source sink
  pub answers : (is_plain : Bool) (told : Option (List Turn)) → CommandAnswers (command_of form) status source sink (drive_of is_plain told told)
  pub complete : Completes form status source sink

-- The answer of a command that asks a drive for the turns of a run
pub record AnswersDriven (form : Form) (status : Status) (source : SeenSource) (sink : SeenSink) (drive : SeenDrive) : Type 0 where
  pub promise : IsTrue drive.is_plain → HasEnded status → KeepsItsPromise form status source sink
  pub answers : CommandAnswers (command_of form) status source sink drive
  pub complete : Completes form status source sink

-- the drive has gone through the run of the scenario that the input says, a call for each record
pub record DrivesTheInput {D : Type 0} (source : SeenSource) (gives : D → Turn → Turn → Type 0) (keeps : D → D → Turn → Type 0) (drive drive' : D) : Type 0 where
  pub input : List ℕ
  pub scenario : Scenario
  pub read : IsReadBy (Some scenario_limit) source input
  pub says : IsTextOf input scenario
  pub driven : HasDriven scenario gives keeps drive drive'
