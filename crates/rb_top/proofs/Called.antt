-- All that is promised of a command, from its answer.
use Rattle.std.proofs.Common.{Bool, true, List, Option, None, refl}
use Rattle.rb_world_book.specs.declared.turn.Turn.{Turn}
use Rattle.rb_run.specs.{Histories.HasDriven, Seen.{SeenDrive, SeenSink, SeenSource, drive_of}}
use Rattle.rb_scenario.specs.{Acceptance.as_scenario, declared.scenario.Scenario.Scenario as Accepted}
use Rattle.rb_program.specs.declared.status.Status.{Status}
use Rattle.rb_top.specs.{declared.form.Form.Form, Answers.{CommandAnswers, command_of}, Calls.{AnswersAlone, AnswersDriven, DrivesTheInput}, Reading.ReadsScenario}
use Rattle.rb_top.proofs.{Completeness.{IsSound, completes}, Promised.promised}

pub answers_alone : (form : Form) → IsSound (command_of form) → (status : Status) (source : SeenSource) (sink : SeenSink)
    → ((is_plain : Bool) (told : Option (List Turn)) → CommandAnswers (command_of form) status source sink (drive_of is_plain told told))
    → AnswersAlone form status source sink
answers_alone form sound status source sink answers = record {
  promise = λ h. promised form status source sink (drive_of true None None) refl ((answers true None).ended h);
  answers = answers;
  complete = completes (command_of form) sound status source sink (drive_of true None None) (answers true None);
}

pub answers_driven : (form : Form) → IsSound (command_of form) → (status : Status) (source : SeenSource) (sink : SeenSink) (drive : SeenDrive)
    → CommandAnswers (command_of form) status source sink drive → AnswersDriven form status source sink drive
answers_driven form sound status source sink drive answers = record {
  promise = λ plain h. promised form status source sink drive plain (answers.ended h);
  answers = answers;
  complete = completes (command_of form) sound status source sink drive answers;
}

-- the drive has gone through the run of the scenario that was read
pub drives_the_input : {D : Type 0} {gives : D → Turn → Turn → Type 0} {keeps : D → D → Turn → Type 0} {drive drive' : D} (source : SeenSource) (accepted : Accepted)
    → ReadsScenario source accepted → HasDriven (as_scenario accepted) gives keeps drive drive' → DrivesTheInput source gives keeps drive drive'
drives_the_input source accepted reads driven = record {
  input = reads.input;
  scenario = as_scenario accepted;
  read = reads.read;
  says = record { accepted = accepted; is = reads.is; shows = refl };
  driven = driven;
}
