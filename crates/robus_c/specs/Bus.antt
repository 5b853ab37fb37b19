-- What `robus_call` promises of the very bytes.
use Rattle.std.specs.Prelude.{⊤, ℕ, ◌≡◌, ◌<◌, ◌⊎◌, true, List, [], length, Option, Some, None}
use Rattle.rb_base.specs.declared.node.NodeName.{NodeName}
use Rattle.rb_rules.specs.{Entries.IsListed, Goodness.Scenario, Lawful.IsLawful, Rounds.records_of}
use Rattle.rb_group.specs.declared.voters.Which.{Which}
use Rattle.rb_laws_groups.specs.Laws.{FindsTheMembers, PortsFindAlike}
use Rattle.rb_laws_letters.specs.Laws.{PortsReceiveAlike, PortsReceiveGoodSenders}
use Rattle.rb_laws_logs.specs.Laws.{EndsWithoutBreach, IsGoodThroughout, report_of_node}
use Rattle.rb_laws_promise.specs.Promise.{KeepsThePromise}
use Rattle.rb_gen.specs.Generated.{generated}
use Rattle.rb_run.specs.Seen.{drive_of}
use Rattle.rb_program.specs.{declared.status.Status.Status, Statuses.{HasEnded, WritesNothing, number_of}}
use Rattle.rb_top.specs.{declared.form.Form.Form, declared.form.Form.TheVariants.{Check, Gen, Group, Letters, Listen, Record, Replay, Run, Show, Spell, Stress}, Answers.{IsDue, IsEnd, IsRefusedWith, IsWithin, limit_of}, Commands.{EndsAs, IsReplay}, Inputs.IsTextOf, Texts.{Telling, summary_with, told_by_group, told_by_letters, told_by_run}, Words.{IsInRange, words_of}}
use Rattle.robus_c.specs.{declared.answer.Answer.Answer, Put.IsAnswer}
use Rattle.rb_program.specs.declared.status.Status.TheVariants as code

-- the words are those of the form, whose numbers and letter are in range
pub record Ask (words : List (List ℕ)) (form : Form) : Type 0 where
  pub same : words ≡ words_of form
  pub in_range : IsInRange form

-- what is read of the input: all of it, or nothing by a form that reads nothing
abbrev pub read_by : Option ℕ → List ℕ → List ℕ
read_by None input = []
read_by (Some limit) input = input

-- the input is longer than the form allows
abbrev pub IsOver : Option ℕ → List ℕ → Type 0
IsOver None input = ⊥
IsOver (Some limit) input = limit < length input

-- The promise of a report of a run, as `run` writes it, at Done and at Breach
pub record KeepsTheHeadline (tells : Telling) (status : Status) (input output : List ℕ) : Type 0 where
  pub scenario : Scenario
  pub accepted : IsTextOf input scenario  -- the input is the text of an accepted scenario
  pub lawful : IsLawful scenario  -- the scenario is lawful
  pub listed : IsListed scenario  -- faulty nodes do what the scenario's entries list
  pub is : output ≡ tells scenario (records_of scenario [])  -- the output is what is told of the scenario's rounds
  pub ends : EndsAs scenario status  -- the answer is Breach if and only if the rounds end with a breach
  pub promise : KeepsThePromise scenario []  -- the run keeps the promise of the bus up to its breach

-- The promise of `stress`, at Done and at Breach
pub record SumsTheHeadline (seed frames : ℕ) (status : Status) (output : List ℕ) : Type 0 where
  pub ends : EndsAs (generated seed frames) status  -- the answer is Breach if and only if its rounds end with a breach
  pub is : output ≡ summary_with ends.ending (records_of (generated seed frames) [])  -- the output is the numbers of its rounds
  pub promise : KeepsThePromise (generated seed frames) []  -- the run keeps the promise of the bus up to its breach

-- The promise of `letters`, at Done and at Breach: that of its report, and of what ports receive
pub record KeepsTheLetters (status : Status) (input output : List ℕ) : Type 0 where
  pub report : KeepsTheHeadline told_by_letters status input output
  pub alike : PortsReceiveAlike report.scenario []  -- good ports receive the same letters from each sender, in the same slots
  pub received : PortsReceiveGoodSenders report.scenario []  -- good ports receive the letters of a good sender whole, once and in order

-- The promise of `group`, at Done and at Breach: that of its report, and of what ports find
pub record KeepsTheGroup (which : Which) (members : ℕ) (status : Status) (input output : List ℕ) : Type 0 where
  pub report : KeepsTheHeadline (told_by_group which members) status input output
  pub alike : PortsFindAlike report.scenario [] which members  -- good ports find equal values in each frame
  pub found : FindsTheMembers report.scenario [] which members  -- good ports find the word of the good members, if these outnumber the others

-- The promise of `record`, at Done and at Breach
pub record KeepsTheLog (node : NodeName) (input output : List ℕ) : Type 0 where
  pub scenario : Scenario
  pub accepted : IsTextOf input scenario  -- the input is the text of an accepted scenario
  -- if the node is good throughout and the run has no breach, what is due of `replay` for the
  -- output is what the run's report tells of the node
  pub replayed : EndsWithoutBreach scenario → IsGoodThroughout scenario node → IsReplay output (report_of_node node (records_of scenario []))
  pub promise : KeepsThePromise scenario []  -- the run keeps the promise of the bus up to its breach

-- the promise of a form. A form that runs no bus has none
abbrev pub KeepsItsPromise : Form → Status → List ℕ → List ℕ → Type 0
KeepsItsPromise Run status input output = KeepsTheHeadline told_by_run status input output
KeepsItsPromise Check status input output = ⊤
KeepsItsPromise (Gen seed frames) status input output = ⊤
KeepsItsPromise (Stress seed frames) status input output = SumsTheHeadline seed frames status output
KeepsItsPromise (Record node) status input output = KeepsTheLog node input output
KeepsItsPromise Replay status input output = ⊤
KeepsItsPromise (Spell letter) status input output = ⊤
KeepsItsPromise Letters status input output = KeepsTheLetters status input output
KeepsItsPromise (Group which members) status input output = KeepsTheGroup which members status input output
KeepsItsPromise (Listen skip) status input output = ⊤
KeepsItsPromise (Show flag) status input output = ⊤

-- The answer to a form, for what is read of the input
pub record AnswersForm (form : Form) (input output : List ℕ) (status : Status) : Type 0 where
  pub promise : HasEnded status → KeepsItsPromise form status input output
  pub ended : HasEnded status → IsDue form input (drive_of true None None) status output  -- the output is the form's text
  pub refused : status ≡ code.Refused → IsRefusedWith form input output  -- the input is refused, and the output is the line that says why
  pub too_long : status ≡ code.TooLong → IsOver (limit_of form) input
  pub complete : (end : Status) → IsEnd form input end → IsWithin (limit_of form) input
      → (status ≡ end) ⊎ (status ≡ code.OutOfMemory)  -- the answer that is due comes, or memory runs out
  pub refused_at_once : (line : List ℕ) → IsRefusedWith form input line → IsWithin (limit_of form) input
      → (status ≡ code.Refused) ⊎ (status ≡ code.OutOfMemory)

-- The answer to words. Reading and writing never fail
pub record Answers (words : List (List ℕ)) (input output : List ℕ) (status : Status) : Type 0 where
  pub unknown : status ≡ code.Usage → (form : Form) → ¬ Ask words form
  pub usage : ((form : Form) → ¬ Ask words form) → status ≡ code.Usage
  pub nothing : WritesNothing status → output ≡ []
  pub reads : ¬ (status ≡ code.ReadFault)
  pub writes : ¬ (status ≡ code.WriteFault)
  pub of_form : (form : Form) → Ask words form → AnswersForm form (read_by (limit_of form) input) output status

-- the number of a status with which this output comes
pub record Says (words : List (List ℕ)) (input output : List ℕ) (number : ℕ) : Type 0 where
  pub status : Status
  pub is : number ≡ number_of status
  pub answers : Answers words input output status

-- what `robus_call` answers
abbrev pub IsBusAnswer : List ℕ → List ℕ → List ℕ → List ℕ → Answer → Type 0
IsBusAnswer words input before after answer = IsAnswer Says words input before after answer
