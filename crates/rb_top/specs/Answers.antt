-- When each answer comes, and what it leaves written: of a command, and of the words that ask the
-- top call for one.
use Rattle.std.specs.{Prelude.{⊤, ℕ, ◌≡◌, ◌≤◌, ◌⊎◌, List, [], length, String, Option, Some, None}, declared.alloc.Global.Global, Io.KnownBytes.Appends}
use Rattle.rb_outside.specs.{Bytes.AppendsPart, Causes.Rose}
use Rattle.rb_run.specs.Seen.{SeenDrive, SeenSink, SeenSource}
use Rattle.rb_long_run.specs.Reports.{spelling_text}
use Rattle.rb_program.specs.{declared.status.Status.Status, Statuses.{HasEnded, MayRefuse, RunsNothing, WritesNothing}}
use Rattle.rb_top.specs.{declared.form.Form.Form, declared.form.Form.TheVariants.{Check, Gen, Group, Letters, Listen, Record, Replay, Run, Show, Spell, Stress}, Commands.{Command, check_command, group_command, letters_command, listen_command, record_command, replay_command, run_command, stress_command, text_command}, Inputs.{IsReadBy, IsUnreadBy}, Pages.page_text, Texts.generated_text, Words.AskFor}
use Rattle.rb_program.specs.declared.status.Status.TheVariants as answer

-- Answers of a command.

-- the command has ended: its input has been read, and its text is written
pub record CommandEnds (command : Command) (status : Status) (source : SeenSource) (sink : SeenSink) (drive : SeenDrive) : Type 0 where
  pub input : List ℕ
  pub text : List ℕ
  pub read : IsReadBy command.limit source input
  pub due : command.is_due input drive status text
  pub written : Appends sink.held sink.held' text

-- the command's input has been read and is refused, and the one line of the refusal is written
pub record CommandRefuses (command : Command) (source : SeenSource) (sink : SeenSink) : Type 0 where
  pub input : List ℕ
  pub line : List ℕ
  pub read : IsReadBy command.limit source input
  pub refused : command.is_refused input line
  pub written : Appends sink.held sink.held' line

-- the input is refused with this line, and the drive gave nothing
pub record IsRefusedAlone (command : Command) (input : List ℕ) (drive : SeenDrive) (line : List ℕ) : Type 0 where
  pub refused : command.is_refused input line
  pub silent : drive.since ≡ drive.told

-- a write failed: the count of the sink's faults rose, and of the text that was due the first bytes
-- are written
pub record CommandFailsToWrite (command : Command) (source : SeenSource) (sink : SeenSink) (drive : SeenDrive) : Type 0 where
  pub rose : Rose sink.faults sink.faults'
  pub input : List ℕ
  pub text : List ℕ
  pub read : IsReadBy command.limit source input
  pub due : IsRefusedAlone command input drive text ⊎ command.is_due_so_far input drive text
  pub written : AppendsPart sink.held sink.held' text

-- all that is said of the answer of a command
pub record CommandAnswers (command : Command) (status : Status) (source : SeenSource) (sink : SeenSink) (drive : SeenDrive) : Type 0 where
  pub known : ¬ (status ≡ answer.Usage)
  pub ended : HasEnded status → CommandEnds command status source sink drive
  pub refused : status ≡ answer.Refused → CommandRefuses command source sink
  pub unread : IsUnreadBy command.limit status source
  pub failed : status ≡ answer.WriteFault → CommandFailsToWrite command source sink drive

-- the source tells that this input is left, within the limit
abbrev pub IsLeft : Option ℕ → Option (List ℕ) → List ℕ → Type 0
IsLeft None left input = input ≡ []
IsLeft (Some limit) left input = left ≡ Some input

-- the input is within the limit, if there is one
abbrev pub IsWithin : Option ℕ → List ℕ → Type 0
IsWithin None input = ⊤
IsWithin (Some limit) input = length input ≤ limit

-- nothing fails: the input is within the limit, and no count of faults rises
pub record NothingFails (limit : Option ℕ) (input : List ℕ) (source : SeenSource) (sink : SeenSink) : Type 0 where
  pub within : IsWithin limit input
  pub no_read : ¬ Rose source.faults source.faults'
  pub no_write : ¬ Rose sink.faults sink.faults'

-- the answers that must be given if the source tells its input and nothing fails; only out of
-- memory may be the answer in their place. Whatever fails, the answer for a refused input is one of
-- those that it may have
pub record CommandCompletes (command : Command) (status : Status) (source : SeenSource) (sink : SeenSink) : Type 0 where
  pub ended : (input : List ℕ) (end : Status) → IsLeft command.limit source.left input → command.is_end input end
      → NothingFails command.limit input source sink → (status ≡ end) ⊎ (status ≡ answer.OutOfMemory)
  pub refused : (input line : List ℕ) → IsLeft command.limit source.left input → command.is_refused input line → MayRefuse status
  pub refused_at_once : (input line : List ℕ) → IsLeft command.limit source.left input → command.is_refused input line
      → NothingFails command.limit input source sink → (status ≡ answer.Refused) ⊎ (status ≡ answer.OutOfMemory)

-- Answers of the top call.

-- the command that a form of words asks for
abbrev pub command_of : Form → Command
command_of Run = run_command
command_of Check = check_command
command_of (Gen seed frames) = text_command (generated_text seed frames)
command_of (Stress seed frames) = stress_command seed frames
command_of (Record node) = record_command node
command_of Replay = replay_command
command_of (Spell letter) = text_command (spelling_text letter.items)
command_of Letters = letters_command
command_of (Group which members) = group_command which members
command_of (Listen skip) = listen_command skip
command_of (Show flag) = text_command (page_text flag)

-- what is said of its command is said of the form
abbrev pub limit_of : Form → Option ℕ
limit_of form = (command_of form).limit

abbrev pub IsEnd : Form → List ℕ → Status → Type 0
IsEnd form input status = (command_of form).is_end input status

abbrev pub IsDue : Form → List ℕ → SeenDrive → Status → List ℕ → Type 0
IsDue form input drive status text = (command_of form).is_due input drive status text

abbrev pub IsRefusedWith : Form → List ℕ → List ℕ → Type 0
IsRefusedWith form input line = (command_of form).is_refused input line

abbrev pub IsUnread : Form → Status → SeenSource → Type 0
IsUnread form status source = IsUnreadBy (limit_of form) status source

abbrev pub Ends : Form → Status → SeenSource → SeenSink → SeenDrive → Type 0
Ends form status source sink drive = CommandEnds (command_of form) status source sink drive

abbrev pub Refuses : Form → SeenSource → SeenSink → Type 0
Refuses form source sink = CommandRefuses (command_of form) source sink

abbrev pub FailsToWrite : Form → SeenSource → SeenSink → SeenDrive → Type 0
FailsToWrite form source sink drive = CommandFailsToWrite (command_of form) source sink drive

abbrev pub Completes : Form → Status → SeenSource → SeenSink → Type 0
Completes form status source sink = CommandCompletes (command_of form) status source sink

-- Usage is the answer if and only if the words ask for none of the forms
pub record UsageExactly (status : Status) (words : List (String Global)) : Type 0 where
  pub unknown : status ≡ answer.Usage → (form : Form) → ¬ AskFor words form
  pub refused : ((form : Form) → ¬ AskFor words form) → status ≡ answer.Usage
  pub known : ¬ (status ≡ answer.Usage) → (form : Form) × AskFor words form

-- the source, the sink and the drive are as they were, if the answer or the form leaves them so
pub record Untouched {S K D : Type 0} (words : List (String Global)) (status : Status) (source source' : S) (sink sink' : K) (drive drive' : D) : Type 0 where
  pub unread : status ≡ answer.Usage → source' ≡ source
  pub without_input : (form : Form) → AskFor words form → limit_of form ≡ None → source' ≡ source
  pub unwritten : WritesNothing status → sink' ≡ sink
  pub stress_with_breach : (seed frames : ℕ) → AskFor words (Stress seed frames) → status ≡ answer.Breach → sink' ≡ sink
  pub not_driven : RunsNothing status → drive' ≡ drive
