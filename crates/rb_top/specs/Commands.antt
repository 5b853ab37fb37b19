-- The commands of the program, each by itself: what it reads, how it ends, what is due of it, and
-- what refuses its input.
use Rattle.std.specs.Prelude.{ℕ, ◌≡◌, ◌⊎◌, true, List, Option, Some, None, Ok}
use Rattle.rb_base.specs.{declared.event.Event.Event, declared.node.NodeName.NodeName}
use Rattle.rb_rules.specs.{Entries.IsListed, Goodness.Scenario, Lawful.{IsLawful, IsNodeOf}}
use Rattle.rb_gen.specs.Generated.{generated}
use Rattle.rb_world_book.specs.declared.turn.Turn.{Turn}
use Rattle.rb_laws_logs.specs.{Given.AreGiven as AreGivenTo, Replays.replay_text}
use Rattle.rb_log.specs.LogText.{Log, log_in}
use Rattle.rb_replay.specs.Overhearing.{is_of_biu, overheard_text}
use Rattle.rb_record.specs.Recording.{log_text}
use Rattle.rb_group.specs.declared.voters.Which.{Which}
use Rattle.rb_group_run.specs.Members.{AreMembers}
use Rattle.rb_run.specs.{Runs.EndsWith, Seen.SeenDrive, Turns.{AreAll, AreGiven, records_in}, declared.ending.Ending.Ending}
use Rattle.rb_program.specs.{declared.status.Status.Status, Statuses.status_of}
use Rattle.rb_top.specs.{CheckText.check_text, Inputs.{BreaksLog, BreaksRule, IsOfRmu, IsTextOf, LacksMember, LacksNode, log_limit, scenario_limit}, Texts.{Telling, summary_with, told_by_group, told_by_letters, told_by_run}}
use Rattle.rb_program.specs.declared.status.Status.TheVariants as answer

-- How a run ends.

-- the run of a scenario ends so: the status is Breach if its last record is one, and otherwise Done
pub record EndsAs (sc : Scenario) (status : Status) : Type 0 where
  pub ending : Ending
  pub ends : EndsWith sc ending
  pub is : status ≡ status_of ending

-- What is due.

-- `run`, `letters` and `group` are due what they tell of the turns that the drive gave: all turns
-- of the scenario that the input says
pub record IsReport (tells : Telling) (input : List ℕ) (drive : SeenDrive) (status : Status) (text : List ℕ) : Type 0 where
  pub scenario : Scenario
  pub turns : List Turn
  pub says : IsTextOf input scenario
  pub lawful : IsLawful scenario
  pub listed : IsListed scenario
  pub given : AreGiven scenario drive turns
  pub all : AreAll scenario turns
  pub ends : EndsAs scenario status
  pub text_is : text ≡ tells scenario (records_in turns)

-- the report of `group` on a scenario whose bus has all its members
pub record IsGroupReport (which : Which) (members : ℕ) (input : List ℕ) (drive : SeenDrive) (status : Status) (text : List ℕ) : Type 0 where
  pub report : IsReport (told_by_group which members) input drive status text
  pub there : AreMembers report.scenario.sizes members

-- `stress` is due the summary of the turns that the drive gave: all turns of the generated
-- scenario. With a breach that is nothing
pub record IsSummary (seed frames : ℕ) (drive : SeenDrive) (status : Status) (text : List ℕ) : Type 0 where
  pub turns : List Turn
  pub lawful : IsLawful (generated seed frames)
  pub listed : IsListed (generated seed frames)
  pub given : AreGiven (generated seed frames) drive turns
  pub all : AreAll (generated seed frames) turns
  pub ends : EndsAs (generated seed frames) status
  pub text_is : text ≡ summary_with ends.ending (records_in turns)

-- `check` is due both sides of each inequality, for the scenario that the input says
pub record IsSides (input text : List ℕ) : Type 0 where
  pub scenario : Scenario
  pub says : IsTextOf input scenario
  pub text_is : text ≡ check_text scenario.sizes scenario.plan

-- `record` is due the log of all that its node is given in the run of the scenario that the input
-- says, each event being the first that is due
pub record IsLogOf (node : NodeName) (input text : List ℕ) : Type 0 where
  pub scenario : Scenario
  pub events : List Event
  pub says : IsTextOf input scenario
  pub lawful : IsLawful scenario
  pub listed : IsListed scenario
  pub there : IsNodeOf scenario.sizes node
  pub given : AreGivenTo scenario node events
  pub text_is : text ≡ log_text scenario node events

-- the run ends so, and the drive gave nothing
pub record IsRecorded (node : NodeName) (input : List ℕ) (drive : SeenDrive) (status : Status) (text : List ℕ) : Type 0 where
  pub log : IsLogOf node input text
  pub ends : EndsAs log.scenario status
  pub silent : drive.since ≡ drive.told

-- `replay` is due what the node of the log tells when it is given the log's events
pub record IsReplay (input text : List ℕ) : Type 0 where
  pub log : Log
  pub spells : log_in input ≡ Ok log
  pub text_is : text ≡ replay_text log.timetable.sizes log.timetable.plan log.node log.events

-- `listen` is due what a passive listener tells when it is given the events of a BIU's log from a
-- tick on
pub record IsOverheard (skip : ℕ) (input text : List ℕ) : Type 0 where
  pub log : Log
  pub spells : log_in input ≡ Ok log
  pub biu : is_of_biu log.node ≡ true
  pub text_is : text ≡ overheard_text log.timetable.sizes log.timetable.plan log.node skip log.events

-- a command without a run ends as done, and the drive gave nothing
pub record IsAlone (drive : SeenDrive) (status : Status) : Type 0 where
  pub done : status ≡ answer.Done
  pub silent : drive.since ≡ drive.told

-- what is told of the turns that the drive gave so far is due
pub record IsReportSoFar (tells : Telling) (input : List ℕ) (drive : SeenDrive) (text : List ℕ) : Type 0 where
  pub scenario : Scenario
  pub turns : List Turn
  pub says : IsTextOf input scenario
  pub given : AreGiven scenario drive turns
  pub text_is : text ≡ tells scenario (records_in turns)

pub record IsGroupSoFar (which : Which) (members : ℕ) (input : List ℕ) (drive : SeenDrive) (text : List ℕ) : Type 0 where
  pub report : IsReportSoFar (told_by_group which members) input drive text
  pub there : AreMembers report.scenario.sizes members

-- Commands.

pub record Command : Type 1 where
  pub limit : Option ℕ  -- the most bytes of the command's input, if it has one
  pub is_end : List ℕ → Status → Type 0  -- the command may end so on an input
  pub is_due : List ℕ → SeenDrive → Status → List ℕ → Type 0  -- the text due for an input if the command ends so
  pub is_due_so_far : List ℕ → SeenDrive → List ℕ → Type 0  -- the text due for an input when a write failed
  pub is_refused : List ℕ → List ℕ → Type 0  -- an input is refused with a line

-- a command without an input whose text is fixed: `gen`, `spell`, and what the program says of
-- itself
abbrev pub text_command : List ℕ → Command
text_command text = record {
  limit = None;
  is_end = λ input status. status ≡ answer.Done;
  is_due = λ input drive status due. (due ≡ text) × IsAlone drive status;
  is_due_so_far = λ input drive due. (due ≡ text) × IsAlone drive answer.Done;
  is_refused = λ input line. ⊥;
}

-- a command that tells so of the run of the scenario that its input says
abbrev pub telling_command : Telling → Command
telling_command tells = record {
  limit = Some scenario_limit;
  is_end = λ input status. (sc : Scenario) × IsTextOf input sc × EndsAs sc status;
  is_due = λ input drive status text. IsReport tells input drive status text;
  is_due_so_far = λ input drive text. IsReportSoFar tells input drive text;
  is_refused = λ input line. BreaksRule input line;
}

abbrev pub run_command : Command
run_command = telling_command told_by_run

abbrev pub letters_command : Command
letters_command = telling_command told_by_letters

abbrev pub group_command : Which → ℕ → Command
group_command which members = record {
  limit = Some scenario_limit;
  is_end = λ input status. (sc : Scenario) × IsTextOf input sc × AreMembers sc.sizes members × EndsAs sc status;
  is_due = λ input drive status text. IsGroupReport which members input drive status text;
  is_due_so_far = λ input drive text. IsGroupSoFar which members input drive text;
  is_refused = λ input line. BreaksRule input line ⊎ LacksMember members input line;
}

-- a command without a run: some text is due of its input, or a line refuses it
abbrev pub alone_command : ℕ → (List ℕ → List ℕ → Type 0) → (List ℕ → List ℕ → Type 0) → Command
alone_command limit IsText IsLine = record {
  limit = Some limit;
  is_end = λ input status. (text : List ℕ) × IsText input text × (status ≡ answer.Done);
  is_due = λ input drive status text. IsText input text × IsAlone drive status;
  is_due_so_far = λ input drive text. IsText input text × IsAlone drive answer.Done;
  is_refused = λ input line. IsLine input line;
}

abbrev pub check_command : Command
check_command = alone_command scenario_limit IsSides BreaksRule

abbrev pub replay_command : Command
replay_command = alone_command log_limit IsReplay BreaksLog

-- a log is refused to a listener if it is none, or not that of a BIU
abbrev pub IsNotForListeners : List ℕ → List ℕ → Type 0
IsNotForListeners input line = BreaksLog input line ⊎ IsOfRmu input line

abbrev pub listen_command : ℕ → Command
listen_command skip = alone_command log_limit (IsOverheard skip) IsNotForListeners

abbrev pub stress_command : ℕ → ℕ → Command
stress_command seed frames = record {
  limit = None;
  is_end = λ input status. EndsAs (generated seed frames) status;
  is_due = λ input drive status text. IsSummary seed frames drive status text;
  is_due_so_far = λ input drive text. IsSummary seed frames drive answer.Done text;
  is_refused = λ input line. ⊥;
}

abbrev pub record_command : NodeName → Command
record_command node = record {
  limit = Some scenario_limit;
  is_end = λ input status. (sc : Scenario) × IsTextOf input sc × IsNodeOf sc.sizes node × EndsAs sc status;
  is_due = λ input drive status text. IsRecorded node input drive status text;
  is_due_so_far = λ input drive text. IsLogOf node input text × (drive.since ≡ drive.told);
  is_refused = λ input line. BreaksRule input line ⊎ LacksNode node input line;
}
