-- What a command reads, and how its input is refused or not read to its end.
use Rattle.std.specs.Prelude.{ℕ, ◌≡◌, List, [], Option, Some, None, IsSome, unwrap_or, Ok, Err, false, true}
use Rattle.rb_outside.specs.{Bytes.{ReadsToEnd}}
use Rattle.rb_base.specs.declared.node.NodeName.{NodeName}
use Rattle.rb_rules.specs.{Goodness.Scenario, Lawful.IsNodeOf}
use Rattle.rb_report.specs.Report.{refused_text}
use Rattle.rb_scenario_entries.specs.{Codes.{code_of, detail_of}, declared.refusal.Refusal.Refusal, declared.refusal.Refusal.TheVariants.NoSuchNode}
use Rattle.rb_log.specs.{LogText.{Log, log_in}, declared.refusal.LogRefusal.LogRefusal, declared.refusal.LogRefusal.TheVariants.{BadMagic, BadField, Truncated, AfterEnd}}
use Rattle.rb_replay.specs.Overhearing.{is_of_biu}
use Rattle.rb_group_run.specs.Members.{AreMembers}
use Rattle.rb_run.specs.Seen.{SeenSource}
use Rattle.rb_scenario.specs.{Acceptance.{IsAccepted, IsRefused, as_scenario}, declared.scenario.Scenario.Scenario as Accepted}
use Rattle.rb_program.specs.{declared.status.Status.Status, Outside.IsUnreadOver}
use Rattle.rb_program.specs.declared.status.Status.TheVariants as answer

-- The input.

-- the most bytes of a scenario
abbrev pub scenario_limit : ℕ
scenario_limit = 4194304

-- how many bytes of a log are read at most
abbrev pub log_limit : ℕ
log_limit = 67108864

-- within a limit this is all that the source had left, and without one nothing, since nothing is
-- read
abbrev pub IsReadBy : Option ℕ → SeenSource → List ℕ → Type 0
IsReadBy None source input = input ≡ []
IsReadBy (Some limit) source input = ReadsToEnd source.left source.left' input

-- the input is the text of an accepted scenario, this one
pub record IsTextOf (input : List ℕ) (sc : Scenario) : Type 0 where
  pub accepted : Accepted
  pub is : IsAccepted input accepted
  pub shows : as_scenario accepted ≡ sc

-- Refusals.

-- the rule has a code; out of memory has none
abbrev pub HasCode : Refusal → Type 0
HasCode rule = IsSome (code_of rule)

-- the line that names the rule
abbrev pub rule_text : Refusal → List ℕ
rule_text rule = refused_text (unwrap_or (code_of rule) 0) (detail_of rule) false

-- the input is the text of no scenario, by the first rule that it breaks, which has this line
pub record BreaksRule (input line : List ℕ) : Type 0 where
  pub rule : Refusal
  pub coded : HasCode rule
  pub broken : IsRefused input rule
  pub line_is : line ≡ rule_text rule

-- the input is the text of a scenario without this node, and this is the line that says so
pub record LacksNode (node : NodeName) (input line : List ℕ) : Type 0 where
  pub scenario : Scenario
  pub says : IsTextOf input scenario
  pub none : ¬ IsNodeOf scenario.sizes node
  pub line_is : line ≡ rule_text NoSuchNode

-- the line that says that a bus has no such member
abbrev pub member_text : List ℕ
member_text = refused_text 14 None false

-- the input is the text of a scenario whose bus lacks one of these members, and this is the line
-- that says so
pub record LacksMember (members : ℕ) (input line : List ℕ) : Type 0 where
  pub scenario : Scenario
  pub says : IsTextOf input scenario
  pub none : ¬ AreMembers scenario.sizes members
  pub line_is : line ≡ member_text

-- the code of a log's fault, and its place
abbrev pub log_code : LogRefusal → ℕ
log_code BadMagic = 1
log_code (BadField place) = 2
log_code (Truncated place) = 3
log_code (AfterEnd place) = 4

abbrev pub log_place : LogRefusal → Option ℕ
log_place BadMagic = None
log_place (BadField place) = Some place
log_place (Truncated place) = Some place
log_place (AfterEnd place) = Some place

-- the line that names the fault
abbrev pub fault_text : LogRefusal → List ℕ
fault_text fault = refused_text (log_code fault) (log_place fault) true

-- the input spells no log, by its first fault, which has this line
pub record BreaksLog (input line : List ℕ) : Type 0 where
  pub fault : LogRefusal
  pub spells : log_in input ≡ Err fault
  pub line_is : line ≡ fault_text fault

-- the line that says that a log is not that of a BIU
abbrev pub rmu_text : List ℕ
rmu_text = refused_text 5 None true

-- the input spells the log of an RMU, and this is the line that says so
pub record IsOfRmu (input line : List ℕ) : Type 0 where
  pub log : Log
  pub spells : log_in input ≡ Ok log
  pub rmu : is_of_biu log.node ≡ false
  pub line_is : line ≡ rmu_text

-- Reading that does not come to the end.

-- neither TooLong nor ReadFault is the answer if nothing is read
pub record IsNeverUnread (status : Status) : Type 0 where
  pub not_long : ¬ (status ≡ answer.TooLong)
  pub no_fault : ¬ (status ≡ answer.ReadFault)

abbrev pub IsUnreadBy : Option ℕ → Status → SeenSource → Type 0
IsUnreadBy None status source = IsNeverUnread status
IsUnreadBy (Some limit) status source = IsUnreadOver limit status source
