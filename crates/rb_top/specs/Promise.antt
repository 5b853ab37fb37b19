-- What the forms that run a bus promise if their drive is plain.
use Rattle.std.specs.{Prelude.{⊤, ℕ, List, []}, Io.KnownBytes.Appends}
use Rattle.rb_base.specs.declared.node.NodeName.{NodeName}
use Rattle.rb_outside.specs.Bytes.{ReadsToEnd}
use Rattle.rb_rules.specs.{Entries.IsListed, Goodness.Scenario, Lawful.IsLawful, Rounds.records_of}
use Rattle.rb_group.specs.declared.voters.Which.{Which}
use Rattle.rb_laws_groups.specs.Laws.{FindsTheMembers, PortsFindAlike}
use Rattle.rb_laws_letters.specs.Laws.{PortsReceiveAlike, PortsReceiveGoodSenders}
use Rattle.rb_laws_logs.specs.Laws.{EndsWithoutBreach, IsGoodThroughout, report_of_node}
use Rattle.rb_laws_promise.specs.Promise.{KeepsThePromise}
use Rattle.rb_gen.specs.Generated.{generated}
use Rattle.rb_run.specs.Seen.{SeenSink, SeenSource}
use Rattle.rb_program.specs.declared.status.Status.{Status}
use Rattle.rb_top.specs.{declared.form.Form.Form, declared.form.Form.TheVariants.{Check, Gen, Group, Letters, Listen, Record, Replay, Run, Show, Spell, Stress}, Commands.{EndsAs, IsReplay}, Inputs.IsTextOf, Texts.{Telling, summary_with, told_by_group, told_by_letters, told_by_run}}

-- The promise of a report of a run, as `run` writes it, at Done and at Breach
pub record KeepsTheHeadline (tells : Telling) (status : Status) (source : SeenSource) (sink : SeenSink) : Type 0 where
  pub input : List ℕ
  pub scenario : Scenario
  pub read : ReadsToEnd source.left source.left' input  -- the input is read to its end
  pub accepted : IsTextOf input scenario  -- the input is the text of an accepted scenario
  pub lawful : IsLawful scenario  -- the scenario is lawful
  pub listed : IsListed scenario  -- faulty nodes do what the scenario's entries list
  pub written : Appends sink.held sink.held' (tells scenario (records_of scenario []))  -- what was added to the sink is what is told of the scenario's rounds
  pub ends : EndsAs scenario status  -- the answer is Breach if and only if the rounds end with a breach
  pub promise : KeepsThePromise scenario []  -- the run keeps the promise of the bus up to its breach

-- The promise of `stress`, at Done and at Breach
pub record SumsTheHeadline (seed frames : ℕ) (status : Status) (sink : SeenSink) : Type 0 where
  pub ends : EndsAs (generated seed frames) status  -- the answer is Breach if and only if its rounds end with a breach
  pub written : Appends sink.held sink.held' (summary_with ends.ending (records_of (generated seed frames) []))  -- the numbers are those of its rounds
  pub promise : KeepsThePromise (generated seed frames) []  -- the run keeps the promise of the bus up to its breach

-- The promise of `letters`, at Done and at Breach: that of its report, and of what ports receive
pub record KeepsTheLetters (status : Status) (source : SeenSource) (sink : SeenSink) : Type 0 where
  pub report : KeepsTheHeadline told_by_letters status source sink
  pub alike : PortsReceiveAlike report.scenario []  -- good ports receive the same letters from each sender, in the same slots
  pub received : PortsReceiveGoodSenders report.scenario []  -- good ports receive the letters of a good sender whole, once and in order

-- The promise of `group`, at Done and at Breach: that of its report, and of what ports find
pub record KeepsTheGroup (which : Which) (members : ℕ) (status : Status) (source : SeenSource) (sink : SeenSink) : Type 0 where
  pub report : KeepsTheHeadline (told_by_group which members) status source sink
  pub alike : PortsFindAlike report.scenario [] which members  -- good ports find equal values in each frame
  pub found : FindsTheMembers report.scenario [] which members  -- good ports find the word of the good members, if these outnumber the others

-- The promise of `record`, at Done and at Breach
pub record KeepsTheLog (node : NodeName) (source : SeenSource) (sink : SeenSink) : Type 0 where
  pub input : List ℕ
  pub scenario : Scenario
  pub log : List ℕ
  pub read : ReadsToEnd source.left source.left' input  -- the input is read to its end
  pub accepted : IsTextOf input scenario  -- the input is the text of an accepted scenario
  pub written : Appends sink.held sink.held' log  -- what was added to the sink is the log
  -- if the node is good throughout and the run has no breach, what is due of `replay` for this log
  -- is what the run's report tells of the node
  pub replayed : EndsWithoutBreach scenario → IsGoodThroughout scenario node → IsReplay log (report_of_node node (records_of scenario []))
  pub promise : KeepsThePromise scenario []  -- the run keeps the promise of the bus up to its breach

-- the promise of a form. A form that runs no bus has none
abbrev pub KeepsItsPromise : Form → Status → SeenSource → SeenSink → Type 0
KeepsItsPromise Run status source sink = KeepsTheHeadline told_by_run status source sink
KeepsItsPromise Check status source sink = ⊤
KeepsItsPromise (Gen seed frames) status source sink = ⊤
KeepsItsPromise (Stress seed frames) status source sink = SumsTheHeadline seed frames status sink
KeepsItsPromise (Record node) status source sink = KeepsTheLog node source sink
KeepsItsPromise Replay status source sink = ⊤
KeepsItsPromise (Spell letter) status source sink = ⊤
KeepsItsPromise Letters status source sink = KeepsTheLetters status source sink
KeepsItsPromise (Group which members) status source sink = KeepsTheGroup which members status source sink
KeepsItsPromise (Listen skip) status source sink = ⊤
KeepsItsPromise (Show flag) status source sink = ⊤
