-- What comes of reading a scenario from a source, a refusal being written to a sink.
use Rattle.std.specs.{Prelude.{ℕ, ◌≡◌, ◌≤◌, List}, Io.KnownBytes.Appends}
use Rattle.rb_outside.specs.{Bytes.{AppendsPart, Gave, ReadsToEnd}, Causes.Rose}
use Rattle.rb_rules.specs.{Entries.IsListed, Lawful.IsLawful}
use Rattle.rb_run.specs.Seen.{SeenSink, SeenSource}
use Rattle.rb_scenario.specs.{Acceptance.{IsAccepted, as_scenario}, declared.scenario.Scenario.Scenario as Accepted}
use Rattle.rb_program.specs.{declared.status.Status.Status, Statuses.MayRefuse, Outside.IsUnreadOver}
use Rattle.rb_top.specs.Inputs.{BreaksRule, scenario_limit}
use Rattle.rb_program.specs.declared.status.Status.TheVariants as answer

-- the source had the text of an accepted scenario left, this one
pub record ReadsScenario (source : SeenSource) (accepted : Accepted) : Type 0 where
  pub input : List ℕ
  pub read : ReadsToEnd source.left source.left' input
  pub short_enough : Gave source.left source.left' (λ n. n ≤ scenario_limit)
  pub is : IsAccepted input accepted
  pub lawful : IsLawful (as_scenario accepted)
  pub listed : IsListed (as_scenario accepted)

-- the source had no such text left, and the line that says why is written
pub record RefusesText (source : SeenSource) (sink : SeenSink) : Type 0 where
  pub input : List ℕ
  pub line : List ℕ
  pub read : ReadsToEnd source.left source.left' input
  pub refused : BreaksRule input line
  pub written : Appends sink.held sink.held' line

-- the source had no such text left, and a first part of the line that says why is written, perhaps
-- none and perhaps all of it; the count of the sink's faults rose
pub record FailsToRefuse (source : SeenSource) (sink : SeenSink) : Type 0 where
  pub input : List ℕ
  pub line : List ℕ
  pub read : ReadsToEnd source.left source.left' input
  pub refused : BreaksRule input line
  pub written : AppendsPart sink.held sink.held' line
  pub rose : Rose sink.faults sink.faults'

-- no scenario has been read, and this is the answer
pub record ReadsNone (status : Status) (source : SeenSource) (sink : SeenSink) : Type 0 where
  pub one_of : MayRefuse status
  pub unread : IsUnreadOver scenario_limit status source
  pub refused : status ≡ answer.Refused → RefusesText source sink
  pub failed : status ≡ answer.WriteFault → FailsToRefuse source sink
