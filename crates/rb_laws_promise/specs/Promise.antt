-- All that a run of the bus promises.
use Rattle.std.specs.Prelude.{All, List}
use Rattle.rb_rules.specs.{Behavior.Behavior, Goodness.Scenario, Headline.Headline, Lawful.IsLawful, Ports.HandIn, Rounds.records_of, StandsFor.StandsFor}
use Rattle.rb_laws_events.specs.Promise.{RunningNodesKeepThePromise}
use Rattle.rb_laws_groups.specs.Lines.{IsRight}
use Rattle.rb_laws_promise.specs.Shares.{GetTheirShare}

-- The run of a scenario with these hand-ins keeps the promise up to its first breach of the fault
-- premise
pub record KeepsThePromise (sc : Scenario) (hands : List HandIn) : Type 0 where
  pub headline : Headline sc hands  -- good nodes begin slots near each other, deliver alike, hold one schedule, and convict the same nodes
  pub machine : StandsFor sc hands  -- all good nodes together are one machine, the abstract bus
  pub shares : GetTheirShare sc hands  -- each good BIU owns the data slots that it asks for, up to an equal share
  pub records : All (IsRight sc hands) (records_of sc hands)  -- a slot's record has no lines, or one line for each good BIU, with one sender and one value
  pub nodes : RunningNodesKeepThePromise sc  -- in every world of its events, the nodes that run hold what the rounds hold

-- every run of a lawful scenario keeps it, for any hand-ins. What its faulty nodes do is a field of
-- the scenario, `behavior`: any function, since `IsLawful` asks nothing of it
abbrev pub RunsKeepThePromise : Type 0
RunsKeepThePromise = (sc : Scenario) (hands : List HandIn) → IsLawful sc → KeepsThePromise sc hands

-- the scenario with `b` as the behavior of its faulty nodes
abbrev pub behaving : Scenario → Behavior → Scenario
behaving sc b = record sc { behavior = b }

-- every run of a lawful scenario keeps the promise, for any hand-ins, whatever its faulty nodes do
abbrev pub AnyBehaviorKeepsThePromise : Type 0
AnyBehaviorKeepsThePromise =
    (sc : Scenario) (hands : List HandIn) → IsLawful sc → (b : Behavior)
    → KeepsThePromise (behaving sc b) hands
