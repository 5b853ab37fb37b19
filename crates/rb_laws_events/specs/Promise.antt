-- What is promised of the nodes of a run event by event, and of its rounds beside the headline.
use Rattle.std.specs.Prelude.{List}
use Rattle.rb_rules.specs.{Goodness.Scenario, Lawful.IsLawful, Ports.HandIn, WorldStep.{Choice, World, world_after}}
use Rattle.rb_laws_agreement.specs.Laws.{ConvictWhomAllAccuse, GiveUnheardNodesNoVector, GoodPortsAgree, GoodPortsFollowTheBus}
use Rattle.rb_laws_synchrony.specs.Laws.{EachWindowIsTimely}
use Rattle.rb_laws_events.specs.{OwnMoments.{FollowsTheRounds, HoldsTheRounds, IsBeforeTheBreak}, RunningNodes.{NodesConvictWhomAllAccused, RunningNodesAgree, RunningNodesAreTheBus, RunningPortsAgree, RunningPortsFollowTheBus}}

-- what the rounds with these hand-ins keep beside the headline
pub record RoundsKeepThePromise (sc : Scenario) (hands : List HandIn) : Type 0 where
  pub timely : EachWindowIsTimely sc hands  -- what good nodes send each other comes in its window
  pub accused : ConvictWhomAllAccuse sc hands  -- a node accused by all good nodes of the other kind is convicted
  pub unheard : GiveUnheardNodesNoVector sc hands  -- a node that no good node heard has no valid vector
  pub follow : GoodPortsFollowTheBus sc hands  -- good ports are what the bus's values make
  pub ports : GoodPortsAgree sc hands  -- good BIUs that are alike have equal ports

-- what the running nodes of a world hold, and the rounds with what has been handed in
pub record NodesKeepThePromise (sc : Scenario) (w : World) : Type 0 where
  pub cores : IsBeforeTheBreak sc w → HoldsTheRounds sc w  -- before the breaking stage all that the rounds hold at their own moments
  pub follow : FollowsTheRounds sc w  -- the state and the port of the rounds, until the run has ended there
  pub agree : RunningNodesAgree sc w  -- in one slot the same as each other
  pub machine : RunningNodesAreTheBus sc w  -- what the abstract bus holds
  pub ports : RunningPortsAgree sc w  -- after one slot equal ports
  pub bus : RunningPortsFollowTheBus sc w  -- the ports that the bus's values make
  pub accused : NodesConvictWhomAllAccused sc w  -- a node that all accused is convicted in the first slot of the next frame
  pub rounds : RoundsKeepThePromise sc w.hands

-- What holds in every world to which choices lead from the scenario's first one, and in the rounds
-- with any hand-ins
pub record RunningNodesKeepThePromise (sc : Scenario) : Type 0 where
  pub nodes : (choices : List Choice) → NodesKeepThePromise sc (world_after sc choices)
  pub rounds : (hands : List HandIn) → RoundsKeepThePromise sc hands

abbrev pub RunningNodesKeepThePromiseInLawful : Type 0
RunningNodesKeepThePromiseInLawful = (sc : Scenario) → IsLawful sc → RunningNodesKeepThePromise sc
