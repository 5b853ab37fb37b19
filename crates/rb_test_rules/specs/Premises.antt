-- What is handed in alike to two BIUs, and nodes that run.
use Rattle.std.specs.Prelude.{ℕ, ◌≡◌, List, [], ◌∷◌, replicate}
use Rattle.rb_base.specs.{Nodes.Side, Nodes.Side.Biu}
use Rattle.rb_rules.specs.{Moments.IsRunning, Ports.HandIn, WorldStep.{World, world_after}, WorldStep.Choice.Take}
use Rattle.rb_laws_events.specs.{OwnMoments.{RunningNode, moment_of}, RunningNodes.{StandsAfterSlot, StandsInSlot}}
use Rattle.rb_test_rules.specs.Ordinary.{one_state}

abbrev pub handed_to_both : List HandIn
handed_to_both = record { frame = 1; biu = 0; state = 5 } ∷ record { frame = 1; biu = 1; state = 5 } ∷ []

-- two BIUs and an RMU after fifty events: the third stage of the first data slot begins for each
unfoldable pub third_stage : World
third_stage = world_after one_state (replicate 50 (Take 0))

-- node i of a kind runs there, stands in the slot, and the run goes on at its own moment
pub record RunsInSlot (me : Side) (i : ℕ) : Type 0 where
  pub node : RunningNode third_stage me
  pub index : node.index ≡ i
  pub stands : StandsInSlot one_state 0 2 node
  pub goes_on : IsRunning (moment_of one_state node)

-- BIU i runs there, and stands after its delivery
pub record RunsAfterSlot (i : ℕ) : Type 0 where
  pub node : RunningNode third_stage Biu
  pub index : node.index ≡ i
  pub stands : StandsAfterSlot one_state 0 2 node
