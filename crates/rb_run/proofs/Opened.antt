-- A run that has just been opened.
use Rattle.std.proofs.Common.{refl}
use Rattle.rb_rules.specs.{Goodness.Scenario, WorldStep.first_world}
use Rattle.rb_run.specs.Runs.{HasGivenNothing}
use Rattle.rb_world.specs.Worlds.{KeptWorld, Stands}

-- nothing has been given of a run that was just opened
pub just-opened : (k : KeptWorld) (sc : Scenario) → Stands k (first_world sc) → HasGivenNothing k
unfolding first_world
just-opened k sc is = record { world = first_world sc; stands = is; given = refl; hands = refl }
