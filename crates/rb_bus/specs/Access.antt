-- The part of a scenario that decides which BIUs may be handed words.
use Rattle.std.specs.Prelude.{◌≡◌}
use Rattle.rb_rules.specs.Goodness.{Scenario}
use Rattle.rb_world_onset.specs.Faults.{faults_of}
use Rattle.rb_bus.specs.declared.access.Access.{Access}

-- the onsets and the applications are those of the scenario
pub record IsAccessOf (sc : Scenario) (a : Access) : Type 0 where
  pub onsets : a.onsets ≡ faults_of sc
  pub apps : a.apps ≡ sc.apps
