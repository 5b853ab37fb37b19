-- A listener waits for its first frame, and then follows.
use Rattle.std.specs.Prelude.{ℕ, ◌≡◌, ◌<◌, ◌≤◌}
use Rattle.rb_rules.specs.Goodness.{Scenario}
use Rattle.rb_listen.specs.{Following.follow, Listening.{first_core, followed, heed}, declared.lesson.First.First}
use Rattle.rb_laws_listener_learns.specs.Ears.{Ear, listening_at}
use Rattle.rb_listen.specs.Listening as now

-- having decided at this tick it waits up to the first tick of its first frame, whatever it hears,
-- and with that it begins to follow
pub record WaitsFor (sc : Scenario) (ear : Ear) (tick : ℕ) (first : First) : Type 0 where
  pub waits : (k : ℕ) → tick < k → k ≤ first.epoch → k < ear.ticks → listening_at sc ear k ≡ now.Waiting k first
  pub begins : first.epoch < ear.ticks → heed sc.sizes sc.plan (listening_at sc ear first.epoch) ≡ followed (follow sc.sizes sc.plan (first_core sc.sizes first))
