-- How a lane is kept.
use Rattle.std.specs.Prelude.{ℕ, ◌-◌, ◌≤◌, List, drop, length}
use Rattle.rb_rules.specs.Hearing.{Coming}
use Rattle.rb_queue.specs.Scanning.{AreBy}

-- a lane with these arrivals, of which those before the start are gone, has room for more of them
pub record IsLane (kept : List Coming) (start room capacity latest : ℕ) : Type 0 where
  pub begins : start ≤ length kept
  pub fits : length kept - start ≤ room
  pub reserved : room ≤ capacity
  pub by : AreBy latest (drop start kept)
