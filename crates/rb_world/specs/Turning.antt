-- What a call makes of a world.
use Rattle.std.specs.Prelude.{◌≡◌}
use Rattle.rb_rules.specs.WorldStep.{World}
use Rattle.rb_world_book.specs.{Records.record_of, declared.turn.Turn.Turn}
use Rattle.rb_world.specs.Worlds.{KeptWorld, Stands}

-- what is kept stands afterwards for this world, and its turn is given
pub record Gives (after : KeptWorld) (turn : Turn) (w : World) : Type 0 where
  pub stands : Stands after w
  pub turn_is : w.turn ≡ record_of turn
