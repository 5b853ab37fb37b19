-- A run of a bus to which states are handed, some of whose turns have been given.
use Rattle.std.specs.{Prelude.{⊤, ◌≡◌, Bool, true, false, Option, None, option_and_then, List, [], ◌∷◌, map}, List.last_or}
use Rattle.rb_rules.specs.{Book.Record, Goodness.Scenario, Ports.HandIn, WorldStep.{World, frame_in}}
use Rattle.rb_world_book.specs.{Records.record_of, declared.turn.Turn.Turn}
use Rattle.rb_run.specs.Turns.{TellsAll, turn_of}
use Rattle.rb_world.specs.{Driving.bare, Nexts.is_last, Worlds.{KeptWorld, Stands}}

-- the record that the last turn is
abbrev pub latest : List Turn → Option Record
latest turns = option_and_then record_of (last_or None turns)

-- no turn of a list ends a run
abbrev pub AreNotLast : List Turn → Type 0
AreNotLast [] = ⊤
AreNotLast (t ∷ ts) = (is_last (record_of t) ≡ false) × AreNotLast ts

-- A drive, plain or not, has given these turns, one for each record so far, in order: that record,
-- but for ticks, times, masks, states, losses and values. This was handed in, and the run has ended
-- or not
pub record IsUnderWay (sc : Scenario) (handed : List HandIn) (is_plain : Bool) (told since : Option (List Turn)) (k : KeptWorld) (turns : List Turn) (over : Bool) : Type 0 where
  pub world : World
  pub stands : Stands k world
  pub bus : k.bus ≡ sc
  pub hands : world.hands ≡ handed
  pub alike : map bare turns ≡ map (λ r. bare (turn_of r)) world.book.given
  pub plain : is_plain ≡ true → turns ≡ map turn_of world.book.given
  pub tells : TellsAll told since turns
  pub frame : frame_in world.turn ≡ frame_in (latest turns)
  pub ended : world.book.ended ≡ over
  pub goes_on : over ≡ false → AreNotLast turns
