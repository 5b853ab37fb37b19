-- The turns that a drive gives in a run, and what they say.
use Rattle.std.specs.Prelude.{⊤, ◌≡◌, true, Option, Some, None, List, [], ◌++◌, filter_map, length, map}
use Rattle.rb_rules.specs.{Book.Record, Goodness.Scenario, Rounds.records_of, WorldStep.IsPrefix}
use Rattle.rb_world_book.specs.{Records.record_of, declared.turn.Turn.Turn}
use Rattle.rb_world.specs.Driving.{bare}
use Rattle.rb_run.specs.Seen.{SeenDrive}
use Rattle.rb_world_book.specs.declared.turn.Turn.TheVariants as turn

-- the turn that is a given record
abbrev pub turn_of : Record → Turn
turn_of (Record.Frame frame nodes ports) =
    turn.Frame (record { frame = frame; nodes = record { items = nodes }; ports = record { items = ports } })
turn_of (Record.Slot frame slot lines) = turn.Slot (record { frame = frame; slot = slot; lines = record { items = lines } })
turn_of Record.Ended = turn.Ended
turn_of (Record.Breach place cause) = turn.Breach place cause

-- several calls append the turns that they give to what is told, or end the telling for good
abbrev pub TellsAll : Option (List Turn) → Option (List Turn) → List Turn → Type 0
TellsAll None after turns = after ≡ None
TellsAll (Some told) None turns = ⊤
TellsAll (Some told) (Some since) turns = since ≡ told ++ turns

-- A drive, plain or not, has given these turns, one for each of these first records of the run, in
-- order: that record, but for ticks, times, masks, states, losses and values
pub record AreGiven (sc : Scenario) (drive : SeenDrive) (turns : List Turn) : Type 0 where
  pub records : List Record
  pub first : IsPrefix records (records_of sc [])
  pub alike : map bare turns ≡ map (λ r. bare (turn_of r)) records
  pub plain : drive.is_plain ≡ true → turns ≡ map turn_of records
  pub told : TellsAll drive.told drive.since turns

-- one for each record of the run
abbrev pub AreAll : Scenario → List Turn → Type 0
AreAll sc turns = length turns ≡ length (records_of sc [])

-- the records that the turns are
abbrev pub records_in : List Turn → List Record
records_in turns = filter_map record_of turns
