-- What comes of a run that is taken to its end.
use Rattle.std.specs.{Prelude.{ℕ, ◌≡◌, Option, Some, None, List, [], ◌++◌, Result, OnErr, OnOk}, List.last_or, Option.option_to_list, Io.KnownBytes.Appends}
use Rattle.rb_rules.specs.{Book.Record, Goodness.Scenario, Rounds.records_of, WorldStep.World}
use Rattle.rb_world_book.specs.declared.turn.Turn.{Turn}
use Rattle.rb_outside.specs.{Bytes.AppendsPart, Causes.HasCause, Writing.Writes}
use Rattle.rb_run.specs.{declared.ending.Ending.Ending, declared.totals.Totals.Totals, Seen.SeenDrive, Tallies.totals_of, Turns.{AreAll, AreGiven, records_in}}
use Rattle.rb_world.specs.Worlds.{KeptWorld, Stands}
use Rattle.rb_run.specs.declared.ending.Ending.TheVariants as ending

-- no record of the run has been given yet, and no state was handed in. So it is with a world that
-- has just been opened
pub record HasGivenNothing (k : KeptWorld) : Type 0 where
  pub world : World
  pub stands : Stands k world
  pub given : world.book.given ≡ []
  pub hands : world.hands ≡ []

-- how a run ends with this record, if it does
abbrev pub end_at : Option Record → Option Ending
end_at None = None
end_at (Some (Record.Frame frame nodes ports)) = None
end_at (Some (Record.Slot frame slot lines)) = None
end_at (Some Record.Ended) = Some ending.Ended
end_at (Some (Record.Breach place cause)) = Some ending.Breach

-- the run of a scenario ends so, by its last record
abbrev pub EndsWith : Scenario → Ending → Type 0
EndsWith sc ending = end_at (last_or None (records_of sc [])) ≡ Some ending

-- with the next record, if there is one, the text of the records so far gets more, and what it gets
-- was written
pub record WritesNext {K T E : Type 0} (says : List Record → List ℕ) (records : List Record) (next : Option Record)
    (held : K → Option (List ℕ)) (faults : K → ℕ) (before after : K) (result : Result T E) : Type 0 where
  pub more : List ℕ
  pub adds : says (records ++ option_to_list next) ≡ says records ++ more
  pub written : Writes held faults before after result more

-- all turns of the run were given, and what is said of their records was written
pub record WritesAll (says : List Record → List ℕ) (sc : Scenario) (drive : SeenDrive) (held after : Option (List ℕ)) : Type 0 where
  pub turns : List Turn
  pub given : AreGiven sc drive turns
  pub all : AreAll sc turns
  pub text : Appends held after (says (records_in turns))

-- some turns of the run were given, and a first part of what is said of their records was written
pub record WritesPart (says : List Record → List ℕ) (sc : Scenario) (drive : SeenDrive) (held after : Option (List ℕ)) : Type 0 where
  pub turns : List Turn
  pub given : AreGiven sc drive turns
  pub text : AppendsPart held after (says (records_in turns))

-- Ok: what is said of all records that the drive gave was written. Err: a first part of it was
-- written, and a call of the sink failed
pub record WritesRun {K E : Type 0} (says : List Record → List ℕ) (sc : Scenario) (drive : SeenDrive)
    (held : K → Option (List ℕ)) (faults : K → ℕ) (before after : K) (result : Result Ending E) : Type 0 where
  pub all : OnOk result (WritesAll says sc drive (held before) (held after))
  pub part : OnErr result (WritesPart says sc drive (held before) (held after))
  pub cause : HasCause (faults before) (faults after) result

-- all turns of the run were given, and these are their numbers
pub record TalliesAll (sc : Scenario) (drive : SeenDrive) (totals : Totals) : Type 0 where
  pub turns : List Turn
  pub given : AreGiven sc drive turns
  pub all : AreAll sc turns
  pub are : totals ≡ totals_of turns
