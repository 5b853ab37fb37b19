-- The history of a drive: what it gave for each record of a run, and what it was between two calls.
use Rattle.std.specs.Prelude.{◌≡◌, ◌+◌, ◌≤◌, List, [], ◌∷◌, ◌++◌, length, map}
use Rattle.rb_rules.specs.{Book.Record, Goodness.Scenario, Rounds.records_of, WorldStep.IsPrefix}
use Rattle.rb_world_book.specs.declared.turn.Turn.{Turn}
use Rattle.rb_world.specs.Driving.{Keeps, KeptTurns, given_for}
use Rattle.rb_run.specs.Turns.{turn_of}

-- The drive gives one turn for each record, one that it may give for that record then (`gives`),
-- and goes from call to call as each turn leaves it (`keeps`)
abbrev pub GoesThrough : {D : Type 0} → (D → Turn → Turn → Type 0) → (D → D → Turn → Type 0) → D → D → List Record → List Turn → Type 0
GoesThrough gives keeps before after [] [] = after ≡ before
GoesThrough gives keeps before after [] (turn ∷ turns) = ⊥
GoesThrough gives keeps before after (r ∷ records) [] = ⊥
GoesThrough {D} gives keeps before after (r ∷ records) (turn ∷ turns) =
    (between : D) × (gives before (turn_of r) turn × (keeps before between turn × GoesThrough gives keeps between after records turns))

-- the drive has gone through all records of the run of a scenario
pub record HasDriven {D : Type 0} (sc : Scenario) (gives : D → Turn → Turn → Type 0) (keeps : D → D → Turn → Type 0) (before after : D) : Type 0 where
  pub turns : List Turn
  pub through : GoesThrough gives keeps before after (records_of sc []) turns

-- the drive has gone through the first records of the run of a scenario
pub record HasDrivenSome {D : Type 0} (sc : Scenario) (gives : D → Turn → Turn → Type 0) (keeps : D → D → Turn → Type 0) (before after : D) : Type 0 where
  pub records : List Record
  pub turns : List Turn
  pub first : IsPrefix records (records_of sc [])
  pub through : GoesThrough gives keeps before after records turns

-- A drive that keeps its turns.

-- what such a drive may give for a turn: that turn, or with a mask the turn with Fault in place of
-- each value
abbrev pub gives_kept : KeptTurns → Turn → Turn → Type 0
gives_kept d turn given = given ≡ given_for d.mask turn

-- the turns that such a drive gives for all records of a run
abbrev pub turns_for : Scenario → KeptTurns → List Turn
turns_for sc d = map (λ r. given_for d.mask (turn_of r)) (records_of sc [])

-- the drive has kept exactly the turns of the run, after those that it had, and tells them if it
-- told those
pub record KeepsTheRun (sc : Scenario) (before after : KeptTurns) : Type 0 where
  pub turns : after.turns ≡ before.turns ++ turns_for sc before
  pub telling : after.telling ≡ before.telling
  pub room : after.room ≡ before.room
  pub mask : after.mask ≡ before.mask

-- a drive with room for all turns of a run keeps the run
abbrev pub MemDrivesKeepTheRun : Type 0
MemDrivesKeepTheRun =
    (sc : Scenario) (before after : KeptTurns) → HasDriven sc gives_kept Keeps before after
    → length before.turns + length (records_of sc []) ≤ before.room → KeepsTheRun sc before after
