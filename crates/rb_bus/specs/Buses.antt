-- A bus in a host's hands, and its promise.
use Rattle.std.specs.{Prelude.{ℕ, ◌≡◌, All, Bool, true, false, Some, None, List, [], ◌∷◌, ◌++◌}, Prelude.{Result, Ok, Err, get_or, length, slice_get}}
use Rattle.rb_base.specs.Nodes.Side.{Biu}
use Rattle.rb_laws_agreement.specs.Held.{DeliverTheHeldWord}
use Rattle.rb_laws_groups.specs.Lines.{IsRight}
use Rattle.rb_laws_promise.specs.Promise.{KeepsThePromise}
use Rattle.rb_rules.specs.{Book.Record, Goodness.{Scenario, is_good}, Entries.IsListed, Lawful.IsLawful, Ports.HandIn, Rounds.records_of, WorldStep.{IsPrefix, World, frame_in}}
use Rattle.rb_scenario.specs.{Acceptance.{IsAccepted, as_scenario}, declared.scenario.Scenario.Scenario as Accepted}
use Rattle.rb_world.specs.{Nexts.is_last, Worlds.Stands}
use Rattle.rb_world_book.specs.{Records.record_of, declared.turn.Turn.Turn}
use Rattle.rb_bus.specs.{Access.IsAccessOf, declared.bus.Bus.Bus, declared.bus.NotHanded.NotHanded}
use Rattle.rb_bus.specs.declared.bus.NotHanded.TheVariants as refusal

-- The run of a bus.

pub record Run : Type 0 where
  pub scenario : Scenario
  pub hands : List HandIn  -- the words that were handed in so far
  pub given : List Record  -- the records that were given so far
  pub over : Bool  -- whether the run has ended

-- the run of a scenario before its first record
abbrev pub first_run : Scenario → Run
first_run sc = record { scenario = sc; hands = []; given = []; over = false }

-- the run with one more record given
abbrev pub with_record : Run → Record → Run
with_record run r = record run { given = run.given ++ r ∷ []; over = is_last (Some r) }

-- the run with one more word handed in
abbrev pub with_word : Run → HandIn → Run
with_word run word = record run { hands = run.hands ++ word ∷ [] }

-- the records of the rounds, with all that was handed in
abbrev pub records_in : Run → List Record
records_in run = records_of run.scenario run.hands

-- the bus is in this run
pub record HasRun (run : Run) (b : Bus) : Type 0 where
  pub world : World
  pub stands : Stands b.world world
  pub bus_is : b.world.bus ≡ run.scenario
  pub hands_are : world.hands ≡ run.hands
  pub given_are : world.book.given ≡ run.given
  pub over_is : world.book.ended ≡ run.over
  pub access_is : IsAccessOf run.scenario b.access
  pub begun_is : b.begun ≡ frame_in world.turn

-- P holds of the run that the bus is in
abbrev pub ForItsRun : (Run → Type 0) → Bus → Type 0
ForItsRun P b = (run : Run) → HasRun run b → P run

-- the text is that of an accepted scenario, which is lawful, and its run is before the first record
pub record Opens (text : List ℕ) (b : Bus) : Type 0 where
  pub accepted : Accepted
  pub is : IsAccepted text accepted
  pub lawful : IsLawful (as_scenario accepted)
  pub listed : IsListed (as_scenario accepted)
  pub runs : HasRun (first_run (as_scenario accepted)) b

-- Records.

-- after n records r is record n of the rounds, counted from 0, and now r is given too
pub record GivesNext (run : Run) (r : Record) (after : Bus) : Type 0 where
  pub is_next : slice_get (records_in run) (length run.given) ≡ Some r
  pub runs : HasRun (with_record run r) after

-- record r is the last of the records that the run has given. It is given once more, and the run
-- stays as it is
pub record GivesLastAgain (run : Run) (r : Record) (after : Bus) : Type 0 where
  pub others : List Record
  pub is : run.given ≡ others ++ r ∷ []
  pub runs : HasRun run after

-- a run gives its next record, and one that has ended gives its last record again
pub record GivesRecord (run : Run) (r : Record) (after : Bus) : Type 0 where
  pub next : run.over ≡ false → GivesNext run r after
  pub again : run.over ≡ true → GivesLastAgain run r after

-- a call gives a record as a turn; words may be handed in next if that record begins a frame
pub record Gives (before after : Bus) (turn : Turn) : Type 0 where
  pub given_now : Record
  pub turn_is : record_of turn ≡ Some given_now
  pub begins : after.begun ≡ frame_in (Some given_now)
  pub gives : ForItsRun (λ run. GivesRecord run given_now after) before

-- Words.

-- The word is handed to the BIU's table, for the frame that the last record began. Other BIUs may
-- still be handed theirs
pub record HandsIn (run : Run) (biu word : ℕ) (before after : Bus) : Type 0 where
  pub frame : ℕ
  pub now : before.begun ≡ Some frame
  pub good : is_good run.scenario Biu biu frame 0 ≡ true
  pub table : get_or run.scenario.apps biu 0 ≡ 0
  pub again : after.begun ≡ before.begun
  pub runs : HasRun (with_word run (record { frame = frame; biu = biu; state = word })) after

-- the bus has no such BIU, or the BIU is not good as the frame begins
pub record IsNotGood (run : Run) (biu : ℕ) (b : Bus) : Type 0 where
  pub frame : ℕ
  pub now : b.begun ≡ Some frame
  pub not_good : is_good run.scenario Biu biu frame 0 ≡ false

-- the BIU's application is not a table
abbrev pub HasNoTable : Run → ℕ → Type 0
HasNoTable run biu = ¬ (get_or run.scenario.apps biu 0 ≡ 0)

-- a call hands in a word, or it changes nothing and its answer says why
abbrev pub Hands : ℕ → ℕ → Bus → Bus → Result (Unit {0}) NotHanded → Type 0
Hands biu word before after (Ok done) = ForItsRun (λ run. HandsIn run biu word before after) before
Hands biu word before after (Err refusal.NoFrame) = (after ≡ before) × (before.begun ≡ None)
Hands biu word before after (Err refusal.NotGood) =
    (after ≡ before) × ForItsRun (λ run. IsNotGood run biu before) before
Hands biu word before after (Err refusal.NoTable) =
    (after ≡ before) × ForItsRun (λ run. HasNoTable run biu) before

-- The promise.

-- What the records given are worth, whatever was handed in. They are the first records of the
-- rounds (`first`), and all of them once the run has ended (`whole`); each record of a slot has the
-- right lines (`slots`). The run keeps the promise of the bus up to its first breach (`keeps`), and
-- all good BIUs deliver the word that the table of a good BIU was handed last (`words`)
pub record Promised (run : Run) : Type 0 where
  pub first : IsPrefix run.given (records_in run)
  pub whole : run.over ≡ true → run.given ≡ records_in run
  pub slots : All (IsRight run.scenario run.hands) run.given
  pub keeps : KeepsThePromise run.scenario run.hands
  pub words : DeliverTheHeldWord run.scenario run.hands

-- the run that the bus is in keeps all that is promised of a run
abbrev pub KeepsItsPromise : Bus → Type 0
KeepsItsPromise = ForItsRun Promised
