-- Which record of the rounds a call gives: record number n, counted from 0, n being how many were
-- given before.
use Rattle.std.specs.Prelude.{ℕ, ◌≡◌, true, false, Option, Some, None, List, [], ◌∷◌, ◌++◌, length, slice_get}
use Rattle.rb_rules.specs.{Book.Record, Goodness.Scenario, Rounds.records_of, WorldStep.{World, take}}
use Rattle.rb_world_book.specs.{Records.record_of, declared.turn.Turn.Turn}
use Rattle.rb_world.specs.{Nexts.is_last, Worlds.{KeptWorld, Stands}}

-- if n records were given before, this is record number n of the rounds, and now n + 1 are given:
-- those and this one
pub record IsNextRecord (sc : Scenario) (before after : World) (r : Record) : Type 0 where
  pub is_next : slice_get (records_of sc before.hands) (length before.book.given) ≡ Some r
  pub added : after.book.given ≡ before.book.given ++ r ∷ []

-- An event that is taken gives no record, and then none is added; or it gives the next record. The
-- run has ended if and only if that is the last of a run, and then all records of the rounds are
-- given
pub record TakesInRounds (sc : Scenario) (before after : World) (given : Option Record) : Type 0 where
  pub none : given ≡ None → after.book.given ≡ before.book.given
  pub one : (r : Record) → given ≡ Some r → IsNextRecord sc before after r
  pub ended : after.book.ended ≡ is_last given
  pub all : after.book.ended ≡ true → after.book.given ≡ records_of sc before.hands
  pub hands : after.hands ≡ before.hands

-- event number i of those that are due is taken so, in each world for which this is kept
abbrev pub TakesItInRounds : KeptWorld → ℕ → Turn → Type 0
TakesItInRounds before i turn = (w : World) → Stands before w → TakesInRounds before.bus w (take before.bus w i) (record_of turn)

-- the last record of the rounds is given again, and nothing changes
pub record IsLastAgain (sc : Scenario) (before after : World) (r : Record) : Type 0 where
  pub others : List Record
  pub is : records_of sc before.hands ≡ others ++ r ∷ []
  pub stays : after ≡ before

-- Until the run has ended the next record is given, and after that the last one again. The run has
-- ended if and only if it is the last of a run, and then all records of the rounds are given
pub record GivesInRounds (sc : Scenario) (before after : World) (r : Record) : Type 0 where
  pub going : before.book.ended ≡ false → IsNextRecord sc before after r
  pub over : before.book.ended ≡ true → IsLastAgain sc before after r
  pub ended : after.book.ended ≡ is_last (Some r)
  pub all : after.book.ended ≡ true → after.book.given ≡ records_of sc before.hands
  pub hands : after.hands ≡ before.hands

-- `turn` is the record that world w gives by the rounds, and `after` stands for the world in which
-- it has been given
pub record GoesInRounds (before after : KeptWorld) (turn : Turn) (w : World) : Type 0 where
  pub next : World
  pub stands : Stands after next
  pub given : Record
  pub turn_is : record_of turn ≡ Some given
  pub rounds : GivesInRounds before.bus w next given
