-- What contracts see of a source and a sink in memory.
use Rattle.std.specs.Prelude.{ℕ, ◌+◌, ◌<◌, ◌≤◌, Bool, List, length, Contains}
use Rattle.rb_outside.specs.Causes.{last_count, next_count, faults_after}

-- the numbers, from 1, of the calls that are to fail, how many calls there were, how many failed
pub record Calls : Type 0 where
  pub failing : List ℕ
  pub had : ℕ
  pub faults : ℕ

-- before the first call
abbrev pub no_calls : List ℕ → Calls
no_calls failing = record { failing = failing; had = 0; faults = 0 }

-- the calls after one more that failed or did not
abbrev pub after_call : Bool → Calls → Calls
after_call failed calls = record {
  failing = calls.failing;
  had = next_count calls.had;
  faults = faults_after failed calls.faults;
}

-- the next call has a number, and that number is listed
abbrev pub IsNextListed : Calls → Type 0
IsNextListed calls = (calls.had < last_count) × Contains calls.failing (calls.had + 1)

-- a source: the bytes still to come
pub record Input : Type 0 where
  pub left : List ℕ
  pub calls : Calls

-- a source that gives at most `step` bytes a call
pub record ShortInput : Type 0 where
  pub step : ℕ
  pub left : List ℕ
  pub calls : Calls

-- bytes taken, and how many there is room for
pub record Room : Type 0 where
  pub held : List ℕ
  pub room : ℕ

-- a sink: the bytes taken, and how many there is room for
pub record Output : Type 0 where
  pub held : List ℕ
  pub room : ℕ
  pub calls : Calls

-- a sink that takes at most `step` bytes a call
pub record ShortOutput : Type 0 where
  pub step : ℕ
  pub held : List ℕ
  pub room : ℕ
  pub calls : Calls

-- there are bytes to take, and no room for one
abbrev pub HasNoRoom : List ℕ → ℕ → List ℕ → Type 0
HasNoRoom held room bytes = (room ≤ length held) × (0 < length bytes)
