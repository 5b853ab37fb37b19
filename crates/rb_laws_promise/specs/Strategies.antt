-- Faulty nodes that answer to the run: strategies.
use Rattle.std.specs.Prelude.{ℕ, zero, suc, ◌≡◌, List}
use Rattle.rb_rules.specs.{Behavior.Behavior, Goodness.Scenario, Lawful.IsLawful, Ports.HandIn, Rounds.{Moment, first_moment, moment, step}}
use Rattle.rb_laws_promise.specs.Promise.{KeepsThePromise, behaving}

-- A strategy chooses what faulty nodes do in a window by the moment before it: by the states of all
-- nodes, good ones too, by the ports, and by all that was recorded. What good nodes send in the
-- window follows from that moment, so a strategy may answer to it
abbrev pub Strategy : Type 0
Strategy = Moment → Behavior

-- the moment after a number of steps in which faulty nodes do what the strategy chooses
abbrev pub moment_against : Scenario → Strategy → List HandIn → ℕ → Moment
moment_against sc plays hands zero = first_moment sc hands
moment_against sc plays hands (suc n) =
    let m : Moment = moment_against sc plays hands n in
    step (behaving sc (plays m)) hands m

-- With some behavior, fixed beforehand, each moment is the same as against the strategy, and the
-- run with this behavior keeps the promise. So the promise is kept against the strategy
pub record GainsNothing (sc : Scenario) (hands : List HandIn) (plays : Strategy) : Type 0 where
  pub chosen : Behavior
  pub same : (n : ℕ) → moment (behaving sc chosen) hands n ≡ moment_against sc plays hands n
  pub kept : KeepsThePromise (behaving sc chosen) hands

-- no strategy gains anything in a lawful scenario, for any hand-ins
abbrev pub StrategiesGainNothing : Type 0
StrategiesGainNothing =
    (sc : Scenario) (hands : List HandIn) → IsLawful sc → (plays : Strategy)
    → GainsNothing sc hands plays
