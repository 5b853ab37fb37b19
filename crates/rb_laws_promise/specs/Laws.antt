-- What the bus promises, and that it is one machine to those who use it.
use Rattle.std.specs.Prelude.{List}
use Rattle.rb_rules.specs.{Goodness.Scenario, Headline.Headline, Lawful.IsLawful, Ports.HandIn, StandsFor.StandsFor}

-- the rounds of every lawful scenario stand for a run of the abstract bus, whatever is handed in
abbrev pub RoundsStandForTheBus : Type 0
RoundsStandForTheBus = (sc : Scenario) (hands : List HandIn) → IsLawful sc → StandsFor sc hands

-- every lawful scenario keeps the promise, with any hand-ins. What its faulty nodes do is a field
-- of the scenario, `behavior`: any function, since `IsLawful` asks nothing of it
abbrev pub ThePromiseIsKept : Type 0
ThePromiseIsKept = (sc : Scenario) (hands : List HandIn) → IsLawful sc → Headline sc hands
