-- What is handed to a bus as a frame begins, pair by pair.
use Rattle.std.specs.Prelude.{ℕ, Option, List, [], ◌∷◌}
use Rattle.rb_base.specs.declared.values.Heard.{Heard}
use Rattle.rb_rules.specs.{Goodness.Scenario, WorldStep.{World, hand}}
use Rattle.rb_rules_bridge.specs.{declared.bank.Bank.Bank, declared.bank.Pair.Pair, Bridges.{across, biu_on}, Crossings.word_of}

-- the world of the bus on a bank after each pair has handed over the word of its BIU across the
-- bridge, by what was told of that one
abbrev pub with_words : Scenario → Bank → (ℕ → Option Heard) → List Pair → World → World
with_words sc bank told [] w = w
with_words sc bank told (pair ∷ pairs) w =
    with_words sc bank told pairs (hand sc w (biu_on bank pair) (word_of (told (biu_on (across bank) pair))))
