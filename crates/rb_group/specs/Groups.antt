-- Replicas: several BIUs that offer the same, and the one value that a vote finds for them in a
-- frame.
use Rattle.std.specs.Prelude.{ℕ, ◌==◌, Option, Some, None, List, [], ◌∷◌, map, filter_map, if◌then◌else◌}
use Rattle.rb_base.specs.{Counting.numbers, Nodes.has, declared.values.Delivery.Delivery, declared.values.Heard.Heard, declared.values.Heard.TheVariants.{Word, Fault}}
use Rattle.rb_rules.specs.{ExactStage.present, Majority.majority_of, Middle.middle_of, Ports.word_in}
use Rattle.rb_group.specs.{declared.voters.Which.Which, declared.voters.Which.TheVariants.{Most, Mid}}

-- What the members gave.

-- the first value of a sender among deliveries in order
abbrev pub first_of : ℕ → List Delivery → Option Heard
first_of sender [] = None
first_of sender (d ∷ ds) = if d.sender == sender then Some d.value else first_of sender ds

-- the value of BIU i, if it is a member and gave one
abbrev pub value_of : ℕ → List Delivery → ℕ → Option Heard
value_of members deliveries i = if has members i then first_of i deliveries else None

-- the first value of each member that gave one, by index, of what a port delivered in a frame
unfoldable pub values_of : ℕ → List Delivery → List Heard
values_of members deliveries = present (map (value_of members deliveries) (numbers 16))

-- The vote.

-- the words among the values
abbrev pub words_in : List Heard → List ℕ
words_in values = filter_map word_in values

abbrev pub heard_of : Option ℕ → Heard
heard_of None = Fault
heard_of (Some word) = Word word

-- the word at place (n - 1) / 2, rounded down, of the n words in ascending order, counted from 0;
-- Fault if there is no word
abbrev pub middle_word_of : List Heard → Heard
middle_word_of values = heard_of (middle_of (words_in values))

-- what the voter answers
abbrev pub voted_by : Which → List Heard → Heard
voted_by Most values = majority_of values
voted_by Mid values = middle_word_of values

-- the value of a group of BIUs at a port in a frame, by what the port delivered in it
abbrev pub group_value : Which → ℕ → List Delivery → Heard
group_value which members deliveries = voted_by which (values_of members deliveries)
