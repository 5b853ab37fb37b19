-- What crosses a bridge: after each frame the words that were delivered in the carried slots, which
-- are handed in on the other bus as its next frame begins. Frames are paired by number; the time of
-- one bus means nothing on the other.
use Rattle.std.specs.Prelude.{ℕ, zero, suc, ◌+◌, ◌==◌, if◌then◌else◌, Option, Some, None, List, [], ◌∷◌, ◌++◌, filter, map}
use Rattle.rb_base.specs.{Nodes.Side.Biu, declared.values.Delivery.Delivery, declared.values.Heard.Heard}
use Rattle.rb_rules.specs.{Book.Record, Goodness.is_good, Ports.{HandIn, word_in, word_or_0}, Rounds.records_of}
use Rattle.rb_group.specs.{Portions.{port_deliveries, value_at}, declared.voters.Which.TheVariants.Most}
use Rattle.rb_rules_bridge.specs.{declared.bank.Bank.Bank, declared.bank.Bank.TheVariants.{Left, Right}, declared.bank.Pair.Pair, Bridges.{Bridge, across, biu_on, bus_on, carried_slot, members_on}}

-- A word.

-- the value that was delivered in a slot, if one was
abbrev pub value_in : ℕ → List Delivery → Option Heard
value_in slot [] = None
value_in slot (d ∷ ds) = if d.slot == slot then Some d.value else value_in slot ds

-- the word of a delivery: 0 if none was delivered or if Fault was
abbrev pub word_of : Option Heard → ℕ
word_of None = 0
word_of (Some value) = word_or_0 (word_in value)

-- the value that a BIU delivered in a slot of a frame, by the records of its bus
abbrev pub value_told : ℕ → ℕ → List Record → ℕ → Option Heard
value_told frame slot records biu = value_in slot (port_deliveries frame biu records)

-- Frame by frame.

-- all that is handed in on both buses
pub record Hands : Type 0 where
  pub left : List HandIn
  pub right : List HandIn

abbrev pub hands_on : Bank → Hands → List HandIn
hands_on Left hands = hands.left
hands_on Right hands = hands.right

-- the records of the bus on a bank with these
abbrev pub records_on : Bridge → Hands → Bank → List Record
records_on b hands bank = records_of (bus_on b bank) (hands_on bank hands)

-- the word that a pair carries to a bank after a frame, from its BIU on the other one
abbrev pub word_carried : Bridge → Hands → Bank → ℕ → Pair → ℕ
word_carried b hands bank frame pair =
    word_of (value_told frame (carried_slot b (across bank)) (records_on b hands (across bank)) (biu_on (across bank) pair))

-- the word is handed to the pair's BIU on this bank as the next frame begins
abbrev pub hand_in_of : Bridge → Hands → Bank → ℕ → Pair → HandIn
hand_in_of b hands bank frame pair = record { frame = frame + 1; biu = biu_on bank pair; state = word_carried b hands bank frame pair }

-- what all pairs carry to a bank after a frame, if their BIU is good as the next one begins
abbrev pub carried_to : Bridge → Hands → Bank → ℕ → List HandIn
carried_to b hands bank frame =
    map (hand_in_of b hands bank frame) (filter (λ pair. is_good (bus_on b bank) Biu (biu_on bank pair) (frame + 1) 0) b.pairs)

-- all that is handed in up to the start of a frame, each time by the records of both buses as they
-- are with what was handed in before
abbrev pub hands_up_to : Bridge → ℕ → Hands
hands_up_to b zero = record { left = []; right = [] }
hands_up_to b (suc frame) =
    let before : Hands = hands_up_to b frame in
    record { left = before.left ++ carried_to b before Left frame; right = before.right ++ carried_to b before Right frame }

-- all that is handed in
abbrev pub hands_of : Bridge → Hands
hands_of b = hands_up_to b b.left.frames

-- What comes of it.

-- what the far side finds: the value that more than half of the first values are which a BIU
-- delivered of the bridge's BIUs in a frame
abbrev pub crossing_value : Bridge → Bank → ℕ → ℕ → Heard
crossing_value b bank frame receiver = value_at Most (members_on b bank) (records_on b (hands_of b) bank) frame receiver
