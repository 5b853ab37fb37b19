-- A bridge of two buses: which BIUs belong together, and which slot of each bus is carried over to
-- the other.
use Rattle.std.specs.{Prelude.{ℕ, ◌≡◌, ◌+◌, ◌<◌, ◌≤◌, ◌==◌, All, List, eqb, get_or, length, map}, List.{IsDistinct, list_any}}
use Rattle.rb_base.specs.Nodes.{set_of}
use Rattle.rb_rules.specs.{Goodness.Scenario, Lawful.IsLawful}
use Rattle.rb_rules_bridge.specs.{declared.bank.Bank.Bank, declared.bank.Bank.TheVariants.{Left, Right}, declared.bank.Pair.Pair}

-- the other bank
abbrev pub across : Bank → Bank
across Left = Right
across Right = Left

pub record Bridge : Type 0 where
  pub left : Scenario
  pub right : Scenario
  pub pairs : List Pair
  pub left_slot : ℕ  -- the data slot of the left bus that is carried over, counted from 0
  pub right_slot : ℕ  -- the data slot of the right bus that is carried over, counted from 0

-- the bus on a bank
abbrev pub bus_on : Bridge → Bank → Scenario
bus_on b Left = b.left
bus_on b Right = b.right

-- the data slot of the bus on a bank that is carried over, counted from 0
abbrev pub slot_on : Bridge → Bank → ℕ
slot_on b Left = b.left_slot
slot_on b Right = b.right_slot

-- the number in a frame of the slot that is carried over from the bus on a bank
abbrev pub carried_slot : Bridge → Bank → ℕ
carried_slot b bank = (bus_on b bank).sizes.bius + slot_on b bank

-- the BIU of a pair on a bank
abbrev pub biu_on : Bank → Pair → ℕ
biu_on Left pair = pair.left
biu_on Right pair = pair.right

-- the BIUs of all pairs on a bank
abbrev pub members_on : Bridge → Bank → ℕ
members_on b bank = set_of (λ i. list_any (λ pair. biu_on bank pair == i) b.pairs)

-- BIU i is one of the bus, and its application offers the word that it was handed
pub record IsHead (sc : Scenario) (i : ℕ) : Type 0 where
  pub inside : i < sc.sizes.bius
  pub table : get_or sc.apps i 0 ≡ 0

-- What is known of a bridge that was accepted: both buses are lawful and have the same number of
-- frames, the 1 to 16 pairs are BIUs with tables, no two of them share one, and each bus has the
-- slot that is carried over
pub record IsBridge (b : Bridge) : Type 0 where
  pub lawful : (bank : Bank) → IsLawful (bus_on b bank)
  pub frames : b.left.frames ≡ b.right.frames
  pub some_pair : 1 ≤ length b.pairs
  pub most_pairs : length b.pairs ≤ 16
  pub heads : (bank : Bank) → All (λ pair. IsHead (bus_on b bank) (biu_on bank pair)) b.pairs
  pub apart : (bank : Bank) → IsDistinct eqb (map (biu_on bank) b.pairs)
  pub slots : (bank : Bank) → slot_on b bank < (bus_on b bank).sizes.data_slots
