-- The delays of a node's messages of one place, one a receiver.
use Rattle.std.specs.{Prelude.{ℕ, zero, suc, Bool, true, ◌&&◌, ◌≡◌, ◌*◌, ◌+◌, ◌<◌, ◌^◌, nat_lt, length, List, reverse, slice_get, Option, Some, None}, List.find}
use Rattle.rb_base.specs.{Nodes.other, declared.node.NodeName.NodeName, declared.node.NodeName.TheVariants.{Biu, Rmu}, declared.values.Place.Place}
use Rattle.rb_rules.specs.{declared.link.Rule.Rule, Lawful.kind_of, Links.{DelayRules, covers, delay_after, delay_of, name_of}}
use Rattle.rb_link.specs.{Pairs.{is_between, receiver_of, sender_of}, declared.rows.Ranges.Ranges}

-- each delay that the row has is that of the messages of this place to the node of the other kind
-- with its number
abbrev pub IsRow : DelayRules → NodeName → Place → List ℕ → Type 0
IsRow delays from place row =
    (i : ℕ) → (delay : ℕ) → slice_get row i ≡ Some delay → delay ≡ delay_of delays from (name_of (other (kind_of from)) i) place

-- the rule has the place; a rule that is not there has every place
abbrev pub rule_has : Option Rule → Place → Bool
rule_has None place = true
rule_has (Some rule) place = covers rule.frames rule.slots rule.stages place

-- the last of the rules for messages from the one node to the other has the place, or there are
-- none for them
abbrev pub latest_has : List Rule → NodeName → NodeName → Place → Bool
latest_has rules from to place = rule_has (find (is_between from to) (reverse rules)) place

-- the test passes for each number below n
unfoldable pub all_below : ℕ → (ℕ → Bool) → Bool
all_below zero passes = true
all_below (suc n) passes = all_below n passes && passes n

-- there are at most 16 nodes of each kind
abbrev pub is_numbered : NodeName → Bool
is_numbered (Biu i) = nat_lt i 16
is_numbered (Rmu i) = nat_lt i 16

-- Whether there is a row for messages of this place from the node: its number is below 16, and for
-- each of the 16 nodes of the other kind the latest rule for messages from the one to the other has
-- the place, or there is no rule for them.
unfoldable pub has_row : DelayRules → NodeName → Place → Bool
has_row delays from place =
    is_numbered from && all_below 16 (λ i. latest_has delays.rules from (name_of (other (kind_of from)) i) place)

-- The senders have numbers below 32: first the BIUs, then the RMUs. The pairs of a sender with its
-- 16 receivers stand together.

-- the node is the sender with this number
abbrev pub IsSender : ℕ → NodeName → Type 0
IsSender sender from = (i : ℕ) → i < 16
    → (sender_of (16 * sender + i) ≡ from) × (receiver_of (16 * sender + i) ≡ name_of (other (kind_of from)) i)

-- the row has at most 16 delays, and each is that of the sender's pair whose number is the delay's
-- place in the row, at this place of the run
abbrev pub IsRowOf : ℕ → List Rule → ℕ → Place → List ℕ → Type 0
IsRowOf base rules sender place row = (i : ℕ) → (delay : ℕ) → slice_get row i ≡ Some delay
    → (i < 16) × (delay ≡ delay_after base rules (sender_of (16 * sender + i)) (receiver_of (16 * sender + i)) place)

abbrev pub delay_of_rule : Rule → ℕ
delay_of_rule rule = rule.delay

-- the numbers of the place are those of its types
pub record PlaceFits (place : Place) : Type 0 where
  pub frame : place.frame < 2 ^ 32
  pub slot : place.slot < 2 ^ 16
  pub stage : place.stage < 2 ^ 8

-- the ranges have exactly the places that the rules of the first `count` pairs of the sender all
-- have
abbrev pub IsShared : List Rule → ℕ → ℕ → Ranges → Type 0
IsShared latest sender count ranges = (place : Place) → PlaceFits place
    → covers ranges.frames ranges.slots ranges.stages place ≡ all_below count (λ i. rule_has (slice_get latest (16 * sender + i)) place)

-- the ranges of each sender are those that all rules of its pairs share
pub record AreShared (latest : List Rule) (shared : List Ranges) : Type 0 where
  pub each : (sender : ℕ) → (ranges : Ranges) → slice_get shared sender ≡ Some ranges → IsShared latest sender 16 ranges

-- whether the latest rules for messages from the sender with this number all have the place
abbrev pub all_latest_have : List Rule → ℕ → Place → Bool
all_latest_have rules sender place =
    all_below 16 (λ i. latest_has rules (sender_of (16 * sender + i)) (receiver_of (16 * sender + i)) place)

-- each sender has ranges, which have those places that its latest rules all have; each pair has a
-- delay, and at each place that is in the sender's ranges this is that of its messages
pub record AreRows (base : ℕ) (rules : List Rule) (shared : List Ranges) (flat : List ℕ) : Type 0 where
  pub senders : length shared ≡ 32
  pub pairs : length flat ≡ 512
  pub kept : (sender : ℕ) → (ranges : Ranges) → (place : Place) → PlaceFits place → slice_get shared sender ≡ Some ranges
      → covers ranges.frames ranges.slots ranges.stages place ≡ all_latest_have rules sender place
  pub each : (sender i : ℕ) → (ranges : Ranges) → (delay : ℕ) → (place : Place) → PlaceFits place → i < 16 → slice_get shared sender ≡ Some ranges
      → covers ranges.frames ranges.slots ranges.stages place ≡ true → slice_get flat (16 * sender + i) ≡ Some delay
      → delay ≡ delay_after base rules (sender_of (16 * sender + i)) (receiver_of (16 * sender + i)) place
