-- The rules by the pair of nodes that they are for.
use Rattle.std.specs.{Prelude.{ℕ, ◌≡◌, ◌+◌, ◌-◌, ◌/◌, ◌%◌, ◌<◌, nat_lt, ◌&&◌, Bool, false, cond, if◌then◌else◌, List, [], ◌∷◌, length, reverse, slice_get, slice_index, slice_range, Option, Some, None}, List.find}
use Rattle.rb_base.specs.{declared.node.NodeName.NodeName, declared.node.NodeName.TheVariants.{Biu, Rmu}}
use Rattle.rb_rules.specs.{declared.link.Pattern.TheVariants.One, declared.link.Rule.Rule, Links.stands_for}

-- the rule is for messages from the node
abbrev pub is_from : NodeName → Rule → Bool
is_from from rule = stands_for rule.from from

-- there is a rule, and it is for messages to the node
abbrev pub is_to : NodeName → Option Rule → Bool
is_to to None = false
is_to to (Some rule) = stands_for rule.to to

-- the rule is for messages from the one node to the other
abbrev pub is_between : NodeName → NodeName → Rule → Bool
is_between from to rule = stands_for rule.from from && stands_for rule.to to

-- The pairs of nodes of unlike kinds have numbers below 512: first those from a BIU to an RMU, by
-- sender and then receiver, then those from an RMU to a BIU.
abbrev pub sender_of : ℕ → NodeName
sender_of pair = if nat_lt pair 256 then Biu (pair / 16) else Rmu (pair / 16 - 16)

abbrev pub receiver_of : ℕ → NodeName
receiver_of pair = if nat_lt pair 256 then Rmu (pair % 16) else Biu (pair % 16)

-- the places of the rules that pass, if the first has place n
abbrev pub places_from : ℕ → (Rule → Bool) → List Rule → List ℕ
places_from n passes [] = []
places_from n passes (r ∷ rs) = cond (passes r) (n ∷ places_from (n + 1) passes rs) (places_from (n + 1) passes rs)

-- the places of the rules for the messages of this pair, in order
unfoldable pub places_for : ℕ → List Rule → List ℕ
places_for pair rules = places_from 0 (is_between (sender_of pair) (receiver_of pair)) rules

-- the places of the rules for the messages from the sender of this pair, in order
unfoldable pub places_sent : ℕ → List Rule → List ℕ
places_sent pair rules = places_from 0 (is_from (sender_of pair)) rules

-- the places that stand between the starts of this pair and of the next
abbrev pub places_of : List ℕ → List ℕ → ℕ → List ℕ
places_of starts places pair = slice_range places (slice_index starts pair) (slice_index starts (pair + 1))

-- if a pair and the next one have starts, the places of the pair's rules are between them
pub record IsIndex (rules : List Rule) (starts places : List ℕ) : Type 0 where
  pub each : (pair : ℕ) → pair + 1 < length starts → places_of starts places pair ≡ places_for pair rules

-- the delay of the rule that was found, else the base
abbrev pub delay_or : ℕ → Option Rule → ℕ
delay_or base None = base
delay_or base (Some rule) = rule.delay

-- the rule that was found, else one for all places with the base as its delay
abbrev pub rule_or_base : ℕ → NodeName → NodeName → Option Rule → Rule
rule_or_base base from to None = record { from = One from; to = One to; frames = (0, 4294967295); slots = (0, 65535); stages = (0, 255); delay = base }
rule_or_base base from to (Some rule) = rule

-- the rule is the last of those that are for messages from the one node to the other
abbrev pub IsLatest : ℕ → List Rule → NodeName → NodeName → Rule → Type 0
IsLatest base rules from to latest = latest ≡ rule_or_base base from to (find (is_between from to) (reverse rules))

-- each pair has its latest rule at its number
pub record AreLatest (base : ℕ) (rules latest : List Rule) : Type 0 where
  pub each : (pair : ℕ) → (rule : Rule) → slice_get latest pair ≡ Some rule → IsLatest base rules (sender_of pair) (receiver_of pair) rule
