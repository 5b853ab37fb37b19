-- Links: how long a message is on its way.
use Rattle.std.specs.Prelude.{ℕ, ◌==◌, ◌&&◌, nat_le, Bool, true, false, if◌then◌else◌, List, [], ◌∷◌}
use Rattle.rb_base.specs.{Nodes.Side, Nodes.Side.{Biu, Rmu}, declared.node.NodeName.NodeName, declared.values.Place.Place}
use Rattle.rb_rules.specs.{declared.link.Pattern.Pattern, declared.link.Pattern.TheVariants.{One, AllBiu, AllRmu}, declared.link.Rule.Rule}
use Rattle.rb_base.specs.declared.node.NodeName.TheVariants as node

-- node i of a kind
abbrev pub name_of : Side → ℕ → NodeName
name_of Biu i = node.Biu i
name_of Rmu i = node.Rmu i

abbrev pub same_node : NodeName → NodeName → Bool
same_node (node.Biu i) (node.Biu j) = i == j
same_node (node.Biu i) (node.Rmu j) = false
same_node (node.Rmu i) (node.Biu j) = false
same_node (node.Rmu i) (node.Rmu j) = i == j

abbrev pub is_biu : NodeName → Bool
is_biu (node.Biu i) = true
is_biu (node.Rmu i) = false

abbrev pub is_rmu : NodeName → Bool
is_rmu (node.Biu i) = false
is_rmu (node.Rmu i) = true

-- the pattern stands for this node
abbrev pub stands_for : Pattern → NodeName → Bool
stands_for (One name) n = same_node name n
stands_for AllBiu n = is_biu n
stands_for AllRmu n = is_rmu n

-- the number lies in the range, its two ends included
abbrev pub is_in_range : ℕ × ℕ → ℕ → Bool
is_in_range range n = nat_le range.0 n && nat_le n range.1

-- the place lies in these ranges of frames, slots and stages
abbrev pub covers : ℕ × ℕ → ℕ × ℕ → ℕ × ℕ → Place → Bool
covers frames slots stages place =
    is_in_range frames place.frame && is_in_range slots place.slot && is_in_range stages place.stage

-- the rule is for messages of this place from the first of these nodes to the second
abbrev pub applies : Rule → NodeName → NodeName → Place → Bool
applies r from to place = stands_for r.from from && stands_for r.to to && covers r.frames r.slots r.stages place

-- the delays of a bus: that of a message for which there is no rule, and the rules
pub record DelayRules : Type 0 where
  pub base : ℕ
  pub rules : List Rule

-- the delay of the last of these rules that applies to the message, or `delay` if none does
abbrev pub delay_after : ℕ → List Rule → NodeName → NodeName → Place → ℕ
delay_after delay [] from to place = delay
delay_after delay (r ∷ rs) from to place = delay_after (if applies r from to place then r.delay else delay) rs from to place

-- how long a message of this place is on its way
unfoldable pub delay_of : DelayRules → NodeName → NodeName → Place → ℕ
delay_of delays from to place = delay_after delays.base delays.rules from to place
