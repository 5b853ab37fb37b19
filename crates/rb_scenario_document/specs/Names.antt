-- Names of nodes: B for a BIU or R for an RMU, and the node's number in decimal without leading
-- zero.
use Rattle.std.specs.Prelude.{ℕ, ◌<◌, List, ◌∷◌, Bool, true, false, Option, Some, None, option_map, decimal, codes, if◌then◌else◌}
use Rattle.std.specs.List.{find}
use Rattle.std.specs.Option.{option_or}
use Rattle.std.specs.Str.{bytes_eq}
use Rattle.toml.specs.Data.{Data, string, Members, get_member}
use Rattle.rb_base.specs.Counting.{numbers}
use Rattle.rb_base.specs.Sizes.{Sizes}
use Rattle.rb_base.specs.declared.node.NodeName.{NodeName}
use Rattle.rb_base.specs.declared.node.NodeName.TheVariants.{Biu, Rmu}
use Rattle.rb_rules.specs.declared.link.Pattern.{Pattern}
use Rattle.rb_rules.specs.declared.link.Pattern.TheVariants.{One, AllBiu, AllRmu}
use Rattle.rb_rules.specs.Links.{is_biu}

-- a letter and a number
abbrev pub indexed : ℕ → ℕ → List ℕ
indexed letter i = letter ∷ decimal i

-- the number below the count that stands behind the letter in the text
unfoldable pub named : ℕ → ℕ → List ℕ → Option ℕ
named letter count text = find (λ i. bytes_eq text (indexed letter i)) (numbers count)

-- the letters B and R
abbrev pub biu_letter : ℕ
biu_letter = 66

abbrev pub rmu_letter : ℕ
rmu_letter = 82

-- the node of the bus that the text names
abbrev pub node_named : Sizes → List ℕ → Option NodeName
node_named sizes text =
    option_or (option_map Biu (named biu_letter sizes.bius text)) (option_map Rmu (named rmu_letter sizes.rmus text))

-- the node's number is one that a node may have
abbrev pub IsNumbered : NodeName → Type 0
IsNumbered (Biu i) = i < 16
IsNumbered (Rmu i) = i < 16

-- the nodes that the text names: one, all BIUs or all RMUs
abbrev pub pattern_named : Sizes → List ℕ → Option Pattern
pattern_named sizes text =
    if bytes_eq text (codes "B") then Some AllBiu
    else (if bytes_eq text (codes "R") then Some AllRmu else option_map One (node_named sizes text))

-- what the name at a key stands for
abbrev pub text_or_none : {X : Type 0} → (List ℕ → Option X) → Option Data → Option X
text_or_none meaning (Some (string text)) = meaning text
text_or_none meaning _ = None

abbrev pub node_at : Sizes → List ℕ → Members → Option NodeName
node_at sizes key t = text_or_none (node_named sizes) (get_member key t)

abbrev pub pattern_at : Sizes → List ℕ → Members → Option Pattern
pattern_at sizes key t = text_or_none (pattern_named sizes) (get_member key t)

-- the pattern stands for BIUs
abbrev pub is_of_bius : Pattern → Bool
is_of_bius (One n) = is_biu n
is_of_bius AllBiu = true
is_of_bius AllRmu = false
