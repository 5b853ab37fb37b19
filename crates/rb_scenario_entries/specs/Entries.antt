-- Entries that are for one node each.
use Rattle.std.specs.{Prelude.{Bool, true, false, not, ◌&&◌, List, [], ◌∷◌, Option, Some, None, codes}, List.{find, filter_map, list_any}}
use Rattle.toml.specs.Data.{Members}
use Rattle.rb_base.specs.{Sizes.Sizes, declared.node.NodeName.NodeName}
use Rattle.rb_rules.specs.Links.{same_node}
use Rattle.rb_scenario_document.specs.Names.{node_at}

-- no node is there twice
abbrev pub are_distinct : List NodeName → Bool
are_distinct [] = true
are_distinct (name ∷ names) = not (list_any (same_node name) names) && are_distinct names

-- the nodes that the entries are for
abbrev pub nodes_in : Sizes → List Members → List NodeName
nodes_in sizes entries = filter_map (node_at sizes (codes "node")) entries

-- the node that is named, if any, is this one
abbrev pub is_node : NodeName → Option NodeName → Bool
is_node name None = false
is_node name (Some other) = same_node other name

-- the entry that is for the node
abbrev pub entry_for : Sizes → List Members → NodeName → Option Members
entry_for sizes entries name = find (λ e. is_node name (node_at sizes (codes "node") e)) entries
