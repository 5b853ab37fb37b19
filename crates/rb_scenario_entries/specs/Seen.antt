-- Sets of nodes of both kinds.
use Rattle.std.specs.{Prelude.{Bool, not, ◌&&◌, List}, List.list_all}
use Rattle.rb_base.specs.{Nodes.has, declared.node.NodeName.NodeName, declared.node.NodeName.TheVariants.{Biu, Rmu}}
use Rattle.rb_scenario_entries.specs.{declared.entries.Seen.Seen, Entries.are_distinct}

-- the node is in the sets
abbrev pub was_seen : Seen → NodeName → Bool
was_seen seen (Biu i) = has seen.biu i
was_seen seen (Rmu i) = has seen.rmu i

-- none of the nodes is in the sets, and none is there twice
abbrev pub are_new : Seen → List NodeName → Bool
are_new seen names = list_all (λ n. not (was_seen seen n)) names && are_distinct names
