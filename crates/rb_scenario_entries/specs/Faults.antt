-- Fault entries: the frame and the slot from which on nodes are not good.
use Rattle.std.specs.{Prelude.{ℕ, ◌-◌, Bool, ◌&&◌, List, map, Option, option_map, is_some, codes}, List.list_all}
use Rattle.toml.specs.Data.{Members}
use Rattle.rb_base.specs.{Counting.numbers, Nodes.Side, Sizes.sync_slot_of, declared.node.NodeName.NodeName}
use Rattle.rb_rules.specs.Links.{name_of}
use Rattle.rb_scenario_document.specs.{Names.node_at, Values.{has_number, number_at}, Walk.entries_at}
use Rattle.rb_scenario_entries.specs.{declared.bus.Bus.Bus, Entries.{are_distinct, entry_for, nodes_in}}

-- a fault entry is for a node of the bus, from a slot of a frame on
abbrev pub is_fault : Bus → Members → Bool
is_fault bus e =
    is_some (node_at bus.shape (codes "node") e) && has_number (codes "frame") 0 (bus.frames - 1) e
    && has_number (codes "slot") 0 (sync_slot_of bus.shape) e

abbrev pub has_faults : Bus → Members → Bool
has_faults bus t =
    list_all (is_fault bus) (entries_at (codes "fault") t)
    && are_distinct (nodes_in bus.shape (entries_at (codes "fault") t))

-- the frame and the slot of an entry
abbrev pub onset_of : Members → ℕ × ℕ
onset_of e = (number_at (codes "frame") 0 e, number_at (codes "slot") 0 e)

-- the frame and the slot from which on the node is not good, if it ever is not
abbrev pub onset_for : Bus → Members → NodeName → Option (ℕ × ℕ)
onset_for bus t name = option_map onset_of (entry_for bus.shape (entries_at (codes "fault") t) name)

-- the onsets of 16 nodes of a kind
unfoldable pub onsets_of : Side → Bus → Members → List (Option (ℕ × ℕ))
onsets_of side bus t = map (λ i. onset_for bus t (name_of side i)) (numbers 16)
