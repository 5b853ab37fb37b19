-- Clock entries: the clocks of some nodes.
use Rattle.std.specs.{Prelude.{ℕ, Bool, ◌&&◌, List, [], ◌∷◌, ◌++◌, map, Option, Some, is_some, unwrap_or, codes}, List.list_all}
use Rattle.toml.specs.Data.{Data, array, Items, no_items, item, Members, no_members, get_member, at}
use Rattle.rb_base.specs.{Counting.numbers, Sizes.Sizes, declared.node.NodeName.NodeName, Nodes.Side, Nodes.Side.{Biu, Rmu}}
use Rattle.rb_rules.specs.{Clock.{Timeline, are_rising, are_within}, Links.name_of, Plan.{longest_of, shortest_of}, declared.plan.Plan.Plan}
use Rattle.rb_scenario_document.specs.{Forms.is_array_of, Names.node_at, Values.{is_within, may_have_number, number_at, pair_of}, Walk.{absent_or, entries_at, passes}}
use Rattle.rb_scenario_entries.specs.{declared.bus.Bus.Bus, Entries.{are_distinct, entry_for, nodes_in}}

-- a first tick, and a length
abbrev pub is_segment : Data → Bool
is_segment d = passes (is_within 0 2147483648) (at 0 d) && passes (is_within 1 2000000) (at 1 d)

-- a clock entry is for a node of the bus, and its numbers are in range
abbrev pub is_clock : Sizes → Members → Bool
is_clock sizes e =
    is_some (node_at sizes (codes "node") e) && may_have_number (codes "start") 0 1000000000000 e
    && absent_or (is_array_of is_segment) (get_member (codes "ticks") e)

abbrev pub has_clocks : Bus → Members → Bool
has_clocks bus t =
    list_all (is_clock bus.shape) (entries_at (codes "clock") t)
    && are_distinct (nodes_in bus.shape (entries_at (codes "clock") t))

abbrev pub pairs_of : Items → List (ℕ × ℕ)
pairs_of no_items = []
pairs_of (item d ds) = pair_of d ∷ pairs_of ds

-- the pairs of an array, or else the default
abbrev pub pairs_or : List (ℕ × ℕ) → Option Data → List (ℕ × ℕ)
pairs_or default (Some (array ds)) = pairs_of ds
pairs_or default _ = default

-- the clock of an entry: if nothing is said, it starts at 0 and has ticks of length u
abbrev pub timeline_of : ℕ → Members → Timeline
timeline_of u e =
    record { start = number_at (codes "start") 0 e; segments = pairs_or ((0, u) ∷ []) (get_member (codes "ticks") e) }

-- the clock of a node. One without an entry has the clock of an empty entry
abbrev pub clock_for : Bus → Members → NodeName → Timeline
clock_for bus t name = timeline_of bus.plan.u (unwrap_or (entry_for bus.shape (entries_at (codes "clock") t) name) no_members)

-- the clocks of the first nodes of a kind
abbrev pub kind_clocks : Side → ℕ → Bus → Members → List Timeline
kind_clocks side count bus t = map (λ i. clock_for bus t (name_of side i)) (numbers count)

-- the clocks of all nodes, BIUs first
unfoldable pub clocks_of : Bus → Members → List Timeline
clocks_of bus t = kind_clocks Biu bus.shape.bius bus t ++ kind_clocks Rmu bus.shape.rmus bus t

-- a clock's segments begin at tick 0 and rise, and their lengths are within the plan's bounds
abbrev pub keeps_time : Plan → Timeline → Bool
keeps_time plan clock = are_rising clock.segments && are_within (shortest_of plan) (longest_of plan) clock.segments
