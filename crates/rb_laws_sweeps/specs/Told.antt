-- What a node is told, and what it hears of that in a sweep.
use Rattle.std.specs.Prelude.{ℕ, zero, suc, ◌+◌, nat_lt, true, false, if◌then◌else◌, Option, Some, None, List, [], ◌∷◌, ◌++◌, length, slice_get}
use Rattle.rb_base.specs.{Nodes.Side, declared.event.Event.Event, declared.node.NodeName.NodeName}
use Rattle.rb_rules.specs.{Book.of_kind, Goodness.Scenario, Links.{name_of, same_node}, Ports.PortState, WorldStep.{Pending, Site, Timed, World, event_at, event_of}, WorldStep.Pending.{Arrival, Tick}}
use Rattle.rb_laws_sweeps.specs.Sweeping.{Placed, after_first, first_of, swept}

-- an event at a node, as it is shown, and the frame in which the node stands before it
pub record Told : Type 0 where
  pub frame : ℕ
  pub event : Event

-- what happens at node i of kind me, which is this, as it is told
abbrev pub telling : Scenario → List PortState → Side → ℕ → Site → Pending → Told
telling sc ports me i s pending = record { frame = s.core.state.frame; event = event_of sc ports me i s.core pending }

-- Sweeps.

-- the first arrival, if it comes before a time
abbrev pub heard_first : Scenario → Side → ℕ → ℕ → Option Placed → Site → List Told
heard_first sc me i until None s = []
heard_first sc me i until (Some p) s =
    elim (nat_lt p.coming.time until) [ true ↦ telling sc [] me i s (Arrival p.place p.coming) ∷ [] | false ↦ [] ]

-- what a node hears with a number of arrivals in their order, as far as they come before the time
-- `until`
unfoldable pub heard_by : Scenario → Side → ℕ → ℕ → ℕ → Site → List Told
heard_by sc me i until zero s = []
heard_by sc me i until (suc n) s =
    heard_first sc me i until (first_of s.coming) s ++ heard_by sc me i until n (after_first sc me i until (first_of s.coming) s)

-- all arrivals that come before a time, in the order in which the sweep takes them
unfoldable pub heard : Scenario → Side → ℕ → ℕ → Site → List Told
heard sc me i until s = heard_by sc me i until (length s.coming) s

-- Takes.

-- an event, if it is that of the node that has this name and is this
abbrev pub if_told : NodeName → Option Site → Option Event → List Told
if_told name None e = []
if_told name (Some s) None = []
if_told name (Some s) (Some e) = if same_node e.node name then (record { frame = s.core.state.frame; event = e }) ∷ [] else []

-- what node i of kind me is told if the first due event is taken
unfoldable pub told_next : Scenario → Side → ℕ → World → List Told
told_next sc me i w = if_told (name_of me i) (slice_get (of_kind me w.sites) i) (event_at sc w 0)

-- what node j of kind side, with this site, is told by a run that goes from tick to tick, when node
-- i of kind me has this tick: if it is that node, its own arrivals up to the tick, and the tick;
-- otherwise nothing
abbrev pub told_alone : Scenario → World → Side → ℕ → Timed → Side → ℕ → Site → List Told
told_alone sc w me i a side j s =
    if same_node (name_of me i) (name_of side j)
    then heard sc side j (a.time + 1) s ++ telling sc w.ports side j (swept sc side j (a.time + 1) s) (Tick a.tick) ∷ []
    else []
