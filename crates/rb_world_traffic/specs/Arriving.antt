-- What comes to nodes.
use Rattle.std.specs.Prelude.{◌≡◌, ℕ, ◌+◌, ◌≤◌, Bool, true, false, List, slice_get, Some}
use Rattle.rb_base.specs.{Nodes.{Side, has, other}, Nodes.Side.{Biu, Rmu}, declared.node.NodeName.NodeName}
use Rattle.rb_rules.specs.{Book.{Each, map_from, of_kind}, Hearing.Coming, Lawful.kind_of, Links.{DelayRules, delay_of, name_of}, WorldStep.Site}
use Rattle.rb_queue.specs.Waiting.{HasLane, Held, lane_of, spare_of, with_arrival}
use Rattle.rb_world_traffic.specs.declared.sending.Transmission.{Transmission}
use Rattle.rb_base.specs.declared.node.NodeName.TheVariants as node

-- the number of a node among those of its kind
abbrev pub number_of : NodeName → ℕ
number_of (node.Biu i) = i
number_of (node.Rmu i) = i

-- Messages of good nodes.

-- what a node sends, as it comes to node i of the other kind
abbrev pub coming_to : DelayRules → Transmission → List ℕ → ℕ → Coming
coming_to delays t bytes i =
    record { time = t.time + delay_of delays t.from (name_of (other (kind_of t.from)) i) t.place; from = number_of t.from; bytes = bytes }

-- the lane of node i of a kind gets what comes to it, if the node is one of these
abbrev pub lane_with : Side → (ℕ → Coming) → (ℕ → Bool) → ℕ → Held → Held
lane_with side coming is_one i lane = elim (is_one i) [ true ↦ with_arrival (coming i) lane | false ↦ lane ]

-- the arrivals go into the lanes of all chosen nodes of the kind, and of no others
abbrev pub lanes_with : Side → (ℕ → Coming) → (ℕ → Bool) → Each Held → Each Held
lanes_with Biu coming is_one lanes = record lanes { bius = map_from 0 (lane_with Biu coming is_one) lanes.bius }
lanes_with Rmu coming is_one lanes = record lanes { rmus = map_from 0 (lane_with Rmu coming is_one) lanes.rmus }

-- the set is that of the nodes of a kind that still run
abbrev pub AreRunning : Side → ℕ → Each Site → Type 0
AreRunning side running sites = (i : ℕ) → (s : Site) → slice_get (of_kind side sites) i ≡ Some s → has running i ≡ s.runs

-- each of the nodes has a lane, and room in it
abbrev pub HaveRoom : Side → ℕ → Each Held → Type 0
HaveRoom side running lanes = (i : ℕ) → has running i ≡ true → HasLane lanes (name_of side i) × (1 ≤ spare_of (lane_of lanes (name_of side i)))
