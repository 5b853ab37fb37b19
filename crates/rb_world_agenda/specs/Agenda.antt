-- What is due among all lanes: the events of the least time, node by node.
use Rattle.std.specs.Prelude.{⊤, ◌≡◌, ℕ, suc, ◌*◌, option_map, ◌+◌, ◌-◌, ◌<◌, ◌≤◌, ◌==◌, nat_lt, min, true, false, if◌then◌else◌, unwrap_or, Bool, Some, List, [], ◌∷◌, ◌++◌, All, flat_map, length, map, slice_get, slice_set, take}
use Rattle.std.proofs.Math.ListN.{replicate}
use Rattle.rb_base.specs.{declared.event.Event.Event, declared.node.NodeName.NodeName, Nodes.Side, declared.event.EventKind.EventKind}
use Rattle.rb_rules.specs.{Book.{Each, in_order, of_kind}, Goodness.Scenario, Links.name_of, WorldStep.{Due, Pending as Waits, Site, Timed, World, at_node, due_at, least, times_of}, WorldStep.Pending.{Tick, Arrival}}
use Rattle.rb_queue.specs.Waiting.{Held, HasLane, Ready, head_of, lane_of, ready_event, ready_of, tick_time_of, with_lane, without_ready}
use Rattle.rb_world_agenda.specs.Holding.{HoldsSites, Shows, due_with, without_waiting}
use Rattle.rb_base.specs.declared.node.NodeName.TheVariants as node
use Rattle.rb_base.specs.declared.event.EventKind.TheVariants as kind

-- the least time of a lane. If it holds nothing, it is the last time that there is
abbrev pub key_of : Held → ℕ
key_of lane = unwrap_or (head_of lane) 18446744073709551615

-- the least time of all
unfoldable pub least_key : List ℕ → ℕ
least_key [] = 18446744073709551615
least_key (k ∷ ks) = min k (least_key ks)

-- what is due in a lane at this time: what is ready, if the time is the lane's least
abbrev pub due_in : ℕ → Held → List Ready
due_in time lane = elim (key_of lane == time) [ true ↦ ready_of lane | false ↦ [] ]

-- how many events are due in these lanes at this time
unfoldable pub due_count : ℕ → List Held → ℕ
due_count time [] = 0
due_count time (l ∷ ls) = length (due_in time l) + due_count time ls

-- the least time of all lanes
abbrev pub first_time : Each Held → ℕ
first_time lanes = least_key (map key_of (in_order lanes))

-- how many events are due in all lanes
abbrev pub how_many : Each Held → ℕ
how_many lanes = due_count (first_time lanes) (in_order lanes)

-- the node at a position, BIUs before RMUs
abbrev pub node_at : ℕ → ℕ → NodeName
node_at bius position = if nat_lt position bius then node.Biu position else node.Rmu (position - bius)

-- the position of a node
abbrev pub position_of : ℕ → NodeName → ℕ
position_of bius (node.Biu i) = i
position_of bius (node.Rmu i) = bius + i

-- the i-th of the events that are due at this time is the one at this place among the ready events
-- of a node
pub record StandsAt (lanes : Each Held) (time i : ℕ) (name : NodeName) (place : ℕ) : Type 0 where
  pub position : ℕ
  pub within : position < length (in_order lanes)
  pub node : name ≡ node_at (length lanes.bius) position
  pub lane : HasLane lanes name
  pub first : (key_of (lane_of lanes name) == time) ≡ true
  pub ready : place < length (ready_of (lane_of lanes name))
  pub before : i ≡ due_count time (take position (in_order lanes)) + place

-- what is due in a world at the least time of its sites
abbrev pub due_now : Scenario → World → List Due
due_now sc w = due_at sc w (least (flat_map times_of (in_order w.sites)))

-- The event at this place among the ready events of a node is the i-th that is due in a world: it
-- is the node's, and stands in the node's lane
pub record IsDue (sc : Scenario) (w : World) (lanes : Each Held) (i : ℕ) (name : NodeName) (place : ℕ) : Type 0 where
  pub side : Side
  pub number : ℕ
  pub named : name ≡ name_of side number
  pub site : Site
  pub there : slice_get (of_kind side w.sites) number ≡ Some site
  pub event : Ready
  pub ready : slice_get (ready_of (lane_of lanes name)) place ≡ Some event
  pub due : slice_get (due_now sc w) i ≡ Some (due_with side number site event)

-- the i-th event that is due is taken out of the lane of this node, and no other
pub record Takes (before : Each Held) (i : ℕ) (node : NodeName) (event : Event) (after : Each Held) : Type 0 where
  pub place : ℕ
  pub stands : StandsAt before (first_time before) i node place
  pub taken : ready_event node place (lane_of before node) ≡ Some event
  pub left : after ≡ with_lane node (without_ready place (lane_of before node)) before

-- what waits, waits until this time
abbrev pub IsAtTime : ℕ → Waits → Type 0
IsAtTime time (Tick k) = ⊤
IsAtTime time (Arrival place c) = c.time ≡ time

-- The i-th event that is due in a world is taken: this event of this node shows it, at this time,
-- and the lanes hold afterwards what waits without it
pub record TakesDue (sc : Scenario) (w : World) (i time : ℕ) (name : NodeName) (event : Event) (after : Each Held) : Type 0 where
  pub due : Due
  pub site : Site
  pub named : name ≡ name_of due.side due.node
  pub time_is : IsAtTime time due.pending
  pub found : slice_get (due_now sc w) i ≡ Some due
  pub there : slice_get (of_kind due.side w.sites) due.node ≡ Some site
  pub shows : Shows due.pending event.kind
  pub left : HoldsSites sc.sizes after (at_node due.side due.node (without_waiting due.pending) w.sites)

-- there are at most 16 nodes of a kind, and lanes are short
pub record AreFew (lanes : Each Held) (bius : ℕ) : Type 0 where
  pub split : bius ≡ length lanes.bius
  pub few_bius : length lanes.bius ≤ 16
  pub few_rmus : length lanes.rmus ≤ 16
  pub short : All (λ l. l.room ≤ 65536) (in_order lanes)

-- the least times of all lanes
abbrev pub keys_of : Each Held → List ℕ
keys_of lanes = map key_of (in_order lanes)

-- Ticks.

-- the times of the ticks of all nodes
abbrev pub tick_times : Each Held → List ℕ
tick_times lanes = map tick_time_of (in_order lanes)

-- the time of the first tick of all, and the last time that there is if none is pending
abbrev pub first_tick_time : Each Held → ℕ
first_tick_time lanes = least_key (tick_times lanes)

-- The mark of a tick at this position: marks are in the order of time, and at one time in that of
-- nodes. From 2^59 on all times have one mark
abbrev pub mark_of : ℕ → ℕ → ℕ
mark_of position time = if nat_lt time 576460752303423488 then time * 32 + position else 18446744073709551615

-- the marks of ticks at these times, of which the first is at this position
unfoldable pub marks_from : ℕ → List ℕ → List ℕ
marks_from position [] = []
marks_from position (t ∷ ts) = mark_of position t ∷ marks_from (suc position) ts

-- 32 marks in all, those behind being of no tick
abbrev pub filled : List ℕ → List ℕ
filled marks = marks ++ replicate (32 - length marks) 18446744073709551615

-- beside the lanes the marks of their ticks are kept, in front of others that make 32 in all
abbrev pub AreTicks : Each Held → List ℕ → Type 0
AreTicks lanes ticks = ticks ≡ filled (marks_from 0 (tick_times lanes))

-- a tick
abbrev pub is_tick : EventKind → Bool
is_tick (kind.Arrive from bytes) = false
is_tick (kind.Tick word wanted) = true

-- the marks of the ticks after an event was taken at this place: an arrival leaves them
abbrev pub ticks_after : EventKind → ℕ → List ℕ → List ℕ
ticks_after event place ticks = if is_tick event then slice_set ticks place 18446744073709551615 else ticks

-- The tick that is pending at node i of kind me is the first of all in time, and of those at its
-- time the first in the order of nodes. It comes at this time, which is not the last that there is
pub record IsFirstAhead (sites : Each Site) (me : Side) (i time : ℕ) : Type 0 where
  pub site : Site
  pub there : slice_get (of_kind me sites) i ≡ Some site
  pub pends : option_map (λ (a : Timed). a.time) site.ahead ≡ Some time
  pub least : (side : Side) (j : ℕ) (s : Site) (b : Timed) → slice_get (of_kind side sites) j ≡ Some s → s.ahead ≡ Some b → time ≤ b.time
  pub first : (side : Side) (j : ℕ) (s : Site) (b : Timed) → slice_get (of_kind side sites) j ≡ Some s → s.ahead ≡ Some b
      → position_of (length sites.bius) (name_of side j) < position_of (length sites.bius) (name_of me i) → time < b.time
  pub small : time < 18446744073709551615
