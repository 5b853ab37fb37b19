-- Pending events by node: which is the least time at a node, and which events are ready then.
use Rattle.std.specs.{Prelude.{ℕ, ◌≡◌, ◌+◌, ◌-◌, ◌<◌, ◌≤◌, ◌==◌, ◌&&◌, ◌⊎◌, nat_le, Bool, true, false, Option, Some, None, option_map, option_to_list, unwrap_or, List, [], ◌∷◌, ◌++◌, filter, flat_map, length, map, remove, slice_get, slice_set}, List.enumerate_from}
use Rattle.rb_base.specs.{Counting.numbers, declared.event.Event.Event, declared.event.EventKind.EventKind, declared.node.NodeName.NodeName}
use Rattle.rb_rules.specs.{Book.Each, Hearing.Coming, WorldStep.least}
use Rattle.rb_base.specs.declared.event.EventKind.TheVariants as kind
use Rattle.rb_base.specs.declared.node.NodeName.TheVariants as node

-- what a lane holds: what comes to the node, in the order of pushing, the time of its tick, and for
-- how many events it has room
pub record Held : Type 0 where
  pub arrivals : List Coming
  pub tick : Option ℕ
  pub room : ℕ

-- One lane.

-- how many events more a lane has room for
abbrev pub spare_of : Held → ℕ
spare_of lane = lane.room - (length lane.arrivals + length (option_to_list lane.tick))

-- the time of the tick, and the last time that there is if no tick is pending
abbrev pub tick_time_of : Held → ℕ
tick_time_of lane = unwrap_or lane.tick 18446744073709551615

-- the arrival comes from this source at this time
abbrev pub comes : ℕ → ℕ → Coming → Bool
comes time source c = (c.from == source) && (c.time == time)

-- what comes from a source at a time, in the order of pushing, each with its place among the
-- arrivals
abbrev pub coming_at : ℕ → List Coming → ℕ → List (ℕ × Coming)
coming_at time arrivals source = filter (λ c. comes time source c.1) (enumerate_from 0 arrivals)

-- all arrivals of a time, by sender
unfoldable pub arrivals_at : ℕ → List Coming → List (ℕ × Coming)
arrivals_at time arrivals = flat_map (coming_at time arrivals) (numbers 256)

-- what may be taken: the arrival at this place, or the tick
pub data Ready : Type 0 where
  Comes : (place : ℕ) (coming : Coming) → Ready
  Ticks : Ready

-- the tick, if it is of this time
abbrev pub tick_at : ℕ → Option ℕ → List Ready
tick_at time None = []
tick_at time (Some t) = elim (t == time) [ true ↦ Ticks ∷ [] | false ↦ [] ]

-- a tick waits for all that comes at its time
abbrev pub unless_any : List (ℕ × Coming) → List Ready → List Ready
unless_any [] later = later
unless_any (c ∷ cs) later = map (λ c. Comes c.0 c.1) (c ∷ cs)

-- what may happen at this time: what comes then, by sender and then in the order of pushing, else
-- the tick
abbrev pub ready_at : ℕ → Held → List Ready
ready_at time lane = unless_any (arrivals_at time lane.arrivals) (tick_at time lane.tick)

-- the least time at which anything is due
abbrev pub head_of : Held → Option ℕ
head_of lane = least (option_to_list lane.tick ++ map (λ c. c.time) lane.arrivals)

-- nothing is pending
abbrev pub IsIdle : Held → Type 0
IsIdle lane = (lane.arrivals ≡ []) × (lane.tick ≡ None)

-- nothing is ready if there is no least time
abbrev pub ready_from : Option ℕ → Held → List Ready
ready_from None lane = []
ready_from (Some time) lane = ready_at time lane

-- what is ready at the least time
abbrev pub ready_of : Held → List Ready
ready_of lane = ready_from (head_of lane) lane

-- one arrival more
abbrev pub with_arrival : Coming → Held → Held
with_arrival c lane = record lane { arrivals = lane.arrivals ++ c ∷ [] }

-- a tick at this time
abbrev pub with_tick : ℕ → Held → Held
with_tick time lane = record lane { tick = Some time }

-- an event of this kind more, at this time
abbrev pub with_event : ℕ → EventKind → Held → Held
with_event time (kind.Arrive from bytes) lane = with_arrival (record { time = time; from = from; bytes = bytes.items }) lane
with_event time (kind.Tick word wanted) lane = with_tick time lane

-- the kind of event that this is
abbrev pub kind_with : Ready → EventKind
kind_with (Comes place c) = kind.Arrive c.from (record { items = c.bytes })
kind_with Ticks = kind.Tick 0 false

-- what is ready, as an event of a node
abbrev pub event_with : NodeName → Ready → Event
event_with name r = record { node = name; quiet = 0; kind = kind_with r }

-- the i-th of what is ready, as an event of the node
abbrev pub ready_event : NodeName → ℕ → Held → Option Event
ready_event name i lane = option_map (event_with name) (slice_get (ready_of lane) i)

-- the arrival at this place is taken out, and no other
abbrev pub without_place : ℕ → Held → Held
without_place place lane = record lane { arrivals = remove lane.arrivals place }

-- what comes before this time is taken out, and no other
abbrev pub without_before : ℕ → Held → Held
without_before until lane = record lane { arrivals = filter (λ c. nat_le until c.time) lane.arrivals }

-- the tick is taken out
abbrev pub without_tick : Held → Held
without_tick lane = record lane { tick = None }

abbrev pub without : Ready → Held → Held
without (Comes place c) lane = without_place place lane
without Ticks lane = without_tick lane

abbrev pub without_found : Option Ready → Held → Held
without_found None lane = lane
without_found (Some r) lane = without r lane

-- the i-th of what is ready is taken out, and no other
abbrev pub without_ready : ℕ → Held → Held
without_ready i lane = without_found (slice_get (ready_of lane) i) lane

-- the first that is ready is the arrival at this place, and it is due before this time
pub record IsReadyBefore (until : ℕ) (lane : Held) (place : ℕ) : Type 0 where
  pub coming : Coming
  pub ready : slice_get (ready_of lane) 0 ≡ Some (Comes place coming)
  pub stands : slice_get lane.arrivals place ≡ Some coming
  pub head : head_of lane ≡ Some coming.time
  pub before : coming.time < until

-- the tick is ready at this time
pub record IsTickReady (time : ℕ) (lane : Held) : Type 0 where
  pub ready : ready_of lane ≡ Ticks ∷ []
  pub tick : lane.tick ≡ Some time

-- the place of the first arrival that is ready, if it is due before this time. There is none if
-- nothing is due before this time, or if the tick is what is ready
abbrev pub IsFirstBefore : ℕ → Held → Option ℕ → Type 0
IsFirstBefore until lane None = (time : ℕ) → head_of lane ≡ Some time → (until ≤ time) ⊎ IsTickReady time lane
IsFirstBefore until lane (Some place) = IsReadyBefore until lane place

-- all is dropped
abbrev pub without_events : Held → Held
without_events lane = record lane { arrivals = []; tick = None }

-- a lane without an event, with room for `room` events
abbrev pub empty_lane : ℕ → Held
empty_lane room = record { arrivals = []; tick = None; room = room }

-- The lanes of all nodes.

-- the node is in the shape
abbrev pub HasLane : Each Held → NodeName → Type 0
HasLane lanes (node.Biu i) = i < length lanes.bius
HasLane lanes (node.Rmu i) = i < length lanes.rmus

-- the lane of a node. A node that is not in the shape has no event and no room
abbrev pub lane_of : Each Held → NodeName → Held
lane_of lanes (node.Biu i) = unwrap_or (slice_get lanes.bius i) (empty_lane 0)
lane_of lanes (node.Rmu i) = unwrap_or (slice_get lanes.rmus i) (empty_lane 0)

-- the lanes with `lane` as the lane of a node, and all others as they are
abbrev pub with_lane : NodeName → Held → Each Held → Each Held
with_lane (node.Biu i) lane lanes = record lanes { bius = slice_set lanes.bius i lane }
with_lane (node.Rmu i) lane lanes = record lanes { rmus = slice_set lanes.rmus i lane }
