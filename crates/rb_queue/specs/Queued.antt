-- All that is pending by node: what lanes hold, and what is kept beside them as it was pushed.
use Rattle.std.specs.{Prelude.{⊤, ℕ, ◌≡◌, ◌+◌, ◌-◌, ◌<◌, ◌≤◌, ◌==◌, ◌&&◌, nat_le, nat_lt, min, not, Bool, true, false, Option, Some, None, is_none, option_map, option_to_list, unwrap_or, List, [], ◌∷◌, ◌++◌, filter, flat_map, length, map, remove, slice_get, slice_set}, List.enumerate_from}
use Rattle.rb_base.specs.{Counting.numbers, declared.event.Event.Event, declared.event.EventKind.EventKind, declared.node.NodeName.NodeName}
use Rattle.rb_rules.specs.{Book.Each, WorldStep.least}
use Rattle.rb_queue.specs.{declared.pending.Pending.Pending, Waiting.{Held, IsIdle, Ready, coming_at, empty_lane, event_with, tick_at, with_event, without, without_events}, Waiting.Ready.{Comes, Ticks}}
use Rattle.rb_base.specs.declared.event.EventKind.TheVariants as kind
use Rattle.rb_base.specs.declared.node.NodeName.TheVariants as node

-- what is pending at a node: what its lane holds, and what is kept beside, in the order of pushing
pub record Queued : Type 0 where
  pub lane : Held
  pub more : List Pending

-- One node.

-- how many events more there is room for
abbrev pub room_left : Queued → ℕ
room_left q = q.lane.room - (length q.lane.arrivals + length (option_to_list q.lane.tick) + length q.more)

-- the source of an event: an arrival has its sender, and a tick the node's own clock, which comes
-- after all senders
abbrev pub source_of : EventKind → ℕ
source_of (kind.Arrive from bytes) = from
source_of (kind.Tick word wanted) = 256

-- what is kept beside is of this source and this time
abbrev pub is_of : ℕ → ℕ → Pending → Bool
is_of time source p = (source_of p.event.kind == source) && (p.time == time)

-- the event is of this time, and of one of the sources from `first` on and before `end`
abbrev pub is_sent_between : ℕ → ℕ → ℕ → Pending → Bool
is_sent_between time first end p = nat_le first (source_of p.event.kind) && nat_lt (source_of p.event.kind) end && (p.time == time)

-- what is kept beside of a source and a time, in the order of pushing, each with its place
abbrev pub beside_at : ℕ → List Pending → ℕ → List (ℕ × Pending)
beside_at time more source = filter (λ c. is_of time source c.1) (enumerate_from 0 more)

-- what may be taken: out of the lane, or what is kept beside at this place
pub data Takeable : Type 0 where
  InLane : (ready : Ready) → Takeable
  Beside : (place : ℕ) (kept : Pending) → Takeable

-- what comes from a sender at a time, in the order of pushing
abbrev pub sent_at : ℕ → Held → List Pending → ℕ → List Takeable
sent_at time lane more source = map (λ c. InLane (Comes c.0 c.1)) (coming_at time lane.arrivals source) ++ map (λ c. Beside c.0 c.1) (beside_at time more source)

-- all arrivals of a time, by sender
unfoldable pub senders_at : ℕ → Held → List Pending → List Takeable
senders_at time lane more = flat_map (sent_at time lane more) (numbers 256)

-- the ticks of a time, in the order of pushing
abbrev pub ticks_at : ℕ → Held → List Pending → List Takeable
ticks_at time lane more = map (λ r. InLane r) (tick_at time lane.tick) ++ map (λ c. Beside c.0 c.1) (beside_at time more 256)

-- ticks wait for all that comes at their time
abbrev pub unless_some : List Takeable → List Takeable → List Takeable
unless_some [] later = later
unless_some (c ∷ cs) later = c ∷ cs

-- what may be taken at this time: what comes then, by sender and then in the order of pushing, else
-- the ticks
abbrev pub takeable_at : ℕ → Held → List Pending → List Takeable
takeable_at time lane more = unless_some (senders_at time lane more) (ticks_at time lane more)

-- the least time at which anything is due
abbrev pub least_time_of : Queued → Option ℕ
least_time_of q = least ((option_to_list q.lane.tick ++ map (λ c. c.time) q.lane.arrivals) ++ map (λ p. p.time) q.more)

-- nothing may be taken if there is no least time
abbrev pub takeable_from : Option ℕ → Queued → List Takeable
takeable_from None q = []
takeable_from (Some time) q = takeable_at time q.lane q.more

-- what may be taken at the least time
abbrev pub takeable_of : Queued → List Takeable
takeable_of q = takeable_from (least_time_of q) q

-- nothing is pending
abbrev pub IsEmpty : Queued → Type 0
IsEmpty q = IsIdle q.lane × (q.more ≡ [])

-- there is a place for the event: it is a tick without a word and none is pending, or it is an
-- arrival
abbrev pub has_place : EventKind → Option ℕ → Bool
has_place (kind.Arrive from bytes) tick = true
has_place (kind.Tick word wanted) tick = (word == 0) && not wanted && is_none tick

-- the lane keeps all of the event: there were no quiet ticks before it, it has its place there, and
-- nothing that was pushed before is kept beside
abbrev pub fits_lane : Event → Queued → Bool
fits_lane event q = (length q.more == 0) && (event.quiet == 0) && has_place event.kind q.lane.tick

-- queue q with `lane` as its lane
abbrev pub with_held : Held → Queued → Queued
with_held lane q = record q { lane = lane }

-- an event more is kept beside
abbrev pub with_beside : ℕ → Event → Queued → Queued
with_beside time event q = record q { more = q.more ++ record { time = time; event = event } ∷ [] }

-- queue q with one event more, which is due at `time`
abbrev pub with_pushed : ℕ → Event → Queued → Queued
with_pushed time event q = elim (fits_lane event q) [
  | true ↦ with_held (with_event time event.kind q.lane) q
  | false ↦ with_beside time event q
]

-- what may be taken, as an event of a node. What is kept beside the lane is the event that was
-- pushed
abbrev pub as_event : NodeName → Takeable → Event
as_event name (InLane r) = event_with name r
as_event name (Beside place p) = p.event

-- the i-th of what may be taken, as an event of the node
abbrev pub takeable_event : NodeName → ℕ → Queued → Option Event
takeable_event name i q = option_map (as_event name) (slice_get (takeable_of q) i)

-- Each source by itself.

-- what a lane holds of a source, as events of a node, each with its time
abbrev pub lane_events : NodeName → ℕ → Held → List (ℕ × Event)
lane_events name source lane = elim (256 == source) [
  | true ↦ map (λ t. (t, event_with name Ticks)) (option_to_list lane.tick)
  | false ↦ map (λ c. (c.time, event_with name (Comes 0 c))) (filter (λ c. c.from == source) lane.arrivals)
]

-- all that is pending at a node of a source, in the order of pushing, each with its time
abbrev pub events_of : NodeName → ℕ → Queued → List (ℕ × Event)
events_of name source q = lane_events name source q.lane ++ map (λ p. (p.time, p.event)) (filter (λ p. source_of p.event.kind == source) q.more)

-- x alone if the test passes, and nothing if not
abbrev pub only_if : {X : Type 0} → Bool → X → List X
only_if true x = x ∷ []
only_if false x = []

-- an event that was pushed at a time is the last of its source, as it was pushed. Of every other
-- source all stays
abbrev pub IsLastOf : ℕ → Event → Queued → Queued → Type 0
IsLastOf time event before after = (source : ℕ)
    → events_of event.node source after ≡ events_of event.node source before ++ only_if (source_of event.kind == source) (time, event)

-- the number of a sender has eight bits
abbrev pub IsSent : EventKind → Type 0
IsSent (kind.Arrive from bytes) = from ≤ 255
IsSent (kind.Tick word wanted) = ⊤

-- the queue without what is taken out
abbrev pub without_one : Takeable → Queued → Queued
without_one (InLane r) q = with_held (without r q.lane) q
without_one (Beside place p) q = record q { more = remove q.more place }

abbrev pub without_any : Option Takeable → Queued → Queued
without_any None q = q
without_any (Some r) q = without_one r q

-- the i-th of what may be taken is taken out, and nothing else
abbrev pub without_takeable : ℕ → Queued → Queued
without_takeable i q = without_any (slice_get (takeable_of q) i) q

-- all is dropped
abbrev pub emptied : Queued → Queued
emptied q = record { lane = without_events q.lane; more = [] }

-- a queue without an event, whose lane has room for `room` events
abbrev pub empty_queue : ℕ → Queued
empty_queue room = record { lane = empty_lane room; more = [] }

-- All nodes.

-- the node is in the shape
abbrev pub HasQueue : Each Queued → NodeName → Type 0
HasQueue queues (node.Biu i) = i < length queues.bius
HasQueue queues (node.Rmu i) = i < length queues.rmus

-- what is pending at a node. A node that is not in the shape has no event and no room
abbrev pub queue_of : Each Queued → NodeName → Queued
queue_of queues (node.Biu i) = unwrap_or (slice_get queues.bius i) (empty_queue 0)
queue_of queues (node.Rmu i) = unwrap_or (slice_get queues.rmus i) (empty_queue 0)

-- the queues with q as the queue of a node, and all others as they are
abbrev pub with_queue : NodeName → Queued → Each Queued → Each Queued
with_queue (node.Biu i) q queues = record queues { bius = slice_set queues.bius i q }
with_queue (node.Rmu i) q queues = record queues { rmus = slice_set queues.rmus i q }

-- How it is kept and looked through.

-- everything in this lane and beside it has room, the tick left out
pub record IsQueue (lane : Held) (more : List Pending) (capacity : ℕ) : Type 0 where
  pub fits : length lane.arrivals + length more ≤ lane.room
  pub reserved : lane.room ≤ capacity

-- the sooner of two times
abbrev pub sooner_of : Option ℕ → ℕ → ℕ
sooner_of None time = time
sooner_of (Some ahead) time = min ahead time

-- the i-th that is listed is kept beside at this place
pub record IsBeside (listed : List (ℕ × Pending)) (i : ℕ) (more : List Pending) (place : ℕ) : Type 0 where
  pub kept : Pending
  pub found : slice_get listed i ≡ Some (place, kept)
  pub stands : slice_get more place ≡ Some kept
