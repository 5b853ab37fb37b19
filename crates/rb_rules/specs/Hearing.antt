-- What a node sends in a window, and what it hears in it.
use Rattle.std.specs.Prelude.{ℕ, ◌+◌, ◌-◌, ◌&&◌, nat_lt, Bool, true, false, Option, Some, None, option_and_then, option_map, option_to_list, unwrap_or, List, [], ◌∷◌, filter, map, get_or, slice_get}
use Rattle.rb_base.specs.{Nodes.{Side, other}, Sizes.Sizes, declared.values.See.See, declared.values.See.TheVariants.{Nothing, Value, Time}}
use Rattle.rb_rules.specs.{declared.closing.Closed.Closed, declared.message.Message.Message, declared.plan.Plan.Plan, declared.plan.Window.Window, declared.record.Epoch.Epoch, declared.record.PortLine.PortLine, declared.role.Role.Role, declared.role.Role.TheVariants.{Schedule, Data, DiagBiu, DiagRmu, Sync}, Behavior.{Said, are_bytes, is_within}, Book.{Begun, Row}, Clock.{Timeline, time_of, stamp_of}, ExactStage.{Outcome, each_node, at_source}, Goodness.{Scenario, is_good, clock_of}, Links.{name_of, delay_of}, NodeState.{NodeState, trusted_of}, NodeSteps.{expect_of, message_said, close, convicted_of}, Ports.{PortState, fresh_port, offered_at, losses_of}, Sense.{Arrival, sense_of}, Slots.count_of, Spelling.spelling_of, SyncStage.{send_tick_of, new_epoch_of}, Windows.{windows_of_frame, tail_of}}
pub use Rattle.rb_rules.specs.Behavior.{Span}

-- Windows.

-- the tail of a node's frame. It is empty until the node knows its next epoch
abbrev pub tail_at : Sizes → Plan → Side → NodeState → Window
tail_at sizes plan me st = tail_of sizes plan (unwrap_or (new_epoch_of plan me st) 0 - st.epoch)

-- the window of this number in a node's frame. The tail comes last
abbrev pub window_numbered : Sizes → Plan → Side → NodeState → ℕ → Window
window_numbered sizes plan me st n = unwrap_or (slice_get (windows_of_frame sizes plan) n) (tail_at sizes plan me st)

abbrev pub span_of : NodeState → Window → Span
span_of st w = record {
  place = record { frame = st.frame; slot = w.slot; stage = w.stage };
  first = st.epoch + w.first;
  last = st.epoch + w.last;
}

-- What a good node sends.

-- a message, and the tick at which it is sent
pub record Sending : Type 0 where
  pub tick : ℕ
  pub message : Message

-- what node `index` of kind me sends in a stage, if anything; `word` is its request or its word
unfoldable pub sending : Sizes → Plan → Side → ℕ → NodeState → ℕ → ℕ → ℕ → Option Sending
sending sizes plan me index st slot stage word =
    option_and_then (λ m. option_map (λ tick. record { tick = tick; message = m }) (send_tick_of sizes plan st slot stage))
    (message_said sizes me index st slot stage word)

-- the port of BIU i
abbrev pub port_at : Scenario → List PortState → ℕ → PortState
port_at sc ports i = get_or ports i (fresh_port (get_or sc.apps i 0) (get_or sc.words i 0))

-- the word that BIU i has for a slot: in a schedule slot its request, in a data slot what its port
-- offers
abbrev pub word_for : Scenario → List PortState → ℕ → ℕ → Role → ℕ
word_for sc ports i slot (Schedule n) = get_or sc.requests i 0
word_for sc ports i slot (Data n) = offered_at (port_at sc ports i) slot
word_for sc ports i slot (DiagBiu n) = 0
word_for sc ports i slot (DiagRmu n) = 0
word_for sc ports i slot Sync = 0

-- What comes to a node.

-- a message on its way to a node: when it comes, from which node of the other kind, and its bytes
pub record Coming : Type 0 where
  pub time : ℕ
  pub from : ℕ
  pub bytes : List ℕ

-- the message that good source j sent in a frame, on its way to node i of kind me
abbrev pub coming_of : Scenario → Side → ℕ → ℕ → ℕ → Sending → Coming
coming_of sc me i j frame s = record {
  time = time_of (clock_of sc (other me) j) s.tick
      + delay_of sc.delays (name_of (other me) j) (name_of me i) (record { frame = frame; slot = s.message.slot; stage = s.message.stage });
  from = j;
  bytes = spelling_of sc.plan.version s.message;
}

-- `s` comes from source j to node i of kind me in a window: the source is a node of the bus, the
-- time is in the window, and the bytes are bytes
abbrev pub is_heard : Scenario → Side → ℕ → Span → ℕ → Said → Bool
is_heard sc me i span j s = nat_lt j (count_of (other me) sc.sizes) && is_within (clock_of sc me i) span s.time && are_bytes s.bytes

-- what node i of kind me hears in a window from source j, which is not good: of its behavior, what
-- comes in the window
abbrev pub said_by : Scenario → Side → ℕ → Span → ℕ → List Coming
said_by sc me i span j =
    map (λ s. record { time = s.time; from = j; bytes = s.bytes }) (filter (is_heard sc me i span j) (sc.behavior me i span j))

-- what node i of kind me hears from source j in a window, `sent` being what the nodes of the other
-- kind send in it
unfoldable pub heard_from : Scenario → Side → ℕ → Span → List (Option Sending) → ℕ → List Coming
heard_from sc me i span sent j =
    elim (is_good sc (other me) j span.place.frame span.place.slot) [
      | true ↦ option_to_list (option_map (coming_of sc me i j span.place.frame) (at_source sent j))
      | false ↦ said_by sc me i span j
    ]

-- the message as the node knows it: with a stamp in place of the time
abbrev pub arrival_of : Timeline → Coming → Arrival
arrival_of clock c = record { stamp = stamp_of clock c.time; bytes = c.bytes }

-- node `index` of kind me closes a window on the arrivals from each source
abbrev pub close_window : Sizes → Plan → Side → ℕ → NodeState → Window → (ℕ → List Arrival) → Outcome
close_window sizes plan me index st w arrivals =
    close sizes me index st w.slot w.stage w.first
    (λ j. sense_of (expect_of sizes plan.version st w.slot w.stage) (arrivals j))

-- What a node tells of itself.

-- the time of the message, if there is only one
abbrev pub sole_time : List Coming → ℕ
sole_time [] = 0
sole_time (c ∷ []) = c.time
sole_time (c ∷ (d ∷ others)) = 0

-- a sight as it is judged: the stamp is replaced by the time of the accepted message in reference
-- units
abbrev pub judged_see : ℕ → See → See
judged_see time Nothing = Nothing
judged_see time (Value v) = Value v
judged_see time (Time stamp) = Time time

-- what node i of kind me reports of a stage that it closed, having heard this from each source;
-- `st` is its state after the close
unfoldable pub row_of : Side → ℕ → NodeState → (ℕ → List Coming) → Closed → Row
row_of me i st heard c = record {
  place = c.place;
  sees = each_node (λ j. judged_see (sole_time (heard j)) (get_or c.sees j Nothing));
  biu = trusted_of Side.Biu me st;
  rmu = trusted_of Side.Rmu me st;
  line = option_map (λ d. record { receiver = i; sender = d.sender; value = d.value }) c.delivered;
}

-- what a node reports of the frame that it is in
abbrev pub epoch_of : Sizes → Side → NodeState → Epoch
epoch_of sizes me st =
    record { frame = st.frame; tick = st.epoch; biu = convicted_of sizes Side.Biu me st; rmu = convicted_of sizes Side.Rmu me st }

-- a BIU reports its port too
abbrev pub port_line : Side → ℕ → PortState → Option PortLine
port_line Side.Biu i port = Some (record { biu = i; state = port.state; losses = losses_of port })
port_line Side.Rmu i port = None

-- what node i of kind me reports of a frame that it begins
abbrev pub begun_of : Scenario → List PortState → Side → ℕ → Epoch → Begun
begun_of sc ports me i e = record {
  frame = e.frame;
  line = record { node = name_of me i; tick = e.tick; time = time_of (clock_of sc me i) e.tick; biu = e.biu; rmu = e.rmu };
  port = port_line me i (port_at sc ports i);
}
