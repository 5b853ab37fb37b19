-- A step of the world: all node cores of a run with what is pending at each, one event after
-- another in the order of time.
use Rattle.std.specs.{Prelude.{◌≡◌, ℕ, zero, suc, ◌-◌, min, ◌==◌, ◌&&◌, ◌||◌, not, Bool, true, false, Option, Some, None, is_some, option_and_then, option_map, option_to_list, List, [], ◌∷◌, ◌++◌, filter, flat_map, fold, length, map, remove, slice_get, slice_set}, List.{enumerate_from, list_all}}
use Rattle.rb_base.specs.{Counting.numbers, Nodes.{Side, other}, Nodes.Side.{Biu, Rmu}, Sizes.Sizes, declared.event.Event.Event, declared.values.Delivery.Delivery, declared.values.Place.Place}
use Rattle.rb_rules.specs.{declared.closing.Closed.Closed, declared.message.Message.Message, declared.plan.Plan.Plan, declared.record.Epoch.Epoch, Book.{Each, of_kind, in_order, each_of, map_each, Record, Begun, Row, Milestone, Book, fresh_book, with_stage, with_frame, with_end}, Book.Milestone.{Begin, Stage, End}, Clock.{time_of, stamp_of}, Core.{Core, Act, first_core, arrive, state_at, window_here, tick, wants, next_tick, pass_to}, ExactStage.present, Goodness.{Scenario, is_good, good_at, clock_of}, Hearing.{Span, Sending, Coming, span_of, port_at, word_for, coming_of, said_by, row_of, begun_of}, Links.name_of, NodeState.NodeState, Ports.{PortState, HandIn, delivered_to, with_state}, Rounds.records_of, Slots.{same_side, count_of, role_of}}
use Rattle.rb_base.specs.declared.event.EventKind.TheVariants as kind

-- a tick and its time
pub record Timed : Type 0 where
  pub tick : ℕ
  pub time : ℕ

-- one node of the world
pub record Site : Type 0 where
  pub runs : Bool
  pub core : Core
  pub ahead : Option Timed  -- pending: its next tick that isn't quiet
  pub coming : List Coming  -- pending: what comes to it, in the order of pushing
  pub got : List Coming  -- what came since its last close
  pub row : Option Row  -- what it told of the last stage that it closed
  pub begun : Option Begun  -- what it told of the last frame that it began

pub record World : Type 0 where
  pub sites : Each Site
  pub ports : List PortState
  pub book : Book
  pub hands : List HandIn  -- what was handed in so far
  pub turn : Option Record  -- the record that came last, unless an event without a record came after it

-- What is due.

-- the least of the times
abbrev pub least : List ℕ → Option ℕ
least [] = None
least (t ∷ ts) = Some (elim (least ts) [ None ↦ t | Some u ↦ min t u ])

-- the times of all that is pending at a node
abbrev pub times_of : Site → List ℕ
times_of s = option_to_list (option_map (λ a. a.time) s.ahead) ++ map (λ c. c.time) s.coming

-- what may be taken at a node: its tick, or the arrival at this place among all that comes to it
pub data Pending : Type 0 where
  Tick : (tick : ℕ) → Pending
  Arrival : (place : ℕ) (coming : Coming) → Pending

pub record Due : Type 0 where
  pub side : Side
  pub node : ℕ
  pub pending : Pending

-- what comes to a node at a time from source j, in the order of pushing
abbrev pub arrivals_at : Side → ℕ → ℕ → Site → ℕ → List Due
arrivals_at me i time s j =
    map (λ c. record { side = me; node = i; pending = Arrival c.0 c.1 })
    (filter (λ c. (c.1.from == j) && (c.1.time == time)) (enumerate_from 0 s.coming))

abbrev pub tick_at : Side → ℕ → ℕ → Option Timed → List Due
tick_at me i time None = []
tick_at me i time (Some a) =
    elim (a.time == time) [ true ↦ record { side = me; node = i; pending = Tick a.tick } ∷ [] | false ↦ [] ]

-- a tick waits for all that comes at its time
abbrev pub unless_any : List Due → List Due → List Due
unless_any [] later = later
unless_any (d ∷ ds) later = d ∷ ds

-- what may be taken at a node at this time: what comes then, by sender, or its tick if nothing
-- comes
unfoldable pub ready_at : Sizes → ℕ → Side → ℕ → Site → List Due
ready_at sizes time me i s =
    unless_any (flat_map (arrivals_at me i time s) (numbers (count_of (other me) sizes))) (tick_at me i time s.ahead)

abbrev pub due_at : Scenario → World → Option ℕ → List Due
due_at sc w None = []
due_at sc w (Some time) = flat_map (λ due. due) (in_order (map_each (ready_at sc.sizes time) w.sites))

-- no node is good in this slot of this frame
abbrev pub nobody_good : Scenario → ℕ → ℕ → Bool
nobody_good sc frame slot = (good_at sc Biu frame slot == 0) && (good_at sc Rmu frame slot == 0)

-- the milestone is settled without an event: it is the end, or no node is good there
abbrev pub needs_no_event : Scenario → Milestone → Bool
needs_no_event sc (Begin frame) = nobody_good sc frame 0
needs_no_event sc (Stage place) = nobody_good sc place.frame place.slot
needs_no_event sc End = true

-- the events of the least time, node by node. None may be taken if the next milestone needs none,
-- nor after the last record
unfoldable pub due_of : Scenario → World → List Due
due_of sc w =
    elim (w.book.ended || needs_no_event sc w.book.upcoming) [
      | true ↦ []
      | false ↦ due_at sc w (least (flat_map times_of (in_order w.sites)))
    ]

-- A node goes on.

-- the window that tick k begins, if it begins one
abbrev pub span_from : Sizes → Plan → Side → NodeState → ℕ → Option Span
span_from sizes plan me st k =
    let now = state_at sizes plan me st k in
    let span = span_of now (window_here sizes plan me now k) in
    elim (span.first == k) [ true ↦ Some span | false ↦ None ]

-- what nodes that are not good say to node i of kind me in a window
unfoldable pub says_in : Scenario → Side → ℕ → Span → List Coming
says_in sc me i span =
    flat_map (λ j. elim (is_good sc (other me) j span.place.frame span.place.slot) [ true ↦ [] | false ↦ said_by sc me i span j ])
    (numbers (count_of (other me) sc.sizes))

-- the site with its next busy tick pending, and with `more` added to what is on its way to it
abbrev pub await : Scenario → Side → ℕ → List Coming → Site → Site
await sc me i more s = record s {
  ahead = option_map (λ k. record { tick = k; time = time_of (clock_of sc me i) k }) (next_tick sc.sizes sc.plan me i s.core);
  coming = s.coming ++ more;
}

-- a node that is not good any more
abbrev pub stop : Site → Site
stop s = record s { runs = false; ahead = None; coming = [] }

-- if the node begins a window (`span`), it stops if it is not good in that slot, and otherwise what
-- faulty nodes say to it in the window is on its way to it
abbrev pub enter : Scenario → Side → ℕ → Option Span → Site → Site
enter sc me i None s = await sc me i [] s
enter sc me i (Some span) s =
    elim (is_good sc me i span.place.frame span.place.slot) [ true ↦ await sc me i (says_in sc me i span) s | false ↦ stop s ]

-- the node before its next tick
unfoldable pub proceed : Scenario → Side → ℕ → Site → Site
proceed sc me i s = enter sc me i (span_from sc.sizes sc.plan me s.core.state s.core.had) s

-- An event happens at a node.

-- what the node got from source j
abbrev pub coming_from : List Coming → ℕ → List Coming
coming_from got j = filter (λ c. c.from == j) got

-- the node's site after a tick that closed this window: it keeps what it reports of it. The tail is
-- no stage, so nothing is reported of it
abbrev pub with_close : Side → ℕ → NodeState → Option Closed → Site → Site
with_close me i st None s = s
with_close me i st (Some c) s =
    record s { got = []; row = elim (c.place.stage == 4) [ true ↦ s.row | false ↦ Some (row_of me i st (coming_from s.got) c) ] }

-- the node's site after a tick that began frame `e`: it keeps what it reports of that frame
abbrev pub with_epoch : Scenario → List PortState → Side → ℕ → Option Epoch → Site → Site
with_epoch sc ports me i None s = s
with_epoch sc ports me i (Some e) s = record s { begun = Some (begun_of sc ports me i e) }

-- the node's site after a tick with this act
unfoldable pub after_act : Scenario → List PortState → Side → ℕ → Act → Site → Site
after_act sc ports me i x s =
    proceed sc me i (with_epoch sc ports me i x.epoch (with_close me i x.core.state x.closed (record s { core = x.core })))

-- a node after the arrival that was at this place. The ticks before its stamp pass first
unfoldable pub after_arrival : Scenario → Side → ℕ → ℕ → Coming → Site → Site
after_arrival sc me i place c s = record s {
  core = arrive sc.sizes me (pass_to (stamp_of (clock_of sc me i) c.time) s.core) c.from c.bytes;
  coming = remove s.coming place;
  got = s.got ++ c ∷ [];
}

-- a message that node j of kind me sent at a tick is on its way to each node of the other kind that
-- still runs
abbrev pub sent_to : Scenario → Side → ℕ → ℕ → Sending → Side → ℕ → Site → Site
sent_to sc me j frame message side i s =
    elim (same_side side (other me) && s.runs) [
      | true ↦ record s { coming = s.coming ++ coming_of sc side i j frame message ∷ [] }
      | false ↦ s
    ]

abbrev pub with_message : Scenario → Side → ℕ → ℕ → ℕ → Option Message → Each Site → Each Site
with_message sc me j frame tick None sites = sites
with_message sc me j frame tick (Some m) sites = map_each (sent_to sc me j frame (record { tick = tick; message = m })) sites

-- node i of kind me changes, and no other
abbrev pub at_node : Side → ℕ → (Site → Site) → Each Site → Each Site
at_node me i change sites = map_each (λ side n s. elim (same_side side me && (n == i)) [ true ↦ change s | false ↦ s ]) sites

-- what a BIU delivers changes its port
abbrev pub with_delivery : Scenario → ℕ → Option Delivery → List PortState → List PortState
with_delivery sc i None ports = ports
with_delivery sc i (Some d) ports = slice_set ports i (delivered_to (port_at sc ports i) d.value)

-- the world after tick k of node i of kind me with this act
unfoldable pub with_act : Scenario → World → Side → ℕ → ℕ → Act → World
with_act sc w me i k x = record w {
  sites = with_message sc me i x.core.state.frame k x.message (at_node me i (after_act sc w.ports me i x) w.sites);
  ports = with_delivery sc i (option_and_then (λ c. c.delivered) x.closed) w.ports;
}

-- the word for a tick: the request or the word of the slot for which one is wanted, or 0 if none is
abbrev pub word_of : Scenario → List PortState → ℕ → Option ℕ → ℕ
word_of sc ports i None = 0
word_of sc ports i (Some slot) = word_for sc ports i slot (role_of sc.sizes slot)

-- the slot for which a word is wanted at the next tick of a core
abbrev pub wants_in : Scenario → Side → ℕ → Core → Option ℕ
wants_in sc me i c = wants sc.sizes sc.plan me i c

-- tick k of a node's core, after the quiet ticks before it
unfoldable pub pass_and_tick : Scenario → List PortState → Side → ℕ → ℕ → Core → Act
pass_and_tick sc ports me i k c =
    let ready = pass_to k c in
    tick sc.sizes sc.plan me i ready (word_of sc ports i (wants_in sc me i ready))

abbrev pub with_pending : Scenario → World → Side → ℕ → Site → Pending → World
with_pending sc w me i s (Tick k) = with_act sc w me i k (pass_and_tick sc w.ports me i k s.core)
with_pending sc w me i s (Arrival place c) = record w { sites = at_node me i (after_arrival sc me i place c) w.sites }

-- the world after the event, before anything is settled
unfoldable pub happens : Scenario → World → Due → World
happens sc w d =
    elim (slice_get (of_kind d.side w.sites) d.node) [ None ↦ w | Some s ↦ with_pending sc w d.side d.node s d.pending ]

-- What is settled.

abbrev pub same_place : Place → Place → Bool
same_place a b = (a.frame == b.frame) && (a.slot == b.slot) && (a.stage == b.stage)

-- what a node has reported of a stage, if that is the last that it closed
abbrev pub row_for : Place → Option Row → Option Row
row_for place None = None
row_for place (Some row) = elim (same_place row.place place) [ true ↦ Some row | false ↦ None ]

abbrev pub begun_for : ℕ → Option Begun → Option Begun
begun_for frame None = None
begun_for frame (Some b) = elim (b.frame == frame) [ true ↦ Some b | false ↦ None ]

-- what the nodes that are good in a slot have reported
abbrev pub told_by_good : {X : Type 0} → Scenario → ℕ → ℕ → (Site → Option X) → Each Site → Each (Option X)
told_by_good sc frame slot tells sites =
    map_each (λ me i s. elim (is_good sc me i frame slot) [ true ↦ tells s | false ↦ None ]) sites

-- every node that is good in the slot has reported what `tells` asks for
abbrev pub all_have_told : {X : Type 0} → Scenario → ℕ → ℕ → (Site → Option X) → Each Site → Bool
all_have_told sc frame slot tells sites =
    list_all (λ told. told) (in_order (map_each (λ me i s. not (is_good sc me i frame slot) || is_some (tells s)) sites))

-- all nodes that are good at the milestone have reported it
abbrev pub is_complete : Scenario → Each Site → Milestone → Bool
is_complete sc sites (Begin frame) = all_have_told sc frame 0 (λ s. begun_for frame s.begun) sites
is_complete sc sites (Stage place) = all_have_told sc place.frame place.slot (λ s. row_for place s.row) sites
is_complete sc sites End = true

abbrev pub book_with : Scenario → Each Site → Book → Milestone → Book
book_with sc sites b (Begin frame) =
    with_frame sc frame (present (in_order (told_by_good sc frame 0 (λ s. begun_for frame s.begun) sites))) b
book_with sc sites b (Stage place) = with_stage sc place (told_by_good sc place.frame place.slot (λ s. row_for place s.row) sites) b
book_with sc sites b End = with_end b

-- how a milestone is settled
pub data Way : Type 0 where
  ByAnEvent : Way
  ByItself : Way

-- the milestone is settled in this way: by an event if it needs one, by itself otherwise
abbrev pub comes_so : Scenario → Way → Milestone → Bool
comes_so sc ByAnEvent m = not (needs_no_event sc m)
comes_so sc ByItself m = needs_no_event sc m

-- the next milestone is settled, if this is its way and all that it needs has been reported
abbrev pub settle_next : Scenario → Way → World → World
settle_next sc way w =
    elim (comes_so sc way w.book.upcoming && is_complete sc w.sites w.book.upcoming) [
      | true ↦ record w { book = book_with sc w.sites w.book w.book.upcoming }
      | false ↦ w
    ]

-- the record that the second of two worlds has and the first has not
abbrev pub record_since : World → World → Option Record
record_since before after = slice_get after.book.given (length before.book.given)

-- at most a number of milestones are settled, up to the first that gives a record. That record is
-- the turn
abbrev pub settle : Scenario → Way → ℕ → World → World
settle sc way zero w = record w { turn = None }
settle sc way (suc others) w =
    let next : World = settle_next sc way w in
    elim (record_since w next) [ None ↦ settle sc way others next | Some r ↦ record next { turn = Some r } ]

-- The step.

-- the world after an event, with what it completes settled: at most a last stage of a frame, which
-- gives no record, and the start of the next frame
abbrev pub take_if_due : Scenario → World → Option Due → World
take_if_due sc w None = w
take_if_due sc w (Some d) = settle sc ByAnEvent 2 (happens sc w d)

-- the world after the due event at place i
unfoldable pub take : Scenario → World → ℕ → World
take sc w i = take_if_due sc w (slice_get (due_of sc w) i)

-- the world after a record that needs no event
unfoldable pub go_on : Scenario → World → World
go_on sc w = elim w.book.ended [ true ↦ w | false ↦ settle sc ByItself 2 w ]

-- the frame of a frame's record
abbrev pub frame_in : Option Record → Option ℕ
frame_in None = None
frame_in (Some (Record.Frame frame nodes ports)) = Some frame
frame_in (Some (Record.Slot frame slot lines)) = None
frame_in (Some Record.Ended) = None
frame_in (Some (Record.Breach place cause)) = None

-- a state is handed to the port of a BIU that is good at the start of a frame, as long as the
-- frame's record is the last turn
unfoldable pub hand : Scenario → World → ℕ → ℕ → World
hand sc w biu state = elim (frame_in w.turn) [
  | None ↦ w
  | Some frame ↦ elim (is_good sc Biu biu frame 0) [
    | true ↦ record w {
      ports = with_state biu state w.ports;
      hands = w.hands ++ record { frame = frame; biu = biu; state = state } ∷ [];
    }
    | false ↦ w
  ]
]

-- At first.

abbrev pub fresh_site : Sizes → Side → Site
fresh_site sizes me =
    record { runs = true; core = first_core sizes me; ahead = None; coming = []; got = []; row = None; begun = None }

unfoldable pub first_world : Scenario → World
first_world sc = record {
  sites = each_of sc.sizes (λ me i. proceed sc me i (fresh_site sc.sizes me));
  ports = map (port_at sc []) (numbers sc.sizes.bius);
  book = fresh_book;
  hands = [];
  turn = None;
}

-- Choices.

pub data Choice : Type 0 where
  Take : (place : ℕ) → Choice
  GoOn : Choice
  Hand : (biu state : ℕ) → Choice

abbrev pub choose : Scenario → World → Choice → World
choose sc w (Take place) = take sc w place
choose sc w GoOn = go_on sc w
choose sc w (Hand biu state) = hand sc w biu state

-- the world after these choices
abbrev pub world_after : Scenario → List Choice → World
world_after sc choices = fold (choose sc) (first_world sc) choices

-- what happens at node i of kind me, as it is shown: the quiet ticks that pass before it, and then
-- the arrival or the tick
abbrev pub event_of : Scenario → List PortState → Side → ℕ → Core → Pending → Event
event_of sc ports me i c (Tick k) =
    let slot = wants_in sc me i (pass_to k c) in
    record { node = name_of me i; quiet = k - c.had; kind = kind.Tick (word_of sc ports i slot) (is_some slot) }
event_of sc ports me i c (Arrival place a) = record {
  node = name_of me i;
  quiet = stamp_of (clock_of sc me i) a.time - c.had;
  kind = kind.Arrive a.from (record { items = a.bytes });
}

-- the due event at place i, as it is shown
unfoldable pub event_at : Scenario → World → ℕ → Option Event
event_at sc w i =
    option_and_then (λ d. option_map (λ s. event_of sc w.ports d.side d.node s.core d.pending) (slice_get (of_kind d.side w.sites) d.node))
    (slice_get (due_of sc w) i)

-- Events are rounds.

-- a list is the start of another
abbrev pub IsPrefix : List Record → List Record → Type 0
IsPrefix xs ys = (rest : List Record) × (ys ≡ xs ++ rest)

-- whatever is chosen, the records given are the first of those that the rounds have, and all of
-- them once the run is over
pub record EventsAreRounds (sc : Scenario) : Type 0 where
  pub first : (choices : List Choice) → IsPrefix (world_after sc choices).book.given (records_of sc (world_after sc choices).hands)
  pub whole : (choices : List Choice) → (world_after sc choices).book.ended ≡ true
      → (world_after sc choices).book.given ≡ records_of sc (world_after sc choices).hands
