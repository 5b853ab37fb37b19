-- The rounds of a scenario: all good nodes go through the windows in lockstep.
use Rattle.std.specs.Prelude.{◌≡◌, ◌≤◌, IfSome, All, ℕ, zero, suc, ◌+◌, ◌*◌, nat_lt, nat_le, ◌==◌, ◌&&◌, true, false, Option, Some, None, List, [], map, get_or, slice_get}
use Rattle.rb_base.specs.{Counting.numbers, Nodes.{Side, other}, Sizes.{Sizes, sync_slot_of}}
use Rattle.rb_rules.specs.{declared.plan.Window.Window, declared.record.SlotLine.SlotLine, Book.{Each, of_kind, in_order, each_of, map_from, map_each, Record, Begun, Row, Book, line_in, fresh_book, with_stage, with_frame, with_end}, Clock.stamp_of, ExactStage.{keep_sent, present}, Goodness.{Scenario, is_good, clock_of}, Hearing.{Sending, Coming, Span, window_numbered, span_of, sending, port_at, word_for, heard_from, arrival_of, close_window, row_of, epoch_of, begun_of}, NodeState.{NodeState, first_state}, NodeSteps.turn_if_known, Ports.{PortState, HandIn, delivered_to, hand_over}, Slots.role_of, Windows.windows_of_frame}

-- a moment of a run: all nodes before a window, the ports, and the book
pub record Moment : Type 0 where
  pub frame : ℕ
  pub window : ℕ  -- the number of the window in its frame
  pub nodes : Each NodeState
  pub ports : List PortState
  pub book : Book

-- A window.

-- how many windows a frame has, the tail included
abbrev pub windows_in : Sizes → ℕ
windows_in sizes = 3 * sync_slot_of sizes + 4

-- the window of this moment at a node in this state
abbrev pub window_in : Scenario → Moment → Side → NodeState → Window
window_in sc m me st = window_numbered sc.sizes sc.plan me st m.window

abbrev pub word_for_window : Scenario → Moment → ℕ → Window → ℕ
word_for_window sc m i w = word_for sc m.ports i w.slot (role_of sc.sizes w.slot)

abbrev pub sending_in : Scenario → Moment → Side → ℕ → NodeState → Window → Option Sending
sending_in sc m me i st w = sending sc.sizes sc.plan me i st w.slot w.stage (word_for_window sc m i w)

-- what each node sends if it is good
unfoldable pub sent_in : Scenario → Moment → Each (Option Sending)
sent_in sc m = map_each (λ me i st. sending_in sc m me i st (window_in sc m me st)) m.nodes

-- what a window makes of a node: its state after it, and what it reports of it
pub record Result : Type 0 where
  pub state : NodeState
  pub row : Option Row

-- node i of kind me closes a window on what it heard from each source
unfoldable pub close_on : Scenario → Side → ℕ → NodeState → Window → (ℕ → List Coming) → Result
close_on sc me i st w heard =
    let x = close_window sc.sizes sc.plan me i st w (λ j. map (arrival_of (clock_of sc me i)) (heard j)) in
    record { state = x.state; row = Some (row_of me i x.state heard x.closed) }

-- what node i of kind me hears from each source in a window, `sent` being what all nodes send in it
abbrev pub heard_at : Scenario → Side → ℕ → NodeState → Window → Each (Option Sending) → ℕ → List Coming
heard_at sc me i st w sent = heard_from sc me i (span_of st w) (of_kind (other me) sent)

-- a good node says what it has to say, and closes the window on what it hears. It skips an empty
-- tail
unfoldable pub go_through : Scenario → Moment → Each (Option Sending) → Side → ℕ → NodeState → Window → Result
go_through sc m sent me i st w =
    elim (is_good sc me i m.frame w.slot && nat_le w.first w.last) [
      | true ↦ close_on sc me i (keep_sent sc.sizes me i st w.slot w.stage (word_for_window sc m i w)) w (heard_at sc me i st w sent)
      | false ↦ record { state = st; row = None }
    ]

unfoldable pub results_of : Scenario → Moment → Each Result
results_of sc m =
    let sent = sent_in sc m in
    map_each (λ me i st. go_through sc m sent me i st (window_in sc m me st)) m.nodes

-- the port after what its BIU delivered
abbrev pub port_after : Option SlotLine → PortState → PortState
port_after None port = port
port_after (Some line) port = delivered_to port line.value

abbrev pub ports_after : List (Option Row) → List PortState → List PortState
ports_after rows ports = map_from 0 (λ i port. port_after (line_in (get_or rows i None)) port) ports

-- the book after a window. The tail is no stage, and is not judged
abbrev pub book_after : Scenario → ℕ → Option Window → Each (Option Row) → Book → Book
book_after sc frame None rows b = b
book_after sc frame (Some w) rows b = with_stage sc (record { frame = frame; slot = w.slot; stage = w.stage }) rows b

unfoldable pub after_window : Scenario → Moment → Each Result → Moment
after_window sc m results =
    let rows = map_each (λ me i r. r.row) results in
    record {
      frame = m.frame;
      window = m.window + 1;
      nodes = map_each (λ me i r. r.state) results;
      ports = ports_after rows.bius m.ports;
      book = book_after sc m.frame (slice_get (windows_of_frame sc.sizes sc.plan) m.window) rows m.book;
    }

-- node i of kind me is good in this moment's window, and this is its state
abbrev pub IsGoodIn : Scenario → Moment → Side → ℕ → NodeState → Type 0
IsGoodIn sc m me i st =
    (slice_get (of_kind me m.nodes) i ≡ Some st) × (is_good sc me i m.frame (window_in sc m me st).slot ≡ true)

-- a tick of the window
abbrev pub IsTickOf : Span → ℕ → Type 0
IsTickOf span tick = (span.first ≤ tick) × (tick ≤ span.last)

-- the window is timely: good nodes send at ticks of their own window, and what good nodes hear from
-- good nodes has a stamp in the receiver's window
pub record IsTimely (sc : Scenario) (m : Moment) : Type 0 where
  pub sent : (me : Side) (i : ℕ) (st : NodeState) → IsGoodIn sc m me i st
      → IfSome (sending_in sc m me i st (window_in sc m me st)) (λ s. IsTickOf (span_of st (window_in sc m me st)) s.tick)
  pub heard : (me : Side) (i j : ℕ) (st source : NodeState) → IsGoodIn sc m me i st → IsGoodIn sc m (other me) j source
      → All (λ c. IsTickOf (span_of st (window_in sc m me st)) (stamp_of (clock_of sc me i) c.time))
      (heard_at sc me i st (window_in sc m me st) (sent_in sc m) j)

-- A frame.

abbrev pub begun_if_good : Scenario → ℕ → List PortState → Side → ℕ → NodeState → Option Begun
begun_if_good sc frame ports me i st =
    elim (is_good sc me i frame 0) [ true ↦ Some (begun_of sc ports me i (epoch_of sc.sizes me st)) | false ↦ None ]

-- the moment at which a frame begins: its record is added to the book, and then the hand-ins of
-- this frame are made to the ports
unfoldable pub begin_frame : Scenario → List HandIn → ℕ → Each NodeState → List PortState → Book → Moment
begin_frame sc hands frame nodes ports b = record {
  frame = frame;
  window = 0;
  nodes = nodes;
  ports = hand_over frame hands ports;
  book = with_frame sc frame (present (in_order (map_each (begun_if_good sc frame ports) nodes))) b;
}

-- The run.

abbrev pub first_moment : Scenario → List HandIn → Moment
first_moment sc hands =
    begin_frame sc hands 0 (each_of sc.sizes (λ me i. first_state sc.sizes me)) (map (port_at sc []) (numbers sc.sizes.bius)) fresh_book

abbrev pub next_frame : Scenario → List HandIn → Moment → Moment
next_frame sc hands m =
    begin_frame sc hands (m.frame + 1) (map_each (λ me i st. turn_if_known sc.sizes sc.plan me st) m.nodes) m.ports m.book

-- the moment after one window, or after the tail the moment at which the next frame begins
abbrev pub move_on : Scenario → List HandIn → Moment → Moment
move_on sc hands m =
    elim (nat_lt m.window (windows_in sc.sizes)) [ true ↦ after_window sc m (results_of sc m) | false ↦ next_frame sc hands m ]

-- a step. Once the frame after the last has begun the end is given, and then only the states go on
unfoldable pub step : Scenario → List HandIn → Moment → Moment
step sc hands m =
    let next : Moment = move_on sc hands m in
    record next { book = elim (m.frame == sc.frames) [ true ↦ with_end m.book | false ↦ next.book ] }

-- the moment after a number of steps. After a breach, too, the states go on and the book does not
abbrev pub moment : Scenario → List HandIn → ℕ → Moment
moment sc hands zero = first_moment sc hands
moment sc hands (suc n) = step sc hands (moment sc hands n)

-- the moment after at most n more steps, none after the last record
abbrev pub until_end : Scenario → List HandIn → ℕ → Moment → Moment
until_end sc hands zero m = m
until_end sc hands (suc n) m = elim m.book.ended [ true ↦ m | false ↦ until_end sc hands n (step sc hands m) ]

-- enough steps for all frames, and one more for the end
abbrev pub steps_of : Scenario → ℕ
steps_of sc = sc.frames * (windows_in sc.sizes + 1) + 1

-- the records of the run of a scenario with these hand-ins
abbrev pub records_of : Scenario → List HandIn → List Record
records_of sc hands = (until_end sc hands (steps_of sc) (first_moment sc hands)).book.given
