-- For the law that events are rounds: what is asked of the nodes of a world in which the run breaks
-- off in a sync slot.
use Rattle.std.proofs.Common.{◌≡◌, ℕ, suc, ◌+◌, ◌*◌, ◌<◌, ◌≤◌, ◌⊎◌, Bool, true, List, Some, slice_get}
use Rattle.rb_base.specs.{Nodes.Side, Sizes.sync_slot_of}
use Rattle.rb_rules.specs.{Book.{Each, Row, of_kind}, Clock.time_of, Goodness.{Scenario, clock_of}, Hearing.Coming, Moments.IsRunning, NodeState.NodeState, Ports.{HandIn, PortState}, Rounds.moment, WorldStep.{Site, Timed, after_act, after_arrival, at_node, pass_and_tick, with_message}}
use Rattle.rb_rules.proofs.Stamps.{Moves}
use Rattle.rb_laws_events.proofs.{BreakBegins.FirstCloses, BreakEnters.TickBreaks, BreakSites.HasStopped, Invariant.{is_good_at, last_tick}, MomentBooks.place_at, PendingLists.StandsAt, Receiving.ArrivesNow, Settling.RowOfRounds, WorldStands.sent_by}

-- the run breaks off with stage q of the sync slot, which is the window of moment b
pub record BreaksAt (sc : Scenario) (hands : List HandIn) (b q : ℕ) : Type 0 where
  pub running : IsRunning (moment sc hands b)
  pub ends : (moment sc hands (suc b)).book.ended ≡ true
  pub small : q < 3
  pub window : (moment sc hands b).window ≡ 3 * sync_slot_of sc.sizes + q

-- the node's next tick is the last of the window
pub record WaitsLast (sc : Scenario) (hands : List HandIn) (b : ℕ) (me : Side) (i : ℕ) (s : Site) : Type 0 where
  pub st : NodeState
  pub a : Timed
  pub pends : s.ahead ≡ Some a
  pub state : slice_get (of_kind me (moment sc hands b).nodes) i ≡ Some st
  pub time : a.time ≡ time_of (clock_of sc me i) (last_tick sc (moment sc hands b) me st)

-- the node has told its row of the stage, and the row is that of the rounds
pub record TellsStage (sc : Scenario) (hands : List HandIn) (b : ℕ) (me : Side) (i : ℕ) (s : Site) : Type 0 where
  pub row : Row
  pub is : s.row ≡ Some row
  pub place : row.place ≡ place_at sc.sizes (moment sc hands b)
  pub rounds : RowOfRounds sc hands me i row

-- some good node has its last tick of the window at time `t` or later
pub record FirstOf (sc : Scenario) (hands : List HandIn) (b t : ℕ) : Type 0 where
  pub you : Side
  pub j : ℕ
  pub yours : NodeState
  pub there : slice_get (of_kind you (moment sc hands b).nodes) j ≡ Some yours
  pub good : is_good_at sc (moment sc hands b) you j ≡ true
  pub first : t ≤ time_of (clock_of sc you j) (last_tick sc (moment sc hands b) you yours)

-- `N` is what the nodes keep if the run breaks off with stage q: it holds with the first close of
-- the stage, each node that is good then waits for its last tick of it or has told its row, and
-- events keep it
pub record KeepsNodes (sc : Scenario) (q : ℕ) (N : List HandIn → ℕ → (Side → ℕ → ℕ → Bool) → Each Site → Type 0) : Type 0 where
  pub begins : (hands : List HandIn) (b : ℕ) → BreaksAt sc hands b q → (now : ℕ) (at : Side → ℕ → ℕ) (sites : Each Site) (t : ℕ) → FirstCloses sc hands now at sites b t
      → N hands b (sent_by sc hands at sites) sites
  pub waits : (hands : List HandIn) (b : ℕ) → BreaksAt sc hands b q → (sent : Side → ℕ → ℕ → Bool) (sites : Each Site) → N hands b sent sites → (me : Side) (i : ℕ) (s : Site)
      → slice_get (of_kind me sites) i ≡ Some s → s.runs ≡ true → is_good_at sc (moment sc hands b) me i ≡ true → WaitsLast sc hands b me i s ⊎ TellsStage sc hands b me i s
  pub told : (hands : List HandIn) (b : ℕ) → BreaksAt sc hands b q → (sent : Side → ℕ → ℕ → Bool) (ports : List PortState) (sites : Each Site) → N hands b sent sites
      → (me : Side) (i : ℕ) (s : Site) (a : Timed) → TickBreaks sc hands sent ports b me i s a → slice_get (of_kind me sites) i ≡ Some s
      → TellsStage sc hands b me i (after_act sc ports me i (pass_and_tick sc ports me i a.tick s.core) s)
  pub tick : (hands : List HandIn) (b : ℕ) → BreaksAt sc hands b q → (sent : Side → ℕ → ℕ → Bool) (ports : List PortState) (sites : Each Site) → N hands b sent sites
      → (me : Side) (i frame : ℕ) (s : Site) (a : Timed) → TickBreaks sc hands sent ports b me i s a → slice_get (of_kind me sites) i ≡ Some s
      → N hands b sent (with_message sc me i frame a.tick (pass_and_tick sc ports me i a.tick s.core).message (at_node me i (after_act sc ports me i (pass_and_tick sc ports me i a.tick s.core)) sites))
  pub arrival : (hands : List HandIn) (b : ℕ) → BreaksAt sc hands b q → (sent : Side → ℕ → ℕ → Bool) (sites : Each Site) → N hands b sent sites
      → (me : Side) (i n : ℕ) (c : Coming) (s : Site) → (is_good_at sc (moment sc hands b) me i ≡ true → Moves (clock_of sc me i)) → slice_get (of_kind me sites) i ≡ Some s → StandsAt n c s.coming
      → ((a : Timed) → s.ahead ≡ Some a → ArrivesNow n c s a) → FirstOf sc hands b c.time → N hands b sent (at_node me i (after_arrival sc me i n c) sites)
  -- a node at which something may happen was good in moment `b`, and its next tick comes after
  -- those that it has had
  pub goes : (hands : List HandIn) (b : ℕ) → BreaksAt sc hands b q → (sent : Side → ℕ → ℕ → Bool) (sites : Each Site) → N hands b sent sites → (me : Side) (i : ℕ) (s : Site)
      → slice_get (of_kind me sites) i ≡ Some s → HasStopped s ⊎ (is_good_at sc (moment sc hands b) me i ≡ true)
  pub ahead : (hands : List HandIn) (b : ℕ) → BreaksAt sc hands b q → (sent : Side → ℕ → ℕ → Bool) (sites : Each Site) → N hands b sent sites → (me : Side) (i : ℕ) (s : Site)
      → slice_get (of_kind me sites) i ≡ Some s → (a : Timed) → s.ahead ≡ Some a → (s.core.had ≤ a.tick) × (a.time ≡ time_of (clock_of sc me i) a.tick)
