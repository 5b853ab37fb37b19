-- For the law that events are rounds: the invariant of a run event by event. Each node stands in a
-- moment of the rounds of its own; its next busy tick is pending; and what has come to it and is
-- pending there of a source is what the source has sent in the rounds for that moment's window and
-- for the next stage.
use Rattle.std.proofs.Common.{◌≡◌, ℕ, suc, ◌+◌, ◌-◌, ◌^◌, ◌<◌, ◌≤◌, ◌==◌, ◌&&◌, ◌||◌, nat_lt, Bool, true, false, List, [], Option, Some, None, slice_get, option_map, option_to_list, if◌then◌else◌}
use Rattle.rb_base.specs.{Nodes.{Side, other}, Sizes.Sizes}
use Rattle.rb_rules.specs.{Book.of_kind, Clock.time_of, ExactStage.at_source, Goodness.{Scenario, is_good, clock_of}, Hearing.{Coming, Sending, Span, coming_of, said_by, span_of}, NodeState.NodeState, Ports.HandIn, Rounds.{Moment, window_in, word_for_window, sent_in, moment, windows_in}, WorldStep.{Timed, Site}}
use Rattle.rb_laws_events.specs.Closing.{stages_in}
use Rattle.rb_laws_events.proofs.{NodeActs.IsInWindow, NodeSends.KeepsTime, Receiving.Receives, RoundNodes.slot_numbered, SameHeard.Every, StageOrder.last_of, TickWindows.first_of}

-- Moments.

-- the number of the moment of the stage after that of moment p. Tails and ends of frames are no
-- stages
abbrev pub next_stage : Sizes → Moment → ℕ → ℕ
next_stage sizes m p = p + (if nat_lt (m.window + 1) (stages_in sizes) then 1 else windows_in sizes + 1 - m.window)

-- node i of a kind is good in a moment's window
abbrev pub is_good_at : Scenario → Moment → Side → ℕ → Bool
is_good_at sc m me i = is_good sc me i m.frame (slot_numbered sc.sizes m.window)

-- what node j of a kind sends in a moment's window
abbrev pub sending_of : Scenario → Moment → Side → ℕ → Option Sending
sending_of sc m side j = at_source (of_kind side (sent_in sc m)) j

abbrev pub entry_of : Scenario → Moment → Side → ℕ → ℕ → List Coming
entry_of sc m me i j = option_to_list (option_map (coming_of sc me i j m.frame) (sending_of sc m (other me) j))

-- What has been sent.

-- the tick comes before the pending one. A node without a pending tick has stopped
abbrev pub is_past : ℕ → Option Timed → Bool
is_past tick None = false
is_past tick (Some a) = nat_lt tick a.tick

-- a node that stands in moment q, `a` being its pending tick, has sent what it sends in moment p
abbrev pub has_sent : Option Sending → ℕ → Option Timed → ℕ → Bool
has_sent None q a p = false
has_sent (Some s) q a p = nat_lt p q || ((p == q) && is_past s.tick a)

-- what source j has sent to node i of kind me for a moment's window. A source that is not good has
-- said all that it says for the window when the window opens
abbrev pub heard_so_far : Scenario → Moment → Side → ℕ → Span → (ℕ → Bool) → ℕ → List Coming
heard_so_far sc m me i span sent j =
    elim (is_good_at sc m (other me) j) [ true ↦ elim (sent j) [ true ↦ entry_of sc m me i j | false ↦ [] ] | false ↦ said_by sc me i span j ]

abbrev pub ahead_so_far : Scenario → Moment → Side → ℕ → (ℕ → Bool) → ℕ → List Coming
ahead_so_far sc m me i sent j =
    elim (is_good_at sc m (other me) j) [ true ↦ elim (sent j) [ true ↦ entry_of sc m me i j | false ↦ [] ] | false ↦ [] ]

-- Nodes.

-- the word of a node in a moment's window
abbrev pub word_at : Scenario → Moment → Side → ℕ → NodeState → ℕ
word_at sc m me i st = word_for_window sc m i (window_in sc m me st)

-- the time of the last tick of a moment's window
abbrev pub last_tick : Scenario → Moment → Side → NodeState → ℕ
last_tick sc m me st = st.epoch + last_of sc.sizes sc.plan me st m.window

-- a node that runs, in moment p of the rounds, in which `st` is its state, and in which its pending
-- tick is `a`. `sent` tells which nodes have sent what they send in which moments, `now` is the
-- time of the last event
pub record NodeStands (sc : Scenario) (hands : List HandIn) (sent : Side → ℕ → ℕ → Bool) (now : ℕ) (me : Side) (i p : ℕ) (s : Site) (st : NodeState) (a : Timed) : Type 0 where
  pub state : slice_get (of_kind me (moment sc hands p).nodes) i ≡ Some st
  pub good : is_good_at sc (moment sc hands p) me i ≡ true
  pub stands : IsInWindow sc.sizes sc.plan me i st (moment sc hands p).window (word_at sc (moment sc hands p) me i st) a.tick s.core.state
  pub from : st.epoch + first_of sc.sizes sc.plan me st (moment sc hands p).window ≤ s.core.had
  pub receives : Receives sc me i (last_tick sc (moment sc hands p) me st)
      (heard_so_far sc (moment sc hands p) me i (span_of st (window_in sc (moment sc hands p) me st)) (λ j. sent (other me) j p))
      (ahead_so_far sc (moment sc hands (next_stage sc.sizes (moment sc hands p) p)) me i
      (λ j. sent (other me) j (next_stage sc.sizes (moment sc hands p) p)))
      now s a

-- What is taken of synchrony: in moment p the good nodes are in time.

-- the message comes after the last tick of the window before, and at most with the last tick of
-- this window
abbrev pub ComesInWindow : Scenario → Moment → Side → ℕ → NodeState → Coming → Type 0
ComesInWindow sc m me i st c =
    ((k : ℕ) → st.epoch + first_of sc.sizes sc.plan me st m.window ≡ suc k → time_of (clock_of sc me i) k < c.time)
    × (c.time ≤ time_of (clock_of sc me i) (last_tick sc m me st))

pub record InTime (sc : Scenario) (m next : Moment) : Type 0 where
  pub keeps : (me : Side) (i : ℕ) (st : NodeState) → slice_get (of_kind me m.nodes) i ≡ Some st → is_good_at sc m me i ≡ true
      → KeepsTime sc.sizes sc.plan me st
  pub room : (me : Side) (i : ℕ) (st : NodeState) → slice_get (of_kind me m.nodes) i ≡ Some st → is_good_at sc m me i ≡ true
      → last_tick sc m me st < 2 ^ 31
  pub heard : (me : Side) (i j : ℕ) (st : NodeState) → slice_get (of_kind me m.nodes) i ≡ Some st → is_good_at sc m me i ≡ true
      → is_good_at sc m (other me) j ≡ true → Every (ComesInWindow sc m me i st) (entry_of sc m me i j)
  -- no node closes the next stage before all nodes have closed this one
  pub order : (me you : Side) (i j : ℕ) (mine yours : NodeState) → slice_get (of_kind me m.nodes) i ≡ Some mine → is_good_at sc m me i ≡ true
      → slice_get (of_kind you next.nodes) j ≡ Some yours → is_good_at sc next you j ≡ true
      → time_of (clock_of sc me i) (last_tick sc m me mine) < time_of (clock_of sc you j) (last_tick sc next you yours)

-- what source `j` sends in the next stage comes to node `i` after it has closed this window
abbrev pub ComesLater : Scenario → Moment → Moment → Side → ℕ → ℕ → NodeState → Type 0
ComesLater sc m next me i j st = Every (λ c. time_of (clock_of sc me i) (last_tick sc m me st) < c.time) (entry_of sc next me i j)
