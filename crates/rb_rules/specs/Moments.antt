-- The moments of a run by their place, what is complete by then, and which nodes are good there.
use Rattle.std.specs.Prelude.{⊤, ℕ, zero, suc, ◌≡◌, ◌+◌, ◌-◌, ◌*◌, ◌⊎◌, true, false, Some, List, slice_get}
use Rattle.rb_base.specs.{Nodes.Side, Sizes.sync_slot_of}
use Rattle.rb_rules.specs.{Book.of_kind, Clock.time_of, Goodness.{Scenario, is_good, clock_of}, Hearing.port_at, NodeState.NodeState, Ports.{HandIn, offered_at}, Rounds.{Moment, moment, windows_in}}

-- The moments.

-- the moment before a stage of a slot of a frame: earlier frames have `windows_in + 1` steps each,
-- one for each window and one for the turn
abbrev pub before_stage : Scenario → List HandIn → ℕ → ℕ → ℕ → Moment
before_stage sc hands frame slot stage = moment sc hands (frame * (windows_in sc.sizes + 1) + 3 * slot + stage - 1)

abbrev pub before_slot : Scenario → List HandIn → ℕ → ℕ → Moment
before_slot sc hands frame slot = before_stage sc hands frame slot 1

-- the moment after the third stage of a slot
abbrev pub after_slot : Scenario → List HandIn → ℕ → ℕ → Moment
after_slot sc hands frame slot = before_stage sc hands frame slot 4

-- What is complete.

-- the run has not ended by this moment
abbrev pub IsRunning : Moment → Type 0
IsRunning m = m.book.ended ≡ false

-- the slot is complete without a breach: its three stages are, and so are all slots before it
abbrev pub IsComplete : Scenario → List HandIn → ℕ → ℕ → Type 0
IsComplete sc hands frame slot = IsRunning (after_slot sc hands frame slot)

-- the frame begins without a breach before it: it is the first, or the sync slot of the one before
-- it is complete
abbrev pub IsReached : Scenario → List HandIn → ℕ → Type 0
IsReached sc hands zero = ⊤
IsReached sc hands (suc frame) = IsComplete sc hands frame (sync_slot_of sc.sizes)

-- the slot is the first of its frame, and that frame is reached
abbrev pub BeginsFrame : Scenario → List HandIn → ℕ → ℕ → Type 0
BeginsFrame sc hands frame zero = IsReached sc hands frame
BeginsFrame sc hands frame (suc slot) = ⊥

-- the slot is complete, or a frame that is reached begins with it. In both cases the slot starts
-- before the first breach
abbrev pub IsSettled : Scenario → List HandIn → ℕ → ℕ → Type 0
IsSettled sc hands frame slot = IsComplete sc hands frame slot ⊎ BeginsFrame sc hands frame slot

-- Who is good there.

-- node i of a kind is good in the slot, and this is its state before it
pub record IsGoodBefore (sc : Scenario) (hands : List HandIn) (frame slot : ℕ) (me : Side) (i : ℕ) (st : NodeState) : Type 0 where
  pub good : is_good sc me i frame slot ≡ true
  pub state : slice_get (of_kind me (before_slot sc hands frame slot).nodes) i ≡ Some st

-- node i of a kind is good in the slot, and this is its state after it
pub record IsGoodAfter (sc : Scenario) (hands : List HandIn) (frame slot : ℕ) (me : Side) (i : ℕ) (st : NodeState) : Type 0 where
  pub good : is_good sc me i frame slot ≡ true
  pub state : slice_get (of_kind me (after_slot sc hands frame slot).nodes) i ≡ Some st

-- the time, by the clock of node i of kind me, of the tick that is `offset` ticks after the first
-- tick of its frame
abbrev pub time_in_frame : Scenario → Side → ℕ → NodeState → ℕ → ℕ
time_in_frame sc me i st offset = time_of (clock_of sc me i) (st.epoch + offset)

-- the word that BIU i's application offers in a slot
abbrev pub offered_in : Scenario → List HandIn → ℕ → ℕ → ℕ → ℕ
offered_in sc hands frame slot i = offered_at (port_at sc (before_slot sc hands frame slot).ports i) slot
