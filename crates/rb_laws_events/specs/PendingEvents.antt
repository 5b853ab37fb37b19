-- How much may be pending at a node.
use Rattle.std.specs.Prelude.{ℕ, ◌≡◌, ◌+◌, ◌*◌, ◌≤◌, true, Some, List, length, slice_get}
use Rattle.rb_base.specs.Nodes.{Side, other}
use Rattle.rb_rules.specs.{declared.message.Message.Message, Book.of_kind, Core.Act, Entries.IsListed, Goodness.Scenario, Lawful.IsLawful, Slots.count_of, WorldStep.{Choice, Site, World, after_act, due_of, pass_and_tick, times_of, world_after}, WorldStep.Pending.Tick}

-- what comes to a node of this kind, at most: from each node of the other kind a message for the
-- window in which the node is and one for the next, and two more until the run has ended, if it
-- breaks off in a sync slot; and what is said to the node in three windows
abbrev pub most_coming : Scenario → Side → ℕ
most_coming sc me = 4 * count_of (other me) sc.sizes + 3 * length sc.says

-- what is pending at a node of this kind, at most: what comes to it, and its tick
abbrev pub most_pending : Scenario → Side → ℕ
most_pending sc me = most_coming sc me + 1

-- node i of kind me, which is this, may take its tick k now, and then does this
pub record TakesTick (sc : Scenario) (w : World) (me : Side) (i k : ℕ) (s : Site) (x : Act) : Type 0 where
  pub there : slice_get (of_kind me w.sites) i ≡ Some s
  pub place : ℕ
  pub is_due : slice_get (due_of sc w) place ≡ Some (record { side = me; node = i; pending = Tick k })
  pub does : x ≡ pass_and_tick sc w.ports me i k s.core

-- room for `most_pending` events at each node is enough now, and for what the next event makes
-- pending. Only a tick makes anything pending
pub record EventsFit (sc : Scenario) (w : World) : Type 0 where
  pub now : (me : Side) (i : ℕ) (s : Site) → slice_get (of_kind me w.sites) i ≡ Some s → length (times_of s) ≤ most_pending sc me
  -- at the node that takes its tick: its next tick, what was pending there, and what it is told in
  -- a window that it enters
  pub own : (me : Side) (i k : ℕ) (s : Site) (x : Act) → TakesTick sc w me i k s x → length (times_of (after_act sc w.ports me i x s)) ≤ most_pending sc me
  -- at each node to which the message goes that it sends then
  pub message : (me : Side) (i k : ℕ) (s : Site) (x : Act) (m : Message) → TakesTick sc w me i k s x → x.message ≡ Some m → (j : ℕ) (receiver : Site)
      → slice_get (of_kind (other me) w.sites) j ≡ Some receiver → receiver.runs ≡ true → length (times_of receiver) + 1 ≤ most_pending sc (other me)

-- whatever was chosen, events fit
abbrev pub PendingEventsAreFew : Scenario → Type 0
PendingEventsAreFew sc = (choices : List Choice) → EventsFit sc (world_after sc choices)

abbrev pub PendingEventsAreFewInLawful : Type 0
PendingEventsAreFewInLawful = (sc : Scenario) → IsLawful sc → IsListed sc → PendingEventsAreFew sc
