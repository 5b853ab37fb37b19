-- How much may be pending at a node that leaves arrivals behind.
use Rattle.std.specs.Prelude.{ℕ, ◌≡◌, ◌+◌, ◌^◌, ◌<◌, ◌≤◌, All, true, false, Some, None, List, [], length, slice_get}
use Rattle.rb_base.specs.Nodes.{Side, other}
use Rattle.rb_rules.specs.{declared.message.Message.Message, Book.of_kind, Clock.time_of, Core.Act, Entries.IsListed, Goodness.{Scenario, clock_of}, Lawful.IsLawful, Slots.count_of, WorldStep.{Choice, Site, Timed, World, after_act, pass_and_tick, times_of, world_after}}
use Rattle.rb_laws_events.specs.PendingEvents.{most_pending}
use Rattle.rb_laws_sweeps.specs.{AheadOf.{IsFirstTick, ahead_of, tick_alone, until_tick}, Laws.NeedsEvent, Sweeping.swept}

-- at a node that has stopped nothing is pending
abbrev pub StoppedHaveNothing : World → Type 0
StoppedHaveNothing w = (me : Side) (i : ℕ) (s : Site) → slice_get (of_kind me w.sites) i ≡ Some s → s.runs ≡ false → (s.ahead ≡ None) × (s.coming ≡ [])

-- stopped nodes have nothing pending in each world that choices lead to, and a tick alone keeps
-- that so
pub record StoppedStayEmpty (sc : Scenario) : Type 0 where
  pub reached : (choices : List Choice) → StoppedHaveNothing (world_after sc choices)
  pub kept : (w : World) (me : Side) (i : ℕ) (a : Timed) → IsFirstTick w me i a → StoppedHaveNothing w → StoppedHaveNothing (tick_alone sc me i a w)

abbrev pub StoppedStayEmptyInEach : Type 0
StoppedStayEmptyInEach = (sc : Scenario) → StoppedStayEmpty sc

-- whatever was chosen, room for `most_pending` events at each node is enough also in a world of
-- which the reached world is ahead, if at nodes that have stopped in it nothing is pending
abbrev pub PendingBehindIsFew : Type 0
PendingBehindIsFew =
    (sc : Scenario) → IsLawful sc → IsListed sc → (choices : List Choice) (until : Side → ℕ → ℕ) (w : World)
    → world_after sc choices ≡ ahead_of sc until w → StoppedHaveNothing w
    → (me : Side) (i : ℕ) (s : Site) → slice_get (of_kind me w.sites) i ≡ Some s → length (times_of s) ≤ most_pending sc me

-- node i of kind me, which is this site, takes the first tick there once it is swept, and does this
-- act: room for `most_pending` events is enough for what the act makes pending
pub record TickBehindFits (sc : Scenario) (w : World) (me : Side) (i : ℕ) (a : Timed) (s : Site) (x : Act) : Type 0 where
  pub own : length (times_of (after_act sc w.ports me i x (swept sc me i (a.time + 1) s))) ≤ most_pending sc me
  pub message : (m : Message) → x.message ≡ Some m → (j : ℕ) (receiver : Site) → slice_get (of_kind (other me) w.sites) j ≡ Some receiver → receiver.runs ≡ true
      → length (times_of receiver) + 1 ≤ most_pending sc (other me)

abbrev pub TicksBehindFit : Type 0
TicksBehindFit =
    (sc : Scenario) → IsLawful sc → IsListed sc → (choices : List Choice) (until : Side → ℕ → ℕ) (w : World)
    → world_after sc choices ≡ ahead_of sc until w → StoppedHaveNothing w
    → NeedsEvent sc w → (me : Side) (i : ℕ) (a : Timed) → IsFirstTick w me i a → ((side : Side) (j : ℕ) → until side j ≤ until_tick me i a.time side j)
    → (s : Site) → slice_get (of_kind me w.sites) i ≡ Some s
    → TickBehindFits sc w me i a s (pass_and_tick sc w.ports me i a.tick (swept sc me i (a.time + 1) s).core)

-- The first tick comes at its time, is one of those that a node may have, and comes after those
-- that its node has had once it is swept. Each node that runs has a tick that is no earlier, so
-- what is swept there comes by a tick. And all that comes or came to a node is from nodes that
-- there are
pub record TickBehindIsInTime (sc : Scenario) (w : World) (me : Side) (i : ℕ) (a : Timed) : Type 0 where
  pub time : a.time ≡ time_of (clock_of sc me i) a.tick
  pub small : a.tick < 2 ^ 31
  pub had : (s : Site) → slice_get (of_kind me w.sites) i ≡ Some s → (swept sc me i (a.time + 1) s).core.had ≤ a.tick
  pub others : (side : Side) (j : ℕ) (s : Site) → slice_get (of_kind side w.sites) j ≡ Some s → s.runs ≡ true
      → (k : ℕ) × ((k < 2 ^ 31) × (a.time ≤ time_of (clock_of sc side j) k))
  pub senders : (side : Side) (j : ℕ) (s : Site) → slice_get (of_kind side w.sites) j ≡ Some s
      → All (λ c. c.from < count_of (other side) sc.sizes) s.coming × All (λ c. c.from < count_of (other side) sc.sizes) s.got

abbrev pub TicksBehindAreInTime : Type 0
TicksBehindAreInTime =
    (sc : Scenario) → IsLawful sc → (choices : List Choice) (until : Side → ℕ → ℕ) (w : World) → world_after sc choices ≡ ahead_of sc until w
    → NeedsEvent sc w → (me : Side) (i : ℕ) (a : Timed) → IsFirstTick w me i a → ((side : Side) (j : ℕ) → until side j ≤ until_tick me i a.time side j)
    → TickBehindIsInTime sc w me i a
