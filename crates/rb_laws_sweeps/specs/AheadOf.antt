-- A world that is ahead of another by arrivals alone, and how both go on from tick to tick.
use Rattle.std.specs.Prelude.{ℕ, zero, suc, ◌≡◌, ◌+◌, ◌<◌, ◌≤◌, nat_lt, Bool, true, false, if◌then◌else◌, None, Some, slice_get, List, [], ◌++◌}
use Rattle.rb_base.specs.{Nodes.Side, Nodes.Side.{Biu, Rmu}}
use Rattle.rb_rules.specs.{Book.{Each, map_each, of_kind}, Goodness.Scenario, Hearing.Coming, WorldStep.{Choice, Site, Timed, World, at_node, due_of, happens, settle, take, world_after}, WorldStep.Pending.{Arrival, Tick}, WorldStep.Way.ByAnEvent}
use Rattle.rb_laws_sweeps.specs.{Sweeping.swept, Told.{Told, heard, told_alone, told_next}}

-- Ticks.

-- node j of a kind comes after node i of kind me in the order of nodes
abbrev pub is_behind : Side → ℕ → Side → ℕ → Bool
is_behind Biu i Biu j = nat_lt i j
is_behind Biu i Rmu j = true
is_behind Rmu i Biu j = false
is_behind Rmu i Rmu j = nat_lt i j

-- the time before which all that comes to node j of a kind is taken before the tick of node i of
-- kind me at this time
abbrev pub until_tick : Side → ℕ → ℕ → Side → ℕ → ℕ
until_tick me i time side j = if is_behind me i side j then time else time + 1

-- the tick is the first in time of all ticks that are pending, and of those at its time the first
-- in the order of nodes
pub record IsFirstTick (w : World) (me : Side) (i : ℕ) (a : Timed) : Type 0 where
  pub node : Site
  pub there : slice_get (of_kind me w.sites) i ≡ Some node
  pub pends : node.ahead ≡ Some a
  pub least : (side : Side) (j : ℕ) (s : Site) (b : Timed) → slice_get (of_kind side w.sites) j ≡ Some s → s.ahead ≡ Some b → a.time ≤ b.time
  pub first : (side : Side) (j : ℕ) (s : Site) (b : Timed) → slice_get (of_kind side w.sites) j ≡ Some s → s.ahead ≡ Some b
      → is_behind side j me i ≡ true → a.time < b.time

-- Worlds.

-- each node is swept up to a time of its own
abbrev pub each_swept : Scenario → (Side → ℕ → ℕ) → Each Site → Each Site
each_swept sc until sites = map_each (λ side j s. swept sc side j (until side j) s) sites

-- the world that is so far ahead of this one
abbrev pub ahead_of : Scenario → (Side → ℕ → ℕ) → World → World
ahead_of sc until w = record w { sites = each_swept sc until w.sites }

-- one node alone is swept up to its tick and takes it, and what that completes is settled
abbrev pub tick_alone : Scenario → Side → ℕ → Timed → World → World
tick_alone sc me i a w =
    settle sc ByAnEvent 2
    (happens sc (record w { sites = at_node me i (swept sc me i (a.time + 1)) w.sites }) (record { side = me; node = i; pending = Tick a.tick }))

-- Takes.

-- the world after n takes of the first due event
unfoldable pub after_takes : Scenario → ℕ → World → World
after_takes sc zero w = w
after_takes sc (suc n) w = take sc (after_takes sc n w) 0

-- what node i of kind me is told in n takes of the first due event
unfoldable pub told_in : Scenario → Side → ℕ → ℕ → World → List Told
told_in sc me i zero w = []
told_in sc me i (suc n) w = told_in sc me i n w ++ told_next sc me i (after_takes sc n w)

-- the first due event is an arrival
pub record ArrivalIsFirst (sc : Scenario) (w : World) : Type 0 where
  pub side : Side
  pub node : ℕ
  pub place : ℕ
  pub coming : Coming
  pub is : slice_get (due_of sc w) 0 ≡ Some (record { side = side; node = node; pending = Arrival place coming })

-- Takes of arrivals, none of which gives a record, lead to the world in which this tick is the
-- first due event: each node is swept, those behind the tick's node up to its time and the others
-- through it, and nothing else changes. Each node is told what it hears in its sweep
pub record LeadsToTick (sc : Scenario) (w : World) (me : Side) (i : ℕ) (a : Timed) : Type 0 where
  pub takes : ℕ
  pub arrivals : (n : ℕ) → n < takes → ArrivalIsFirst sc (after_takes sc n w)
  pub quiet : (n : ℕ) → 1 ≤ n → n ≤ takes → (after_takes sc n w).turn ≡ None
  pub world : after_takes sc takes w ≡ record (ahead_of sc (until_tick me i a.time) w) { turn = (after_takes sc takes w).turn }
  pub tick : slice_get (due_of sc (after_takes sc takes w)) 0 ≡ Some (record { side = me; node = i; pending = Tick a.tick })
  pub told : (side : Side) (j : ℕ) (s : Site) → slice_get (of_kind side w.sites) j ≡ Some s
      → told_in sc side j takes w ≡ heard sc side j (until_tick me i a.time side j) s

-- What each node is told in these takes: with what it hears of what the world behind had left, it
-- is what the tick alone tells the node, and then what it hears of what is left behind after that
pub record TellsAhead (sc : Scenario) (until : Side → ℕ → ℕ) (w : World) (me : Side) (i : ℕ) (a : Timed) (takes : ℕ) (side : Side) (j : ℕ) (s : Site) : Type 0 where
  pub after : Site
  pub there : slice_get (of_kind side (tick_alone sc me i a w).sites) j ≡ Some after
  pub told : heard sc side j (until side j) s ++ told_in sc side j takes (ahead_of sc until w)
      ≡ told_alone sc w me i a side j s ++ heard sc side j (until_tick me i a.time side j) after

-- One more take, that of the tick, leads from a world that is ahead to one that is ahead of what
-- the tick alone makes of the world behind. Some choices lead there too, and what is first there
-- comes no earlier
pub record GoesOnAhead (sc : Scenario) (until : Side → ℕ → ℕ) (w : World) (me : Side) (i : ℕ) (a : Timed) : Type 0 where
  pub leads : LeadsToTick sc (ahead_of sc until w) me i a
  pub after : after_takes sc (suc leads.takes) (ahead_of sc until w) ≡ ahead_of sc (until_tick me i a.time) (tick_alone sc me i a w)
  pub choices : List Choice
  pub reached : world_after sc choices ≡ ahead_of sc (until_tick me i a.time) (tick_alone sc me i a w)
  pub later : (you : Side) (n : ℕ) (b : Timed) → IsFirstTick (tick_alone sc me i a w) you n b
      → (side : Side) (j : ℕ) → until_tick me i a.time side j ≤ until_tick you n b.time side j
  pub tells : (side : Side) (j : ℕ) (s : Site) → slice_get (of_kind side w.sites) j ≡ Some s
      → TellsAhead sc until w me i a (suc leads.takes) side j s
