-- The cores and the ports of a run event by event hold what the rounds hold, each at a moment of
-- its own.
use Rattle.std.specs.Prelude.{ℕ, ◌≡◌, ◌+◌, ◌⊎◌, true, false, Some, List, slice_get, is_some}
use Rattle.rb_base.specs.{Nodes.Side, Nodes.Side.Biu, Sizes.sync_slot_of, declared.values.Place.Place}
use Rattle.rb_rules.specs.{declared.plan.Window.Window, Book.of_kind, Book.Milestone.Stage, Core.{Core, state_at, window_here}, ExactStage.keep_sent, Goodness.{Scenario, is_good}, Hearing.port_at, Lawful.IsLawful, Moments.{before_stage, IsRunning}, NodeState.NodeState, Ports.HandIn, Rounds.{Moment, window_in, word_for_window}, WorldStep.{Choice, Site, Timed, World, world_after}}

-- The moment of a core.

-- the state in which a core takes its next tick: if that is the first of its next frame, it has
-- turned
abbrev pub ready_state : Scenario → Side → Core → NodeState
ready_state sc me c = state_at sc.sizes sc.plan me c.state c.had

-- the window in which the next tick of core c lies
abbrev pub open_window : Scenario → Side → Core → Window
open_window sc me c = window_here sc.sizes sc.plan me (ready_state sc me c) c.had

-- a core's own moment of the rounds: the one before the stage of its own frame and window, the tail
-- being stage 4 of the sync slot
abbrev pub own_moment : Scenario → List HandIn → Side → Core → Moment
own_moment sc hands me c =
    before_stage sc hands (ready_state sc me c).frame (open_window sc me c).slot (open_window sc me c).stage

-- What it holds there.

-- the state is that of the node in the rounds before the window, or that with what the node has
-- said in the window by now
abbrev pub IsStateOf : Scenario → Moment → Side → ℕ → NodeState → NodeState → Type 0
IsStateOf sc m me i st now =
    let w : Window = window_in sc m me st in
    (now ≡ st) ⊎ (now ≡ keep_sent sc.sizes me i st w.slot w.stage (word_for_window sc m i w))

-- core i of kind me stands in the moment's frame and in its window, is good there, and holds the
-- state of its node
pub record HoldsTheState (sc : Scenario) (m : Moment) (me : Side) (i : ℕ) (c : Core) : Type 0 where
  pub st : NodeState
  pub there : slice_get (of_kind me m.nodes) i ≡ Some st
  pub frame : (ready_state sc me c).frame ≡ m.frame
  pub window : open_window sc me c ≡ window_in sc m me st
  pub good : is_good sc me i m.frame (open_window sc me c).slot ≡ true
  pub state : IsStateOf sc m me i st (ready_state sc me c)

-- core i of kind me is in a slot in which its node is not good
abbrev pub StandsWhereNotGood : Scenario → Side → ℕ → Core → Type 0
StandsWhereNotGood sc me i c = is_good sc me i (ready_state sc me c).frame (open_window sc me c).slot ≡ false

-- Running nodes.

-- a node of a kind that runs in the world, and has a tick to come
pub record RunningNode (w : World) (me : Side) : Type 0 where
  pub index : ℕ
  pub site : Site
  pub there : slice_get (of_kind me w.sites) index ≡ Some site
  pub runs : site.runs ≡ true
  pub ahead : Timed
  pub pends : site.ahead ≡ Some ahead

-- the own moment of a running node's core
abbrev pub moment_of : {w : World} → {me : Side} → Scenario → RunningNode w me → Moment
moment_of {w} {me} sc node = own_moment sc w.hands me node.site.core

-- a running node's core holds the state of the rounds at its own moment
abbrev pub HoldsItsState : {w : World} → {me : Side} → Scenario → RunningNode w me → Type 0
HoldsItsState {w} {me} sc node = HoldsTheState sc (moment_of sc node) me node.index node.site.core

-- a running BIU has the port of the rounds at its own moment
abbrev pub HasItsPort : {w : World} → Scenario → RunningNode w Biu → Type 0
HasItsPort {w} sc node = port_at sc w.ports node.index ≡ port_at sc (moment_of sc node).ports node.index

-- The laws.

-- the world is before the breaking stage: the first stage that is not settled in it is not one of a
-- sync slot with which the run ends
abbrev pub IsBeforeTheBreak : Scenario → World → Type 0
IsBeforeTheBreak sc w =
    (place : Place) → w.book.upcoming ≡ Stage place → place.slot ≡ sync_slot_of sc.sizes
    → IsRunning (before_stage sc w.hands place.frame place.slot (place.stage + 1))

-- each node that runs holds what the rounds hold at its own moment
pub record HoldsTheRounds (sc : Scenario) (w : World) : Type 0 where
  pub cores : (me : Side) (node : RunningNode w me) → HoldsItsState sc node
  pub ports : (node : RunningNode w Biu) → HasItsPort sc node
  -- a node that runs has a tick to come, and one that has stopped is in a slot in which it is not
  -- good
  pub pending : (me : Side) (i : ℕ) (s : Site) → slice_get (of_kind me w.sites) i ≡ Some s
      → s.runs ≡ true → is_some s.ahead ≡ true
  pub stopped : (me : Side) (i : ℕ) (s : Site) → slice_get (of_kind me w.sites) i ≡ Some s
      → s.runs ≡ false → StandsWhereNotGood sc me i s.core

-- in each world every running node follows the rounds, unless the run has ended by its own moment
pub record FollowsTheRounds (sc : Scenario) (w : World) : Type 0 where
  pub cores : (me : Side) (node : RunningNode w me) → IsRunning (moment_of sc node) → HoldsItsState sc node
  pub ports : (node : RunningNode w Biu) → IsRunning (moment_of sc node) → HasItsPort sc node

-- whatever is chosen and handed in, in each world before the breaking stage
abbrev pub CoresAreThoseOfTheRounds : Type 0
CoresAreThoseOfTheRounds =
    (sc : Scenario) → IsLawful sc
    → (choices : List Choice) → IsBeforeTheBreak sc (world_after sc choices) → HoldsTheRounds sc (world_after sc choices)

-- the cores follow the rounds in every world, also if some nodes have left the breaking stage
-- already
abbrev pub CoresFollowTheRounds : Type 0
CoresFollowTheRounds = (sc : Scenario) → IsLawful sc → (choices : List Choice) → FollowsTheRounds sc (world_after sc choices)
