-- What a node is given in a run in which each step takes the first due event.
use Rattle.std.specs.Prelude.{ℕ, zero, suc, ◌≡◌, ◌&&◌, nat_lt, Bool, true, false, if◌then◌else◌, Option, Some, None, List, [], ◌∷◌, ◌++◌, slice_get}
use Rattle.rb_base.specs.{declared.event.Event.Event, declared.node.NodeName.NodeName}
use Rattle.rb_rules.specs.{Book.of_kind, Goodness.Scenario, Lawful.kind_of, Links.same_node, WorldStep.{Due, Site, World, due_of, event_at, first_world, go_on, take}}
use Rattle.rb_base.specs.declared.node.NodeName.TheVariants as node

-- The run.

-- a step if these events are due: the first of them is taken, or if none is due, what needs no
-- event is given
abbrev pub step_with : Scenario → World → List Due → World
step_with sc w [] = go_on sc w
step_with sc w (d ∷ ds) = take sc w 0

unfoldable pub first_step : Scenario → World → World
first_step sc w = step_with sc w (due_of sc w)

-- the world after a number of steps
abbrev pub first_run : Scenario → ℕ → World
first_run sc zero = first_world sc
first_run sc (suc n) = first_step sc (first_run sc n)

-- One node.

-- the number of a node among those of its kind
abbrev pub index_of : NodeName → ℕ
index_of (node.Biu i) = i
index_of (node.Rmu i) = i

abbrev pub site_of : NodeName → World → Option Site
site_of name w = slice_get (of_kind (kind_of name) w.sites) (index_of name)

-- the node has not had its first tick of the frame after the last, which is that of the last block
abbrev pub is_before_end : Scenario → Option Site → Bool
is_before_end sc None = false
is_before_end sc (Some s) = nat_lt s.core.state.frame sc.frames

-- the event that is taken next, if it is the node's and comes up to its first tick of the last
-- block
abbrev pub if_given : Scenario → NodeName → World → Option Event → List Event
if_given sc name w None = []
if_given sc name w (Some e) = if same_node e.node name && is_before_end sc (site_of name w) then e ∷ [] else []

unfoldable pub given_next : Scenario → NodeName → World → List Event
given_next sc name w = if_given sc name w (event_at sc w 0)

-- all that the node is given in a number of steps, in order. Nothing is due any more once the run
-- has ended
abbrev pub given_in : Scenario → NodeName → ℕ → List Event
given_in sc name zero = []
given_in sc name (suc n) = given_in sc name n ++ given_next sc name (first_run sc n)

-- the events are all that the node is given in the run. They end with its first tick of the last
-- block. With a breach they end with the run, and at a node that turns faulty with its last tick
-- before that
pub record AreGiven (sc : Scenario) (name : NodeName) (events : List Event) : Type 0 where
  pub steps : ℕ
  pub over : (first_run sc steps).book.ended ≡ true
  pub all : events ≡ given_in sc name steps
