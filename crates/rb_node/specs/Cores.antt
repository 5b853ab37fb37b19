-- Which core of the rules a node stands for.
use Rattle.std.specs.Prelude.{ℕ, ◌≡◌, ◌^◌, Option, unwrap_or, List, [], map}
use Rattle.rb_base.specs.Nodes.{Side}
use Rattle.rb_rules.specs.{declared.closing.Closed.Closed, Core.{Core, Act, arrive, tick, ticks, next_tick}, Sense.Arrival}
use Rattle.rb_eligible.specs.Inboxes.{KeptArrivals, Received, HoldsArrivals}
use Rattle.rb_slot.specs.Engines.{Seated}

-- what a node is seen as: its seat on the bus with its state, how many ticks it has had, what is
-- kept of the arrivals since its last close, and what it showed of the window that it closed last
pub record Running : Type 0 where
  pub seat : Seated
  pub had : ℕ
  pub inbox : KeptArrivals
  pub shown : Closed

-- what came, as inboxes have it
abbrev pub received_of : List (ℕ × Arrival) → List Received
received_of inbox = map (λ (a : ℕ × Arrival). record { source = a.0; arrival = a.1 }) inbox

-- the node stands for the core
pub record IsCore (n : Running) (c : Core) : Type 0 where
  pub state : c.state ≡ n.seat.state
  pub had : c.had ≡ n.had
  pub inbox : HoldsArrivals n.inbox (received_of c.inbox)

-- the node is the same node of the same bus
pub record IsSameNode (before after : Running) : Type 0 where
  pub sizes : after.seat.sizes ≡ before.seat.sizes
  pub plan : after.seat.plan ≡ before.seat.plan
  pub index : after.seat.index ≡ before.seat.index

-- The steps of a core that is the node's.

abbrev pub tick_of : Side → Running → Core → ℕ → Act
tick_of me n c word = tick n.seat.sizes n.seat.plan me n.seat.index c word

abbrev pub arrive_of : Side → Running → Core → ℕ → List ℕ → Core
arrive_of me n c from bytes = arrive n.seat.sizes me c from bytes

abbrev pub ticks_of : Side → Running → ℕ → Core → Core
ticks_of me n count c = ticks n.seat.sizes n.seat.plan me n.seat.index count c

abbrev pub next_of : Side → Running → Core → Option ℕ
next_of me n c = next_tick n.seat.sizes n.seat.plan me n.seat.index c

-- the core that the node stands for if nothing came since its last close. Which ticks are quiet
-- does not depend on what came
abbrev pub bare_core : Running → Core
bare_core n = record { state = n.seat.state; had = n.had; inbox = [] }

-- the number up to which ticks may pass: that of the next tick that is not quiet, or of all ticks
-- that a node can have
abbrev pub passing_end : Side → Running → ℕ
passing_end me n = unwrap_or (next_of me n (bare_core n)) (2 ^ 31)
