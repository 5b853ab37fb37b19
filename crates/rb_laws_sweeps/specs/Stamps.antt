-- What came to a node, with other stamps.
use Rattle.std.specs.Prelude.{ℕ, ◌≡◌, ◌^◌, ◌<◌, ◌≤◌, true, List, map}
use Rattle.rb_base.specs.{Nodes.Side, Sizes.sync_slot_of}
use Rattle.rb_rules.specs.{Core.{Core, is_last, state_at, window_here}, Goodness.Scenario, Ports.PortState, Sense.Arrival, WorldStep.pass_and_tick}

-- what came, with other stamps: each has the one of its source
abbrev pub restamped : (ℕ → ℕ) → List (ℕ × Arrival) → List (ℕ × Arrival)
restamped stamps inbox = map (λ a. (a.0, record { stamp = stamps a.0; bytes = a.1.bytes })) inbox

-- a core in which the ticks that passed are counted otherwise, and what came has other stamps
abbrev pub stamped_anew : ℕ → (ℕ → ℕ) → Core → Core
stamped_anew had stamps c = record c { had = had; inbox = restamped stamps c.inbox }

-- A tick, one of those that a node may have, that ends a window of a slot before the sync slot
-- gives the same whatever stamps what came has, and however many of the ticks before it were
-- counted
abbrev pub StampsMakeNoDifference : Type 0
StampsMakeNoDifference =
    (sc : Scenario) (ports : List PortState) (me : Side) (i k had : ℕ) (stamps : ℕ → ℕ) (c : Core)
    → is_last sc.sizes sc.plan me (state_at sc.sizes sc.plan me c.state k) k ≡ true
    → (window_here sc.sizes sc.plan me (state_at sc.sizes sc.plan me c.state k) k).slot < sync_slot_of sc.sizes
    → k < 2 ^ 31 → had ≤ k → c.had ≤ k
    → pass_and_tick sc ports me i k (stamped_anew had stamps c) ≡ pass_and_tick sc ports me i k c
