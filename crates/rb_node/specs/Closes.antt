-- What the close of a window makes of a node.
use Rattle.std.specs.Prelude.{◌≡◌, ◌+◌, ◌^◌, ◌==◌, Bool, false, List, [], if◌then◌else◌}
use Rattle.rb_base.specs.Nodes.{Side}
use Rattle.rb_eligible.specs.Inboxes.{HoldsArrivals, Received, StampsUpTo}
use Rattle.rb_rules.specs.declared.plan.Window.{Window}
use Rattle.rb_slot.specs.Engines.{IsSameFrame, outcome_on}
use Rattle.rb_node.specs.Cores.{Running}

-- At the tick after those that it has had the node closes the window, if this is the window's last
-- tick: whatever came that its inbox stands for, it has the outcome as its state and shows it, and
-- nothing is left in the inbox. Else nothing changes
pub record ClosesAtLast (me : Side) (window : Window) (before : Running) (closed : Bool) (after : Running) : Type 0 where
  pub closes : closed ≡ (before.had == before.seat.state.epoch + window.last)
  pub state : (received : List Received) → HoldsArrivals before.inbox received
      → after.seat ≡ record before.seat { state = if closed then (outcome_on me before.seat window received).state else before.seat.state }
  pub shown : (received : List Received) → HoldsArrivals before.inbox received
      → after.shown ≡ (if closed then (outcome_on me before.seat window received).closed else before.shown)
  pub stays : closed ≡ false → after.shown ≡ before.shown
  pub keeps : closed ≡ false → after.seat ≡ before.seat
  pub inbox : (received : List Received) → HoldsArrivals before.inbox received → HoldsArrivals after.inbox (if closed then [] else received)
  pub stamps : StampsUpTo (2 ^ 32) after.inbox
  pub same : IsSameFrame before.seat after.seat
