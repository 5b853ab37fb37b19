-- The deliveries that a port records.
use Rattle.std.specs.Prelude.{ℕ, ◌≡◌, Bool, List, map, reverse, take}
use Rattle.rb_base.specs.declared.values.Delivery.{Delivery}
use Rattle.rb_rules.specs.Ports.{PortState, is_fault}

-- what a port keeps: its application, that one's state, and the latest deliveries, the newest last
pub record KeptPort : Type 0 where
  pub app : ℕ
  pub state : ℕ
  pub latest : List Delivery

-- the delivery was Fault
abbrev pub is_lost : Delivery → Bool
is_lost delivery = is_fault delivery.value

-- what is kept stands for this state of the port; its last 64 deliveries are kept
pub record HoldsPort (kept : KeptPort) (port : PortState) : Type 0 where
  pub app : kept.app ≡ port.app
  pub state : kept.state ≡ port.state
  pub faults : map is_lost (reverse kept.latest) ≡ take 64 port.faults
