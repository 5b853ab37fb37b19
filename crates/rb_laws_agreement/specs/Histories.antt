-- The port of a BIU as the bus's values and its hand-ins make it.
use Rattle.std.specs.Prelude.{ℕ, zero, suc, ◌≡◌, ◌==◌, ◌&&◌, Option, Some, None, List, [], ◌∷◌, map, filter, get_or}
use Rattle.rb_base.specs.{Sizes.sync_slot_of, declared.values.Heard.Heard}
use Rattle.rb_rules.specs.{declared.record.SlotLine.SlotLine, Goodness.Scenario, Moments.before_stage, Ports.{PortState, HandIn, fresh_port, delivered_to}}

-- the one value in a slot's lines; none if there is no line
abbrev pub value_in_lines : List SlotLine → Option Heard
value_in_lines [] = None
value_in_lines (line ∷ lines) = Some line.value

-- what the bus delivers in a complete slot: a value in a data slot that is not idle, and otherwise
-- nothing
abbrev pub delivered_in : Scenario → List HandIn → ℕ → ℕ → Option Heard
delivered_in sc hands frame slot = value_in_lines (before_stage sc hands frame slot 3).book.lines

-- a port after what a slot delivered
abbrev pub with_delivery : Option Heard → PortState → PortState
with_delivery None port = port
with_delivery (Some value) port = delivered_to port value

-- the states that are handed to BIU i in a frame, in order
abbrev pub states_for : ℕ → ℕ → List HandIn → List ℕ
states_for i frame hands = map (λ h. h.state) (filter (λ h. (h.frame == frame) && (h.biu == i)) hands)

-- a port to which these were handed
abbrev pub with_states : List ℕ → PortState → PortState
with_states [] port = port
with_states (state ∷ states) port = with_states states (record port { state = state })

-- a port after the first slots of a frame
abbrev pub port_through : Scenario → List HandIn → ℕ → ℕ → PortState → PortState
port_through sc hands frame zero port = port
port_through sc hands frame (suc slot) port = with_delivery (delivered_in sc hands frame slot) (port_through sc hands frame slot port)

-- BIU i's port as a frame begins: its first word, then the values and hand-ins of all frames
-- before, then those of this one
abbrev pub port_begun : Scenario → List HandIn → ℕ → ℕ → PortState
port_begun sc hands i zero = with_states (states_for i 0 hands) (fresh_port (get_or sc.apps i 0) (get_or sc.words i 0))
port_begun sc hands i (suc frame) =
    with_states (states_for i (suc frame) hands) (port_through sc hands frame (sync_slot_of sc.sizes) (port_begun sc hands i frame))

-- the two BIUs have one application, one first word, and are handed the same
pub record AreAlike (sc : Scenario) (hands : List HandIn) (i j : ℕ) : Type 0 where
  pub app : get_or sc.apps i 0 ≡ get_or sc.apps j 0
  pub word : get_or sc.words i 0 ≡ get_or sc.words j 0
  pub hand_ins : (frame : ℕ) → states_for i frame hands ≡ states_for j frame hands
