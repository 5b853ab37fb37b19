-- What is behind a BIU: its application, and the port that hands words over.
use Rattle.std.specs.Prelude.{ℕ, zero, suc, ◌+◌, ◌*◌, ◌^◌, ◌%◌, ◌==◌, Bool, true, false, if◌then◌else◌, Option, Some, None, List, [], ◌∷◌, take}
use Rattle.rb_base.specs.{Counting.count_if, declared.values.Heard.Heard, declared.values.Heard.TheVariants.{Word, Fault}}

-- the word that an application offers for a slot, modulo 2 ^ 32: `table` (0) and `counter` (1)
-- offer their state, `follow` (2) its state plus the number of the slot
abbrev pub offered_by : ℕ → ℕ → ℕ → ℕ
offered_by app state slot = (if app == 2 then state + slot else state) % 2 ^ 32

abbrev pub word_or_0 : Option ℕ → ℕ
word_or_0 None = 0
word_or_0 (Some word) = word

-- an application's state after a delivery; `word` is none if the delivery is Fault. `table` keeps
-- its state, `counter` counts, `follow` mixes the word in
abbrev pub learned_by : ℕ → ℕ → Option ℕ → ℕ
learned_by app state word =
    if app == 1 then (state + 1) % 2 ^ 64 else (if app == 2 then (31 * state + word_or_0 word) % 2 ^ 64 else state)

-- the word of a value, if it is one
abbrev pub word_in : Heard → Option ℕ
word_in (Word word) = Some word
word_in Fault = None

abbrev pub is_fault : Heard → Bool
is_fault (Word word) = false
is_fault Fault = true

-- a port: its application, the state of that, and for each delivery whether it was Fault, the
-- newest first
pub record PortState : Type 0 where
  pub app : ℕ
  pub state : ℕ
  pub faults : List Bool

abbrev pub fresh_port : ℕ → ℕ → PortState
fresh_port app state = record { app = app; state = state; faults = [] }

-- what the port offers for a slot
abbrev pub offered_at : PortState → ℕ → ℕ
offered_at port slot = offered_by port.app port.state slot

-- the port after a delivery
abbrev pub delivered_to : PortState → Heard → PortState
delivered_to port value =
    record { app = port.app; state = learned_by port.app port.state (word_in value); faults = is_fault value ∷ port.faults }

-- how many of the last 64 deliveries were Fault
abbrev pub losses_of : PortState → ℕ
losses_of port = count_if (λ fault. fault) (take 64 port.faults)

-- a state that is handed to the port of a BIU at the start of a frame
pub record HandIn : Type 0 where
  pub frame : ℕ
  pub biu : ℕ
  pub state : ℕ

-- the ports, with the state of BIU i's port replaced by `state`
abbrev pub with_state : ℕ → ℕ → List PortState → List PortState
with_state i state [] = []
with_state zero state (port ∷ ports) = record port { state = state } ∷ ports
with_state (suc i) state (port ∷ ports) = port ∷ with_state i state ports

-- the ports after the hand-ins of a frame, in their order
abbrev pub hand_over : ℕ → List HandIn → List PortState → List PortState
hand_over frame [] ports = ports
hand_over frame (h ∷ hs) ports = hand_over frame hs (if h.frame == frame then with_state h.biu h.state ports else ports)
