-- Words in which the records of the worked cases are said.
use Rattle.std.specs.{Prelude.{ℕ, ◌+◌, not, List, [], ◌∷◌, map, filter}, List.{list_any, range_with_len}}
use Rattle.rb_base.specs.{declared.node.NodeName.NodeName, declared.values.Heard.Heard, declared.values.Place.Place}
use Rattle.rb_rules.specs.{declared.record.NodeLine.NodeLine, declared.record.PortLine.PortLine, Book.Record, Book.Record.{Frame, Slot}, Links.same_node}
use Rattle.rb_test_rules.specs.Buses.{b, r}
use Rattle.rb_base.specs.declared.values.Heard.TheVariants as heard

abbrev pub word : ℕ → Heard
word w = heard.Word w

abbrev pub none : Heard
none = heard.Fault

abbrev pub at : ℕ → ℕ → ℕ → Place
at frame slot stage = record { frame = frame; slot = slot; stage = stage }

-- a node begins a frame at a tick and its time, and has convicted these BIUs and RMUs
abbrev pub begins : ℕ → ℕ → ℕ → ℕ → NodeName → NodeLine
begins tick time biu rmu node = record { node = node; tick = tick; time = time; biu = biu; rmu = rmu }

-- `nodes` begin a frame with the same tick, time and convictions
abbrev pub all_begin : ℕ → ℕ → ℕ → ℕ → ℕ → List NodeName → List PortLine → Record
all_begin frame tick time biu rmu nodes ports = Frame frame (map (begins tick time biu rmu) nodes) ports

abbrev pub everybody : List NodeName
everybody = b 0 ∷ b 1 ∷ b 2 ∷ b 3 ∷ r 0 ∷ r 1 ∷ r 2 ∷ []

abbrev pub all_but : List NodeName → List NodeName
all_but gone = filter (λ n. not (list_any (same_node n) gone)) everybody

abbrev pub port : ℕ → ℕ → ℕ → PortLine
port biu state losses = record { biu = biu; state = state; losses = losses }

abbrev pub usual_ports : List PortLine
usual_ports = port 0 10 0 ∷ port 1 20 0 ∷ port 2 30 0 ∷ port 3 40 0 ∷ []

-- `count` slots from `first` on without a delivery
abbrev pub silent : ℕ → ℕ → ℕ → List Record
silent frame first count = map (λ slot. Slot frame slot []) (range_with_len first count)

-- a slot in which these receivers deliver the sender's value
abbrev pub slot_of : ℕ → ℕ → ℕ × Heard → List ℕ → Record
slot_of frame slot sent receivers = Slot frame slot (map (λ i. record { receiver = i; sender = sent.0; value = sent.1 }) receivers)

-- slots one after another, each with its sender and value
abbrev pub delivered : ℕ → ℕ → List (ℕ × Heard) → List ℕ → List Record
delivered frame slot [] receivers = []
delivered frame slot (sent ∷ others) receivers = slot_of frame slot sent receivers ∷ delivered frame (slot + 1) others receivers

-- each BIU sends its word in two slots
abbrev pub usual_words : ℕ → List ℕ → List Record
usual_words frame receivers =
    delivered frame 4 ((0, word 10) ∷ (1, word 20) ∷ (2, word 30) ∷ (3, word 40) ∷ (0, word 10) ∷ (1, word 20) ∷ (2, word 30) ∷ (3, word 40) ∷ []) receivers
