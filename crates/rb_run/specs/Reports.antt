-- The report of a run, turn by turn.
use Rattle.std.specs.{Prelude.{ℕ, Option, Some, None, List, [], ◌∷◌}, List.flat_map}
use Rattle.rb_rules.specs.{declared.record.NodeLine.NodeLine, declared.record.PortLine.PortLine, Book.Record, Book.Record.{Frame, Slot, Ended, Breach}}
use Rattle.rb_report.specs.{Report.{breach_text, convicted_text, end_text, epoch_text, port_text}, Texts.{block_text, deliveries_text}}

-- the parts of a frame's block, each a line a node or a port
abbrev pub epochs_text : ℕ → List NodeLine → List ℕ
epochs_text frame nodes = flat_map (λ n. epoch_text frame n.node n.tick (Some n.time)) nodes

abbrev pub convictions_text : ℕ → List NodeLine → List ℕ
convictions_text frame nodes = flat_map (λ n. convicted_text frame n.node n.biu n.rmu) nodes

abbrev pub ports_text : ℕ → List PortLine → List ℕ
ports_text frame ports = flat_map (λ p. port_text frame p.biu p.state p.losses) ports

-- the text of a turn that is this record, the newest block before it being that of frame `newest`
abbrev pub turn_text : ℕ → Option Record → List ℕ
turn_text newest None = []
turn_text newest (Some (Frame frame nodes ports)) = block_text frame nodes ports
turn_text newest (Some (Slot frame slot lines)) = deliveries_text frame slot lines
turn_text newest (Some Ended) = end_text newest
turn_text newest (Some (Breach place cause)) = breach_text place cause

-- the number of the newest block after it
abbrev pub newest_with : ℕ → Option Record → ℕ
newest_with newest None = newest
newest_with newest (Some (Frame frame nodes ports)) = frame
newest_with newest (Some (Slot frame slot lines)) = newest
newest_with newest (Some Ended) = newest
newest_with newest (Some (Breach place cause)) = newest

-- the newest block after several records
abbrev pub newest_after : ℕ → List Record → ℕ
newest_after newest [] = newest
newest_after newest (r ∷ rs) = newest_after (newest_with newest (Some r)) rs
