-- The report of a run: the text of its records.
use Rattle.std.specs.{Prelude.{ℕ, List, [], ◌∷◌, ◌++◌, Some}, List.flat_map}
use Rattle.rb_rules.specs.{declared.record.NodeLine.NodeLine, declared.record.PortLine.PortLine, declared.record.SlotLine.SlotLine, Book.Record, Book.Record.{Frame, Slot, Ended, Breach}}
use Rattle.rb_report.specs.Report.{epoch_text, convicted_text, port_text, delivery_text, end_text, breach_text}

-- the block of a frame: the first tick of each node, then whom each holds convicted, then the ports
abbrev pub block_text : ℕ → List NodeLine → List PortLine → List ℕ
block_text frame nodes ports =
    flat_map (λ n. epoch_text frame n.node n.tick (Some n.time)) nodes
    ++ flat_map (λ n. convicted_text frame n.node n.biu n.rmu) nodes
    ++ flat_map (λ p. port_text frame p.biu p.state p.losses) ports

-- what was delivered in a slot, a line a receiver
abbrev pub deliveries_text : ℕ → ℕ → List SlotLine → List ℕ
deliveries_text frame slot lines = flat_map (λ l. delivery_text frame slot l.receiver l.sender l.value) lines

-- the text of records in order, the newest block before them being that of frame `newest`. A run
-- ends with the block after its last frame, so the number of that block is that of the frames
abbrev pub text_after : ℕ → List Record → List ℕ
text_after newest [] = []
text_after newest (Frame frame nodes ports ∷ records) = block_text frame nodes ports ++ text_after frame records
text_after newest (Slot frame slot lines ∷ records) = deliveries_text frame slot lines ++ text_after newest records
text_after newest (Ended ∷ records) = end_text newest ++ text_after newest records
text_after newest (Breach place cause ∷ records) = breach_text place cause ++ text_after newest records

abbrev pub report_of : List Record → List ℕ
report_of records = text_after 0 records
