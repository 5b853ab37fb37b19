-- The four numbers of a run.
use Rattle.std.specs.{Prelude.{ℕ, ◌+◌, ◌-◌, max, Option, Some, None, List, [], ◌∷◌, filter_map, length, map}, List.{flat_map, last_or}}
use Rattle.rb_base.specs.Nodes.{size}
use Rattle.rb_rules.specs.{declared.record.NodeLine.NodeLine, declared.record.SlotLine.SlotLine, Book.Record, Book.Record.{Frame, Slot, Ended, Breach}}
use Rattle.rb_world_book.specs.declared.turn.Turn.{Turn}
use Rattle.rb_run.specs.{declared.totals.Totals.Totals, Turns.records_in}

-- the first part of a frame's block: a line for each node
pub record Block : Type 0 where
  pub frame : ℕ
  pub nodes : List NodeLine

abbrev pub block_in : Record → Option Block
block_in (Frame frame nodes ports) = Some (record { frame = frame; nodes = nodes })
block_in (Slot frame slot lines) = None
block_in Ended = None
block_in (Breach place cause) = None

abbrev pub blocks_of : List Record → List Block
blocks_of records = filter_map block_in records

-- the number of the last block. If the run ends without a breach, it is the number of the frames
abbrev pub frames_in : Option Block → ℕ
frames_in None = 0
frames_in (Some b) = b.frame

-- how many nodes the first line says are convicted
abbrev pub convicted_in_first : List NodeLine → ℕ
convicted_in_first [] = 0
convicted_in_first (l ∷ ls) = size l.biu + size l.rmu

abbrev pub convicted_in : Option Block → ℕ
convicted_in None = 0
convicted_in (Some b) = convicted_in_first b.nodes

-- what was delivered in a slot, Fault too
abbrev pub lines_in : Record → List SlotLine
lines_in (Frame frame nodes ports) = []
lines_in (Slot frame slot lines) = lines
lines_in Ended = []
lines_in (Breach place cause) = []

-- how much later each node's first tick is than each other's
abbrev pub differences_in : List NodeLine → List ℕ
differences_in nodes = flat_map (λ later. map (λ earlier. later.time - earlier.time) nodes) nodes

abbrev pub greatest : List ℕ → ℕ
greatest [] = 0
greatest (n ∷ ns) = max n (greatest ns)

-- the number of frames, how much was delivered, how many nodes are convicted in the last block, and
-- the greatest difference of times within one block
abbrev pub tally_of : List Record → Totals
tally_of records = record {
  frames = frames_in (last_or None (blocks_of records));
  deliveries = length (flat_map lines_in records);
  convicted = convicted_in (last_or None (blocks_of records));
  spread = greatest (flat_map (λ b. differences_in b.nodes) (blocks_of records));
}

-- the totals of the records that these turns are
abbrev pub totals_of : List Turn → Totals
totals_of turns = tally_of (records_in turns)

-- Turn by turn.

-- the numbers after a turn that is this record
abbrev pub counted : Totals → Option Record → Totals
counted t None = t
counted t (Some (Frame frame nodes ports)) = record {
  frames = frame;
  deliveries = t.deliveries;
  convicted = convicted_in_first nodes;
  spread = max t.spread (greatest (differences_in nodes));
}
counted t (Some (Slot frame slot lines)) = record t { deliveries = t.deliveries + length lines }
counted t (Some Ended) = t
counted t (Some (Breach place cause)) = t
