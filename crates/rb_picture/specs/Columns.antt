-- What the deliveries in a slot of a frame say together.
use Rattle.std.specs.Prelude.{ℕ, ◌+◌, ◌*◌, ◌==◌, Bool, true, false, if◌then◌else◌, List, [], ◌∷◌}
use Rattle.rb_base.specs.{declared.values.Heard.Heard, declared.values.Heard.TheVariants.{Word, Fault}}
use Rattle.rb_rules.specs.Majority.{same_heard}
use Rattle.rb_picture.specs.{declared.line.DeliveryLine.DeliveryLine, declared.line.Line.Line, declared.column.Column.Column, declared.column.Outcome.Outcome, declared.column.Outcome.TheVariants.{Agree, Silent, Differ}}
use Rattle.rb_picture.specs.declared.line.Line.TheVariants as line

-- a number for the slot of a frame, above 0
abbrev pub slot_mark : DeliveryLine → ℕ
slot_mark l = l.frame * 65536 + l.slot + 1

abbrev pub line_mark : Line → ℕ
line_mark (line.Epoch l) = 0
line_mark (line.Convicted l) = 0
line_mark (line.Port l) = 0
line_mark (line.Delivery l) = slot_mark l
line_mark (line.End frames) = 0
line_mark (line.Breach place cause) = 0

-- whether the line is no delivery, or one of this
abbrev pub brings : Heard → Line → Bool
brings value (line.Epoch l) = true
brings value (line.Convicted l) = true
brings value (line.Port l) = true
brings value (line.Delivery l) = same_heard l.value value
brings value (line.End frames) = true
brings value (line.Breach place cause) = true

-- whether all deliveries in the slot with this mark, which stand first, bring this
abbrev pub all_bring : ℕ → Heard → List Line → Bool
all_bring mark value [] = true
all_bring mark value (l ∷ lines) =
    if line_mark l == mark then (if brings value l then all_bring mark value lines else false) else true

-- all deliver one word, all deliver none, or they differ
abbrev pub outcome_of : Bool → Heard → Outcome
outcome_of true (Word word) = Agree
outcome_of true Fault = Silent
outcome_of false value = Differ

abbrev pub column_of : DeliveryLine → List Line → Column
column_of l lines =
    record { mark = slot_mark l; frame = l.frame; slot = l.slot; sender = l.sender; outcome = outcome_of (all_bring (slot_mark l) l.value lines) l.value }

-- before any delivery
abbrev pub no_column : Column
no_column = record { mark = 0; frame = 0; slot = 0; sender = 0; outcome = Agree }

-- the column of a line, which is the first of these lines: another one if it is the first delivery
-- in its slot
abbrev pub column_with : Column → Line → List Line → Column
column_with column (line.Epoch l) lines = column
column_with column (line.Convicted l) lines = column
column_with column (line.Port l) lines = column
column_with column (line.Delivery l) lines = if slot_mark l == column.mark then column else column_of l lines
column_with column (line.End frames) lines = column
column_with column (line.Breach place cause) lines = column
