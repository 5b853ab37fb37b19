-- The values of one slot of a frame, as they are kept turn by turn.
use Rattle.std.specs.Prelude.{ℕ, ◌≡◌, ◌<◌, ◌==◌, ◌&&◌, if◌then◌else◌, Option, Some, None, List, [], ◌∷◌, get_or, length}
use Rattle.rb_base.specs.declared.values.Heard.{Heard}
use Rattle.rb_rules.specs.{declared.record.SlotLine.SlotLine, Book.Record, Book.Record.{Frame, Slot, Ended, Breach}}

-- the value that a BIU delivered by the lines of a slot, its first
abbrev pub value_by : List SlotLine → ℕ → Option Heard
value_by [] biu = None
value_by (l ∷ ls) biu = if l.receiver == biu then Some l.value else value_by ls biu

-- the value that a BIU delivered by a record, if it is the record of this slot of this frame
abbrev pub value_with : ℕ → ℕ → Option Record → ℕ → Option Heard
value_with frame slot None biu = None
value_with frame slot (Some (Frame f nodes ports)) biu = None
value_with frame slot (Some (Slot f s lines)) biu = if (f == frame) && (s == slot) then value_by lines biu else None
value_with frame slot (Some Ended) biu = None
value_with frame slot (Some (Breach place cause)) biu = None

-- what is kept of the 16 BIUs that there may be is what was told of each
pub record HoldValues (told : ℕ → Option Heard) (kept : List (Option Heard)) : Type 0 where
  pub many : length kept ≡ 16
  pub each : (i : ℕ) → i < 16 → get_or kept i None ≡ told i
