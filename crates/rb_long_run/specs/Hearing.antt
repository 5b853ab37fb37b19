-- What the receivers of a bus hold, delivery by delivery.
use Rattle.std.specs.Prelude.{◌≡◌, ℕ, ◌<◌, Option, None, List, [], ◌∷◌, ◌++◌, get_or, length, slice_set, if◌then◌else◌}
use Rattle.rb_rules.specs.declared.record.SlotLine.{SlotLine}
use Rattle.rb_long.specs.{Delivered.{is_named, open_at}, Reading.{OpenLetter, Read, with_value}}
use Rattle.rb_long_run.specs.Reports.{given_text}

-- the letters that are open, by receiver and sender
abbrev pub Open : Type 0
Open = List (List (Option OpenLetter))

-- each receiver holds of each sender the letter that is open after the deliveries `past`
pub record Hears (all : Open) (past : List SlotLine) : Type 0 where
  pub many : length all ≡ 16
  pub each : (r : ℕ) → r < 16 → length (get_or all r []) ≡ 16
  pub known : (r s : ℕ) → r < 16 → s < 16 → get_or (get_or all r []) s None ≡ open_at r s past

-- what comes of a delivery
abbrev pub read_of : Open → SlotLine → Read
read_of letters line = with_value line.value (get_or (get_or letters line.receiver []) line.sender None)

abbrev pub letter_of : Open → SlotLine → Option (List ℕ)
letter_of letters line = if is_named line then (read_of letters line).given else None

abbrev pub with_line : Open → SlotLine → Open
with_line letters line =
    if is_named line
    then slice_set letters line.receiver (slice_set (get_or letters line.receiver []) line.sender (read_of letters line).after)
    else letters

-- the open letters after the lines of a slot
abbrev pub with_lines : Open → List SlotLine → Open
with_lines letters [] = letters
with_lines letters (line ∷ lines) = with_lines (with_line letters line) lines

abbrev pub lines_text : ℕ → ℕ → Open → List SlotLine → List ℕ
lines_text frame slot letters [] = []
lines_text frame slot letters (line ∷ lines) =
    given_text frame slot line (letter_of letters line) ++ lines_text frame slot (with_line letters line) lines
