-- The letters of a run, as text.
use Rattle.std.specs.{Prelude.{ℕ, Option, Some, None, List, [], ◌∷◌, ◌++◌}, List.flat_map}
use Rattle.rb_rules.specs.{declared.record.SlotLine.SlotLine, Book.Record, Book.Record.{Frame, Slot, Ended, Breach}}
use Rattle.rb_long.specs.{Delivered.letter_with, Spelling.spelling_of}
use Rattle.rb_report.specs.Report.{breach_text, end_text, letter_text, word_text}

-- a line if a delivery gives a letter
abbrev pub given_text : ℕ → ℕ → SlotLine → Option (List ℕ) → List ℕ
given_text frame slot line None = []
given_text frame slot line (Some letter) = letter_text frame slot line.receiver line.sender letter

-- the letters that the deliveries of a slot give after these, by receiver
abbrev pub slot_text : ℕ → ℕ → List SlotLine → List SlotLine → List ℕ
slot_text frame slot past [] = []
slot_text frame slot past (line ∷ lines) =
    given_text frame slot line (letter_with past line) ++ slot_text frame slot (past ++ line ∷ []) lines

-- the text of records in order, after these deliveries, the newest block before them being that of
-- frame `newest`. A run ends with the block after its last frame, so the number of that block is
-- that of the frames
abbrev pub letters_after : ℕ → List SlotLine → List Record → List ℕ
letters_after newest past [] = []
letters_after newest past (Frame frame nodes ports ∷ records) = letters_after frame past records
letters_after newest past (Slot frame slot lines ∷ records) =
    slot_text frame slot past lines ++ letters_after newest (past ++ lines) records
letters_after newest past (Ended ∷ records) = end_text newest ++ letters_after newest past records
letters_after newest past (Breach place cause ∷ records) = breach_text place cause ++ letters_after newest past records

-- the letters of a run: a line for each, by slot and receiver, and how the run ends
abbrev pub letters_report : List Record → List ℕ
letters_report records = letters_after 0 [] records

-- a line for each word of a letter
abbrev pub spelling_text : List ℕ → List ℕ
spelling_text letter = flat_map word_text (spelling_of letter)
