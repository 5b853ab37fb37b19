-- The letters of a run, turn by turn.
use Rattle.std.specs.Prelude.{ℕ, Option, Some, None, List, []}
use Rattle.rb_rules.specs.{Book.Record, Book.Record.{Frame, Slot, Ended, Breach}}
use Rattle.rb_long_run.specs.Hearing.{Open, lines_text, with_lines}
use Rattle.rb_report.specs.Report.{breach_text, end_text}

-- the text of a turn that is this record, if these letters are open and the newest block before it
-- is that of frame `newest`
abbrev pub turn_text : ℕ → Open → Option Record → List ℕ
turn_text newest all None = []
turn_text newest all (Some (Frame frame nodes ports)) = []
turn_text newest all (Some (Slot frame slot lines)) = lines_text frame slot all lines
turn_text newest all (Some Ended) = end_text newest
turn_text newest all (Some (Breach place cause)) = breach_text place cause

-- the letters that are open after it
abbrev pub open_with : Open → Option Record → Open
open_with all None = all
open_with all (Some (Frame frame nodes ports)) = all
open_with all (Some (Slot frame slot lines)) = with_lines all lines
open_with all (Some Ended) = all
open_with all (Some (Breach place cause)) = all
