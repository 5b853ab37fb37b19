-- A picture: what it shows of the lines of a report, and its text.
use Rattle.std.specs.{Prelude.{ℕ, ◌-◌, ◌==◌, if◌then◌else◌, List, [], ◌∷◌, ◌++◌, codes}, List.filter}
use Rattle.rb_base.specs.{declared.node.NodeName.NodeName, declared.values.Place.Place}
use Rattle.rb_rules.specs.declared.cause.Cause.{Cause}
use Rattle.rb_picture.specs.{declared.line.Line.Line, declared.line.DeliveryLine.DeliveryLine, declared.column.Column.Column, declared.extent.Extent.Extent, declared.extent.Facts.Facts, declared.drawn.Panel.Panel, declared.drawn.Stand.Stand, declared.sheet.Sheet.Sheet, declared.sheet.View.View, declared.sheet.View.TheVariants.{Panels, Overview}, Columns.{column_with, no_column}, Drawing.{with_breach, with_cell, with_ending, with_owner, with_panel, with_tick}, Headings.{with_heading, with_key}, Overview.{with_break, with_row, with_square}, Sheets.{sheet_height, sheet_width}, Extents.{facts_of, is_asked, mark_of, no_facts}, Markup.with_opening}
use Rattle.rb_picture.specs.declared.line.Line.TheVariants as line

-- a part of a picture
pub data Piece : Type 0 where
  Ground : (frame : ℕ) (before facts : Facts) → Piece  -- the ground of a frame, with the facts before and in it
  Head : (column : Column) → Piece  -- the head of a slot in which something is delivered
  Tick : (frame : ℕ) (node : NodeName) (after : ℕ) → Piece  -- the mark of a node that begins `after` units after the first
  Cell : (delivery : DeliveryLine) → Piece
  Break : (place : Place) (cause : Cause) → Piece
  Ending : (frames : ℕ) → Piece

-- a part behind a text
abbrev pub with_part : View → Extent → List ℕ → Piece → List ℕ
with_part Panels extent text (Ground frame before facts) = with_panel extent frame facts text
with_part Panels extent text (Head column) = with_owner extent text column
with_part Panels extent text (Tick frame node after) = with_tick extent text frame node after
with_part Panels extent text (Cell l) = with_cell extent text l
with_part Panels extent text (Break place cause) = with_breach extent text place cause
with_part Panels extent text (Ending frames) = with_ending text
with_part Overview extent text (Ground frame before facts) = with_row extent frame before.convicted facts.convicted text
with_part Overview extent text (Head column) = with_square extent text column
with_part Overview extent text (Tick frame node after) = text
with_part Overview extent text (Cell l) = text
with_part Overview extent text (Break place cause) = with_break extent text place cause
with_part Overview extent text (Ending frames) = with_ending text

abbrev pub with_piece : Sheet → List ℕ → Piece → List ℕ
with_piece sheet text piece = with_part sheet.view sheet.extent text piece

abbrev pub with_pieces : Sheet → List ℕ → List Piece → List ℕ
with_pieces sheet text [] = text
with_pieces sheet text (piece ∷ pieces) = with_pieces sheet (with_piece sheet text piece) pieces

-- what a line shows in a frame of which this is known
abbrev pub pieces_of_line : Facts → Line → List Piece
pieces_of_line facts (line.Epoch l) = Tick l.frame l.node (l.time - facts.begins.least) ∷ []
pieces_of_line facts (line.Convicted l) = []
pieces_of_line facts (line.Port l) = []
pieces_of_line facts (line.Delivery l) = Cell l ∷ []
pieces_of_line facts (line.End frames) = Ending frames ∷ []
pieces_of_line facts (line.Breach place cause) = Break place cause ∷ []

-- the frame of a line, and that of the panel for the end of a run
abbrev pub frame_of : ℕ → Line → ℕ
frame_of frame (line.Epoch l) = l.frame
frame_of frame (line.Convicted l) = l.frame
frame_of frame (line.Port l) = l.frame
frame_of frame (line.Delivery l) = l.frame
frame_of frame (line.End frames) = frame
frame_of frame (line.Breach place cause) = place.frame

-- before any line
abbrev pub no_panel : Panel
no_panel = record { mark = 0; frame = 0; facts = no_facts }

-- the panel of a line, which is the first of these lines: another one if it is the first of its
-- frame
abbrev pub panel_with : Panel → Line → List Line → Panel
panel_with panel l lines =
    if mark_of panel.mark l == panel.mark
    then panel
    else record { mark = mark_of panel.mark l; frame = frame_of panel.frame l; facts = facts_of (mark_of panel.mark l) lines }

-- the frame and the slot that are drawn
abbrev pub no_stand : Stand
no_stand = record { panel = no_panel; column = no_column }

abbrev pub stand_with : Stand → Line → List Line → Stand
stand_with stand l lines = record { panel = panel_with stand.panel l lines; column = column_with stand.column l lines }

abbrev pub stand_at : Stand → Line → List Line → Stand
stand_at stand l lines = stand_with stand l (l ∷ lines)

-- the ground of another panel
abbrev pub ground_of : Panel → Panel → List Piece
ground_of before after = if after.mark == before.mark then [] else Ground after.frame before.facts after.facts ∷ []

-- the head of another column
abbrev pub head_of : Column → Column → List Piece
head_of before after = if after.mark == before.mark then [] else Head after ∷ []

-- what a line shows with which one stand is followed by another
abbrev pub pieces_at : Stand → Stand → Line → List Piece
pieces_at before after l = ground_of before.panel after.panel ++ (head_of before.column after.column ++ pieces_of_line after.panel.facts l)

-- what lines show
abbrev pub pieces_from : Stand → List Line → List Piece
pieces_from stand [] = []
pieces_from stand (l ∷ lines) = pieces_at stand (stand_at stand l lines) l ++ pieces_from (stand_at stand l lines) lines

abbrev pub pieces_of : List Line → List Piece
pieces_of lines = pieces_from no_stand lines

-- the text of a picture of these lines
unfoldable pub picture_text : List ℕ → Sheet → List Line → List ℕ
picture_text style sheet lines =
    with_pieces sheet (with_key sheet.view sheet.extent (with_heading sheet (with_opening [] (sheet_width sheet) (sheet_height sheet) style))) (pieces_of lines)
    ++ codes "</svg>\n"

-- the lines of the frames from first to last
abbrev pub asked_of : ℕ → ℕ → List Line → List Line
asked_of first last lines = filter (is_asked first last) lines
