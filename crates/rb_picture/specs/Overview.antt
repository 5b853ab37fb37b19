-- An overview: a row for each frame, a cell for each slot, in bands side by side.
use Rattle.std.specs.{Prelude.{ℕ, ◌+◌, ◌-◌, ◌*◌, ◌/◌, ◌%◌, min, max, nat_le, ◌==◌, ◌&&◌, not, Bool, if◌then◌else◌, List, [], codes}, Fmt.decimal}
use Rattle.rb_base.specs.{Nodes.{has, set_of}, declared.values.Place.Place}
use Rattle.rb_rules.specs.declared.cause.Cause.{Cause}
use Rattle.rb_picture.specs.{declared.column.Column.Column, declared.column.Outcome.Outcome, declared.column.Outcome.TheVariants.{Agree, Silent, Differ}, declared.extent.Extent.Extent, declared.extent.Nodes.Nodes, declared.markup.Area.Area, Drawing.{with_breach_words, with_names_in}, Markup.{each_below, with_box, with_label}, Places.{is_behind, slots_of}}

-- how many frames are drawn
abbrev pub frames_of : Extent → ℕ
frames_of extent = extent.last + 1 - extent.first

-- the most rows of a band
abbrev pub band_rows : ℕ
band_rows = 1200

-- the more there are, the smaller they are
abbrev pub row_height : Extent → ℕ
row_height extent =
    if nat_le (frames_of extent) 300 then 12
    else if nat_le (frames_of extent) 600 then 6
    else 3

abbrev pub slot_width : Extent → ℕ
slot_width extent = max 1 (min 80 (320 / max 1 (slots_of extent)))

-- the number of a frame, its cells, and two names
abbrev pub band_width : Extent → ℕ
band_width extent = 120 + slot_width extent * slots_of extent

abbrev pub overview_width : Extent → ℕ
overview_width extent = max 440 (20 + band_width extent * ((frames_of extent + 1199) / band_rows))

abbrev pub overview_height : Extent → ℕ
overview_height extent = 188 + row_height extent * min (frames_of extent) band_rows

-- the left edge of a frame's row
abbrev pub frame_left : Extent → ℕ → ℕ
frame_left extent frame = 20 + band_width extent * ((frame - extent.first) / band_rows)

abbrev pub frame_top : Extent → ℕ → ℕ
frame_top extent frame = 176 + row_height extent * ((frame - extent.first) % band_rows)

-- the area of a row, and that of one of its cells
abbrev pub row_area : Extent → ℕ → Area
row_area extent frame =
    record { x = frame_left extent frame + 48; y = frame_top extent frame; width = slot_width extent * slots_of extent; height = row_height extent }

abbrev pub square_area : Extent → ℕ → ℕ → Area
square_area extent frame slot =
    record { x = frame_left extent frame + 48 + slot_width extent * (slot - extent.low); y = frame_top extent frame; width = slot_width extent; height = row_height extent }

-- behind the cells
abbrev pub row_end : Extent → ℕ → ℕ
row_end extent frame = frame_left extent frame + 52 + slot_width extent * slots_of extent

-- whether the number of this frame is written: 60 pixels or more lie between two
abbrev pub is_numbered : Extent → ℕ → Bool
is_numbered extent frame = frame % (60 / row_height extent) == 0

-- the number of a slot is written above its column if it is a multiple of this
abbrev pub slot_step : Extent → ℕ
slot_step extent =
    if nat_le (slots_of extent) 16 then 1
    else if nat_le (slots_of extent) 64 then 5
    else 50

-- the nodes of the second set that are not in the first
abbrev pub newly : ℕ → ℕ → ℕ
newly before after = set_of (λ i. has after i && not (has before i))

-- the nodes that are convicted now and were not before
abbrev pub newcomers : Nodes → Nodes → Nodes
newcomers before after = record { biu = newly before.biu after.biu; rmu = newly before.rmu after.rmu }

-- the number of a frame
unfoldable pub with_frame_number : Extent → List ℕ → ℕ → List ℕ
with_frame_number extent text frame =
    if is_numbered extent frame then with_label text (frame_left extent frame) (frame_top extent frame + 10) (codes "note") [] (decimal frame) else text

-- the number of a slot, above the row of a frame
unfoldable pub with_slot_name : Extent → ℕ → List ℕ → ℕ → List ℕ
with_slot_name extent frame text i =
    if (extent.low + i) % slot_step extent == 0
    then with_label text (frame_left extent frame + 48 + slot_width extent * i + slot_width extent / 2) 170 (codes "slot") [] (decimal (extent.low + i))
    else text

unfoldable pub with_slot_names : Extent → ℕ → List ℕ → List ℕ
with_slot_names extent frame text = each_below (with_slot_name extent frame) (slots_of extent) text

-- above the first row of a band, what its rows and columns are
unfoldable pub with_axes : Extent → ℕ → List ℕ → List ℕ
with_axes extent frame text =
    with_slot_names extent frame (with_label (with_label text
    (frame_left extent frame) 170 (codes "scale") (codes "frame") [])
    (frame_left extent frame + 48) 156 (codes "scale") (codes "slot") [])

unfoldable pub with_axes_at : Extent → ℕ → List ℕ → List ℕ
with_axes_at extent frame text = if (frame - extent.first) % band_rows == 0 then with_axes extent frame text else text

-- a frame's row without its cells: its number and its ground, or of the frame that would follow the
-- run a word
unfoldable pub with_line : Extent → ℕ → List ℕ → List ℕ
with_line extent frame text =
    if is_behind extent frame
    then with_label text (frame_left extent frame) (frame_top extent frame + 10) (codes "note") (codes "after") []
    else with_frame_number extent (with_box text (row_area extent frame) (codes "strip")) frame

-- the row of a frame with the names of the nodes that are convicted now and were not before
unfoldable pub with_row : Extent → ℕ → Nodes → Nodes → List ℕ → List ℕ
with_row extent frame before after text =
    with_names_in (row_end extent frame) (frame_top extent frame + 10) (newcomers before after) (with_line extent frame (with_axes_at extent frame text))

abbrev pub outcome_look : Outcome → List ℕ
outcome_look Agree = codes "agree"
outcome_look Silent = codes "silent"
outcome_look Differ = codes "differ"

-- a cell
unfoldable pub with_square : Extent → List ℕ → Column → List ℕ
with_square extent text column = with_box text (square_area extent column.frame column.slot) (outcome_look column.outcome)

-- a breach: its cell, and words
unfoldable pub with_break : Extent → List ℕ → Place → Cause → List ℕ
with_break extent text place cause = with_breach_words (with_box text (square_area extent place.frame place.slot) (codes "breach")) place cause

-- a sign, and beside it what it means
unfoldable pub with_sign : List ℕ → ℕ → ℕ → List ℕ → List ℕ → List ℕ
with_sign text x y look meaning =
    with_label (with_box text (record { x = x; y = y; width = 20; height = 12 }) look) (x + 26) (y + 10) (codes "note") meaning []

-- what the cells mean
unfoldable pub with_outcomes : List ℕ → List ℕ
with_outcomes text =
    with_sign (with_sign (with_sign text
    20 80 (codes "agree") (codes "all deliver one word"))
    230 80 (codes "silent") (codes "all deliver none"))
    20 102 (codes "differ") (codes "they do not deliver the same")

-- what the other signs mean
unfoldable pub with_signs : List ℕ → List ℕ
with_signs text =
    with_label (with_label (with_sign (with_sign text
    230 102 (codes "strip") (codes "nothing delivered"))
    20 124 (codes "breach") (codes "breach of the fault premise"))
    230 134 (codes "newcomer") (codes "R2") [])
    256 134 (codes "note") (codes "convicted from this frame on") []

unfoldable pub with_signature : List ℕ → List ℕ
with_signature text = with_signs (with_outcomes text)
