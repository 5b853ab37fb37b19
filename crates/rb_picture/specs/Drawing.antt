-- What is drawn: the parts of a picture, each written behind a text.
use Rattle.std.specs.{Prelude.{ℕ, ◌+◌, ◌-◌, ◌*◌, ◌/◌, nat_lt, ◌==◌, ◌&&◌, not, List, [], ◌∷◌, ◌++◌, codes, slice_index_or, if◌then◌else◌}, Fmt.decimal}
use Rattle.rb_base.specs.{Nodes.{has, set_of, size}, declared.node.NodeName.NodeName, declared.values.Heard.Heard, declared.values.Heard.TheVariants.{Word, Fault}, declared.values.Place.Place}
use Rattle.rb_rules.specs.{declared.cause.Cause.Cause, declared.cause.Cause.TheVariants.{FewGoodBiu, FewGoodRmu, TwoSided}}
use Rattle.rb_report.specs.Report.{heard_text}
use Rattle.rb_picture.specs.{declared.column.Column.Column, declared.extent.Begins.Begins, declared.extent.Extent.Extent, declared.extent.Facts.Facts, declared.extent.Nodes.Nodes, declared.extent.Rows.Rows, declared.line.DeliveryLine.DeliveryLine, Extents.{biu_rows, rmu_rows, spread_of}, Markup.{each_below, with_box, with_label}, Places.{breach_area, cell_area, cell_width, close_area, column_left, grid_area, grid_left, is_behind, is_wide, names_left, panel_area, panel_top, row_top, slots_of, strip_area, tick_area}}

-- the looks of the senders' cells, by number
abbrev pub looks : List (List ℕ)
looks =
    codes "s0" ∷ codes "s1" ∷ codes "s2" ∷ codes "s3" ∷ codes "s4" ∷ codes "s5" ∷ codes "s6" ∷ codes "s7"
    ∷ codes "s8" ∷ codes "s9" ∷ codes "s10" ∷ codes "s11" ∷ codes "s12" ∷ codes "s13" ∷ codes "s14" ∷ codes "s15" ∷ []

abbrev pub look_of : ℕ → List ℕ
look_of sender = slice_index_or looks sender (codes "s15")

-- the look of a cell: that of the sender for a word, and another one for Fault
abbrev pub cell_look : ℕ → Heard → List ℕ
cell_look sender (Word word) = look_of sender
cell_look sender Fault = codes "none"

abbrev pub word_look : Heard → List ℕ
word_look (Word word) = codes "word"
word_look Fault = codes "nothing"

-- a delivery: a rectangle in the sender's color, and the word in it
unfoldable pub with_cell : Extent → List ℕ → DeliveryLine → List ℕ
with_cell extent text l =
    with_label (with_box text (cell_area extent l) (cell_look l.sender l.value)) (column_left extent l.slot + cell_width extent / 2) (row_top extent l.frame l.receiver + 15) (word_look l.value) [] (heard_text l.value)

-- the mark of a node that begins a frame `after` units after the first; it is not drawn for the
-- frame that would follow the run
unfoldable pub with_tick : Extent → List ℕ → ℕ → NodeName → ℕ → List ℕ
with_tick extent text frame node after =
    if is_behind extent frame then text else with_box text (tick_area extent frame node after) (codes "tick")

-- a cause, behind the place
abbrev pub cause_name : Cause → List ℕ
cause_name FewGoodBiu = codes ": FewGoodBiu"
cause_name FewGoodRmu = codes ": FewGoodRmu"
cause_name TwoSided = codes ": TwoSided"

-- what a cause means
abbrev pub cause_words : Cause → List ℕ
cause_words FewGoodBiu = codes "the good BIUs are no majority"
cause_words FewGoodRmu = codes "the good RMUs are no majority"
cause_words TwoSided = codes "one BIU, one RMU told two things"

-- the place at which the run broke off
abbrev pub place_words : Place → List ℕ
place_words place = ((((codes "Breach in frame " ++ decimal place.frame) ++ codes ", slot ") ++ decimal place.slot) ++ codes ", stage ") ++ decimal place.stage

-- the words under the title that say at which place and why the run broke off, and what a report
-- does not say
unfoldable pub with_breach_words : List ℕ → Place → Cause → List ℕ
with_breach_words text place cause =
    with_label (with_label (with_label text
    20 48 (codes "cause") (place_words place) (cause_name cause))
    20 66 (codes "cause") (cause_words cause) [])
    262 66 (codes "note") (codes "a report names no culprit") []

-- a breach: a line in the place, and the words
unfoldable pub with_breach : Extent → List ℕ → Place → Cause → List ℕ
with_breach extent text place cause = with_breach_words (with_box text (breach_area extent place) (codes "breach")) place cause

-- under the title, that the run came to its end
unfoldable pub with_ending : List ℕ → List ℕ
with_ending text = with_label text 20 52 (codes "note") (codes "The run came to its end.") []

-- the owner of a slot stands at its column
unfoldable pub with_owner : Extent → List ℕ → Column → List ℕ
with_owner extent text column =
    with_label text (column_left extent column.slot + cell_width extent / 2) (panel_top extent column.frame + 58) (codes "owner") (codes "B") (decimal column.sender)

-- the name of a node in its row, and behind many columns once more
unfoldable pub with_name : Extent → ℕ → List ℕ → List ℕ → ℕ → ℕ → List ℕ
with_name extent frame text letter row number =
    let named : List ℕ = with_label text 20 (row_top extent frame row + 15) (codes "name") letter (decimal number) in
    if is_wide extent then with_label named (names_left extent) (row_top extent frame row + 15) (codes "name") letter (decimal number) else named

-- the names of nodes of a kind, in the rows behind the first `above` rows
unfoldable pub with_names_of : Extent → ℕ → List ℕ → ℕ → ℕ → List ℕ → List ℕ
with_names_of extent frame letter above count text = each_below (λ t i. with_name extent frame t letter (above + i) i) count text

-- the names of all nodes
unfoldable pub with_names : Extent → ℕ → List ℕ → List ℕ
with_names extent frame text =
    with_names_of extent frame (codes "R") extent.bius extent.rmus (with_names_of extent frame (codes "B") 0 extent.bius text)

-- the number of a slot above its column
unfoldable pub with_slot_number : Extent → ℕ → List ℕ → ℕ → List ℕ
with_slot_number extent frame text i =
    with_label text (grid_left extent + cell_width extent * i + cell_width extent / 2) (panel_top extent frame + 46) (codes "slot") [] (decimal (extent.low + i))

unfoldable pub with_slots : Extent → ℕ → List ℕ → List ℕ
with_slots extent frame text = each_below (with_slot_number extent frame) (slots_of extent) text

-- a cross in the row of a node that is convicted
unfoldable pub with_cross : ℕ → ℕ → List ℕ → ℕ → List ℕ
with_cross y set text i = if has set i then with_label text 60 y (codes "cross") (codes "X") [] else text

-- a word in the row of a node that has no line
unfoldable pub with_absence : ℕ → Rows → List ℕ → ℕ → List ℕ
with_absence y rows text i =
    if nat_lt i rows.count && not (has rows.present i) then with_label text 100 y (codes "absent") (codes "absent") [] else text

-- what is known of a node in its row
unfoldable pub with_state : Extent → ℕ → Rows → List ℕ → ℕ → List ℕ
with_state extent frame rows text i =
    with_absence (row_top extent frame (rows.above + i) + 15) rows (with_cross (row_top extent frame (rows.above + i) + 15) rows.convicted text i) i

-- in the rows of a kind
unfoldable pub with_states_of : Extent → ℕ → Rows → List ℕ → List ℕ
with_states_of extent frame rows text = each_below (with_state extent frame rows) 16 text

unfoldable pub with_states : Extent → ℕ → Facts → List ℕ → List ℕ
with_states extent frame facts text =
    with_states_of extent frame (rmu_rows extent facts) (with_states_of extent frame (biu_rows extent facts) text)

-- the unit of a spread that is not 0
abbrev pub spread_unit : Extent → List ℕ
spread_unit extent = if extent.spread == 0 then [] else codes " units of time"

-- the spread of a frame's starts
abbrev pub spread_words : Begins → List ℕ
spread_words begins = codes "spread " ++ decimal (spread_of begins)

-- the axis of the starts, if they spread: from the first start to the greatest spread
unfoldable pub with_axis : Extent → ℕ → List ℕ → List ℕ
with_axis extent frame text =
    if extent.spread == 0 then text
    else with_label (with_label (with_label (with_box text
    (strip_area extent frame) (codes "strip"))
    92 (panel_top extent frame + 46) (codes "scale") (codes "time after the first node") [])
    92 (panel_top extent frame + 62) (codes "scale") (codes "0") [])
    260 (panel_top extent frame + 62) (codes "most") [] (decimal extent.spread)

-- the ground of a frame: its number, the spread of its starts, and the columns
unfoldable pub with_ground : Extent → ℕ → Facts → List ℕ → List ℕ
with_ground extent frame facts text =
    with_box (with_label (with_label (with_label (with_box text (panel_area extent frame) (codes "panel"))
    20 (panel_top extent frame + 24) (codes "title") (codes "frame ") (decimal frame))
    150 (panel_top extent frame + 24) (codes "note") (spread_words facts.begins) (spread_unit extent))
    (grid_left extent - 13) (panel_top extent frame + 46) (codes "slot") (codes "slot") [])
    (grid_area extent frame) (codes "grid")

-- a frame without what is in its cells
unfoldable pub with_whole : Extent → ℕ → Facts → List ℕ → List ℕ
with_whole extent frame facts text =
    with_states extent frame facts (with_slots extent frame (with_names extent frame (with_axis extent frame (with_ground extent frame facts text))))

-- how many nodes of the set stand before this one
abbrev pub rank : ℕ → ℕ → ℕ
rank set i = size (set_of (λ j. has (set_of (λ k. nat_lt k i)) j && has set j))

-- the name of node i if it is in the set, in a row of names behind `before` others
unfoldable pub with_named : ℕ → ℕ → List ℕ → ℕ → ℕ → List ℕ → ℕ → List ℕ
with_named x y letter before set text i =
    if has set i then with_label text (x + 34 * (before + rank set i)) y (codes "newcomer") letter (decimal i) else text

unfoldable pub with_named_of : ℕ → ℕ → List ℕ → ℕ → ℕ → List ℕ → List ℕ
with_named_of x y letter before set text = each_below (with_named x y letter before set) 16 text

-- the names of these nodes in a row
unfoldable pub with_names_in : ℕ → ℕ → Nodes → List ℕ → List ℕ
with_names_in x y nodes text =
    with_named_of x y (codes "R") (size nodes.biu) nodes.rmu (with_named_of x y (codes "B") 0 nodes.biu text)

-- if no node is convicted
abbrev pub nobody_of : Nodes → List ℕ
nobody_of nodes = if size nodes.biu + size nodes.rmu == 0 then codes " nobody" else []

-- behind the panels: what the nodes hold as they begin the frame that would follow the run
unfoldable pub with_close : Extent → ℕ → Facts → List ℕ → List ℕ
with_close extent frame facts text =
    with_names_in 92 (panel_top extent frame + 48) facts.convicted (with_label (with_label (with_label (with_box text (close_area extent frame) (codes "panel"))
    20 (panel_top extent frame + 24) (codes "title") (codes "after the run") [])
    150 (panel_top extent frame + 24) (codes "note") (spread_words facts.begins) (spread_unit extent))
    20 (panel_top extent frame + 48) (codes "note") (codes "convicted:") (nobody_of facts.convicted))

-- a frame without what is in its cells, or what follows the run
unfoldable pub with_panel : Extent → ℕ → Facts → List ℕ → List ℕ
with_panel extent frame facts text = if is_behind extent frame then with_close extent frame facts text else with_whole extent frame facts text

-- a sender's color
unfoldable pub with_sender : List ℕ → ℕ → List ℕ
with_sender text i =
    with_label (with_box text (record { x = 20 + 60 * i; y = 80; width = 16; height = 16 }) (look_of i)) (42 + 60 * i) 93 (codes "name") (codes "B") (decimal i)

-- what is in a cell without a word, and at a node, means
unfoldable pub with_marks : List ℕ → List ℕ
with_marks text =
    with_label (with_label (with_label (with_label (with_box text
    (record { x = 20; y = 105; width = 36; height = 18 }) (codes "none"))
    38 119 (codes "nothing") (codes "none") [])
    64 119 (codes "note") (codes "no majority") [])
    240 119 (codes "cross") (codes "X") [])
    258 119 (codes "note") (codes "convicted") []

-- what is drawn at a time means
unfoldable pub with_strokes : List ℕ → List ℕ
with_strokes text =
    with_label (with_box (with_label (with_box text
    (record { x = 20; y = 130; width = 4; height = 14 }) (codes "tick"))
    32 142 (codes "note") (codes "a good node begins the frame") [])
    (record { x = 240; y = 128; width = 3; height = 18 }) (codes "breach"))
    258 142 (codes "note") (codes "breach of the fault premise") []

-- what the word in the row of a node without lines means
unfoldable pub with_absent : List ℕ → List ℕ
with_absent text =
    with_label (with_label text 20 165 (codes "absent") (codes "absent") []) 70 165 (codes "note") (codes "no line of this node: it is faulty, or not in the bus") []

-- all senders' colors
unfoldable pub with_senders : Extent → List ℕ → List ℕ
with_senders extent text = each_below with_sender extent.bius text

unfoldable pub with_legend : Extent → List ℕ → List ℕ
with_legend extent text = with_absent (with_strokes (with_marks (with_senders extent text)))
