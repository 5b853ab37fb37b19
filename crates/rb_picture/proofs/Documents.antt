-- a picture is one element
use Rattle.std.proofs.Common.{ℕ, ◌+◌, ◌-◌, ◌%◌, ◌==◌, ◌&&◌, nat_lt, not, List, [], ◌∷◌, codes}
use Rattle.rb_base.specs.{Nodes.{has, size}, declared.node.NodeName.NodeName, declared.values.Place.Place}
use Rattle.rb_rules.specs.declared.cause.Cause.{Cause}
use Rattle.rb_picture.specs.{declared.line.DeliveryLine.DeliveryLine, declared.extent.Extent.Extent, declared.extent.Facts.Facts, declared.extent.Nodes.Nodes, declared.extent.Rows.Rows, declared.column.Column.Column, declared.sheet.Sheet.Sheet, declared.sheet.View.View, declared.sheet.View.TheVariants.{Panels, Overview}, Headings.{with_frames, with_heading, with_key}, Overview.{band_rows, is_numbered, newcomers, slot_step, with_axes, with_axes_at, with_break, with_frame_number, with_line, with_outcomes, with_row, with_sign, with_signature, with_signs, with_slot_name, with_slot_names, with_square}, Sheets.{sheet_height, sheet_width}, Content.AddsContent, Markup.with_opening, Extents.{biu_rows, rmu_rows}, Places.{is_behind, is_wide, slots_of}, Drawing.{with_absence, with_absent, with_axis, with_breach, with_breach_words, with_cell, with_close, with_cross, with_ending, with_ground, with_legend, with_marks, with_name, with_named, with_named_of, with_names, with_names_in, with_names_of, with_owner, with_panel, with_sender, with_senders, with_slot_number, with_slots, with_state, with_states, with_states_of, with_strokes, with_tick, with_whole}, Picture.{Piece, picture_text, pieces_of, with_part, with_piece, with_pieces}, Picture.Piece.{Ground, Head, Tick, Cell, Break, Ending}, Laws.IsWellFormed}
use Rattle.rb_picture.proofs.{WellFormed.{adds_box, adds_each, adds_either, adds_if, adds_label, adds_more, adds_nothing}, Openings.document}

adds_cell : (extent : Extent) (t : List ℕ) (l : DeliveryLine) → AddsContent t (with_cell extent t l)
unfolding with_cell
adds_cell extent t l = adds_more (adds_label _ _ _ _ _ _) (adds_box _ _ _)

adds_tick : (extent : Extent) (t : List ℕ) (frame : ℕ) (node : NodeName) (after : ℕ) → AddsContent t (with_tick extent t frame node after)
unfolding with_tick
adds_tick extent t frame node after = adds_either (is_behind extent frame) _ _ _ adds_nothing (adds_box _ _ _)

adds_breach_words : (t : List ℕ) (place : Place) (cause : Cause) → AddsContent t (with_breach_words t place cause)
unfolding with_breach_words
adds_breach_words t place cause = adds_more (adds_label _ _ _ _ _ _) (adds_more (adds_label _ _ _ _ _ _) (adds_label _ _ _ _ _ _))

adds_breach : (extent : Extent) (t : List ℕ) (place : Place) (cause : Cause) → AddsContent t (with_breach extent t place cause)
unfolding with_breach
adds_breach extent t place cause = adds_more (adds_breach_words _ place cause) (adds_box _ _ _)

adds_ending : (t : List ℕ) → AddsContent t (with_ending t)
unfolding with_ending
adds_ending t = adds_label _ _ _ _ _ _

adds_owner : (extent : Extent) (t : List ℕ) (column : Column) → AddsContent t (with_owner extent t column)
unfolding with_owner
adds_owner extent t column = adds_label _ _ _ _ _ _

adds_name : (extent : Extent) (frame : ℕ) (t letter : List ℕ) (row number : ℕ) → AddsContent t (with_name extent frame t letter row number)
unfolding with_name
adds_name extent frame t letter row number = adds_more (adds_if (is_wide extent) _ _ (adds_label _ _ _ _ _ _)) (adds_label _ _ _ _ _ _)

adds_names_of : (extent : Extent) (frame : ℕ) (letter : List ℕ) (above count : ℕ) (t : List ℕ) → AddsContent t (with_names_of extent frame letter above count t)
unfolding with_names_of
adds_names_of extent frame letter above count t =
    adds_each (λ u i. with_name extent frame u letter (above + i) i) (λ u i. adds_name extent frame u letter (above + i) i) count t

adds_names : (extent : Extent) (frame : ℕ) (t : List ℕ) → AddsContent t (with_names extent frame t)
unfolding with_names
adds_names extent frame t =
    adds_more (adds_names_of extent frame (codes "R") extent.bius extent.rmus (with_names_of extent frame (codes "B") 0 extent.bius t))
    (adds_names_of extent frame (codes "B") 0 extent.bius t)

adds_slot_number : (extent : Extent) (frame : ℕ) (t : List ℕ) (i : ℕ) → AddsContent t (with_slot_number extent frame t i)
unfolding with_slot_number
adds_slot_number extent frame t i = adds_label _ _ _ _ _ _

adds_slots : (extent : Extent) (frame : ℕ) (t : List ℕ) → AddsContent t (with_slots extent frame t)
unfolding with_slots
adds_slots extent frame t = adds_each (with_slot_number extent frame) (adds_slot_number extent frame) (slots_of extent) t

adds_cross : (y set : ℕ) (t : List ℕ) (i : ℕ) → AddsContent t (with_cross y set t i)
unfolding with_cross
adds_cross y set t i = adds_if (has set i) _ _ (adds_label _ _ _ _ _ _)

adds_absence : (y : ℕ) (rows : Rows) (t : List ℕ) (i : ℕ) → AddsContent t (with_absence y rows t i)
unfolding with_absence
adds_absence y rows t i = adds_if (nat_lt i rows.count && not (has rows.present i)) _ _ (adds_label _ _ _ _ _ _)

adds_state : (extent : Extent) (frame : ℕ) (rows : Rows) (t : List ℕ) (i : ℕ) → AddsContent t (with_state extent frame rows t i)
unfolding with_state
adds_state extent frame rows t i = adds_more (adds_absence _ rows _ i) (adds_cross _ rows.convicted t i)

adds_states_of : (extent : Extent) (frame : ℕ) (rows : Rows) (t : List ℕ) → AddsContent t (with_states_of extent frame rows t)
unfolding with_states_of
adds_states_of extent frame rows t = adds_each (with_state extent frame rows) (adds_state extent frame rows) 16 t

adds_states : (extent : Extent) (frame : ℕ) (facts : Facts) (t : List ℕ) → AddsContent t (with_states extent frame facts t)
unfolding with_states
adds_states extent frame facts t =
    adds_more (adds_states_of extent frame (rmu_rows extent facts) (with_states_of extent frame (biu_rows extent facts) t))
    (adds_states_of extent frame (biu_rows extent facts) t)

adds_axis : (extent : Extent) (frame : ℕ) (t : List ℕ) → AddsContent t (with_axis extent frame t)
unfolding with_axis
adds_axis extent frame t =
    adds_either (extent.spread == 0) _ _ _ adds_nothing (adds_more (adds_label _ _ _ _ _ _) (adds_more (adds_label _ _ _ _ _ _) (adds_more (adds_label _ _ _ _ _ _) (adds_box _ _ _))))

adds_ground : (extent : Extent) (frame : ℕ) (facts : Facts) (t : List ℕ) → AddsContent t (with_ground extent frame facts t)
unfolding with_ground
adds_ground extent frame facts t =
    adds_more (adds_box _ _ _) (adds_more (adds_label _ _ _ _ _ _) (adds_more (adds_label _ _ _ _ _ _) (adds_more (adds_label _ _ _ _ _ _) (adds_box _ _ _))))

adds_whole : (extent : Extent) (frame : ℕ) (facts : Facts) (t : List ℕ) → AddsContent t (with_whole extent frame facts t)
unfolding with_whole
adds_whole extent frame facts t =
    adds_more (adds_states extent frame facts _)
    (adds_more (adds_slots extent frame _)
    (adds_more (adds_names extent frame _)
    (adds_more (adds_axis extent frame _) (adds_ground extent frame facts t))))

adds_named : (x y : ℕ) (letter : List ℕ) (before set : ℕ) (t : List ℕ) (i : ℕ) → AddsContent t (with_named x y letter before set t i)
unfolding with_named
adds_named x y letter before set t i = adds_if (has set i) _ _ (adds_label _ _ _ _ _ _)

adds_named_of : (x y : ℕ) (letter : List ℕ) (before set : ℕ) (t : List ℕ) → AddsContent t (with_named_of x y letter before set t)
unfolding with_named_of
adds_named_of x y letter before set t = adds_each (with_named x y letter before set) (adds_named x y letter before set) 16 t

adds_names_in : (x y : ℕ) (nodes : Nodes) (t : List ℕ) → AddsContent t (with_names_in x y nodes t)
unfolding with_names_in
adds_names_in x y nodes t = adds_more (adds_named_of x y (codes "R") (size nodes.biu) nodes.rmu _) (adds_named_of x y (codes "B") 0 nodes.biu t)

adds_close : (extent : Extent) (frame : ℕ) (facts : Facts) (t : List ℕ) → AddsContent t (with_close extent frame facts t)
unfolding with_close
adds_close extent frame facts t =
    adds_more (adds_names_in _ _ facts.convicted _)
    (adds_more (adds_label _ _ _ _ _ _) (adds_more (adds_label _ _ _ _ _ _) (adds_more (adds_label _ _ _ _ _ _) (adds_box _ _ _))))

adds_panel : (extent : Extent) (frame : ℕ) (facts : Facts) (t : List ℕ) → AddsContent t (with_panel extent frame facts t)
unfolding with_panel
adds_panel extent frame facts t = adds_either (is_behind extent frame) _ _ _ (adds_close extent frame facts t) (adds_whole extent frame facts t)

adds_sender : (t : List ℕ) (i : ℕ) → AddsContent t (with_sender t i)
unfolding with_sender
adds_sender t i = adds_more (adds_label _ _ _ _ _ _) (adds_box _ _ _)

adds_marks : (t : List ℕ) → AddsContent t (with_marks t)
unfolding with_marks
adds_marks t =
    adds_more (adds_label _ _ _ _ _ _) (adds_more (adds_label _ _ _ _ _ _) (adds_more (adds_label _ _ _ _ _ _) (adds_more (adds_label _ _ _ _ _ _) (adds_box _ _ _))))

adds_strokes : (t : List ℕ) → AddsContent t (with_strokes t)
unfolding with_strokes
adds_strokes t = adds_more (adds_label _ _ _ _ _ _) (adds_more (adds_box _ _ _) (adds_more (adds_label _ _ _ _ _ _) (adds_box _ _ _)))

adds_absent : (t : List ℕ) → AddsContent t (with_absent t)
unfolding with_absent
adds_absent t = adds_more (adds_label _ _ _ _ _ _) (adds_label _ _ _ _ _ _)

adds_senders : (extent : Extent) (t : List ℕ) → AddsContent t (with_senders extent t)
unfolding with_senders
adds_senders extent t = adds_each with_sender adds_sender extent.bius t

adds_legend : (extent : Extent) (t : List ℕ) → AddsContent t (with_legend extent t)
unfolding with_legend
adds_legend extent t = adds_more (adds_absent _) (adds_more (adds_strokes _) (adds_more (adds_marks _) (adds_senders extent t)))

adds_frame_number : (extent : Extent) (t : List ℕ) (frame : ℕ) → AddsContent t (with_frame_number extent t frame)
unfolding with_frame_number
adds_frame_number extent t frame = adds_if (is_numbered extent frame) _ _ (adds_label _ _ _ _ _ _)

adds_slot_name : (extent : Extent) (frame : ℕ) (t : List ℕ) (i : ℕ) → AddsContent t (with_slot_name extent frame t i)
unfolding with_slot_name
adds_slot_name extent frame t i = adds_if ((extent.low + i) % slot_step extent == 0) _ _ (adds_label _ _ _ _ _ _)

adds_slot_names : (extent : Extent) (frame : ℕ) (t : List ℕ) → AddsContent t (with_slot_names extent frame t)
unfolding with_slot_names
adds_slot_names extent frame t = adds_each (with_slot_name extent frame) (adds_slot_name extent frame) (slots_of extent) t

adds_axes : (extent : Extent) (frame : ℕ) (t : List ℕ) → AddsContent t (with_axes extent frame t)
unfolding with_axes
adds_axes extent frame t = adds_more (adds_slot_names extent frame _) (adds_more (adds_label _ _ _ _ _ _) (adds_label _ _ _ _ _ _))

adds_axes_at : (extent : Extent) (frame : ℕ) (t : List ℕ) → AddsContent t (with_axes_at extent frame t)
unfolding with_axes_at
adds_axes_at extent frame t = adds_if ((frame - extent.first) % band_rows == 0) _ _ (adds_axes extent frame t)

adds_line : (extent : Extent) (frame : ℕ) (t : List ℕ) → AddsContent t (with_line extent frame t)
unfolding with_line
adds_line extent frame t =
    adds_either (is_behind extent frame) _ _ _ (adds_label _ _ _ _ _ _) (adds_more (adds_frame_number extent _ frame) (adds_box _ _ _))

adds_row : (extent : Extent) (frame : ℕ) (before after : Nodes) (t : List ℕ) → AddsContent t (with_row extent frame before after t)
unfolding with_row
adds_row extent frame before after t =
    adds_more (adds_names_in _ _ (newcomers before after) _) (adds_more (adds_line extent frame _) (adds_axes_at extent frame t))

adds_square : (extent : Extent) (t : List ℕ) (column : Column) → AddsContent t (with_square extent t column)
unfolding with_square
adds_square extent t column = adds_box _ _ _

adds_break : (extent : Extent) (t : List ℕ) (place : Place) (cause : Cause) → AddsContent t (with_break extent t place cause)
unfolding with_break
adds_break extent t place cause = adds_more (adds_breach_words _ place cause) (adds_box _ _ _)

adds_sign : (t : List ℕ) (x y : ℕ) (look meaning : List ℕ) → AddsContent t (with_sign t x y look meaning)
unfolding with_sign
adds_sign t x y look meaning = adds_more (adds_label _ _ _ _ _ _) (adds_box _ _ _)

adds_outcomes : (t : List ℕ) → AddsContent t (with_outcomes t)
unfolding with_outcomes
adds_outcomes t = adds_more (adds_sign _ _ _ _ _) (adds_more (adds_sign _ _ _ _ _) (adds_sign _ _ _ _ _))

adds_signs : (t : List ℕ) → AddsContent t (with_signs t)
unfolding with_signs
adds_signs t =
    adds_more (adds_label _ _ _ _ _ _) (adds_more (adds_label _ _ _ _ _ _) (adds_more (adds_sign _ _ _ _ _) (adds_sign _ _ _ _ _)))

adds_signature : (t : List ℕ) → AddsContent t (with_signature t)
unfolding with_signature
adds_signature t = adds_more (adds_signs _) (adds_outcomes t)

adds_frames : (extent : Extent) (t : List ℕ) → AddsContent t (with_frames extent t)
unfolding with_frames
adds_frames extent t = adds_label _ _ _ _ _ _

adds_heading : (sheet : Sheet) (t : List ℕ) → AddsContent t (with_heading sheet t)
unfolding with_heading
adds_heading sheet t = adds_more (adds_frames sheet.extent _) (adds_box _ _ _)

adds_key : (view : View) (extent : Extent) (t : List ℕ) → AddsContent t (with_key view extent t)
adds_key Panels extent t = adds_legend extent t
adds_key Overview extent t = adds_signature t

adds_part : (view : View) (extent : Extent) (t : List ℕ) (p : Piece) → AddsContent t (with_part view extent t p)
adds_part Panels extent t (Ground frame before facts) = adds_panel extent frame facts t
adds_part Panels extent t (Head column) = adds_owner extent t column
adds_part Panels extent t (Tick frame node after) = adds_tick extent t frame node after
adds_part Panels extent t (Cell l) = adds_cell extent t l
adds_part Panels extent t (Break place cause) = adds_breach extent t place cause
adds_part Panels extent t (Ending frames) = adds_ending t
adds_part Overview extent t (Ground frame before facts) = adds_row extent frame before.convicted facts.convicted t
adds_part Overview extent t (Head column) = adds_square extent t column
adds_part Overview extent t (Tick frame node after) = adds_nothing
adds_part Overview extent t (Cell l) = adds_nothing
adds_part Overview extent t (Break place cause) = adds_break extent t place cause
adds_part Overview extent t (Ending frames) = adds_ending t

adds_pieces : (sheet : Sheet) (t : List ℕ) (ps : List Piece) → AddsContent t (with_pieces sheet t ps)
adds_pieces sheet t [] = adds_nothing
adds_pieces sheet t (p ∷ ps) = adds_more (adds_pieces sheet (with_piece sheet t p) ps) (adds_part sheet.view sheet.extent t p)

-- what stands in a picture behind its opening
abbrev body : Sheet → List ℕ → List Piece → List ℕ
body sheet t ps = with_pieces sheet (with_key sheet.view sheet.extent (with_heading sheet t)) ps

adds_body : (sheet : Sheet) (t : List ℕ) (ps : List Piece) → AddsContent t (body sheet t ps)
adds_body sheet t ps =
    adds_more (adds_pieces sheet (with_key sheet.view sheet.extent (with_heading sheet t)) ps)
    (adds_more (adds_key sheet.view sheet.extent (with_heading sheet t)) (adds_heading sheet t))

pub well_formed : IsWellFormed
unfolding picture_text
well_formed style sheet lines =
    document (sheet_width sheet) (sheet_height sheet) style
    (body sheet (with_opening [] (sheet_width sheet) (sheet_height sheet) style) (pieces_of lines))
    (adds_body sheet (with_opening [] (sheet_width sheet) (sheet_height sheet) style) (pieces_of lines))
