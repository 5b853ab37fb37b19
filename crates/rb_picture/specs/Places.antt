-- The places of things in a picture, in pixels: a panel for each frame, in it a row for each node,
-- and a column for each slot.
use Rattle.std.specs.Prelude.{ℕ, ◌+◌, ◌-◌, ◌*◌, ◌/◌, ◌==◌, ◌&&◌, min, max, nat_le, nat_lt, Bool, if◌then◌else◌}
use Rattle.rb_base.specs.{declared.node.NodeName.NodeName, declared.node.NodeName.TheVariants.{Biu, Rmu}, declared.values.Place.Place}
use Rattle.rb_picture.specs.{declared.extent.Extent.Extent, declared.line.DeliveryLine.DeliveryLine, declared.markup.Area.Area}

abbrev pub rows_of : Extent → ℕ
rows_of extent = extent.bius + extent.rmus

abbrev pub slots_of : Extent → ℕ
slots_of extent = extent.high - extent.low

-- BIUs stand above RMUs
abbrev pub row_of : Extent → NodeName → ℕ
row_of extent (Biu i) = i
row_of extent (Rmu i) = extent.bius + i

-- whether the frame is the one that would follow the run
abbrev pub is_behind : Extent → ℕ → Bool
is_behind extent frame = (frame == extent.run) && nat_le extent.busy frame

-- how many frames have a panel
abbrev pub panels_of : Extent → ℕ
panels_of extent = if is_behind extent extent.last then extent.last - extent.first else extent.last + 1 - extent.first

-- a head, the rows and a gap
abbrev pub panel_height : Extent → ℕ
panel_height extent = 88 + 20 * rows_of extent

abbrev pub panel_top : Extent → ℕ → ℕ
panel_top extent frame = 180 + panel_height extent * (frame - extent.first)

abbrev pub row_top : Extent → ℕ → ℕ → ℕ
row_top extent frame row = panel_top extent frame + 68 + 20 * row

-- the left edge of the columns: behind the axis of the starts, if they spread
abbrev pub grid_left : Extent → ℕ
grid_left extent = if extent.spread == 0 then 196 else 284

-- room for the longest word
abbrev pub word_width : Extent → ℕ
word_width extent = if nat_lt extent.word 1000 then 36 else if nat_lt extent.word 1000000 then 58 else 84

-- the columns fill the picture
abbrev pub cell_width : Extent → ℕ
cell_width extent = max (word_width extent) (min 84 ((416 - grid_left extent) / max 1 (slots_of extent)))

abbrev pub column_left : Extent → ℕ → ℕ
column_left extent slot = grid_left extent + cell_width extent * (slot - extent.low)

-- more columns than can be seen beside the names
abbrev pub is_wide : Extent → Bool
is_wide extent = nat_lt 12 (slots_of extent)

-- behind the columns
abbrev pub names_left : Extent → ℕ
names_left extent = grid_left extent + 8 + cell_width extent * slots_of extent

-- room behind the columns, for the names if there are any
abbrev pub margin : Extent → ℕ
margin extent = if is_wide extent then 56 else 24

abbrev pub picture_width : Extent → ℕ
picture_width extent = max 440 (max (40 + 60 * extent.bius) (grid_left extent + margin extent + cell_width extent * slots_of extent))

abbrev pub picture_height : Extent → ℕ
picture_height extent = 180 + panel_height extent * panels_of extent + (if is_behind extent extent.last then 72 else 0)

-- how many pixels a time is from the first begin: 160 for the greatest spread, or a few less if the
-- spread is too large to multiply
abbrev pub offset_of : Extent → ℕ → ℕ
offset_of extent after =
    if nat_lt extent.spread 4294967296
    then min after extent.spread * 160 / max 1 extent.spread
    else after / (extent.spread / 160 + 1)

abbrev pub panel_area : Extent → ℕ → Area
panel_area extent frame =
    record { x = 8; y = panel_top extent frame; width = picture_width extent - 16; height = panel_height extent - 8 }

-- behind the panels, how the run ended
abbrev pub close_area : Extent → ℕ → Area
close_area extent frame = record { x = 8; y = panel_top extent frame; width = picture_width extent - 16; height = 64 }

abbrev pub strip_area : Extent → ℕ → Area
strip_area extent frame = record { x = 92; y = row_top extent frame 0; width = 168; height = 20 * rows_of extent }

abbrev pub grid_area : Extent → ℕ → Area
grid_area extent frame =
    record { x = grid_left extent; y = row_top extent frame 0; width = cell_width extent * slots_of extent; height = 20 * extent.bius }

-- how long after the first begin a node begins the frame; no further than the strip
abbrev pub tick_area : Extent → ℕ → NodeName → ℕ → Area
tick_area extent frame node after =
    record { x = 94 + min (offset_of extent after) 160; y = row_top extent frame (row_of extent node) + 3; width = 4; height = 14 }

abbrev pub cell_area : Extent → DeliveryLine → Area
cell_area extent l =
    record { x = column_left extent l.slot + 1; y = row_top extent l.frame l.receiver + 1; width = cell_width extent - 2; height = 18 }

abbrev pub breach_area : Extent → Place → Area
breach_area extent place =
    record { x = column_left extent (min place.slot extent.high); y = row_top extent place.frame 0 - 36; width = 3; height = 20 * rows_of extent + 40 }
