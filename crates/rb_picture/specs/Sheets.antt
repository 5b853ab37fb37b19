-- How a report is shown: a panel for each frame, or a row.
use Rattle.std.specs.Prelude.{ℕ, ◌-◌, ◌≤◌, nat_lt, if◌then◌else◌, List}
use Rattle.rb_picture.specs.{declared.extent.Extent.Extent, declared.form.Frames.Frames, declared.form.Frames.TheVariants.{All, Between}, declared.line.Line.Line, declared.sheet.Sheet.Sheet, declared.sheet.View.View, declared.sheet.View.TheVariants.{Panels, Overview}, Extents.extent_of, Overview.{frames_of, overview_height, overview_width}, Places.{picture_height, picture_width, slots_of}}

-- all frames of a long run as an overview; behind its whole frames stands one more, with which it
-- ended or broke off
abbrev pub view_of : Frames → Extent → View
view_of All extent = if nat_lt 12 (extent.last - extent.first) then Overview else Panels
view_of (Between first last) extent = Panels

abbrev pub sheet_of : Frames → List Line → Sheet
sheet_of frames lines = record { view = view_of frames (extent_of lines); extent = extent_of lines }

abbrev pub view_width : View → Extent → ℕ
view_width Panels extent = picture_width extent
view_width Overview extent = overview_width extent

abbrev pub view_height : View → Extent → ℕ
view_height Panels extent = picture_height extent
view_height Overview extent = overview_height extent

abbrev pub sheet_width : Sheet → ℕ
sheet_width sheet = view_width sheet.view sheet.extent

abbrev pub sheet_height : Sheet → ℕ
sheet_height sheet = view_height sheet.view sheet.extent

-- an overview of up to 4,800 frames and 320 slots is no wider than 2,000 pixels and no higher than
-- 4,000
abbrev pub IsSmall : Type 0
IsSmall =
    (extent : Extent) → frames_of extent ≤ 4800 → slots_of extent ≤ 320
    → (overview_width extent ≤ 2000) × (overview_height extent ≤ 4000)
