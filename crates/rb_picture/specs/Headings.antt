-- What stands above all frames.
use Rattle.std.specs.{Prelude.{ℕ, ◌-◌, ◌==◌, List, ◌++◌, [], codes, nat_lt, if◌then◌else◌}, Fmt.decimal}
use Rattle.rb_picture.specs.{declared.extent.Extent.Extent, declared.sheet.Sheet.Sheet, declared.sheet.View.View, declared.sheet.View.TheVariants.{Panels, Overview}, Drawing.with_legend, Markup.{with_box, with_label}, Overview.with_signature, Places.is_behind, Sheets.{sheet_height, sheet_width}}

-- the last whole frame that is drawn
abbrev pub last_whole : Extent → ℕ
last_whole extent = if is_behind extent extent.last then extent.last - 1 else extent.last

-- the words that name the frames of the run that are drawn
abbrev pub frames_words : Extent → List ℕ
frames_words extent =
    if nat_lt extent.last extent.first then codes "No frame"
    else if is_behind extent extent.first then codes "After the last frame"
    else if extent.first == last_whole extent then codes "Frame " ++ decimal extent.first
    else ((codes "Frames " ++ decimal extent.first) ++ codes " to ") ++ decimal (last_whole extent)

-- the words for the number of frames of the run, if it came to its end
abbrev pub run_words : Extent → List ℕ
run_words extent = if nat_lt extent.run 4294967296 then codes " of " ++ decimal extent.run else []

unfoldable pub with_frames : Extent → List ℕ → List ℕ
with_frames extent text = with_label text 20 28 (codes "title") (frames_words extent) (run_words extent)

-- the page, and the frames that are drawn
unfoldable pub with_heading : Sheet → List ℕ → List ℕ
with_heading sheet text =
    with_frames sheet.extent (with_box text (record { x = 0; y = 0; width = sheet_width sheet; height = sheet_height sheet }) (codes "page"))

-- what colors and signs mean
abbrev pub with_key : View → Extent → List ℕ → List ℕ
with_key Panels extent text = with_legend extent text
with_key Overview extent text = with_signature text
