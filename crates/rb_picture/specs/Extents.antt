-- What the lines of the frames asked for span: nodes, slots, words and times.
use Rattle.std.specs.Prelude.{ℕ, zero, suc, ◌+◌, ◌-◌, ◌*◌, ◌^◌, min, max, nat_lt, nat_le, ◌==◌, ◌&&◌, ◌||◌, Bool, true, if◌then◌else◌, List, [], ◌∷◌}
use Rattle.rb_base.specs.{Nodes.{has, set_of, size}, declared.node.NodeName.NodeName, declared.node.NodeName.TheVariants.{Biu, Rmu}, declared.values.Heard.Heard, declared.values.Heard.TheVariants.{Word, Fault}, declared.values.Place.Place}
use Rattle.rb_rules.specs.{declared.cause.Cause.Cause, declared.cause.Cause.TheVariants.{FewGoodBiu, FewGoodRmu, TwoSided}}
use Rattle.rb_picture.specs.{declared.line.Line.Line, declared.extent.Extent.Extent, declared.extent.Begins.Begins, declared.extent.Facts.Facts, declared.extent.Newest.Newest, declared.extent.Nodes.Nodes, declared.extent.Rows.Rows}
use Rattle.rb_picture.specs.declared.line.Line.TheVariants as line

-- whether a frame is one of those asked for
abbrev pub is_between : ℕ → ℕ → ℕ → Bool
is_between first last frame = nat_le first frame && nat_le frame last

-- whether the line is of one of these frames; that the run came to its end is always wanted
abbrev pub is_asked : ℕ → ℕ → Line → Bool
is_asked first last (line.Epoch l) = is_between first last l.frame
is_asked first last (line.Convicted l) = is_between first last l.frame
is_asked first last (line.Port l) = is_between first last l.frame
is_asked first last (line.Delivery l) = is_between first last l.frame
is_asked first last (line.End frames) = true
is_asked first last (line.Breach place cause) = is_between first last place.frame

-- one more than the greatest number of a set below n, 0 for the empty set
unfoldable pub top_below : ℕ → ℕ → ℕ
top_below zero set = 0
top_below (suc n) set = if has set n then suc n else top_below n set

abbrev pub top_of : ℕ → ℕ
top_of set = top_below 16 set

-- nothing was seen yet
abbrev pub no_begins : Begins
no_begins = record { frame = 0; least = 2 ^ 64 - 1; greatest = 0 }

-- a node begins a frame at a time
abbrev pub with_begin : Begins → ℕ → ℕ → Begins
with_begin begins frame time =
    if begins.frame == frame
    then record { frame = frame; least = min begins.least time; greatest = max begins.greatest time }
    else record { frame = frame; least = time; greatest = time }

-- between the first and the last begin
abbrev pub spread_of : Begins → ℕ
spread_of begins = begins.greatest - begins.least

-- nothing spans nothing
abbrev pub no_extent : Extent
no_extent = record { first = 2 ^ 32 - 1; bius = 0; rmus = 0; low = 2 ^ 16 - 1; high = 0; word = 0; spread = 0; last = 0; busy = 0; run = 2 ^ 32 }

abbrev pub with_frame : Extent → ℕ → Extent
with_frame extent frame = record extent { first = min extent.first frame; last = max extent.last frame }

abbrev pub with_node : Extent → NodeName → Extent
with_node extent (Biu i) = record extent { bius = max extent.bius (i + 1) }
with_node extent (Rmu i) = record extent { rmus = max extent.rmus (i + 1) }

abbrev pub with_sets : Extent → ℕ → ℕ → Extent
with_sets extent biu rmu = record extent { bius = max extent.bius (top_of biu); rmus = max extent.rmus (top_of rmu) }

abbrev pub with_slot : Extent → ℕ → Extent
with_slot extent slot = record extent { low = min extent.low slot; high = max extent.high (slot + 1) }

abbrev pub with_word : Extent → Heard → Extent
with_word extent (Word word) = record extent { word = max extent.word word }
with_word extent Fault = extent

abbrev pub with_spread : Extent → ℕ → Extent
with_spread extent spread = record extent { spread = max extent.spread spread }

-- one more than the frame of a line, and this number for the end of a run
abbrev pub mark_of : ℕ → Line → ℕ
mark_of mark (line.Epoch l) = l.frame + 1
mark_of mark (line.Convicted l) = l.frame + 1
mark_of mark (line.Port l) = l.frame + 1
mark_of mark (line.Delivery l) = l.frame + 1
mark_of mark (line.End frames) = mark
mark_of mark (line.Breach place cause) = place.frame + 1

abbrev pub no_nodes : Nodes
no_nodes = record { biu = 0; rmu = 0 }

-- nothing is known of a frame
abbrev pub no_facts : Facts
no_facts = record { begins = no_begins; convicted = no_nodes; present = no_nodes }

-- the nodes of both sets
abbrev pub both : ℕ → ℕ → ℕ
both a b = set_of (λ i. has a i || has b i)

-- a set with one more node, which a bus has
abbrev pub with_number : ℕ → ℕ → ℕ
with_number set i = if nat_lt i 16 then set_of (λ j. has set j || (j == i)) else set

abbrev pub with_name : Nodes → NodeName → Nodes
with_name nodes (Biu i) = record nodes { biu = with_number nodes.biu i }
with_name nodes (Rmu i) = record nodes { rmu = with_number nodes.rmu i }

-- a line of the frame is of this node
abbrev pub with_present : Facts → NodeName → Facts
with_present facts node = record facts { present = with_name facts.present node }

-- the facts of a frame in which these nodes are convicted
abbrev pub with_convicted : Facts → ℕ → ℕ → Facts
with_convicted facts biu rmu = record facts { convicted = record { biu = both facts.convicted.biu biu; rmu = both facts.convicted.rmu rmu } }

-- what is known of a frame with one more of its lines
abbrev pub facts_after : Facts → Line → Facts
facts_after facts (line.Epoch l) = with_present (record facts { begins = with_begin facts.begins l.frame l.time }) l.node
facts_after facts (line.Convicted l) = with_present (with_convicted facts l.biu l.rmu) l.node
facts_after facts (line.Port l) = with_present facts (Biu l.biu)
facts_after facts (line.Delivery l) = with_present facts (Biu l.receiver)
facts_after facts (line.End frames) = facts
facts_after facts (line.Breach place cause) = facts

-- the newest frame, by one more than its number, and what its lines say
abbrev pub no_newest : Newest
no_newest = record { mark = 0; facts = no_facts }

-- the newest frame after one more line
unfoldable pub newest_after : Newest → Line → Newest
newest_after newest l =
    if mark_of newest.mark l == newest.mark
    then record { mark = newest.mark; facts = facts_after newest.facts l }
    else record { mark = mark_of newest.mark l; facts = facts_after no_facts l }

-- something is delivered in the frame, or the run breaks off in it
abbrev pub with_busy : Extent → ℕ → Extent
with_busy extent frame = record extent { busy = max extent.busy (frame + 1) }

-- how many nodes of a kind the bus has at least if these good nodes do not outnumber the others
-- that are not convicted
unfoldable pub least_rows : ℕ → ℕ → ℕ
least_rows present convicted = min 16 (2 * size present + size convicted)

-- room for the faulty nodes that a breach in the first slot of a frame implies
abbrev pub with_cause : Extent → Facts → Cause → Extent
with_cause extent facts FewGoodBiu = record extent { bius = max extent.bius (least_rows facts.present.biu facts.convicted.biu) }
with_cause extent facts FewGoodRmu = record extent { rmus = max extent.rmus (least_rows facts.present.rmu facts.convicted.rmu) }
with_cause extent facts TwoSided = extent

abbrev pub with_breach : Extent → Facts → Place → Cause → Extent
with_breach extent facts place cause = if place.slot == 0 then with_cause extent facts cause else extent

-- what is spanned with one more line, after which this is known of the newest frame
abbrev pub extent_after : Extent → Facts → Line → Extent
extent_after extent facts (line.Epoch l) = with_spread (with_node (with_frame extent l.frame) l.node) (spread_of facts.begins)
extent_after extent facts (line.Convicted l) = with_sets (with_node (with_frame extent l.frame) l.node) l.biu l.rmu
extent_after extent facts (line.Port l) = with_node (with_frame extent l.frame) (Biu l.biu)
extent_after extent facts (line.Delivery l) =
    with_word (with_slot (with_node (with_node (with_busy (with_frame extent l.frame) l.frame) (Biu l.receiver)) (Biu l.sender)) l.slot) l.value
extent_after extent facts (line.End frames) = record extent { run = frames }
extent_after extent facts (line.Breach place cause) =
    with_breach (with_slot (with_busy (with_frame extent place.frame) place.frame) place.slot) facts place cause

-- what lines span
abbrev pub extent_from : Extent → Newest → List Line → Extent
extent_from extent newest [] = extent
extent_from extent newest (l ∷ lines) = extent_from (extent_after extent (newest_after newest l).facts l) (newest_after newest l) lines

abbrev pub extent_of : List Line → Extent
extent_of lines = extent_from no_extent no_newest lines

-- what the lines of a frame say, which come first. The frame is that with this number less one
abbrev pub facts_from : ℕ → Facts → List Line → Facts
facts_from mark facts [] = facts
facts_from mark facts (l ∷ lines) = if mark_of 0 l == mark then facts_from mark (facts_after facts l) lines else facts

abbrev pub facts_of : ℕ → List Line → Facts
facts_of mark lines = facts_from mark no_facts lines

-- the rows of the nodes of a kind, in a frame of which this is known: how many rows are above them,
-- and how many they are
abbrev pub biu_rows : Extent → Facts → Rows
biu_rows extent facts = record { above = 0; count = extent.bius; convicted = facts.convicted.biu; present = facts.present.biu }

abbrev pub rmu_rows : Extent → Facts → Rows
rmu_rows extent facts = record { above = extent.bius; count = extent.rmus; convicted = facts.convicted.rmu; present = facts.present.rmu }
