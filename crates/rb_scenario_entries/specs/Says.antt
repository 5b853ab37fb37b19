-- Say entries: what nodes that are not good say.
use Rattle.std.specs.Prelude.{ℕ, pos, ◌-◌, Bool, true, not, ◌&&◌, ◌||◌, ◌==◌, nat_le, nat_lt, List, [], ◌∷◌, map, length, Option, Some, None, option_map, is_some, unwrap_or, Result, Ok, Err, codes, if◌then◌else◌}
use Rattle.hex.specs.Hex.{decode_of}
use Rattle.toml.specs.Data.{Data, string, integer, boolean, Members, get_member}
use Rattle.rb_base.specs.{Counting.count_if, Sizes.sync_slot_of, declared.node.NodeName.TheVariants.Biu}
use Rattle.rb_rules.specs.{Lawful.ticks_in_sync, Links.is_in_range, declared.link.Pattern.TheVariants.One, declared.plan.Plan.Plan, declared.say.Content.Content, declared.say.Content.TheVariants.{Word, Fault, Sync, Raw}, declared.say.Say.Say}
use Rattle.rb_scenario_document.specs.{Names.{node_at, pattern_at}, Values.{has_range, is_within, may_have_number, number_at, number_or, range_at}, Walk.{absent_or, entries_at, has_key}}
use Rattle.rb_scenario_entries.specs.{declared.bus.Bus.Bus, Links.{are_apart, pattern_of}}

-- the ranges of frames, slots and stages
abbrev pub frames_of : Members → ℕ × ℕ
frames_of e = range_at (codes "frames") (0, 0) e

abbrev pub slots_of : Members → ℕ × ℕ
slots_of e = range_at (codes "slots") (0, 0) e

abbrev pub stages_of : Members → ℕ × ℕ
stages_of e = range_at (codes "stages") (0, 0) e

-- the ranges lie within the run. Stage 4 is the tail
abbrev pub has_ranges : Bus → Members → Bool
has_ranges bus e =
    has_range (codes "frames") 0 (bus.frames - 1) e && has_range (codes "slots") 0 (sync_slot_of bus.shape) e
    && has_range (codes "stages") 1 4 e

-- the range is the sync slot alone
abbrev pub is_sync_alone : ℕ → ℕ × ℕ → Bool
is_sync_alone sync slots = (slots.0 == sync) && (slots.1 == sync)

-- the offset is in the window of this stage of the sync slot, if the range has the stage
abbrev pub lies_in_stage : Plan → ℕ × ℕ → ℕ → ℕ → Bool
lies_in_stage plan stages offset stage = not (is_in_range stages stage) || nat_lt offset (ticks_in_sync plan stage)

-- the offset lies in every window of the ranges: in those below the sync slot, and in the sync
-- slot's
abbrev pub lies_in_all : Plan → ℕ → ℕ × ℕ → ℕ × ℕ → ℕ → Bool
lies_in_all plan sync slots stages offset =
    (nat_le sync slots.0 || nat_lt offset plan.l)
    && (nat_lt slots.1 sync
    || lies_in_stage plan stages offset 1 && lies_in_stage plan stages offset 2
    && lies_in_stage plan stages offset 3 && lies_in_stage plan stages offset 4)

-- the value is such an offset
abbrev pub is_offset : Plan → ℕ → ℕ × ℕ → ℕ × ℕ → Data → Bool
is_offset plan sync slots stages d =
    is_within 0 4294967295 d && lies_in_all plan sync slots stages (number_or 0 (Some d))

-- when it comes: in the tail or early only in the sync slot
abbrev pub has_times : Bus → Members → Bool
has_times bus e =
    (nat_le (stages_of e).1 3 || is_sync_alone (sync_slot_of bus.shape) (slots_of e))
    && absent_or (is_offset bus.plan (sync_slot_of bus.shape) (slots_of e) (stages_of e)) (get_member (codes "offset") e)
    && may_have_number (codes "early") 0 (bus.plan.u - bus.plan.r - 1) e
    && ((number_at (codes "early") 0 e == 0) || is_sync_alone (sync_slot_of bus.shape) (slots_of e))

-- The four things that can be said. A word below 2^32
abbrev pub word_content : Data → Option Content
word_content (integer (pos n)) = if nat_le n 4294967295 then Some (Word n) else None
word_content _ = None

-- what the mark `true` stands for
abbrev pub marked : Content → Data → Option Content
marked content (boolean true) = Some content
marked content _ = None

-- 1 to 32 bytes
abbrev pub short_bytes : {E : Type 0} → Result (List ℕ) E → Option (List ℕ)
short_bytes (Err e) = None
short_bytes (Ok bs) = if nat_le 1 (length bs) && nat_le (length bs) 32 then Some bs else None

-- bytes in hexadecimal
abbrev pub raw_in : Data → Option Content
raw_in (string text) = option_map (λ bytes. Raw (record { items = bytes })) (short_bytes (decode_of text))
raw_in _ = None

abbrev pub content_keys : List (List ℕ)
content_keys = codes "word" ∷ codes "fault" ∷ codes "sync" ∷ codes "raw" ∷ []

-- what a value means, if there is one, and otherwise what comes next
abbrev pub meant : (Data → Option Content) → Option Data → Option Content → Option Content
meant meaning None next = next
meant meaning (Some d) next = meaning d

-- what the first of the four that is there means
abbrev pub content_there : Members → Option Content
content_there e =
    meant word_content (get_member (codes "word") e)
    (meant (marked Fault) (get_member (codes "fault") e)
    (meant (marked Sync) (get_member (codes "sync") e)
    (meant raw_in (get_member (codes "raw") e) None)))

-- what an entry says: exactly one of the four
unfoldable pub content_in : Members → Option Content
content_in e = if count_if (λ key. has_key key e) content_keys == 1 then content_there e else None

-- the values of a say entry are in range
unfoldable pub is_say : Bus → Members → Bool
is_say bus e =
    are_apart (option_map One (node_at bus.shape (codes "from") e)) (pattern_at bus.shape (codes "to") e)
    && has_ranges bus e && has_times bus e && is_some (content_in e)

-- what an entry in range says, and when
unfoldable pub say_of : Bus → Members → Say
say_of bus e = record {
  from = unwrap_or (node_at bus.shape (codes "from") e) (Biu 0);
  to = pattern_of bus (codes "to") e;
  frames = frames_of e;
  slots = slots_of e;
  stages = stages_of e;
  offset = number_at (codes "offset") bus.plan.h e;
  early = number_at (codes "early") 0 e;
  content = unwrap_or (content_in e) Fault;
}

abbrev pub says_of : Bus → Members → List Say
says_of bus t = map (say_of bus) (entries_at (codes "say") t)
