-- The behavior that the entries of a document list.
use Rattle.std.specs.Prelude.{ℕ, ◌+◌, ◌-◌, ◌%◌, ◌≡◌, ◌≤◌, ◌&&◌, nat_le, min, Bool, All, List, filter, length, map}
use Rattle.rb_base.specs.{Nodes.{Side, other}, declared.values.Place.Place}
use Rattle.rb_rules.specs.{declared.message.Message.Message, declared.message.Tag.Tag, declared.message.Version.Version, declared.say.Content.Content, declared.say.Content.TheVariants.{Word, Fault, Sync, Raw}, declared.say.Say.Say, Behavior.{Behavior, Said, Span}, Clock.{Timeline, time_of}, Goodness.{Scenario, clock_of}, Lawful.IsSayOf, Links.{name_of, same_node, stands_for, covers}, Spelling.spelling_of}
use Rattle.rb_rules.specs.declared.message.Tag.TheVariants as tag

-- a message with the header of a place. A message said in the tail has the sync slot's stage 3 in
-- its header
abbrev pub message_at : Place → Tag → ℕ → Message
message_at place tag value =
    record { tag = tag; frame = place.frame % 65536; slot = place.slot; stage = min place.stage 3; value = value }

-- the bytes that an entry with this content says in a window
abbrev pub bytes_of : Version → Place → Content → List ℕ
bytes_of version place (Word word) = spelling_of version (message_at place tag.Word word)
bytes_of version place Fault = spelling_of version (message_at place tag.Fault 0)
bytes_of version place Sync = spelling_of version (message_at place tag.Sync 0)
bytes_of version place (Raw bytes) = bytes.items

-- the entry is what source j says to node i of kind me in a window. An offset outside the window is
-- not heard
abbrev pub is_said : Side → ℕ → ℕ → Span → Say → Bool
is_said me i j span s =
    same_node s.from (name_of (other me) j) && stands_for s.to (name_of me i) && covers s.frames s.slots s.stages span.place
    && nat_le (span.first + s.offset) span.last

-- what the entry says to a node with this clock in a window
abbrev pub said_of : Version → Timeline → Span → Say → Said
said_of version clock span s =
    record { time = time_of clock (span.first + s.offset) - s.early; bytes = bytes_of version span.place s.content }

-- the behavior that the entries list, for nodes with these clocks; in the order of the document
abbrev pub listed : Version → (Side → ℕ → Timeline) → List Say → Behavior
listed version clocks says me i span j = map (said_of version (clocks me i) span) (filter (is_said me i j span) says)

-- faulty nodes do what the entries of the scenario say, and these are the entries of a document
pub record IsListed (sc : Scenario) : Type 0 where
  pub behavior : (me : Side) (i : ℕ) (span : Span) (j : ℕ) → sc.behavior me i span j ≡ listed sc.plan.version (clock_of sc) sc.says me i span j
  pub says : All (IsSayOf sc) sc.says
  pub few : length sc.says ≤ 1024
