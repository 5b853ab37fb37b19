-- The table of a document that is the text of a generated scenario: what stands at each key.
use Rattle.std.specs.{Prelude.{ℕ, suc, pos, List, [], ◌∷◌, ◌++◌, map, replicate, get_or, Option, None, unwrap_or, codes}, Fmt.decimal}
use Rattle.toml.specs.Data.{Data, string, integer, array, table, Items, no_items, item, Members, no_members, member}
use Rattle.rb_base.specs.{Counting.numbers, declared.node.NodeName.NodeName, declared.node.NodeName.TheVariants.{Biu, Rmu}}
use Rattle.rb_rules.specs.{declared.link.Rule.Rule, declared.say.Say.Say, Clock.Timeline, Goodness.Scenario}
use Rattle.rb_gen.specs.Text.{named, node_at, word_said}

-- Values.

abbrev pub number : ℕ → Data
number n = integer (pos n)

abbrev pub items_of : List Data → Items
items_of [] = no_items
items_of (d ∷ ds) = item d (items_of ds)

abbrev pub list_of : List Data → Data
list_of ds = array (items_of ds)

abbrev pub pair : ℕ × ℕ → Data
pair p = list_of (number p.0 ∷ number p.1 ∷ [])

abbrev pub name : NodeName → Data
name (Biu i) = string (codes "B" ++ decimal i)
name (Rmu i) = string (codes "R" ++ decimal i)

-- the entries of a key
abbrev pub tables : List Members → Data
tables entries = list_of (map table entries)

-- Entries. Keys stand in alphabetical order.

abbrev pub clock_table : NodeName → Timeline → Members
clock_table node clock =
    member (codes "node") (name node)
    (member (codes "start") (number clock.start)
    (member (codes "ticks") (list_of (pair (0, (get_or clock.segments 0 (0, 0)).1) ∷ []))
    no_members))

abbrev pub link_table : Rule → Members
link_table rule =
    member (codes "delay") (number rule.delay)
    (member (codes "from") (name (named rule.from))
    (member (codes "to") (name (named rule.to))
    no_members))

abbrev pub fault_table : NodeName → Option (ℕ × ℕ) → Members
fault_table node onset =
    member (codes "frame") (number (unwrap_or onset (0, 0)).0)
    (member (codes "node") (name node)
    (member (codes "slot") (number (unwrap_or onset (0, 0)).1)
    no_members))

abbrev pub say_table : Say → Members
say_table say =
    member (codes "frames") (pair say.frames)
    (member (codes "from") (name say.from)
    (member (codes "slots") (pair say.slots)
    (member (codes "stages") (pair say.stages)
    (member (codes "to") (name (named say.to))
    (member (codes "word") (number (word_said say.content))
    no_members)))))

-- The document.

abbrev pub clock_tables : List Timeline → List Members
clock_tables clocks = map (λ node. clock_table (node_at node) (get_or clocks node (record { start = 0; segments = [] }))) (numbers 13)

unfoldable pub table_of : Scenario → Members
table_of sc =
    member (codes "biu") (number 8)
    (member (codes "clock") (tables (clock_tables sc.clocks))
    (member (codes "fault") (tables (fault_table (Biu 7) (get_or sc.biu_onsets 7 None) ∷ fault_table (Rmu 4) (get_or sc.rmu_onsets 4 None) ∷ []))
    (member (codes "frames") (number sc.frames)
    (member (codes "link") (tables (map link_table sc.delays.rules))
    (member (codes "requests") (list_of (map number (replicate 8 2)))
    (member (codes "rmu") (number 5)
    (member (codes "say") (tables (map say_table sc.says))
    (member (codes "slots") (number 16)
    (member (codes "words") (list_of (map number (map suc (numbers 8))))
    no_members)))))))))
