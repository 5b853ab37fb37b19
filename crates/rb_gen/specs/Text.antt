-- The text of a generated scenario, line by line: a document that says it.
use Rattle.std.specs.{Prelude.{ℕ, ◌-◌, nat_lt, if◌then◌else◌, List, [], ◌∷◌, ◌++◌, get_or, Option, None, unwrap_or, codes}, Fmt.decimal, List.flat_map}
use Rattle.rb_base.specs.{Counting.numbers, declared.node.NodeName.NodeName, declared.node.NodeName.TheVariants.{Biu, Rmu}}
use Rattle.rb_rules.specs.{declared.link.Pattern.Pattern, declared.link.Pattern.TheVariants.{One, AllBiu, AllRmu}, declared.link.Rule.Rule, declared.say.Content.Content, declared.say.Content.TheVariants.{Word, Fault, Sync, Raw}, declared.say.Say.Say, Clock.Timeline, Goodness.Scenario}

-- Lines.

-- a text and what follows it
abbrev pub joined : List ℕ → List (List ℕ) → List ℕ
joined text [] = text
joined text (next ∷ others) = joined (text ++ next) others

-- KEY = NUMBER
abbrev pub number_line : List ℕ → ℕ → List ℕ
number_line key number = joined key (codes " = " ∷ decimal number ∷ codes "\n" ∷ [])

-- KEY = [NUMBER, NUMBER]
abbrev pub pair_line : List ℕ → ℕ × ℕ → List ℕ
pair_line key pair = joined key (codes " = [" ∷ decimal pair.0 ∷ codes ", " ∷ decimal pair.1 ∷ codes "]\n" ∷ [])

-- KEY = [[0, NUMBER]]
abbrev pub segment_line : List ℕ → ℕ → List ℕ
segment_line key number = joined key (codes " = [[0, " ∷ decimal number ∷ codes "]]\n" ∷ [])

-- KEY = "B0", or KEY = "R0"
abbrev pub node_line : List ℕ → NodeName → List ℕ
node_line key (Biu i) = joined key (codes " = \"B" ∷ decimal i ∷ codes "\"\n" ∷ [])
node_line key (Rmu i) = joined key (codes " = \"R" ∷ decimal i ∷ codes "\"\n" ∷ [])

-- Entries.

-- the root, up to the entries
abbrev pub root_lines : ℕ → List (List ℕ)
root_lines frames =
    codes "biu = 8\n"
    ∷ codes "rmu = 5\n"
    ∷ codes "slots = 16\n"
    ∷ number_line (codes "frames") frames
    ∷ codes "requests = [2, 2, 2, 2, 2, 2, 2, 2]\n"
    ∷ codes "words = [1, 2, 3, 4, 5, 6, 7, 8]\n"
    ∷ []

-- a clock: its node, its start, and the length of its ticks
abbrev pub clock_lines : NodeName → Timeline → List (List ℕ)
clock_lines node clock =
    codes "[[clock]]\n"
    ∷ node_line (codes "node") node
    ∷ number_line (codes "start") clock.start
    ∷ segment_line (codes "ticks") (get_or clock.segments 0 (0, 0)).1
    ∷ []

-- the node that a pattern names
abbrev pub named : Pattern → NodeName
named (One name) = name
named AllBiu = Biu 0
named AllRmu = Rmu 0

-- a rule on delays that is for all places
abbrev pub rule_lines : Rule → List (List ℕ)
rule_lines rule =
    codes "[[link]]\n"
    ∷ node_line (codes "from") (named rule.from)
    ∷ node_line (codes "to") (named rule.to)
    ∷ number_line (codes "delay") rule.delay
    ∷ []

-- the lines of a fault: its node, and the frame and the slot from which on the node is not good
abbrev pub fault_lines : NodeName → Option (ℕ × ℕ) → List (List ℕ)
fault_lines node onset =
    codes "[[fault]]\n"
    ∷ node_line (codes "node") node
    ∷ number_line (codes "frame") (unwrap_or onset (0, 0)).0
    ∷ number_line (codes "slot") (unwrap_or onset (0, 0)).1
    ∷ []

-- the word that is said
abbrev pub word_said : Content → ℕ
word_said (Word word) = word
word_said Fault = 0
word_said Sync = 0
word_said (Raw bytes) = 0

-- a word that a node says at the offset at which good nodes send
abbrev pub say_lines : Say → List (List ℕ)
say_lines say =
    codes "[[say]]\n"
    ∷ node_line (codes "from") say.from
    ∷ node_line (codes "to") (named say.to)
    ∷ pair_line (codes "frames") say.frames
    ∷ pair_line (codes "slots") say.slots
    ∷ pair_line (codes "stages") say.stages
    ∷ number_line (codes "word") (word_said say.content)
    ∷ []

-- The text.

-- the node with this number; the RMUs come after the eight BIUs
abbrev pub node_at : ℕ → NodeName
node_at node = if nat_lt node 8 then Biu node else Rmu (node - 8)

-- the clock of the node with this number
abbrev pub clock_entry : List Timeline → ℕ → List (List ℕ)
clock_entry clocks node = clock_lines (node_at node) (get_or clocks node (record { start = 0; segments = [] }))

-- an entry for each clock, for each rule on delays, for the faults of BIU 7 and RMU 4, and for all
-- that is said
unfoldable pub lines_of : Scenario → List (List ℕ)
lines_of sc =
    root_lines sc.frames
    ++ flat_map (clock_entry sc.clocks) (numbers 13)
    ++ flat_map rule_lines sc.delays.rules
    ++ fault_lines (Biu 7) (get_or sc.biu_onsets 7 None)
    ++ fault_lines (Rmu 4) (get_or sc.rmu_onsets 4 None)
    ++ flat_map say_lines sc.says
