-- What is lawful: the premise of every law of the bus. It asks nothing of what faulty nodes do.
use Rattle.std.specs.Prelude.{⊤, ℕ, ◌≡◌, ◌⊎◌, ◌+◌, ◌-◌, ◌^◌, ◌<◌, ◌≤◌, ◌==◌, nat_lt, if◌then◌else◌, Bool, true, false, All, List, [], ◌∷◌, length, Option, Some, None}
use Rattle.rb_base.specs.{Nodes.{Side, other}, Nodes.Side.{Biu, Rmu}, Sizes.{IsShape, Sizes, sync_slot_of}, declared.node.NodeName.NodeName, declared.values.Place.Place}
use Rattle.rb_rules.specs.{declared.link.Pattern.Pattern, declared.link.Pattern.TheVariants.{One, AllBiu, AllRmu}, declared.link.Rule.Rule, declared.message.Version.Version, declared.plan.Plan.Plan, declared.say.Content.Content, declared.say.Content.TheVariants.{Word, Fault, Sync, Raw}, declared.say.Say.Say, Clock.{IsClock, Timeline}, Goodness.{Scenario, is_good}, Links.covers, Plan.{IsFeasible, IsPlan, longest_of, shortest_of}}
use Rattle.rb_base.specs.declared.node.NodeName.TheVariants as node
use Rattle.rb_rules.specs.declared.message.Version.TheVariants as version

-- Nodes.

-- the node is one of the bus
abbrev pub IsNodeOf : Sizes → NodeName → Type 0
IsNodeOf sizes (node.Biu i) = i < sizes.bius
IsNodeOf sizes (node.Rmu i) = i < sizes.rmus

-- the pattern is a node of the bus, or all nodes of a kind
abbrev pub IsPatternOf : Sizes → Pattern → Type 0
IsPatternOf sizes (One name) = IsNodeOf sizes name
IsPatternOf sizes AllBiu = ⊤
IsPatternOf sizes AllRmu = ⊤

-- the kind of a node
abbrev pub kind_of : NodeName → Side
kind_of (node.Biu i) = Biu
kind_of (node.Rmu i) = Rmu

-- the kind of the nodes that a pattern stands for
abbrev pub kind_named : Pattern → Side
kind_named (One name) = kind_of name
kind_named AllBiu = Biu
kind_named AllRmu = Rmu

-- the node is good in this slot of this frame
abbrev pub is_node_good : Scenario → NodeName → ℕ → ℕ → Bool
is_node_good sc (node.Biu i) frame slot = is_good sc Biu i frame slot
is_node_good sc (node.Rmu i) frame slot = is_good sc Rmu i frame slot

-- Numbers.

-- the list has at least `nodes` entries, and every entry satisfies `IsSuch`
pub record HasEach {X : Type 0} (nodes : ℕ) (IsSuch : X → Type 0) (entries : List X) : Type 0 where
  pub enough : nodes ≤ length entries
  pub each : All IsSuch entries

-- the pair is a range from low to high
pub record IsRangeIn (low high : ℕ) (range : ℕ × ℕ) : Type 0 where
  pub least : low ≤ range.0
  pub order : range.0 ≤ range.1
  pub greatest : range.1 ≤ high

-- the number of the bus, if messages carry one, is a byte
abbrev pub IsVersion : Version → Type 0
IsVersion version.One = ⊤
IsVersion (version.Two bus) = bus < 2 ^ 8

-- how many segments the clocks have
abbrev pub segments_of_all : List Timeline → ℕ
segments_of_all [] = 0
segments_of_all (clock ∷ clocks) = length clock.segments + segments_of_all clocks

-- how many ticks a stage of the sync slot has. The tail, stage 4, has fewer than this number
abbrev pub ticks_in_sync : Plan → ℕ → ℕ
ticks_in_sync plan stage =
    if stage == 1 then plan.l
    else (if stage == 2 then plan.v else (if stage == 3 then plan.z else plan.v + plan.z + plan.c))

-- how many ticks the window of a place has; below the sync slot all have the same
abbrev pub ticks_at : Sizes → Plan → Place → ℕ
ticks_at sizes plan place = if nat_lt place.slot (sync_slot_of sizes) then plan.l else ticks_in_sync plan place.stage

-- Faults, links, and what is said.

-- the onset, if there is one, is in the run
abbrev pub IsOnsetOf : Scenario → Option (ℕ × ℕ) → Type 0
IsOnsetOf sc None = ⊤
IsOnsetOf sc (Some onset) = (onset.0 < sc.frames) × (onset.1 ≤ sync_slot_of sc.sizes)

-- the delay is within the plan's bounds
pub record IsDelay (plan : Plan) (delay : ℕ) : Type 0 where
  pub least : plan.dmin ≤ delay
  pub greatest : delay ≤ plan.dmax

-- a rule is for messages from nodes of one kind to nodes of the other, in places of the run, and
-- its delay is within the plan's bounds
pub record IsRuleOf (sc : Scenario) (r : Rule) : Type 0 where
  pub from : IsPatternOf sc.sizes r.from
  pub to : IsPatternOf sc.sizes r.to
  pub unlike_kinds : kind_named r.to ≡ other (kind_named r.from)
  pub frames : IsRangeIn 0 (sc.frames - 1) r.frames
  pub slots : IsRangeIn 0 (sync_slot_of sc.sizes) r.slots
  pub stages : IsRangeIn 1 3 r.stages
  pub delay : IsDelay sc.plan r.delay

-- the slots are the sync slot alone
abbrev pub IsSyncAlone : Sizes → ℕ × ℕ → Type 0
IsSyncAlone sizes slots = (slots.0 ≡ sync_slot_of sizes) × (slots.1 ≡ sync_slot_of sizes)

-- the raw bytes are 1 to 32 bytes
pub record IsRaw (bytes : List ℕ) : Type 0 where
  pub some : 1 ≤ length bytes
  pub most : length bytes ≤ 32
  pub each : All (λ byte. byte < 2 ^ 8) bytes

-- what is said is a word, a fault, a call, or raw bytes
abbrev pub IsContent : Content → Type 0
IsContent (Word word) = word < 2 ^ 32
IsContent Fault = ⊤
IsContent Sync = ⊤
IsContent (Raw bytes) = IsRaw bytes.items

-- An entry is said by a node that is not good at the entry's first place, to nodes of the other
-- kind, in windows of the run. It comes in each window at one of the window's ticks, or in the sync
-- slot less than a tick before one of them
pub record IsSayOf (sc : Scenario) (s : Say) : Type 0 where
  pub from : IsNodeOf sc.sizes s.from
  pub faulty : is_node_good sc s.from s.frames.0 s.slots.0 ≡ false
  pub to : IsPatternOf sc.sizes s.to
  pub unlike_kinds : kind_named s.to ≡ other (kind_of s.from)
  pub frames : IsRangeIn 0 (sc.frames - 1) s.frames
  pub slots : IsRangeIn 0 (sync_slot_of sc.sizes) s.slots
  pub stages : IsRangeIn 1 4 s.stages
  pub tail : (s.stages.1 ≤ 3) ⊎ IsSyncAlone sc.sizes s.slots
  pub offset : (place : Place) → covers s.frames s.slots s.stages place ≡ true → s.offset < ticks_at sc.sizes sc.plan place
  pub early : s.early < shortest_of sc.plan
  pub early_in_sync : (s.early ≡ 0) ⊎ IsSyncAlone sc.sizes s.slots
  pub content : IsContent s.content

-- A scenario.

-- the sizes, the plan, the clocks, the delays and the onsets of the scenario are lawful, whatever
-- its faulty nodes do
pub record IsLawful (sc : Scenario) : Type 0 where
  pub sizes : IsShape sc.sizes
  pub plan : IsPlan sc.plan
  pub version : IsVersion sc.plan.version
  pub feasible : IsFeasible sc.sizes sc.plan
  pub frames : (1 ≤ sc.frames) × (sc.frames ≤ 4096)
  pub requests : HasEach sc.sizes.bius (λ n. n ≤ 64) sc.requests
  pub words : HasEach sc.sizes.bius (λ w. w < 2 ^ 32) sc.words
  pub apps : HasEach sc.sizes.bius (λ app. app < 3) sc.apps
  pub one_clock_each : length sc.clocks ≡ sc.sizes.bius + sc.sizes.rmus
  pub clocks : All (IsClock (shortest_of sc.plan) (longest_of sc.plan)) sc.clocks
  pub starts : All (λ a. All (λ b. a.start ≤ b.start + sc.plan.p) sc.clocks) sc.clocks
  pub base_delay : IsDelay sc.plan sc.delays.base
  pub rules : All (IsRuleOf sc) sc.delays.rules
  pub biu_onsets : HasEach sc.sizes.bius (IsOnsetOf sc) sc.biu_onsets
  pub rmu_onsets : HasEach sc.sizes.rmus (IsOnsetOf sc) sc.rmu_onsets
  pub few_rules : length sc.delays.rules ≤ 4096
  pub few_segments : segments_of_all sc.clocks ≤ 4096
