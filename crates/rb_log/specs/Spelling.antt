-- How a log is spelled, as a relation that knows neither writer nor reader: a header of either
-- form, records of any kind in any order, and the end.
use Rattle.std.specs.{Prelude.{ℕ, ◌+◌, ◌^◌, ◌≡◌, ◌≤◌, ◌<◌, ◌⊎◌, true, List, [], ◌∷◌, ◌++◌, All, length, codes}, List.flat_map}
use Rattle.std.proofs.Math.ListN.{replicate}
use Rattle.byteorder.specs.Endian.{big_bytes}
use Rattle.rb_base.specs.{Sizes.IsShape, declared.node.NodeName.NodeName}
use Rattle.rb_rules.specs.{Core.CoreEvent, Lawful.{IsNodeOf, IsVersion}, Plan.{IsFeasible, IsPlan}}
use Rattle.rb_plan.specs.Timetable.{Timetable}
use Rattle.rb_log.specs.{Header.{common_bytes, has_first_form, version_bytes}, LogText.{Log, senders_of}}
use Rattle.rb_rules.specs.Core as event

-- what a record says: one tick and its word, a number of ticks with word 0, or a message that
-- arrived
pub data Told : Type 0 where
  OneTick : (word : ℕ) → Told
  ManyTicks : (count : ℕ) → Told
  Message : (from : ℕ) (bytes : List ℕ) → Told

-- the bytes of what a record says
abbrev pub spelled : Told → List ℕ
spelled (OneTick word) = 1 ∷ big_bytes 4 word
spelled (ManyTicks count) = 2 ∷ big_bytes 4 count
spelled (Message from bytes) = 3 ∷ from ∷ length bytes ∷ bytes

-- what a record may say in the log of a node with `senders` sources
abbrev pub MayBeTold : ℕ → Told → Type 0
MayBeTold senders (OneTick word) = word < 2 ^ 32
MayBeTold senders (ManyTicks count) = (1 ≤ count) × (count < 2 ^ 32)
MayBeTold senders (Message from bytes) = (from < senders) × (1 ≤ length bytes) × (length bytes ≤ 32)

-- the events that a record says
abbrev pub events_told : Told → List CoreEvent
events_told (OneTick word) = event.Tick word ∷ []
events_told (ManyTicks count) = replicate count (event.Tick 0)
events_told (Message from bytes) = event.Arrive from bytes ∷ []

-- how many ticks
abbrev pub ticks_told : Told → ℕ
ticks_told (OneTick word) = 1
ticks_told (ManyTicks count) = count
ticks_told (Message from bytes) = 0

abbrev pub all_ticks : List Told → ℕ
all_ticks [] = 0
all_ticks (told ∷ others) = ticks_told told + all_ticks others

-- the header of either form; form 1 has no room for another version than One, nor for a probation
abbrev pub SpellsHeader : List ℕ → Timetable → NodeName → Type 0
SpellsHeader header t node =
    ((has_first_form t.plan ≡ true) × (header ≡ codes "RBL1" ++ common_bytes t node))
    ⊎ (header ≡ codes "RBL2" ++ common_bytes t node ++ version_bytes t.plan.version ++ big_bytes 2 t.plan.probation)

-- the numbers are those of a bus, the node is on it, and the bytes are a header, records and an end
-- that say the events
pub record SpellsLog (bytes : List ℕ) (log : Log) : Type 0 where
  pub shape : IsShape log.timetable.sizes
  pub plan : IsPlan log.timetable.plan
  pub feasible : IsFeasible log.timetable.sizes log.timetable.plan
  pub version : IsVersion log.timetable.plan.version
  pub node : IsNodeOf log.timetable.sizes log.node
  pub header : List ℕ
  pub spells : SpellsHeader header log.timetable log.node
  pub told : List Told
  pub may : All (MayBeTold (senders_of log.timetable log.node)) told
  pub few : all_ticks told ≤ 2147483648
  pub all : bytes ≡ header ++ flat_map spelled told ++ 4 ∷ []
  pub events : log.events ≡ flat_map events_told told
