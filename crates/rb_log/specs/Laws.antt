-- Reading and writing together.
use Rattle.std.specs.{Prelude.{ℕ, ◌+◌, ◌^◌, ◌≡◌, ◌≤◌, ◌<◌, ◌↔◌, true, false, List, [], ◌∷◌, ◌++◌, All, length, Ok}, List.flat_map}
use Rattle.rb_base.specs.{Sizes.IsShape, declared.event.Event.Event, declared.event.EventKind.EventKind, declared.event.EventKind.TheVariants.{Tick, Arrive}, declared.node.NodeName.NodeName}
use Rattle.rb_rules.specs.{Lawful.{IsNodeOf, IsVersion}, Spelling.AreBytes, Plan.{IsFeasible, IsPlan}}
use Rattle.rb_plan.specs.Timetable.{Timetable}
use Rattle.rb_log.specs.{Header.header_of, LogText.{Log, log_in, senders_of}, Spelling.SpellsLog, Writing.{given, ticks_given, written}}

-- what can happen at a node: a word has four bytes, and is 0 if none was wanted; what arrives is
-- from a node of the bus and has 1 to 32 bytes
abbrev pub MayHappen : ℕ → EventKind → Type 0
MayHappen senders (Tick word true) = word < 2 ^ 32
MayHappen senders (Tick word false) = word ≡ 0
MayHappen senders (Arrive from bytes) = (from < senders) × (1 ≤ length bytes.items) × (length bytes.items ≤ 32)

abbrev pub ticks_in : List Event → ℕ
ticks_in [] = 0
ticks_in (e ∷ events) = ticks_given e + ticks_in events

-- the numbers are those of a bus with a feasible plan, the node is on it, and these events can
-- happen there: each of them may, and together they have at most 2^31 ticks
pub record IsTellable (t : Timetable) (node : NodeName) (events : List Event) : Type 0 where
  pub shape : IsShape t.sizes
  pub plan : IsPlan t.plan
  pub feasible : IsFeasible t.sizes t.plan
  pub version : IsVersion t.plan.version
  pub node_of : IsNodeOf t.sizes node
  pub happen : All (λ e. MayHappen (senders_of t node) e.kind) events
  pub ticks : ticks_in events ≤ 2147483648

-- a header and what the writer gives for the events is a log, which says these numbers, this node
-- and these events
abbrev pub WrittenIsRead : Type 0
WrittenIsRead = (t : Timetable) (node : NodeName) (events : List Event) → IsTellable t node events
    → log_in (header_of t node ++ written 0 events) ≡ Ok (record { timetable = t; node = node; events = flat_map given events })

-- what is read from bytes is a log if and only if they spell it
abbrev pub ReadIsSpelled : Type 0
ReadIsSpelled = (bytes : List ℕ) (log : Log) → AreBytes bytes → (log_in bytes ≡ Ok log) ↔ SpellsLog bytes log
