-- The numbers by which refusals are printed.
use Rattle.std.specs.Prelude.{ℕ, Option, Some, None}
use Rattle.rb_scenario_entries.specs.{declared.refusal.Refusal.Refusal, declared.refusal.Refusal.TheVariants.{NotToml, MissingKey, UnknownKey, WrongType, OutOfRange, PlanFails, ClockBounds, DelayBounds, StartApart, SayOfGood, TooMany, NoSuchNode, OutOfMemory}}

-- the code of a refusal; out of memory has none
abbrev pub code_of : Refusal → Option ℕ
code_of NotToml = Some 1
code_of MissingKey = Some 2
code_of UnknownKey = Some 3
code_of WrongType = Some 4
code_of OutOfRange = Some 5
code_of (PlanFails n) = Some 6
code_of ClockBounds = Some 7
code_of DelayBounds = Some 8
code_of StartApart = Some 9
code_of SayOfGood = Some 10
code_of TooMany = Some 11
code_of NoSuchNode = Some 12
code_of OutOfMemory = None

-- the number that stands after the name: of the inequality that fails
abbrev pub detail_of : Refusal → Option ℕ
detail_of (PlanFails n) = Some n
detail_of _ = None
