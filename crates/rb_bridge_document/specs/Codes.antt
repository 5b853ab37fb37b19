-- The numbers by which the refusals of a bridge are printed.
use Rattle.std.specs.Prelude.{ℕ, Option, Some, None}
use Rattle.rb_scenario_entries.specs.Codes.{code_of as scenario_code_of}
use Rattle.rb_bridge_document.specs.{declared.refusal.BridgeRefusal.BridgeRefusal, declared.refusal.BridgeRefusal.TheVariants.{BridgeToml, BridgeForm, LeftRefused, RightRefused, BridgeRange, OutOfMemory}}

-- the code of a refusal; out of memory has none
abbrev pub code_of : BridgeRefusal → Option ℕ
code_of BridgeToml = Some 21
code_of BridgeForm = Some 22
code_of (LeftRefused why) = Some 23
code_of (RightRefused why) = Some 24
code_of BridgeRange = Some 25
code_of OutOfMemory = None

-- the number that stands after the name: the code of the rule that a scenario breaks
abbrev pub detail_of : BridgeRefusal → Option ℕ
detail_of (LeftRefused why) = scenario_code_of why
detail_of (RightRefused why) = scenario_code_of why
detail_of _ = None
