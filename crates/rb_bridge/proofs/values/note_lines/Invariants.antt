-- The lines before this one are kept.
use Rattle.std.proofs.Common.{ℕ, Option, take}
use Rattle.std.specs.Option.{option_or}
use Rattle.rb_base.specs.declared.values.Heard.{Heard}
use Rattle.rb_bridge.specs.Holding.{HoldValues, value_by}
use Rattle.rb_bridge.proofs.values.note_lines.Given as goal

abbrev pub invariant-loop-line : goal.invariant-loop-line
invariant-loop-line l = (told : ℕ → Option Heard) → HoldValues told l.fn.kept → HoldValues (λ i. option_or (told i) (value_by (take l.line-index l.lines) i)) l.kept
