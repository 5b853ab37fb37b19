-- The lines before this one are heard.
use Rattle.std.proofs.Common.{ℕ, List, ◌++◌, take}
use Rattle.rb_base.specs.declared.values.Delivery.{Delivery}
use Rattle.rb_group.specs.Portions.{deliveries_in}
use Rattle.rb_group_run.specs.Holding.{HoldPortions}
use Rattle.rb_group_run.proofs.ports.hear_slot.Given as goal

abbrev pub invariant-loop-line : goal.invariant-loop-line
invariant-loop-line l = (members : ℕ) (told : ℕ → List Delivery) → HoldPortions members told l.fn.groups
    → HoldPortions members (λ i. told i ++ deliveries_in l.frame l.slot i (take l.line-index l.lines)) l.groups
