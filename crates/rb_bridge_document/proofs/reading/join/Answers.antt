use Rattle.std.proofs.Common.{◌≡◌, sym, ap, ◌∙◌, arith}
use Rattle.toml.specs.View.{table_view}
use Rattle.rb_scenario.specs.Acceptance.{as_scenario}
use Rattle.rb_rules_bridge.specs.declared.bank.Bank.TheVariants.{Left, Right}
use Rattle.rb_bridge_document.specs.Documents.{are_apart}
use Rattle.rb_bridge_document.proofs.Fitting.{joined}
use Rattle.rb_bridge_document.proofs.reading.join.Goals as goal

pub returns-clause-fits : goal.returns-clause-fits
returns-clause-fits c =
    let frames : c.args.left.frames ≡ c.args.right.frames = omega (arith, c.if-left-right.false) in
    joined (as_scenario c.args.left) (as_scenario c.args.right) (table_view c.args.table.now) c.in-Some.pairs.items c.in-Some-slot_at.left_slot c.in-Some-slot_at-2.right_slot
    (sym c.in-Some.ensures) (ap (are_apart Left) (sym c.as_slice.ensures.value) ∙ sym c.are_apart.ensures ∙ c.if-not-are_apart.false)
    (ap (are_apart Right) (sym c.as_slice-2.ensures.value) ∙ sym c.are_apart-2.ensures ∙ c.if-not-are_apart-2.false)
    (sym c.in-Some-slot_at.ensures) (sym c.in-Some-slot_at-2.ensures) frames
