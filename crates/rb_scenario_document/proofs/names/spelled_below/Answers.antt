use Rattle.std.proofs.{Common.{◌≡◌, arith, sym, ◌∙◌}, lemmas.Fmt.decimal_injective}
use Rattle.rb_scenario_document.proofs.names.spelled_below.Goals as goal

pub returns-in_default-clause-none : goal.returns-in_default-clause-none
returns-in_default-clause-none c = λ i small e.
    let spelled = c.in-Some.ensures.some in
    let same : i ≡ c.in-Some.index = decimal_injective i c.in-Some.index (omega arith) (omega (arith, spelled.0)) (sym e ∙ spelled.1) in
    let not_below = c.if-index-count.false in
    omega arith
