use Rattle.std.proofs.{Common.{◌≡◌, ◌∙◌, sym, arith}, lemmas.Fmt.decimal_injective}
use Rattle.rb_top.proofs.form.tick_in.Goals as goal

pub returns-in_default-clause-none : goal.returns-in_default-clause-none
returns-in_default-clause-none c n small is =
    let same : c.in-Some.number ≡ n =
    decimal_injective c.in-Some.number n c.in-Some.ensures.some.0 (omega (arith, small)) (sym c.in-Some.ensures.some.1 ∙ is) in
    omega (arith, same, small, c.if-number-lt-MOST_TICKS.false)
