use Rattle.std.proofs.{Common.{◌≡◌, ◌∙◌, sym, arith}, lemmas.Fmt.decimal_injective}
use Rattle.rb_top.proofs.form.frames_in.Goals as goal

pub returns-in_default-clause-none : goal.returns-in_default-clause-none
returns-in_default-clause-none c n least most is =
    let same : c.in-Some.number ≡ n =
    decimal_injective c.in-Some.number n c.in-Some.ensures.some.0 (omega (arith, most)) (sym c.in-Some.ensures.some.1 ∙ is) in
    omega (arith, same, least, most, c.if-number-le-MOST_FRAMES.false)

pub returns-in_default-2-clause-none : goal.returns-in_default-2-clause-none
returns-in_default-2-clause-none c n least most is =
    let same : c.in-Some.number ≡ n =
    decimal_injective c.in-Some.number n c.in-Some.ensures.some.0 (omega (arith, most)) (sym c.in-Some.ensures.some.1 ∙ is) in
    omega (arith, same, least, most, c.if-number-ge1.false)
