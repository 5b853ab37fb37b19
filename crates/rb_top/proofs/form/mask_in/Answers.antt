use Rattle.std.proofs.{Common.{◌≡◌, ◌∙◌, sym, arith}, lemmas.Fmt.decimal_injective}
use Rattle.rb_top.proofs.form.mask_in.Goals as goal

pub returns-in_default-clause-none : goal.returns-in_default-clause-none
returns-in_default-clause-none c n mask is =
    let same : c.in-Some.number ≡ n =
    decimal_injective c.in-Some.number n c.in-Some.ensures.some.0 (omega (arith, mask.mask_fits)) (sym c.in-Some.ensures.some.1 ∙ is) in
    omega (arith, same, mask.some_member, mask.mask_fits, c.if-number-le-MOST_MASK.false)

pub returns-in_default-2-clause-none : goal.returns-in_default-2-clause-none
returns-in_default-2-clause-none c n mask is =
    let same : c.in-Some.number ≡ n =
    decimal_injective c.in-Some.number n c.in-Some.ensures.some.0 (omega (arith, mask.mask_fits)) (sym c.in-Some.ensures.some.1 ∙ is) in
    omega (arith, same, mask.some_member, mask.mask_fits, c.if-number-ge1.false)
