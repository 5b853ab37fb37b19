use Rattle.std.proofs.{Common.{◌≡◌, ◌∙◌, length, drop, sym, ap, arith}, Math.Seq.drop-append_seam, lemmas.Fmt.decimal_injective}
use Rattle.std.specs.Fmt.{decimal}
use Rattle.rb_top.proofs.form.index_after.Goals as goal

pub returns-in_default-clause-none : goal.returns-in_default-clause-none
returns-in_default-clause-none c i small is =
    let at = c.in-Some.ensures.cases in
    let rest : decimal i ≡ drop (length c.args.letter.now) c.args.text.now =
    sym (drop-append_seam c.args.letter.now (decimal i)) ∙ ap (drop (length c.args.letter.now)) (sym is) in
    let digits : drop (length c.args.letter.now) c.args.text.now ≡ c.in-Some.digits.now = ap (λ k. drop k c.args.text.now) (sym at.1.0) ∙ sym at.2 in
    let same : i ≡ c.in-Some-number_in.number =
    decimal_injective i c.in-Some-number_in.number (omega (arith, small)) c.in-Some-number_in.ensures.some.0 (rest ∙ digits ∙ c.in-Some-number_in.ensures.some.1) in
    omega (arith, same, small, c.if-number-lt16.false)
