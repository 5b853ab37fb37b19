use Rattle.std.proofs.Common.{◌∙◌, sym, ap, drop, get_or, arith}
use Rattle.std.specs.Fmt.{decimal}
use Rattle.rb_picture.proofs.Cuts.{strip_none, strip_some}
use Rattle.rb_picture.proofs.field.biu_in.Goals as goal

pub returns-in-Some-clause-found : goal.returns-in-Some-clause-found
returns-in-Some-clause-found c i small is =
    let cut = strip_some 66 c.args.text.now c.strip_prefix.result _ c.strip_prefix.ensures.cases (omega arith) c.in-Some.is in
    c.below_16.ensures i small (c.u8_in.ensures i (omega (arith, small)) (sym (ap (drop 1) cut) ∙ ap (drop 1) is))

pub returns-in-Some-clause-other : goal.returns-in-Some-clause-other
returns-in-Some-clause-other c rest is =
    let cut = strip_some 66 c.args.text.now c.strip_prefix.result _ c.strip_prefix.ensures.cases (omega arith) c.in-Some.is in
    absurd (omega (arith, ap (λ t. get_or t 0 0) (sym cut ∙ is)))

pub returns-in-None-clause-found : goal.returns-in-None-clause-found
returns-in-None-clause-found c i small is =
    absurd (strip_none 66 c.args.text.now c.strip_prefix.result c.strip_prefix.ensures.cases (omega arith) c.in-None.is (decimal i) is)
