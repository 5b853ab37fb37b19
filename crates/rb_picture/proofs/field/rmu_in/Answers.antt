use Rattle.std.proofs.Common.{◌∙◌, sym, ap, drop, arith}
use Rattle.std.specs.Fmt.{decimal}
use Rattle.rb_picture.proofs.Cuts.{strip_none, strip_some}
use Rattle.rb_picture.proofs.field.rmu_in.Goals as goal

pub returns-in-Some : goal.returns-in-Some
returns-in-Some c i small is =
    let cut = strip_some 82 c.args.text.now c.strip_prefix.result _ c.strip_prefix.ensures.cases (omega arith) c.in-Some.is in
    c.below_16.ensures i small (c.u8_in.ensures i (omega (arith, small)) (sym (ap (drop 1) cut) ∙ ap (drop 1) is))

pub returns-in-None : goal.returns-in-None
returns-in-None c i small is =
    absurd (strip_none 82 c.args.text.now c.strip_prefix.result c.strip_prefix.ensures.cases (omega arith) c.in-None.is (decimal i) is)
