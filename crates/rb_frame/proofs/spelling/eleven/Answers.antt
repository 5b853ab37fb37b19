use Rattle.std.proofs.Common.{[], ◌∷◌, ◌++◌, ◌∙◌, ap, arith}
use Rattle.rb_frame.specs.Spellings.{spelled}
use Rattle.rb_frame.proofs.Sending.{check_ten, eleven_bytes, eleven_filled}
use Rattle.rb_frame.proofs.spelling.eleven.Goals as goal

pub invariant_of-result : goal.invariant_of-result
invariant_of-result c = eleven_filled c.args.low c.args.high c.check-check.result _ c.ranges.low.fits c.requires c.check-check.type_inv (omega (arith, c.from.ensures, c.from-2.ensures))

pub returns : goal.returns
returns c =
    eleven_bytes c.args.low c.args.high c.check-check.result _ c.requires c.check-check.type_inv (omega (arith, c.from.ensures, c.from-2.ensures))
    ∙ ap (λ check. spelled c.args.low c.args.high 10 ++ check ∷ []) (c.check-check.ensures ∙ check_ten c.args.low c.args.high c.requires)
