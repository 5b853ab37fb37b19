use Rattle.std.proofs.Common.{[], ◌∷◌, ◌++◌, ◌∙◌, ap, arith}
use Rattle.rb_frame.specs.Spellings.{spelled}
use Rattle.rb_frame.proofs.Sending.{check_bus, twelve_bytes, twelve_filled}
use Rattle.rb_frame.proofs.spelling.twelve.Goals as goal

pub invariant_of-result : goal.invariant_of-result
invariant_of-result c = twelve_filled c.args.low c.args.high c.args.bus c.check-check.result _ c.ranges.low.fits c.requires c.ranges.bus.fits c.check-check.type_inv (omega (arith, c.from.ensures, c.from-2.ensures, c.from-3.ensures))

pub returns : goal.returns
returns c =
    twelve_bytes c.args.low c.args.high c.args.bus c.check-check.result _ c.requires c.ranges.bus.fits c.check-check.type_inv (omega (arith, c.from.ensures, c.from-2.ensures, c.from-3.ensures))
    ∙ ap (λ check. spelled c.args.low c.args.high 10 ++ c.args.bus ∷ [] ++ check ∷ []) (c.check-check.ensures ∙ check_bus c.args.low c.args.high _ c.args.bus c.requires c.ranges.bus.fits (omega (arith, c.from.ensures)))
