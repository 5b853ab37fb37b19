use Rattle.std.proofs.Common.{arith}
use Rattle.rb_mid.proofs.Sides.{above_low, under_high}
use Rattle.rb_mid.proofs.is_middle.Goals as goal

pub returns-then-up_to-stamps-clause-range : goal.returns-then-up_to-stamps-clause-range
returns-then-up_to-stamps-clause-range c =
    above_low _ c.args.stamp _ _ c.args.range.now c.ranks_of-below.ensures.up_to c.if-up_to-stamps.true (omega (arith, c.saturating_add-range.ensures))

pub returns-then-stamps-below-clause-range : goal.returns-then-stamps-below-clause-range
returns-then-stamps-below-clause-range c =
    under_high _ c.args.stamp _ _ c.args.range.now c.ranks_of-below.ensures.below c.if-stamps-below.true (omega (arith, c.saturating_sub-range.ensures))
