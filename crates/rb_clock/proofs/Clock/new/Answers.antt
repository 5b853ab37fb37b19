-- The bounds of a clock's ticks lie within those of all clocks.
use Rattle.std.proofs.Common.{rules, arith, ◌-◌, ◌+◌}
use Rattle.rb_clock.proofs.Times.{within_wider}
use Rattle.rb_clock.proofs.Clock.new.Goals as goal

pub invariant_of-result : goal.invariant_of-result
invariant_of-result c = record {
  start = omega arith;
  rising = search rules;
  within = within_wider (c.args.unit - c.args.drift) (c.args.unit + c.args.drift) 1 2000000 c.in_ok-segments.segments.items (omega arith) (omega arith) (search rules);
}
