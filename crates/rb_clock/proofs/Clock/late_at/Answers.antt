-- If one length stands, the time is a product.
use Rattle.std.proofs.Common.{drop, sym, ◌∙◌, arith}
use Rattle.rb_rules.specs.Clock.{Timeline}
use Rattle.rb_clock.proofs.Times.{IsAt, begins, none_left, one_length, one_product, one_sum}
use Rattle.rb_clock.proofs.Clock.late_at.Goals as goal

abbrev kept : goal.After-from → Timeline
kept c = record { start = c.self.inside.start; segments = c.self.inside.segments.items }

-- if the first segment is the only one, the walk begins with it
one : (c : goal.After-from) → IsAt (kept c) c.self.inside.start 0 c.from.result (drop 1 c.as_slice.result.now)
one c = begins (kept c) c.as_slice.result.now c.from.result c.self.invariant (sym c.as_slice.ensures.value) c.in-len1-up.len_at_least c.from.ensures

pub returns-then-is_empty-clause-time : goal.returns-then-is_empty-clause-time
returns-then-is_empty-clause-time c =
    rw (← c.self.view_is) (one_length (kept c) c.from.result c.args.tick (drop 1 c.as_slice.result.now) (one c)
    (none_left c.as_slice.result.now (sym c.is_empty.ensures ∙ c.if-is_empty.true)))

pub overflow_mul-result : goal.overflow_mul-result
overflow_mul-result c = one_product (kept c) c.from.result c.args.tick (drop 1 c.as_slice.result.now) c.self.invariant (one c) (omega arith)

pub overflow_add-result : goal.overflow_add-result
overflow_add-result c = one_sum (kept c) c.from.result c.args.tick (drop 1 c.as_slice.result.now) c.self.invariant (one c) (omega arith)
