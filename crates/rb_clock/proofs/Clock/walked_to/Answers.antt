-- The walk over the segments stays on the clock, and its sums fit.
use Rattle.std.proofs.{Common.{rules, arith}, lemmas.List.drop_more}
use Rattle.rb_rules.specs.Clock.{IsClock}
use Rattle.rb_clock.proofs.{Times.{at_next, time_to, stays_on, stays_to, product_fits, sum_fits}, Clock.walked_to.Goals.{else-loop-next-test, then-loop-next-test+then-tick-next}}
use Rattle.rb_clock.proofs.Clock.walked_to.Goals as goal

pub loop-next-preserved : goal.loop-next-preserved
loop-next-preserved c =
    let more = drop_more _ c.loop-next.next-index (0, 0) c.loop-next-test.true in
    record {
      walk = rw c.from-length-in-loop-next.ensures (at_next c.args.self.now _ _ _ _ _ _ more c.loop-next.invariant.walk);
      reached = omega arith;
    }

pub returns-clause-time : goal.returns-clause-time
returns-clause-time c =
    let i = c.loop-next.invariant in
    elim c.loop-next-test.branch [
      | else-loop-next-test w ↦
          time_to c.args.self.now _ _ _ c.args.tick _ i.walk (stays_on c.loop-next.length c.args.tick _ _ w.loop-next-test.false) i.reached
      | then-loop-next-test+then-tick-next w ↦
          let more = drop_more _ c.loop-next.next-index (0, 0) w.loop-next-test.true in
          time_to c.args.self.now _ _ _ c.args.tick _ i.walk (stays_to c.args.self.now _ _ _ c.args.tick _ _ _ more i.walk w.if-tick-next.true) i.reached
    ]

pub overflow_mul-now : goal.overflow_mul-now
overflow_mul-now c =
    let is : IsClock 1 2000000 c.args.self.now = search rules in
    product_fits c.args.self.now _ _ _ _ c.args.tick _ is c.loop-next.invariant.walk (omega arith) (omega arith)

pub overflow_add-now : goal.overflow_add-now
overflow_add-now c =
    let is : IsClock 1 2000000 c.args.self.now = search rules in
    sum_fits c.args.self.now _ _ _ _ c.args.tick _ is c.loop-next.invariant.walk (omega arith) (omega arith) (omega arith)

pub overflow_mul-result : goal.overflow_mul-result
overflow_mul-result c =
    let is : IsClock 1 2000000 c.args.self.now = search rules in
    product_fits c.args.self.now _ _ _ c.args.tick c.args.tick _ is c.loop-next.invariant.walk (omega arith) (omega arith)

pub overflow_add-result : goal.overflow_add-result
overflow_add-result c =
    let is : IsClock 1 2000000 c.args.self.now = search rules in
    sum_fits c.args.self.now _ _ _ c.args.tick c.args.tick _ is c.loop-next.invariant.walk (omega arith) (omega arith) (omega arith)
