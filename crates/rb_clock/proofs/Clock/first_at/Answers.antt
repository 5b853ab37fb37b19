-- The walk over the segments stays on the clock, and stops at the one in which the time comes.
use Rattle.std.proofs.{Common.{◌-◌, ◌<◌, length, take, drop, rules, arith, inr}, lemmas.List.drop_more}
use Rattle.rb_rules.specs.Clock.{IsClock}
use Rattle.rb_clock.proofs.{Times.{Ends, at_length, at_next, product_fits, sum_fits, ends_last, ends_past, ends_here, stamp_found, stamp_most, stamp_computed}, Clock.first_at.Goals.{else-loop-next-test, then-loop-next-test+then-next-ge-LAST_TICK, then-loop-next-test+else-next-ge-LAST_TICK+then-time-end}}
use Rattle.rb_clock.proofs.Clock.first_at.Goals as goal

pub loop-next-preserved : goal.loop-next-preserved
loop-next-preserved c =
    let more = drop_more _ c.loop-next.next-index (0, 0) c.loop-next-test.true in
    record {
      walk = rw c.from-length-in-loop-next.ensures (at_next c.args.self.now _ _ _ _ _ _ more c.loop-next.invariant.walk);
      early = omega arith;
      before = inr (omega arith);
    }

ends : (c : goal.After-div_ceil) → Ends c.args.self.now c.args.time c.loop-next.from c.loop-next.length
    (drop c.loop-next.next-index (take (length c.as_slice.result.now - 1) (drop 1 c.as_slice.result.now)))
ends c =
    let walk = c.loop-next.invariant.walk in
    let before : c.loop-next.now < c.args.time = c.if-time-now.false in
    elim c.loop-next-test.branch [
      | else-loop-next-test w ↦ ends_last c.args.self.now _ _ _ _ _ _ c.requires walk before w.loop-next-test.false
      | then-loop-next-test+then-next-ge-LAST_TICK w ↦
          let more = drop_more _ c.loop-next.next-index (0, 0) w.loop-next-test.true in
          ends_past c.args.self.now _ _ _ _ _ _ _ c.requires walk before more w.if-next-ge-LAST_TICK.true
      | then-loop-next-test+else-next-ge-LAST_TICK+then-time-end w ↦
          let more = drop_more _ c.loop-next.next-index (0, 0) w.loop-next-test.true in
          ends_here c.args.self.now _ _ _ _ _ _ _ walk more w.if-next-ge-LAST_TICK.false w.if-time-end.true
    ]

pub returns-else-time-now-clause-stamp : goal.returns-else-time-now-clause-stamp
returns-else-time-now-clause-stamp c =
    let is : IsClock 1 2000000 c.args.self.now = search rules in
    stamp_found c.args.self.now _ _ _ _ _ _ is c.loop-next.invariant.walk (ends c) c.if-time-now.false c.div_ceil.ensures

pub returns-else-time-now-clause-value : goal.returns-else-time-now-clause-value
returns-else-time-now-clause-value c =
    let is : IsClock 1 2000000 c.args.self.now = search rules in
    stamp_computed c.args.self.now _ _ is (returns-else-time-now-clause-stamp c)

pub returns-else-time-now-clause-most : goal.returns-else-time-now-clause-most
returns-else-time-now-clause-most c = stamp_most c.args.self.now _ _ _ _ _ (ends c) (returns-else-time-now-clause-stamp c)

pub overflow_mul-end : goal.overflow_mul-end
overflow_mul-end c =
    let is : IsClock 1 2000000 c.args.self.now = search rules in
    product_fits c.args.self.now _ _ _ _ 2147483648 _ is c.loop-next.invariant.walk (omega arith) (omega arith)

pub overflow_add-end : goal.overflow_add-end
overflow_add-end c =
    let is : IsClock 1 2000000 c.args.self.now = search rules in
    sum_fits c.args.self.now _ _ _ _ 2147483648 _ is c.loop-next.invariant.walk (omega (arith, c.loop-next.invariant.early)) (omega arith) (omega arith)

pub div_ceil-requires : goal.div_ceil-requires
div_ceil-requires c =
    let is : IsClock 1 2000000 c.args.self.now = search rules in
    omega (arith, (at_length c.args.self.now _ _ c.loop-next.length _ is c.loop-next.invariant.walk).0)

pub overflow_add-result : goal.overflow_add-result
overflow_add-result c = omega (arith, returns-else-time-now-clause-most c)
