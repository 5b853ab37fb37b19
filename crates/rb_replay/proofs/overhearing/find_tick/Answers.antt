use Rattle.std.proofs.Common.{◌-◌, ◌≤◌, ap, arith}
use Rattle.rb_log.specs.Cursor.{shown}
use Rattle.rb_replay.proofs.{Events.{first-is, none-left}, Skips.{finds, goes-past, is-over, leaves-out, passes-over}}
use Rattle.rb_replay.proofs.overhearing.find_tick.Goals as goal

pub returns-then-left-eq0-clause-found : goal.returns-then-left-eq0-clause-found
returns-then-left-eq0-clause-found c =
    let most : c.skip-left.result ≤ c.events.left = omega (arith, c.skip-left.ensures.value) in
    λ _. (
      c.in-Some-Tick.field-0-0,
      finds c.args.skip (c.events.left - c.skip-left.result) c.in-Some-Tick.field-0-0 c.args.log.now.events c.skip-left.new.self.events c.next.new.self.events
          (shown c.in-Some-Tick.field-0)
          (passes-over c.args.skip c.events.left c.skip-left.result c.args.log.now.events c.events.log.events c.skip-left.new.self.events c.events.invariant
          c.skip-left.ensures.passed most)
          c.if-left-eq0.true
          (first-is (shown c.in-Some-Tick.field-0) c.skip-left.new.self.events c.next.new.self.events c.in-Some-Tick.ensures.event c.in-Some-Tick.ensures.rest)
          (ap shown c.in-Some-Tick.field-0-is),
    )

pub events-preserved-in-Some-Tick : goal.events-preserved-in-Some-Tick
events-preserved-in-Some-Tick c =
    let most : c.skip-left.result ≤ c.events.left = omega (arith, c.skip-left.ensures.value) in
    goes-past c.args.skip (c.events.left - c.skip-left.result) c.in-Some-Tick.field-0-0 c.args.log.now.events c.skip-left.new.self.events c.next.new.self.events
    (shown c.in-Some-Tick.field-0)
    (passes-over c.args.skip c.events.left c.skip-left.result c.args.log.now.events c.events.log.events c.skip-left.new.self.events c.events.invariant
    c.skip-left.ensures.passed most)
    (omega (arith, c.if-left-eq0.false))
    (first-is (shown c.in-Some-Tick.field-0) c.skip-left.new.self.events c.next.new.self.events c.in-Some-Tick.ensures.event c.in-Some-Tick.ensures.rest)
    (ap shown c.in-Some-Tick.field-0-is)

pub events-preserved : goal.events-preserved
events-preserved c =
    let most : c.skip-left.result ≤ c.events.left = omega (arith, c.skip-left.ensures.value) in
    leaves-out c.args.skip (c.events.left - c.skip-left.result) c.in-Some-Arrive.field-0-0 c.in-Some-Arrive.field-0-1.now c.args.log.now.events
    c.skip-left.new.self.events c.next.new.self.events (shown c.in-Some-Arrive.field-0)
    (passes-over c.args.skip c.events.left c.skip-left.result c.args.log.now.events c.events.log.events c.skip-left.new.self.events c.events.invariant
    c.skip-left.ensures.passed most)
    (first-is (shown c.in-Some-Arrive.field-0) c.skip-left.new.self.events c.next.new.self.events c.in-Some-Arrive.ensures.event c.in-Some-Arrive.ensures.rest)
    (ap shown c.in-Some-Arrive.field-0-is)

pub returns-in-None-clause-none : goal.returns-in-None-clause-none
returns-in-None-clause-none c =
    let most : c.skip-left.result ≤ c.events.left = omega (arith, c.skip-left.ensures.value) in
    λ _. is-over c.args.skip (c.events.left - c.skip-left.result) c.args.log.now.events c.skip-left.new.self.events
    (passes-over c.args.skip c.events.left c.skip-left.result c.args.log.now.events c.events.log.events c.skip-left.new.self.events c.events.invariant
    c.skip-left.ensures.passed most)
    (none-left c.next.result c.skip-left.new.self.events c.in-None.is c.next.ensures.event)
