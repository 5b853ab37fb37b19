use Rattle.std.proofs.Common.{Some, arith, sym, ap, ◌∙◌}
use Rattle.rb_queue.specs.Scanning.{is_sooner}
use Rattle.rb_queue.proofs.Readiness.{first_least, tick_least}
use Rattle.rb_queue.proofs.scan.least_time.Goals as goal

pub returns-then-is_sooner : goal.returns-then-is_sooner
returns-then-is_sooner c =
    tick_least c.args.arrivals.now c.args.first c.index-arrivals-first.result c.args.tick c.requires (omega (arith, c.if-first-arrivals.false)) c.index-arrivals-first.is
    (ap (is_sooner c.args.tick) (sym c.time-time.ensures) ∙ sym c.is_sooner.ensures ∙ c.if-is_sooner.true)

pub returns : goal.returns
returns c =
    ap (λ n. Some n) c.time-time.ensures
    ∙ first_least c.args.arrivals.now c.args.first c.index-arrivals-first.result c.args.tick c.requires (omega (arith, c.if-first-arrivals.false)) c.index-arrivals-first.is
    (ap (is_sooner c.args.tick) (sym c.time-time.ensures) ∙ sym c.is_sooner.ensures ∙ c.if-is_sooner.false)
