use Rattle.std.proofs.Common.{◌≡◌, length, arith, sym, ◌∙◌}
use Rattle.rb_queue.specs.Waiting.{arrivals_at, tick_at}
use Rattle.rb_queue.proofs.{Sources.count_arrivals, Readiness.{counted, uncounted}}
use Rattle.rb_queue.proofs.scan.count_ready.Goals as goal

pub returns-then-arriving-gt0-clause-value : goal.returns-then-arriving-gt0-clause-value
returns-then-arriving-gt0-clause-value c =
    let so_many : c.count-arriving.result ≡ length (arrivals_at c.args.time c.args.arrivals.now) = c.count-arriving.ensures.value ∙ sym (count_arrivals c.args.time c.args.arrivals.now) in
    so_many ∙ sym (counted (arrivals_at c.args.time c.args.arrivals.now) (tick_at c.args.time c.args.tick) (omega (arith, so_many, c.if-arriving-gt0.true)))

pub returns-clause-value : goal.returns-clause-value
returns-clause-value c =
    let so_many : c.count-arriving.result ≡ length (arrivals_at c.args.time c.args.arrivals.now) = c.count-arriving.ensures.value ∙ sym (count_arrivals c.args.time c.args.arrivals.now) in
    c.count_tick.ensures.value
    ∙ sym (uncounted (arrivals_at c.args.time c.args.arrivals.now) (tick_at c.args.time c.args.tick) (omega (arith, so_many, c.if-arriving-gt0.false)))
