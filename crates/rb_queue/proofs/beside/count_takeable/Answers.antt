use Rattle.std.proofs.Common.{◌≡◌, ◌+◌, length, arith, ap, ◌∙◌}
use Rattle.rb_base.specs.Counting.{count_if}
use Rattle.rb_queue.specs.{Waiting.tick_at, Queued.{senders_at, ticks_at}, Scanning.is_between}
use Rattle.rb_queue.proofs.Besides.{count_senders, count_ticks, counted, uncounted}
use Rattle.rb_queue.proofs.beside.count_takeable.Goals as goal

pub returns-then-arriving-gt0-clause-value : goal.returns-then-arriving-gt0-clause-value
returns-then-arriving-gt0-clause-value c =
    let lane = c.args.lane.now in
    let arriving : c.count.result ≡ count_if (is_between c.args.time 0 256) lane.arrivals = c.count.ensures.value ∙ ap (count_if (is_between c.args.time 0 256)) c.waiting.ensures in
    let many : length (senders_at c.args.time lane c.args.more.now) ≡ c.count.result + c.count_beside.result =
    omega (arith, arriving, c.count_beside.ensures.value, count_senders c.args.time lane c.args.more.now) in
    omega (arith, many, counted (senders_at c.args.time lane c.args.more.now) (ticks_at c.args.time lane c.args.more.now) (omega (arith, many, c.if-arriving-gt0.true)))

pub returns-clause-value : goal.returns-clause-value
returns-clause-value c =
    let lane = c.args.lane.now in
    let arriving : c.count.result ≡ count_if (is_between c.args.time 0 256) lane.arrivals = c.count.ensures.value ∙ ap (count_if (is_between c.args.time 0 256)) c.waiting.ensures in
    let many : length (senders_at c.args.time lane c.args.more.now) ≡ c.count.result + c.count_beside.result =
    omega (arith, arriving, c.count_beside.ensures.value, count_senders c.args.time lane c.args.more.now) in
    let ticks : c.count_tick.result ≡ length (tick_at c.args.time lane.tick) = c.count_tick.ensures.value ∙ ap (λ o. length (tick_at c.args.time o)) c.tick.ensures in
    omega (
      arith,
      ticks,
      c.count_beside-2.ensures.value,
      count_ticks c.args.time lane c.args.more.now,
      uncounted (senders_at c.args.time lane c.args.more.now) (ticks_at c.args.time lane c.args.more.now) (omega (arith, many, c.if-arriving-gt0.false)),
    )
