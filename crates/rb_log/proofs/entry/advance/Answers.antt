-- What the record at the place says of the fault that is met.
use Rattle.std.proofs.Common.{sym, arith}
use Rattle.rb_log.proofs.Reading.{steps_trailing, steps_done, steps_over}
use Rattle.rb_log.proofs.entry.advance.Goals as goal

pub returns-then-next-bytes-clause-fault : goal.returns-then-next-bytes-clause-fault
returns-then-next-bytes-clause-fault c =
    steps_trailing c.args.senders c.args.bytes.now c.args.place c.args.ticks c.size_of.result c.in-Ok.entry c.in-Ok.ensures.value
    (sym c.if-is_end.ensures) c.size_of.ensures.value (omega arith)

pub returns-else-next-bytes-clause-end : goal.returns-else-next-bytes-clause-end
returns-else-next-bytes-clause-end c =
    steps_done c.args.senders c.args.bytes.now c.args.place c.args.ticks c.size_of.result c.in-Ok.entry c.in-Ok.ensures.value
    (sym c.if-is_end.ensures) c.size_of.ensures.value (omega arith)

pub returns-else-all-le-MOST_TICKS-clause-fault : goal.returns-else-all-le-MOST_TICKS-clause-fault
returns-else-all-le-MOST_TICKS-clause-fault c =
    steps_over c.args.senders c.args.bytes.now c.args.place c.args.ticks c.ticks_of.result c.in-Ok.entry c.in-Ok.ensures.value
    (sym c.if-is_end.ensures) c.ticks_of.ensures (omega arith)
