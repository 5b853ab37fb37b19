-- The record at the place is passed.
use Rattle.std.proofs.Common.{sym, arith}
use Rattle.rb_log.proofs.Cursors.{ends, few_ticks, not_refused, passes, stays}
use Rattle.rb_log.proofs.cursor.Cursor.take_entry.Goals as goal

pub unreachable-requires : goal.unreachable-requires
unreachable-requires c =
    let s = c.args.self.now in
    not_refused s.senders s.bytes.now s.place s.ticks c.in_default.field-0 c.in_default.ensures.value c.requires.sound

pub overflow_add-self-2 : goal.overflow_add-self-2
overflow_add-self-2 c =
    let s = c.args.self.now in
    omega (arith, few_ticks s.senders s.bytes.now s.place s.ticks c.ticks_of.result c.in-Ok.entry c.in-Ok.ensures.value (sym c.if-is_end.ensures) c.ticks_of.ensures c.requires.sound)

pub returns-clause-sound : goal.returns-clause-sound
returns-clause-sound c =
    (passes c.args.self.now c.size_of.result c.ticks_of.result c.in-Ok.entry c.in-Ok.ensures.value (sym c.if-is_end.ensures) c.size_of.ensures.value c.ticks_of.ensures
    (omega (arith, c.in-Ok.ensures.inside)) c.requires).0

pub returns-clause-events : goal.returns-clause-events
returns-clause-events c =
    (passes c.args.self.now c.size_of.result c.ticks_of.result c.in-Ok.entry c.in-Ok.ensures.value (sym c.if-is_end.ensures) c.size_of.ensures.value c.ticks_of.ensures
    (omega (arith, c.in-Ok.ensures.inside)) c.requires).1

pub returns-then-is_end-clause-events : goal.returns-then-is_end-clause-events
returns-then-is_end-clause-events c = stays c.args.self.now c.in-Ok.entry (sym c.if-is_end.ensures)

pub returns-then-is_end-clause-end : goal.returns-then-is_end-clause-end
returns-then-is_end-clause-end c = λ _. ends c.args.self.now c.in-Ok.entry c.in-Ok.ensures.value (sym c.if-is_end.ensures) c.requires
