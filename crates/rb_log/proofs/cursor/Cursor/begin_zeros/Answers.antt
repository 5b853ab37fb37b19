-- The record at the place is of ticks with word 0, or it is another.
use Rattle.std.proofs.Common.{◌≤◌, ◌<◌, ◌+◌, length, sym, ◌∙◌, arith}
use Rattle.rb_log.proofs.{Cursors.not_refused, QuietTicks.{begins, no_front}}
use Rattle.rb_log.proofs.cursor.Cursor.begin_zeros.Goals as goal

pub unreachable-requires : goal.unreachable-requires
unreachable-requires c =
    let s = c.args.self.now in
    not_refused s.senders s.bytes.now s.place s.ticks c.in_default.field-0 c.in_default.ensures.value c.requires.sound.sound

pub returns-then-zeros-eq0-clause-none : goal.returns-then-zeros-eq0-clause-none
returns-then-zeros-eq0-clause-none c = λ _.
    no_front c.args.self.now c.in-Ok.entry c.requires.none c.in-Ok.ensures.value (sym c.zeros_of-zeros.ensures ∙ c.if-zeros-eq0.true)
    c.in-Ok.ensures.some c.in-Ok.ensures.inside c.requires.sound

pub overflow_add-self-2 : goal.overflow_add-self-2
overflow_add-self-2 c =
    let some : 0 < c.zeros_of-zeros.result = omega arith in
    let inside : c.args.self.now.place + c.size_of.result ≤ length c.args.self.now.bytes.now = omega (arith, c.in-Ok.ensures.inside) in
    let sound = (begins c.args.self.now c.in-Ok.entry c.size_of.result c.zeros_of-zeros.result c.requires.none c.in-Ok.ensures.value
    c.size_of.ensures.value c.zeros_of-zeros.ensures some inside c.requires.sound).0 in
    omega (arith, sound.few)

pub returns-clause-sound : goal.returns-clause-sound
returns-clause-sound c =
    (begins c.args.self.now c.in-Ok.entry c.size_of.result c.zeros_of-zeros.result c.requires.none c.in-Ok.ensures.value
    c.size_of.ensures.value c.zeros_of-zeros.ensures (omega arith) (omega (arith, c.in-Ok.ensures.inside)) c.requires.sound).0

pub returns-clause-same : goal.returns-clause-same
returns-clause-same c =
    (begins c.args.self.now c.in-Ok.entry c.size_of.result c.zeros_of-zeros.result c.requires.none c.in-Ok.ensures.value
    c.size_of.ensures.value c.zeros_of-zeros.ensures (omega arith) (omega (arith, c.in-Ok.ensures.inside)) c.requires.sound).1
