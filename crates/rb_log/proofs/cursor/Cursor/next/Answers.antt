-- The first event, and the others.
use Rattle.std.proofs.Common.{refl, arith}
use Rattle.rb_log.proofs.Cursors.{first_is, first_of_ticks, gives_zero, leaves_zeros, none_is_left}
use Rattle.rb_rules.specs.Core as event
use Rattle.rb_log.proofs.cursor.Cursor.next.Goals as goal

pub returns-then-self-gt0-clause-event : goal.returns-then-self-gt0-clause-event
returns-then-self-gt0-clause-event c = gives_zero c.args.self.now (omega arith)

pub returns-then-self-gt0-clause-rest : goal.returns-then-self-gt0-clause-rest
returns-then-self-gt0-clause-rest c = leaves_zeros c.args.self.now (omega arith)

pub returns-in-Tick-clause-event : goal.returns-in-Tick-clause-event
returns-in-Tick-clause-event c =
    (first_is c.args.self.now c.take_entry.new.self (event.Tick c.in-Tick.word) (omega arith) c.in-Tick.ensures.zeros c.in-Tick.ensures.events).0

pub returns-in-Tick-clause-rest : goal.returns-in-Tick-clause-rest
returns-in-Tick-clause-rest c =
    (first_is c.args.self.now c.take_entry.new.self (event.Tick c.in-Tick.word) (omega arith) c.in-Tick.ensures.zeros c.in-Tick.ensures.events).1

pub returns-in-Ticks-clause-event : goal.returns-in-Ticks-clause-event
returns-in-Ticks-clause-event c =
    (first_of_ticks c.args.self.now c.take_entry.new.self c.in-Ticks.count (omega arith) c.in-Ticks.ensures.some c.in-Ticks.ensures.events).0

pub returns-in-Ticks-clause-rest : goal.returns-in-Ticks-clause-rest
returns-in-Ticks-clause-rest c =
    (first_of_ticks c.args.self.now c.take_entry.new.self c.in-Ticks.count (omega arith) c.in-Ticks.ensures.some c.in-Ticks.ensures.events).1

pub returns-in-Arrival-clause-event : goal.returns-in-Arrival-clause-event
returns-in-Arrival-clause-event c =
    rw (c.in-Arrival.ensures.bytes, c.from.ensures)
    (first_is c.args.self.now c.take_entry.new.self _ (omega arith) c.in-Arrival.ensures.zeros c.in-Arrival.ensures.events).0

pub returns-in-Arrival-clause-rest : goal.returns-in-Arrival-clause-rest
returns-in-Arrival-clause-rest c =
    (first_is c.args.self.now c.take_entry.new.self _ (omega arith) c.in-Arrival.ensures.zeros c.in-Arrival.ensures.events).1

pub returns-in-End-clause-event : goal.returns-in-End-clause-event
returns-in-End-clause-event c =
    (none_is_left c.args.self.now c.take_entry.new.self (omega arith) c.in-End.ensures.zeros (c.in-End.ensures.end refl) c.in-End.ensures.events).0

pub returns-in-End-clause-rest : goal.returns-in-End-clause-rest
returns-in-End-clause-rest c =
    (none_is_left c.args.self.now c.take_entry.new.self (omega arith) c.in-End.ensures.zeros (c.in-End.ensures.end refl) c.in-End.ensures.events).1
