-- The header and the records, as they were looked at.
use Rattle.rb_log.specs.Cursor.{events_behind, events_left}
use Rattle.rb_log.proofs.Opening.{bad_entries, good_entries}
use Rattle.rb_log.proofs.reader.open_behind.Goals as goal

pub returns-in-Err-clause-refused : goal.returns-in-Err-clause-refused
returns-in-Err-clause-refused c =
    let h = c.args.header.now in
    bad_entries c.args.bytes.now h.plan h.node h.size c.senders_of-senders.result c.in-Err.fault c.requires.header c.senders_of-senders.ensures.value c.in-Err.ensures

pub returns-clause-log : goal.returns-clause-log
unfolding events_left events_behind
returns-clause-log c =
    let h = c.args.header.now in
    good_entries c.args.bytes.now h.plan h.node h.size c.senders_of-senders.result c.requires.header c.senders_of-senders.ensures.value c.in_default.ensures
