use Rattle.rb_log.proofs.Opening.{no_header}
use Rattle.rb_log.proofs.reader.LogReader.open.Goals as goal

pub returns-in-Err-clause-refused : goal.returns-in-Err-clause-refused
returns-in-Err-clause-refused c = no_header c.args.bytes.now c.in-Err.fault c.in-Err.ensures.value
