use Rattle.rb_laws_logs.proofs.Recorded.{a-log-tells-the-report}
use Rattle.rb_laws_logs.proofs.a_log_tells_the_report.Goals as goal

pub returns : goal.returns
returns c = a-log-tells-the-report
