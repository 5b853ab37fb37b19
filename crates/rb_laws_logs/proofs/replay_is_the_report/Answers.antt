use Rattle.rb_laws_logs.proofs.ReplayLaw.{replay-is-the-report}
use Rattle.rb_laws_logs.proofs.replay_is_the_report.Goals as goal

pub returns : goal.returns
returns c = replay-is-the-report
