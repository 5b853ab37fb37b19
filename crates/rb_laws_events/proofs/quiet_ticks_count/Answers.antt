use Rattle.rb_rules.proofs.QuietTicks.{pass-is}
use Rattle.rb_laws_events.proofs.quiet_ticks_count.Goals as goal

pub returns : goal.returns
returns c = pass-is
