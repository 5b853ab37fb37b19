use Rattle.std.proofs.Common.{arith}
use Rattle.rb_clock.proofs.Times.{small_time}
use Rattle.rb_clock.proofs.Clock.at.Goals as goal

pub returns-clause-small : goal.returns-clause-small
returns-clause-small c = small_time c.args.self.now _ c.args.tick c.late_at.ensures.clock c.late_at.ensures.time (omega arith)
