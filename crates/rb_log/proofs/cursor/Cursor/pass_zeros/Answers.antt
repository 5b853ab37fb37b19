use Rattle.std.proofs.Common.{arith}
use Rattle.rb_log.proofs.QuietTicks.{some_passed}
use Rattle.rb_log.proofs.cursor.Cursor.pass_zeros.Goals as goal

pub returns-clause-rest : goal.returns-clause-rest
returns-clause-rest c = (some_passed c.args.self.now c.min-passed.result (omega arith)).0

pub returns-clause-front : goal.returns-clause-front
returns-clause-front c = (some_passed c.args.self.now c.min-passed.result (omega arith)).1
