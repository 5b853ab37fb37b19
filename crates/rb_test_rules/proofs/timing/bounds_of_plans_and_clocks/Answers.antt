use Rattle.std.proofs.Common.{◌<◌, ◌≤◌, lit<, arith}
use Rattle.rb_test_rules.proofs.timing.bounds_of_plans_and_clocks.Goals as goal

pub returns-clause-long_ticks : goal.returns-clause-long_ticks
returns-clause-long_ticks c = λ p. let e : 1000001 ≤ 1000000 = p.u.1 in omega arith

pub returns-clause-later_stamp : goal.returns-clause-later_stamp
returns-clause-later_stamp c = λ s. let e : 13 < 13 = s.least 1 (lit< tt) in omega arith
