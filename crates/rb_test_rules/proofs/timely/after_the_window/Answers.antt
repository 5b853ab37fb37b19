use Rattle.std.proofs.Common.{◌≤◌, arith}
use Rattle.rb_test_rules.proofs.timely.after_the_window.Goals as goal

pub returns : goal.returns
returns c = λ t. let e : 15 ≤ 14 = t.1 in omega arith
