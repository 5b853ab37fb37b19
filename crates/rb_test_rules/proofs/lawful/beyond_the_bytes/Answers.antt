use Rattle.std.proofs.Common.{◌≤◌, arith}
use Rattle.rb_test_rules.proofs.Alone.{said}
use Rattle.rb_test_rules.proofs.lawful.beyond_the_bytes.Goals as goal

pub returns-clause-no_bytes : goal.returns-clause-no_bytes
returns-clause-no_bytes c = λ l. let e = (said _ l).content.some in omega arith

pub returns-clause-many_bytes : goal.returns-clause-many_bytes
returns-clause-many_bytes c = λ l. let e : 33 ≤ 32 = (said _ l).content.most in omega arith
