use Rattle.std.proofs.Common.{◌<◌, arith}
use Rattle.rb_test_rules.proofs.values.counts_of_votes_and_owners.Goals as goal

pub returns-clause-half : goal.returns-clause-half
returns-clause-half c = λ m. let e : 2 < 2 = m in omega arith

pub returns-clause-upper_middle : goal.returns-clause-upper_middle
returns-clause-upper_middle c = λ m. let e : 4 < 4 = m.few_below in omega arith
