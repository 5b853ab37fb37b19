use Rattle.std.proofs.Common.{◌≤◌, ◌<◌, arith}
use Rattle.rb_test_rules.proofs.Alone.{ruled}
use Rattle.rb_test_rules.proofs.lawful.beyond_the_links.Goals as goal

pub returns-clause-great_delay : goal.returns-clause-great_delay
returns-clause-great_delay c = λ l. let e : 15001 ≤ 15000 = l.base_delay.greatest in omega arith

pub returns-clause-within_a_kind : goal.returns-clause-within_a_kind
returns-clause-within_a_kind c = λ l. let e = (ruled _ l).unlike_kinds in cc

pub returns-clause-to_nobody : goal.returns-clause-to_nobody
returns-clause-to_nobody c = λ l. let e : 3 < 3 = (ruled _ l).to in omega arith

pub returns-clause-short_delay : goal.returns-clause-short_delay
returns-clause-short_delay c = λ l. let e : 5000 ≤ 4999 = (ruled _ l).delay.least in omega arith
