use Rattle.std.proofs.{Common.{◌<◌, arith}, lemmas.Bool.true≢false}
use Rattle.rb_test_rules.proofs.Alone.{said}
use Rattle.rb_test_rules.proofs.lawful.beyond_a_faulty_node.Goals as goal

pub returns-clause-to_its_own_kind : goal.returns-clause-to_its_own_kind
returns-clause-to_its_own_kind c = λ l. let e = (said _ l).unlike_kinds in cc

pub returns-clause-by_a_good_node : goal.returns-clause-by_a_good_node
returns-clause-by_a_good_node c = λ l. true≢false (said _ l).faulty

pub returns-clause-said_to_nobody : goal.returns-clause-said_to_nobody
returns-clause-said_to_nobody c = λ l. let e : 4 < 4 = (said _ l).to in omega arith
