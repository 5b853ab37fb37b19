use Rattle.std.proofs.Common.{arith, refl}
use Rattle.rb_base.specs.Nodes.Side.{Biu}
use Rattle.rb_test_rules.proofs.agreement.what_is_promised.Goals as goal

pub returns-clause-first_data_slot : goal.returns-clause-first_data_slot
returns-clause-first_data_slot c = λ one. one 0 4 (omega arith) (omega arith)

pub returns-clause-good_yet : goal.returns-clause-good_yet
returns-clause-good_yet c = λ none settled me i st good. none 0 4 (omega arith) settled me i st good Biu 2 refl
