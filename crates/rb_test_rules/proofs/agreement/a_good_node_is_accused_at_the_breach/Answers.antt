use Rattle.std.proofs.Common.{refl}
use Rattle.rb_test_rules.specs.Agreement.{other_vote}
use Rattle.rb_test_rules.proofs.LawfulTests.{lawful_by_tests}
use Rattle.rb_test_rules.proofs.agreement.a_good_node_is_accused_at_the_breach.Goals as goal

pub returns-clause-lawful : goal.returns-clause-lawful
returns-clause-lawful c = lawful_by_tests other_vote refl
