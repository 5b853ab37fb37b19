use Rattle.std.proofs.Common.{refl}
use Rattle.rb_test_rules.specs.Agreement.{false_accuser}
use Rattle.rb_test_rules.proofs.LawfulTests.{lawful_by_tests}
use Rattle.rb_test_rules.proofs.agreement.agreement_on_a_false_vector.Goals as goal

pub returns-clause-lawful : goal.returns-clause-lawful
returns-clause-lawful c = lawful_by_tests false_accuser refl
