use Rattle.std.proofs.Common.{refl}
use Rattle.rb_test_rules.specs.Lies.{silent_rmu}
use Rattle.rb_test_rules.proofs.LawfulTests.{lawful_by_tests}
use Rattle.rb_test_rules.proofs.agreement.agreement_beside_a_silent_rmu.Goals as goal

pub returns-clause-lawful : goal.returns-clause-lawful
returns-clause-lawful c = lawful_by_tests silent_rmu refl
