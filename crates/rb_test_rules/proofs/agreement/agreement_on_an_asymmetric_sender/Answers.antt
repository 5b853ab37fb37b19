use Rattle.std.proofs.Common.{refl}
use Rattle.rb_test_rules.specs.Lies.{asymmetric_sender}
use Rattle.rb_test_rules.proofs.LawfulTests.{lawful_by_tests}
use Rattle.rb_test_rules.proofs.agreement.agreement_on_an_asymmetric_sender.Goals as goal

pub returns-clause-lawful : goal.returns-clause-lawful
returns-clause-lawful c = lawful_by_tests asymmetric_sender refl
