use Rattle.std.proofs.Common.{refl}
use Rattle.rb_test_rules.specs.{Floods.flooding_rmu, Ordinary.greatest_drift}
use Rattle.rb_test_rules.proofs.LawfulTests.{lawful_by_tests}
use Rattle.rb_test_rules.proofs.lawful.lawful_scenarios.Goals as goal

pub returns-clause-greatest_drift : goal.returns-clause-greatest_drift
returns-clause-greatest_drift c = lawful_by_tests greatest_drift refl

pub returns-clause-flooding_rmu : goal.returns-clause-flooding_rmu
returns-clause-flooding_rmu c = lawful_by_tests flooding_rmu refl
