use Rattle.std.proofs.Common.{refl}
use Rattle.rb_test_rules.specs.{Lawful.lies_at_the_edge, Lies.two_sided, Resynchronisation.apart_in_time}
use Rattle.rb_test_rules.proofs.LawfulTests.{lawful_by_tests, listed_by_tests}
use Rattle.rb_test_rules.proofs.lawful.listed_scenarios.Goals as goal

pub returns-clause-two_sided : goal.returns-clause-two_sided
returns-clause-two_sided c = (lawful_by_tests two_sided refl, listed_by_tests two_sided (λ me i span j. refl) refl)

pub returns-clause-apart_in_time : goal.returns-clause-apart_in_time
returns-clause-apart_in_time c = (lawful_by_tests apart_in_time refl, listed_by_tests apart_in_time (λ me i span j. refl) refl)

pub returns-clause-lies_at_the_edge : goal.returns-clause-lies_at_the_edge
returns-clause-lies_at_the_edge c = (lawful_by_tests lies_at_the_edge refl, listed_by_tests lies_at_the_edge (λ me i span j. refl) refl)
