use Rattle.std.proofs.{Common.{◌≤◌, arith, refl}, lemmas.Bool.true≢false}
use Rattle.rb_test_rules.proofs.abstract_bus.beyond_the_steps.Goals as goal

pub returns-clause-short_frame : goal.returns-clause-short_frame
returns-clause-short_frame c = λ s. let e : 9079092 ≤ 9079091 = s.later in omega arith

pub returns-clause-vector_of_a_biu : goal.returns-clause-vector_of_a_biu
returns-clause-vector_of_a_biu c = λ may. true≢false ((may refl).spared 2 refl)

pub returns-clause-vector_of_an_rmu : goal.returns-clause-vector_of_an_rmu
returns-clause-vector_of_an_rmu c = λ may. true≢false ((may refl).spared 2 refl)
