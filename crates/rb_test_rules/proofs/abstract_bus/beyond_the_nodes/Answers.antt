use Rattle.std.proofs.{Common.{◌≡◌, ◌<◌, arith, refl}, lemmas.Bool.true≢false, lemmas.Option.same_Some}
use Rattle.rb_test_rules.proofs.abstract_bus.beyond_the_nodes.Goals as goal

pub returns-clause-long_frame : goal.returns-clause-long_frame
returns-clause-long_frame c = λ f. let e : 928 ≡ f.epoch = same_Some 928 f.epoch f.known in let most : f.epoch < 928 = f.most in omega (arith, e)

pub returns-clause-accused_by_mismatch : goal.returns-clause-accused_by_mismatch
returns-clause-accused_by_mismatch c = λ s. true≢false (s 0 refl).1
