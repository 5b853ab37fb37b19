use Rattle.std.proofs.{Common.{◌<◌, arith, refl}, lemmas.Bool.true≢false}
use Rattle.rb_test_rules.specs.Ordinary.{ordinary_use}
use Rattle.rb_test_rules.proofs.{Alone.said, LawfulTests.lawful_by_tests}
use Rattle.rb_test_rules.proofs.lawful.bounds_of_scenarios.Goals as goal

pub returns-clause-good_at_first : goal.returns-clause-good_at_first
returns-clause-good_at_first c = λ l. true≢false (said _ l).faulty

pub returns-clause-no_byte : goal.returns-clause-no_byte
returns-clause-no_byte c = λ l. let e : 256 < 256 = (said _ l).content.each 0 0 (omega arith) in omega arith

pub returns-clause-most_frames : goal.returns-clause-most_frames
returns-clause-most_frames c = lawful_by_tests (record ordinary_use { frames = 4096 }) refl
