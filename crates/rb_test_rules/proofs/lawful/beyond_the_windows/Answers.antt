use Rattle.std.proofs.Common.{arith, refl}
use Rattle.rb_test_rules.proofs.Alone.{said}
use Rattle.rb_test_rules.proofs.lawful.beyond_the_windows.Goals as goal

pub returns-clause-a_tick_early : goal.returns-clause-a_tick_early
returns-clause-a_tick_early c = λ l. let e = (said _ l).early in omega arith

pub returns-clause-after_the_window : goal.returns-clause-after_the_window
returns-clause-after_the_window c = λ l. let e = (said _ l).offset (record { frame = 0; slot = 19; stage = 2 }) refl in omega arith

pub returns-clause-after_the_tail : goal.returns-clause-after_the_tail
returns-clause-after_the_tail c = λ l. let e = (said _ l).offset (record { frame = 0; slot = 19; stage = 4 }) refl in omega arith
