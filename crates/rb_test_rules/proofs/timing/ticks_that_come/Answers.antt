use Rattle.std.proofs.Common.{ℕ, zero, suc, ◌≤◌, lit≤, arith}
use Rattle.rb_rules.specs.Clock.{time_of}
use Rattle.rb_test_rules.specs.Timing.{quick_then_slow}
use Rattle.rb_test_rules.proofs.timing.ticks_that_come.Goals as goal

pub returns-clause-comes_before : goal.returns-clause-comes_before
returns-clause-comes_before c = record { tick = 3; in_time = lit≤ tt; come = lit≤ tt }

by_tick_2 : (tick : ℕ) → tick ≤ 2 → 24 ≤ time_of quick_then_slow tick → ⊥
by_tick_2 zero h late = omega arith
by_tick_2 (suc zero) h late = omega arith
by_tick_2 (suc (suc zero)) h late = omega arith
by_tick_2 (suc (suc (suc tick))) h late = omega arith

pub returns-clause-comes_later : goal.returns-clause-comes_later
returns-clause-comes_later c = λ comes. by_tick_2 comes.tick comes.in_time comes.come
