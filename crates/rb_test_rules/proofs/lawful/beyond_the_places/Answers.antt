use Rattle.std.proofs.Common.{◌≤◌, arith}
use Rattle.rb_test_rules.proofs.Alone.{ruled}
use Rattle.rb_test_rules.proofs.lawful.beyond_the_places.Goals as goal

pub returns-clause-in_the_tail : goal.returns-clause-in_the_tail
returns-clause-in_the_tail c = λ l. let e : 4 ≤ 3 = (ruled _ l).stages.greatest in omega arith

pub returns-clause-after_the_run : goal.returns-clause-after_the_run
returns-clause-after_the_run c = λ l. let e : 1 ≤ 0 = (ruled _ l).frames.greatest in omega arith

pub returns-clause-after_the_sync_slot : goal.returns-clause-after_the_sync_slot
returns-clause-after_the_sync_slot c = λ l. let e : 20 ≤ 19 = (ruled _ l).slots.greatest in omega arith
