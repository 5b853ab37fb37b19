use Rattle.std.proofs.Common.{◌≡◌}
use Rattle.rb_base.proofs.SetLoops.{passing_below}
use Rattle.rb_rules.specs.Sense.{is_one}
use Rattle.rb_listen.specs.Lessons.{record_of}
use Rattle.rb_listen.proofs.lesson.ones_in.Given as goal

-- the RMUs so far of which one message is recorded
abbrev pub invariant-loop-j : goal.invariant-loop-j
invariant-loop-j l = l.ones ≡ passing_below l.j (λ i. is_one (record_of l.records l.slot i))
