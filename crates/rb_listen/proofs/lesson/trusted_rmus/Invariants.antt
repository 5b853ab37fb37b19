use Rattle.std.proofs.Common.{◌≡◌}
use Rattle.rb_base.proofs.SetLoops.{passing_below}
use Rattle.rb_listen.specs.Lessons.{trusts_rmu}
use Rattle.rb_listen.proofs.lesson.trusted_rmus.Given as goal

-- The RMUs so far that are trusted.
abbrev pub invariant-loop-j : goal.invariant-loop-j
invariant-loop-j l = l.trusted ≡ passing_below l.j (trusts_rmu l.shape l.records)
