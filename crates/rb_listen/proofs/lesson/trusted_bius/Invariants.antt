use Rattle.std.proofs.Common.{◌≡◌}
use Rattle.rb_base.proofs.SetLoops.{passing_below}
use Rattle.rb_listen.specs.Lessons.{trusts_biu}
use Rattle.rb_listen.proofs.lesson.trusted_bius.Given as goal

-- The BIUs so far that are trusted.
abbrev pub invariant-loop-i : goal.invariant-loop-i
invariant-loop-i l = l.trusted ≡ passing_below l.i (trusts_biu l.shape l.records)
