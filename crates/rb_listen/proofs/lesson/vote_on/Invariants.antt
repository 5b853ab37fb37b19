use Rattle.std.proofs.Common.{◌≡◌, ℕ, ◌<◌, None, length, get_or}
use Rattle.rb_rules.specs.Sense.{value_in}
use Rattle.rb_listen.specs.Lessons.{recorded_of}
use Rattle.rb_listen.proofs.lesson.vote_on.Given as goal

-- what is taken of the RMUs so far
abbrev pub invariant-loop-j : goal.invariant-loop-j
invariant-loop-j l = record {
  all : length l.taken ≡ 16;
  so_far : (k : ℕ) → k < l.j → get_or l.taken k None ≡ recorded_of value_in l.records l.rmus l.slot k;
}
