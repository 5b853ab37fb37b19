use Rattle.std.proofs.Common.{◌≡◌, ℕ, ◌+◌, ◌<◌, length, get_or}
use Rattle.rb_base.specs.declared.values.Heard.TheVariants.{Fault}
use Rattle.rb_listen.specs.Lessons.{vote_on}
use Rattle.rb_listen.proofs.lesson.ballot_of.Given as goal

-- the votes so far are entered
abbrev pub invariant-loop-i : goal.invariant-loop-i
invariant-loop-i g l = record {
  others : l.ballot.others ≡ l.others;
  all : length l.ballot.vectors ≡ 16;
  so_far : (k : ℕ) → k < l.i → get_or l.ballot.vectors k Fault ≡ vote_on l.records l.rmus (l.first + k);
}
