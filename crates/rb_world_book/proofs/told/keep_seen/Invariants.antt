use Rattle.std.proofs.Common.{◌≡◌, ◌<◌, ℕ, true, length, get_or}
use Rattle.rb_base.specs.{Nodes.has, declared.values.See.TheVariants.Nothing}
use Rattle.rb_world_book.specs.Telling.{timed_in}
use Rattle.rb_world_book.proofs.Kept.{kept_but}
use Rattle.rb_world_book.proofs.told.keep_seen.Given as goal

abbrev pub invariant-loop-source : goal.invariant-loop-source
invariant-loop-source g l = record {
  long : length l.sees ≡ 16;
  within : (j : ℕ) → j < 16 → has l.left j ≡ true → has l.fn.counted j ≡ true;
  so_far : (j : ℕ) → j < 16 → get_or l.sees j Nothing ≡ kept_but l.fn.counted l.left Nothing (timed_in l.shown.sees l.times) l.fn.sees j;
}

abbrev pub decreases-loop-source : goal.decreases-loop-source
decreases-loop-source g l = l.left
