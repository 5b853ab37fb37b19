use Rattle.std.proofs.Common.{◌≡◌, ℕ, suc, ◌<◌, length, get_or}
use Rattle.rb_gen.specs.Draws.{number_of, state_after}
use Rattle.rb_gen.proofs.generator.drawn_from.Given as goal

abbrev pub invariant-loop-number : goal.invariant-loop-number
invariant-loop-number l = record {
  state : l.draws.state ≡ state_after l.number l.seed;
  all : length l.drawn ≡ 105;
  filled : (k : ℕ) → k < l.number → get_or l.drawn k 0 ≡ number_of (state_after (suc k) l.seed);
}
