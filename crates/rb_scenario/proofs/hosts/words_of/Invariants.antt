use Rattle.std.proofs.Common.{◌≡◌, ℕ, ◌<◌, length, get_or}
use Rattle.toml.specs.View.{table_view}
use Rattle.rb_scenario.specs.Hosts.{word_at}
use Rattle.rb_scenario.proofs.hosts.words_of.Given as goal

abbrev pub invariant-loop-index : goal.invariant-loop-index
invariant-loop-index l = record {
  sixteen : length l.words ≡ 16;
  filled : (k : ℕ) → k < l.index → get_or l.words k 0 ≡ word_at (table_view l.table) k;
}
