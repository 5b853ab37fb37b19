use Rattle.std.proofs.Common.{◌≡◌, ℕ, ◌<◌, length, get_or}
use Rattle.toml.specs.View.{table_view}
use Rattle.rb_scenario.specs.Hosts.{request_at}
use Rattle.rb_scenario.proofs.hosts.requests_of.Given as goal

abbrev pub invariant-loop-index : goal.invariant-loop-index
invariant-loop-index l = record {
  sixteen : length l.requests ≡ 16;
  filled : (k : ℕ) → k < l.index → get_or l.requests k 0 ≡ request_at l.bius (table_view l.table) k;
}
