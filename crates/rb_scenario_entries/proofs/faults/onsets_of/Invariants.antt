use Rattle.std.proofs.Common.{◌≡◌, ℕ, ◌<◌, length, get_or, None}
use Rattle.toml.specs.View.{table_view}
use Rattle.rb_base.specs.Nodes.{side_of}
use Rattle.rb_rules.specs.Links.{name_of}
use Rattle.rb_scenario_entries.specs.Faults.{onset_for}
use Rattle.rb_scenario_entries.proofs.faults.onsets_of.Given as goal

abbrev pub invariant-loop-index : goal.invariant-loop-index
invariant-loop-index g l = record {
  sixteen : length l.onsets ≡ 16;
  filled : (k : ℕ) → k < l.index → get_or l.onsets k None ≡ onset_for l.bus (table_view l.table) (name_of (side_of g.K.Kind.CODE) k);
}
