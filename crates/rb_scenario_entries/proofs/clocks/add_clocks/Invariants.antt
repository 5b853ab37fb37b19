use Rattle.std.proofs.Common.{◌≡◌, ◌++◌, true}
use Rattle.std.specs.List.{list_all}
use Rattle.toml.specs.View.{table_view}
use Rattle.rb_base.specs.Nodes.{side_of}
use Rattle.rb_scenario_entries.specs.{Clocks.kind_clocks, Clocks.keeps_time}
use Rattle.rb_scenario_entries.proofs.clocks.add_clocks.Given as goal

abbrev pub invariant-loop-index : goal.invariant-loop-index
invariant-loop-index g l = record {
  clocks : l.clocks.items ≡ l.initial.clocks.items ++ kind_clocks (side_of g.K.Kind.CODE) l.index l.bus (table_view l.table);
  kept : list_all (keeps_time l.bus.plan) (kind_clocks (side_of g.K.Kind.CODE) l.index l.bus (table_view l.table)) ≡ true;
}
