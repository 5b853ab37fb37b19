use Rattle.std.proofs.Common.{◌≡◌, ◌++◌, true, map, drop}
use Rattle.std.specs.List.{list_all}
use Rattle.toml.specs.View.{items_view}
use Rattle.rb_scenario_document.specs.Walk.{tables_in}
use Rattle.rb_scenario_entries.specs.Says.{is_say, say_of}
use Rattle.rb_scenario_entries.proofs.says.says_among.Given as goal

abbrev pub invariant-loop-value : goal.invariant-loop-value
invariant-loop-value l = record {
  taken : l.says.items ++ map (say_of l.bus) (tables_in (items_view (drop l.value-index l.values.items))) ≡ map (say_of l.bus) (tables_in (items_view l.values.items));
  left : list_all (is_say l.bus) (tables_in (items_view (drop l.value-index l.values.items))) ≡ true;
}
