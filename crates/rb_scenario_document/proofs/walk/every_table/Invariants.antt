use Rattle.std.proofs.Common.{◌≡◌, drop}
use Rattle.std.specs.List.{list_all}
use Rattle.toml.specs.View.{items_view}
use Rattle.rb_scenario_document.specs.Walk.{tables_in}
use Rattle.rb_scenario_document.proofs.walk.every_table.Given as goal

abbrev pub invariant-loop-value : goal.invariant-loop-value
invariant-loop-value g l =
    list_all (g.T.EntryTest.holds l.test) (tables_in (items_view (drop l.value-index l.values.items))) ≡ list_all (g.T.EntryTest.holds l.test) (tables_in (items_view l.values.items))
