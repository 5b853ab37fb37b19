use Rattle.std.proofs.Common.{◌≡◌, drop}
use Rattle.toml.specs.View.{items_view}
use Rattle.rb_scenario_document.specs.Walk.{tables_in}
use Rattle.rb_scenario_entries.specs.Entries.{entry_for}
use Rattle.rb_scenario_entries.proofs.entries.entry_among.Given as goal

abbrev pub invariant-loop-value : goal.invariant-loop-value
invariant-loop-value l =
    entry_for l.shape (tables_in (items_view (drop l.value-index l.values.items))) l.name ≡ entry_for l.shape (tables_in (items_view l.values.items)) l.name
