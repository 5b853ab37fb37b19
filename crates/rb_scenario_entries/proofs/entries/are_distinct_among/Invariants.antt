use Rattle.std.proofs.Common.{◌≡◌, drop}
use Rattle.toml.specs.View.{items_view}
use Rattle.rb_scenario_document.specs.Walk.{tables_in}
use Rattle.rb_scenario_entries.specs.{Entries.{are_distinct, nodes_in}, Seen.are_new}
use Rattle.rb_scenario_entries.proofs.entries.are_distinct_among.Given as goal

abbrev pub invariant-loop-value : goal.invariant-loop-value
invariant-loop-value l =
    are_new l.seen (nodes_in l.shape (tables_in (items_view (drop l.value-index l.values.items)))) ≡ are_distinct (nodes_in l.shape (tables_in (items_view l.values.items)))
