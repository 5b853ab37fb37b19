use Rattle.std.proofs.Common.{◌≡◌, ◌++◌, drop, length}
use Rattle.toml.specs.View.{items_view}
use Rattle.rb_scenario_document.specs.Walk.{every_item}
use Rattle.rb_scenario.specs.Acceptance.{as_scenario}
use Rattle.rb_bridge_document.specs.Documents.{joins, pairs_in, when}
use Rattle.rb_bridge_document.proofs.ranges.pairs_among.Given as goal

abbrev pub invariant-loop-value : goal.invariant-loop-value
invariant-loop-value l =
    (length l.pairs.items ≡ l.value-index)
    × (when (every_item (joins (as_scenario l.left) (as_scenario l.right)) (items_view (drop l.value-index l.values.items)))
    (l.pairs.items ++ pairs_in (items_view (drop l.value-index l.values.items)))
    ≡ when (every_item (joins (as_scenario l.left) (as_scenario l.right)) (items_view l.values.items)) (pairs_in (items_view l.values.items)))
