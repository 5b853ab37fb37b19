use Rattle.std.proofs.Common.{◌≡◌, drop}
use Rattle.toml.specs.View.{items_view}
use Rattle.rb_scenario_document.specs.Walk.{every_item}
use Rattle.rb_scenario_document.proofs.walk.every_item.Given as goal

abbrev pub invariant-loop-value : goal.invariant-loop-value
invariant-loop-value g l =
    every_item (g.T.Test.holds l.test) (items_view (drop l.value-index l.values.items)) ≡ every_item (g.T.Test.holds l.test) (items_view l.values.items)
