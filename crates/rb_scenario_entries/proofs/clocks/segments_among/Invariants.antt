use Rattle.std.proofs.Common.{◌≡◌, ◌++◌, true, drop}
use Rattle.toml.specs.View.{items_view}
use Rattle.rb_scenario_document.specs.Walk.{every_item}
use Rattle.rb_scenario_entries.specs.Clocks.{is_segment, pairs_of}
use Rattle.rb_scenario_entries.proofs.clocks.segments_among.Given as goal

abbrev pub invariant-loop-value : goal.invariant-loop-value
invariant-loop-value l = record {
  taken : l.segments.items ++ pairs_of (items_view (drop l.value-index l.values.items)) ≡ pairs_of (items_view l.values.items);
  left : every_item is_segment (items_view (drop l.value-index l.values.items)) ≡ true;
}
