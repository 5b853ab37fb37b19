use Rattle.std.proofs.Common.{sym, ◌∙◌}
use Rattle.toml.specs.View.{table_view}
use Rattle.rb_scenario_entries.proofs.BusParts.{bus_parts}
use Rattle.rb_scenario_entries.proofs.bus.bus_in.Goals as goal

pub shape_of-requires-then-has_bus : goal.shape_of-requires-then-has_bus
shape_of-requires-then-has_bus c = (bus_parts (table_view c.args.table.now) (sym c.has_bus.ensures ∙ c.if-has_bus.true)).sizes

pub number_at-requires : goal.number_at-requires
number_at-requires c = (bus_parts (table_view c.args.table.now) (sym c.has_bus.ensures ∙ c.if-has_bus.true)).frames

pub plan_of-requires : goal.plan_of-requires
plan_of-requires c = (bus_parts (table_view c.args.table.now) (sym c.has_bus.ensures ∙ c.if-has_bus.true)).plan
