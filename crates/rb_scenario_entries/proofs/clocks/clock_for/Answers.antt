use Rattle.std.proofs.Common.{◌≡◌, Some, codes}
use Rattle.toml.specs.View.{table_view}
use Rattle.rb_scenario_document.specs.{Names.node_at, Walk.entries_at}
use Rattle.rb_scenario_entries.specs.{Entries.{entry_for, is_node}, Clocks.is_clock}
use Rattle.rb_scenario_entries.proofs.Finding.{found_passes}
use Rattle.rb_scenario_entries.proofs.clocks.clock_for.Goals as goal

pub clock_of-requires-clause-entry : goal.clock_of-requires-clause-entry
clock_of-requires-clause-entry c =
    let bus = c.args.bus.now in
    let entries = entries_at (codes "clock") (table_view c.args.table.now) in
    let e = table_view c.in-Some.entry.now in
    let found : Some e ≡ entry_for bus.shape entries c.args.name = rw c.member.ensures at c.in-Some.ensures in
    found_passes (λ e. is_node c.args.name (node_at bus.shape (codes "node") e)) (is_clock bus.shape) entries e found c.requires.entries
