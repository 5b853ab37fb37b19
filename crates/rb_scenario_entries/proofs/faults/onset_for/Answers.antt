use Rattle.std.proofs.Common.{◌≡◌, Some, codes}
use Rattle.toml.specs.View.{table_view}
use Rattle.rb_scenario_document.specs.{Names.node_at, Walk.entries_at}
use Rattle.rb_scenario_entries.specs.{Entries.{entry_for, is_node}, Faults.is_fault}
use Rattle.rb_scenario_entries.proofs.Finding.{found_passes}
use Rattle.rb_scenario_entries.proofs.faults.onset_for.Goals as goal

pub onset_of-requires : goal.onset_of-requires
onset_of-requires c =
    let bus = c.args.bus.now in
    let entries = entries_at (codes "fault") (table_view c.args.table.now) in
    let e = table_view c.in-Some.entry.now in
    let found : Some e ≡ entry_for bus.shape entries c.args.name = rw c.member.ensures at c.in-Some.ensures in
    found_passes (λ e. is_node c.args.name (node_at bus.shape (codes "node") e)) (is_fault bus) entries e found c.requires
