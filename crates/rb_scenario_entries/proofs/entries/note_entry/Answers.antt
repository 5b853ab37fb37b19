use Rattle.toml.specs.View.{table_view, view}
use Rattle.rb_scenario_entries.proofs.Distinct.{are_new-entry}
use Rattle.rb_scenario_entries.proofs.entries.note_entry.Goals as goal

pub returns-in-Some-node_at : goal.returns-in-Some-node_at
returns-in-Some-node_at c =
    are_new-entry c.args.shape.now (view c.args.value.now) (table_view c.in-Some.entry.now) c.in-Some-node_at.name c.args.seen.now c.note_node.new.seen c.note_node.result
    c.in-Some.ensures c.in-Some-node_at.ensures.value c.note_node.ensures.new c.note_node.ensures.noted
