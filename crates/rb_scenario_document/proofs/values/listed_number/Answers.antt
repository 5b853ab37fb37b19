use Rattle.toml.specs.{Data.get_member, View.table_view}
use Rattle.rb_scenario_document.proofs.Walks.{listed-within}
use Rattle.rb_scenario_document.proofs.values.listed_number.Goals as goal

pub returns-clause-high : goal.returns-clause-high
returns-clause-high c =
    let within = listed-within c.args.high c.args.count c.args.index (get_member c.args.key.now (table_view c.args.table.now)) c.requires in
    rw (c.number_or.ensures, c.item_at.ensures) within
