use Rattle.toml.specs.View.{table_view}
use Rattle.rb_scenario.proofs.First.{refused_result}
use Rattle.rb_scenario.proofs.document.read.Goals as goal

pub returns-clause-refused : goal.returns-clause-refused
returns-clause-refused c = refused_result c.args.bytes.now (table_view c.in-Ok.table) c.read_table.result c.in-Ok.ensures.ok c.read_table.ensures.refused
