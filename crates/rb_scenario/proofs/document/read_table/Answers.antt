use Rattle.toml.specs.View.{table_view}
use Rattle.rb_scenario.specs.Acceptance.{as_scenario}
use Rattle.rb_scenario.proofs.LawfulParts.{lawful_result}
use Rattle.rb_scenario.proofs.document.read_table.Goals as goal

pub returns-in-Ok-clause-lawful : goal.returns-in-Ok-clause-lawful
returns-in-Ok-clause-lawful c =
    (lawful_result as_scenario c.in-Ok.bus (table_view c.args.table.now) c.scenario_on.result c.in-Ok.ensures.bus c.in-Ok.ensures.fits c.scenario_on.ensures.scenario c.scenario_on.ensures.unbroken).0

pub returns-in-Ok-clause-listed : goal.returns-in-Ok-clause-listed
returns-in-Ok-clause-listed c =
    (lawful_result as_scenario c.in-Ok.bus (table_view c.args.table.now) c.scenario_on.result c.in-Ok.ensures.bus c.in-Ok.ensures.fits c.scenario_on.ensures.scenario c.scenario_on.ensures.unbroken).1
