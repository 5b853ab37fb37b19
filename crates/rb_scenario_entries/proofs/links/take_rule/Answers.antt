use Rattle.toml.specs.View.{table_view, view}
use Rattle.rb_scenario_document.proofs.Collecting.{one_entry}
use Rattle.rb_scenario_entries.specs.Links.{is_link}
use Rattle.rb_scenario_entries.proofs.links.take_rule.Goals as goal

pub rule_of-requires : goal.rule_of-requires
rule_of-requires c = one_entry (is_link c.args.bus.now) (view c.args.value.now) (table_view c.in-Some.entry.now) c.in-Some.ensures c.requires
