use Rattle.toml.specs.View.{table_view, view}
use Rattle.rb_scenario_document.proofs.Collecting.{one_entry}
use Rattle.rb_scenario_entries.specs.Says.{is_say}
use Rattle.rb_scenario_entries.proofs.says.take_say.Goals as goal

pub say_of-requires-clause-say : goal.say_of-requires-clause-say
say_of-requires-clause-say c = one_entry (is_say c.args.bus.now) (view c.args.value.now) (table_view c.in-Some.entry.now) c.in-Some.ensures c.requires.says
