use Rattle.std.proofs.Common.{◌∙◌}
use Rattle.rb_scenario_document.proofs.Walks.{has_unknown-view}
use Rattle.rb_bridge_document.proofs.forms.has_unknown.Goals as goal

pub returns : goal.returns
returns c = c.any_key_unknown.ensures ∙ has_unknown-view _ c.args.table.now.entries
