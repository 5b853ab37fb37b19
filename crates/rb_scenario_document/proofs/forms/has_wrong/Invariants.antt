use Rattle.std.proofs.Common.{◌≡◌, drop}
use Rattle.toml.specs.View.{table_view}
use Rattle.rb_scenario_document.specs.{Forms.has_wrong, Shown.fields_shown}
use Rattle.rb_scenario_document.proofs.forms.has_wrong.Given as goal

abbrev pub invariant-loop-field : goal.invariant-loop-field
invariant-loop-field l = has_wrong (fields_shown (drop l.field-index l.fields)) (table_view l.table) ≡ has_wrong (fields_shown l.fields) (table_view l.table)
