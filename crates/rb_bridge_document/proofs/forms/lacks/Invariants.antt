use Rattle.std.proofs.Common.{◌≡◌, drop}
use Rattle.toml.specs.View.{table_view}
use Rattle.rb_scenario_document.specs.{Forms.lacks, Shown.fields_shown}
use Rattle.rb_bridge_document.proofs.forms.lacks.Given as goal

abbrev pub invariant-loop-field : goal.invariant-loop-field
invariant-loop-field l = lacks (fields_shown (drop l.field-index l.fields)) (table_view l.table) ≡ lacks (fields_shown l.fields) (table_view l.table)
