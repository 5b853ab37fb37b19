use Rattle.std.proofs.Common.{◌≡◌, drop}
use Rattle.rb_scenario_document.specs.{Forms.is_known, Shown.fields_shown}
use Rattle.rb_bridge_document.proofs.forms.is_known.Given as goal

abbrev pub invariant-loop-field : goal.invariant-loop-field
invariant-loop-field l = is_known (fields_shown (drop l.field-index l.fields)) (l.key) ≡ is_known (fields_shown l.fields) (l.key)
