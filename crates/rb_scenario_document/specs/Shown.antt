-- The code's table of fields as the definitions have it.
use Rattle.std.specs.Prelude.{List, map}
use Rattle.rb_scenario_document.specs.{declared.fields.Field.Field, Fields.Entry}

abbrev pub field_shown : Field → Entry
field_shown f = record { key = f.key.now; needed = f.needed; form = f.form }

abbrev pub fields_shown : List Field → List Entry
fields_shown fs = map field_shown fs
