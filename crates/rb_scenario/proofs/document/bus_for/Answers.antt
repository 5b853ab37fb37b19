use Rattle.std.proofs.Common.{sym, ◌∙◌}
use Rattle.toml.specs.View.{table_view}
use Rattle.rb_scenario.proofs.First.{bus_in-none, bus_in-some, first-forms, first-keys, first-names, fit-first, no_bus-first, no_fit-first}
use Rattle.rb_scenario.proofs.document.bus_for.Goals as goal

pub returns-then-lacks_key-clause-refused : goal.returns-then-lacks_key-clause-refused
returns-then-lacks_key-clause-refused c = first-keys (table_view c.args.table.now) (sym c.lacks_key.ensures ∙ c.if-lacks_key.true)

pub returns-then-has_unknown_key-clause-refused : goal.returns-then-has_unknown_key-clause-refused
returns-then-has_unknown_key-clause-refused c =
    first-names (table_view c.args.table.now) (record { keys = sym c.lacks_key.ensures ∙ c.if-lacks_key.false })
    (sym c.has_unknown_key.ensures ∙ c.if-has_unknown_key.true)

pub returns-then-has_wrong_form-clause-refused : goal.returns-then-has_wrong_form-clause-refused
returns-then-has_wrong_form-clause-refused c =
    first-forms (table_view c.args.table.now)
    (record { keys = sym c.lacks_key.ensures ∙ c.if-lacks_key.false; names = sym c.has_unknown_key.ensures ∙ c.if-has_unknown_key.false })
    (sym c.has_wrong_form.ensures ∙ c.if-has_wrong_form.true)

pub returns-in-None-clause-refused : goal.returns-in-None-clause-refused
returns-in-None-clause-refused c =
    no_bus-first (table_view c.args.table.now)
    (record {
      keys = sym c.lacks_key.ensures ∙ c.if-lacks_key.false;
      names = sym c.has_unknown_key.ensures ∙ c.if-has_unknown_key.false;
      forms = sym c.has_wrong_form.ensures ∙ c.if-has_wrong_form.false;
    })
    (bus_in-none (table_view c.args.table.now) c.in-None.ensures.value)

pub returns-else-fits_bus-clause-refused : goal.returns-else-fits_bus-clause-refused
returns-else-fits_bus-clause-refused c =
    no_fit-first (table_view c.args.table.now) c.in-Some.bus
    (record {
      keys = sym c.lacks_key.ensures ∙ c.if-lacks_key.false;
      names = sym c.has_unknown_key.ensures ∙ c.if-has_unknown_key.false;
      forms = sym c.has_wrong_form.ensures ∙ c.if-has_wrong_form.false;
    })
    (bus_in-some (table_view c.args.table.now) c.in-Some.bus c.in-Some.ensures.value).1 (sym c.fits_bus.ensures ∙ c.if-fits_bus.false)

pub returns-then-fits_bus-clause-first : goal.returns-then-fits_bus-clause-first
returns-then-fits_bus-clause-first c =
    let some = bus_in-some (table_view c.args.table.now) c.in-Some.bus c.in-Some.ensures.value in
    fit-first (table_view c.args.table.now) c.in-Some.bus
    (record {
      keys = sym c.lacks_key.ensures ∙ c.if-lacks_key.false;
      names = sym c.has_unknown_key.ensures ∙ c.if-has_unknown_key.false;
      forms = sym c.has_wrong_form.ensures ∙ c.if-has_wrong_form.false;
    })
    some.0 some.1 (sym c.fits_bus.ensures ∙ c.if-fits_bus.true)
