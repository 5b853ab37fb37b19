use Rattle.std.proofs.Common.{◌≡◌, Bool, false, not, inr, refl, sym, ap, ◌∙◌}
use Rattle.std.specs.List.{list_all}
use Rattle.toml.specs.View.{table_view}
use Rattle.rb_rules.specs.declared.say.Say.{Say}
use Rattle.rb_scenario.specs.Onsets.{is_good_by}
use Rattle.rb_scenario_entries.specs.Says.{says_of}
use Rattle.rb_scenario.proofs.reading.sayings_of.Goals as goal

pub returns-else-are_sayers_faulty-clause-refused : goal.returns-else-are_sayers_faulty-clause-refused
returns-else-are_sayers_faulty-clause-refused c =
    let P : Say → Bool = λ say. not (is_good_by c.args.bus.now.shape c.args.biu.now c.args.rmu.now say.from say.frames.0 say.slots.0) in
    let fails : list_all P (says_of c.args.bus.now (table_view c.args.table.now)) ≡ false =
    ap (list_all P) (sym (c.deref.ensures.value ∙ c.in_ok-says.ensures)) ∙ sym c.are_sayers_faulty.ensures ∙ c.if-are_sayers_faulty.false in
    inr (refl, fails)
