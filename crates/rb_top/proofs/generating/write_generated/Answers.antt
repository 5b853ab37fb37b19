use Rattle.std.proofs.Common.{◌≤◌, arith, rules, sym}
use Rattle.rb_base.proofs.Plain.{on_err}
use Rattle.rb_scenario.specs.Acceptance.{as_scenario}
use Rattle.rb_gen.specs.Text.{lines_of}
use Rattle.rb_top.proofs.Rest.{owes_line, owes_no_line, part_of_line}
use Rattle.rb_top.proofs.generating.write_generated.Goals as goal

pub loop-text-preserved : goal.loop-text-preserved
loop-text-preserved g c =
    let not_past : 414 ≤ c.loop-text.next → ⊥ = λ past. let none = c.in-Some.ensures.none.1 past in cc in
    record {
      within = omega (arith, not_past);
      owes = owes_line _ _ _ (lines_of (as_scenario c.args.scenario.now)) c.loop-text.next c.in-Some.text.bytes (sym c.in-Some.ensures.text) c.loop-text.invariant.owes (search rules);
      later = search rules;
    }

pub returns-in_err-write_line : goal.returns-in_err-write_line
returns-in_err-write_line g c = record {
  all = search rules;
  part = on_err _ (part_of_line _ _ _ (lines_of (as_scenario c.args.scenario.now)) c.loop-text.next c.in-Some.text.bytes (sym c.in-Some.ensures.text) c.loop-text.invariant.owes (search rules));
  cause = search rules;
}

pub returns : goal.returns
returns g c = record {
  all = owes_no_line _ _ (lines_of (as_scenario c.args.scenario.now)) c.loop-text.next (sym c.in_default.ensures.text) c.loop-text.invariant.owes;
  part = search rules;
  cause = search rules;
}
