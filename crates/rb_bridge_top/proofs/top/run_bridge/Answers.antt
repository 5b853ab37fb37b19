use Rattle.std.proofs.Common.{true, false, refl, subst}
use Rattle.rb_flags.specs.declared.Flag.{Flag}
use Rattle.rb_run.specs.Seen.{sink_over}
use Rattle.rb_bridge.proofs.Crossed.{never-plain}
use Rattle.rb_program.specs.{Outside.WritesText, Statuses.IsOfRun}
use Rattle.rb_bridge_top.specs.{declared.form.Form.TheVariants.{Run, Show}, Pages.page_text, Words.AskFor}
use Rattle.rb_bridge_top.proofs.{Answered.{shown-of-run, shown-writes}, Completed.{completes, promised}, OneForm.{idle_run, no_flag_runs, one_shown}}
use Rattle.rb_bridge_top.proofs.top.run_bridge.Goals as goal

-- The words are `run`.

pub returns-in-Some-Run-clause-usage : goal.returns-in-Some-Run-clause-usage
returns-in-Some-Run-clause-usage g c = record {
  unknown = λ e. absurd ((c.serve.ensures.answers false (never-plain _ _)).known e);
  refused = λ none. absurd (none c.in-Some-Run.field-0 c.in-Some-Run.ensures.some);
  known = λ _. (c.in-Some-Run.field-0, c.in-Some-Run.ensures.some);
}

pub returns-in-Some-Run-clause-untouched : goal.returns-in-Some-Run-clause-untouched
returns-in-Some-Run-clause-untouched g c =
    let runs : AskFor c.args.words.now Run = subst (AskFor c.args.words.now) c.in-Some-Run.field-0-is c.in-Some-Run.ensures.some in record {
      unread = λ other. absurd (other runs);
      unwritten = c.serve.ensures.unwritten;
      left_idle = λ idle. (c.serve.ensures.not_driven (idle_run c.args.words.now c.serve.result runs idle)).0;
      right_idle = λ idle. (c.serve.ensures.not_driven (idle_run c.args.words.now c.serve.result runs idle)).1;
    }

pub returns-in-Some-Run-clause-shown : goal.returns-in-Some-Run-clause-shown
returns-in-Some-Run-clause-shown g c flag asked =
    absurd (no_flag_runs c.args.words.now flag (subst (AskFor c.args.words.now) c.in-Some-Run.field-0-is c.in-Some-Run.ensures.some) asked)

pub returns-in-Some-Run-clause-promise : goal.returns-in-Some-Run-clause-promise
returns-in-Some-Run-clause-promise g c asked left right h = promised c.serve.result _ _ _ ((c.serve.ensures.answers true (record { left = λ _. left; right = λ _. right })).ended h)

pub returns-in-Some-Run-clause-ended : goal.returns-in-Some-Run-clause-ended
returns-in-Some-Run-clause-ended g c asked both plain h = (c.serve.ensures.answers both plain).ended h

pub returns-in-Some-Run-clause-refused : goal.returns-in-Some-Run-clause-refused
returns-in-Some-Run-clause-refused g c e = (c.serve.ensures.answers false (never-plain _ _)).refused e

pub returns-in-Some-Run-clause-unread : goal.returns-in-Some-Run-clause-unread
returns-in-Some-Run-clause-unread g c asked = (c.serve.ensures.answers false (never-plain _ _)).unread

pub returns-in-Some-Run-clause-write_fault : goal.returns-in-Some-Run-clause-write_fault
returns-in-Some-Run-clause-write_fault g c asked both plain e = (c.serve.ensures.answers both plain).failed e

pub returns-in-Some-Run-clause-complete : goal.returns-in-Some-Run-clause-complete
returns-in-Some-Run-clause-complete g c asked both plain = completes both c.serve.result _ _ _ (c.serve.ensures.answers both plain)

-- The words are a flag.

pub returns-in-Some-Show-clause-usage : goal.returns-in-Some-Show-clause-usage
returns-in-Some-Show-clause-usage g c = record {
  unknown = λ e. absurd (subst IsOfRun e (shown-of-run c.write_page.result c.write_page.ensures.one_of));
  refused = λ none. absurd (none c.in-Some-Show.field-0 c.in-Some-Show.ensures.some);
  known = λ _. (c.in-Some-Show.field-0, c.in-Some-Show.ensures.some);
}

pub returns-in-Some-Show-clause-untouched : goal.returns-in-Some-Show-clause-untouched
returns-in-Some-Show-clause-untouched g c = record {
  unread = λ _. refl;
  unwritten = λ none. absurd (shown-writes c.write_page.result c.write_page.ensures.one_of none);
  left_idle = λ _. refl;
  right_idle = λ _. refl;
}

pub returns-in-Some-Show-clause-shown : goal.returns-in-Some-Show-clause-shown
returns-in-Some-Show-clause-shown g c flag asked =
    let P : Flag → Type 0 = λ f. WritesText (page_text f) c.write_page.result (sink_over g.K.Sink.held g.K.Sink.faults c.args.output.now c.write_page.new.output) in
    let shows : AskFor c.args.words.now (Show c.in-Some-Show.flag) = subst (AskFor c.args.words.now) c.in-Some-Show.field-0-is c.in-Some-Show.ensures.some in
    subst P (one_shown c.args.words.now c.in-Some-Show.flag flag shows asked) c.write_page.ensures

pub returns-in-Some-Show-clause-refused : goal.returns-in-Some-Show-clause-refused
returns-in-Some-Show-clause-refused g c e = absurd (subst IsOfRun e (shown-of-run c.write_page.result c.write_page.ensures.one_of))

pub returns-in-Some-Show-clause-promise : goal.returns-in-Some-Show-clause-promise
returns-in-Some-Show-clause-promise g c asked = absurd (no_flag_runs c.args.words.now c.in-Some-Show.flag asked (subst (AskFor c.args.words.now) c.in-Some-Show.field-0-is c.in-Some-Show.ensures.some))

pub returns-in-Some-Show-clause-ended : goal.returns-in-Some-Show-clause-ended
returns-in-Some-Show-clause-ended g c asked = absurd (no_flag_runs c.args.words.now c.in-Some-Show.flag asked (subst (AskFor c.args.words.now) c.in-Some-Show.field-0-is c.in-Some-Show.ensures.some))

pub returns-in-Some-Show-clause-unread : goal.returns-in-Some-Show-clause-unread
returns-in-Some-Show-clause-unread g c asked = absurd (no_flag_runs c.args.words.now c.in-Some-Show.flag asked (subst (AskFor c.args.words.now) c.in-Some-Show.field-0-is c.in-Some-Show.ensures.some))

pub returns-in-Some-Show-clause-write_fault : goal.returns-in-Some-Show-clause-write_fault
returns-in-Some-Show-clause-write_fault g c asked = absurd (no_flag_runs c.args.words.now c.in-Some-Show.flag asked (subst (AskFor c.args.words.now) c.in-Some-Show.field-0-is c.in-Some-Show.ensures.some))

pub returns-in-Some-Show-clause-complete : goal.returns-in-Some-Show-clause-complete
returns-in-Some-Show-clause-complete g c asked = absurd (no_flag_runs c.args.words.now c.in-Some-Show.flag asked (subst (AskFor c.args.words.now) c.in-Some-Show.field-0-is c.in-Some-Show.ensures.some))

-- The words are others.

pub returns-in-None-clause-shown : goal.returns-in-None-clause-shown
returns-in-None-clause-shown g c flag asked = absurd (c.in-None.ensures.none (Show flag) asked)

pub returns-in-None-clause-promise : goal.returns-in-None-clause-promise
returns-in-None-clause-promise g c asked = absurd (c.in-None.ensures.none Run asked)

pub returns-in-None-clause-ended : goal.returns-in-None-clause-ended
returns-in-None-clause-ended g c asked = absurd (c.in-None.ensures.none Run asked)

pub returns-in-None-clause-unread : goal.returns-in-None-clause-unread
returns-in-None-clause-unread g c asked = absurd (c.in-None.ensures.none Run asked)

pub returns-in-None-clause-write_fault : goal.returns-in-None-clause-write_fault
returns-in-None-clause-write_fault g c asked = absurd (c.in-None.ensures.none Run asked)

pub returns-in-None-clause-complete : goal.returns-in-None-clause-complete
returns-in-None-clause-complete g c asked = absurd (c.in-None.ensures.none Run asked)
