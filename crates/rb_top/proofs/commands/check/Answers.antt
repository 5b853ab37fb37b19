use Rattle.std.proofs.Common.{subst}
use Rattle.rb_run.specs.Seen.{sink_over}
use Rattle.rb_top.specs.{CheckText.check_text, Commands.check_command, declared.form.Form.TheVariants.Check}
use Rattle.rb_top.proofs.{CommandAnswers.{Writes, check_reads, none_answers, not_two, of_two, sides_answer}, Completeness.check_sound, Called.answers_alone}
use Rattle.rb_top.proofs.commands.check.Goals as goal

pub returns-in-Ok-clause-answers : goal.returns-in-Ok-clause-answers
returns-in-Ok-clause-answers g c =
    answers_alone Check check_sound _ _ _
    (λ is_plain told.
    let text = check_text c.in-Ok.scenario.plan.sizes c.in-Ok.scenario.plan.plan in
    let P : g.row.K.Denot → Type 0 = λ k. Writes text c.show_sides.result (sink_over g.K.Sink.held g.K.Sink.faults k c.show_sides.new.output) in
    sides_answer c.in-Ok.scenario c.show_sides.result _ _ is_plain told c.in-Ok.ensures.scenario
    (subst P c.in-Ok.ensures.unwritten (record {
      done = c.show_sides.ensures.done;
      part = c.show_sides.ensures.part;
      cause = c.show_sides.ensures.cause;
      one_of = of_two c.show_sides.result c.show_sides.ensures.one_of;
    })))

pub returns-in-Ok-clause-unwritten : goal.returns-in-Ok-clause-unwritten
returns-in-Ok-clause-unwritten g c = λ h. absurd (not_two c.show_sides.result c.show_sides.ensures.one_of h)

pub returns-in-Err-clause-answers : goal.returns-in-Err-clause-answers
returns-in-Err-clause-answers g c =
    answers_alone Check check_sound _ _ _ (λ is_plain told. none_answers check_command check_reads c.in-Err.status _ _ is_plain told c.in-Err.ensures.none)
