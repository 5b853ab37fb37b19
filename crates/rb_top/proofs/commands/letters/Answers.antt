use Rattle.std.proofs.Common.{◌∙◌, subst}
use Rattle.rb_run.specs.Seen.{drive_over, sink_over}
use Rattle.rb_program.proofs.Statuses.{is_memory, is_memory_only, never_both}
use Rattle.rb_top.proofs.{CommandAnswers.{none_answers, report_answers, telling_reads, telling_tells}, Completeness.telling_sound, Called.{answers_driven, drives_the_input}}
use Rattle.rb_top.specs.{Commands.letters_command, Serving.Reports, Texts.told_by_letters, declared.form.Form.TheVariants.Letters}
use Rattle.rb_top.proofs.commands.letters.Goals as goal

pub returns-clause-answers : goal.returns-clause-answers
returns-clause-answers g c =
    let P : g.row.K.Denot → Type 0 = λ k. Reports told_by_letters c.in-Ok.scenario c.tell.result (sink_over g.K.Sink.held g.K.Sink.faults k c.tell.new.output)
    (drive_over g.D.Drive.is_plain g.D.Drive.told c.args.drive.now c.tell.new.drive) in
    answers_driven Letters (telling_sound told_by_letters) _ _ _ _
    (report_answers letters_command told_by_letters c.in-Ok.scenario c.tell.result _ _ _ (telling_tells c.in-Ok.scenario told_by_letters) c.in-Ok.ensures.scenario (subst P c.in-Ok.ensures.unwritten c.tell.ensures.reports))

pub returns-clause-unwritten : goal.returns-clause-unwritten
returns-clause-unwritten g c = λ h. (c.tell.ensures.unopened (is_memory c.tell.result c.tell.ensures.reports.one_of h)).0 ∙ c.in-Ok.ensures.unwritten

pub returns-clause-not_driven : goal.returns-clause-not_driven
returns-clause-not_driven g c = λ h. (c.tell.ensures.unopened (is_memory_only c.tell.result c.tell.ensures.reports.one_of h)).1

pub returns-clause-driven : goal.returns-clause-driven
returns-clause-driven g c = λ h. drives_the_input _ c.in-Ok.scenario c.in-Ok.ensures.scenario (c.tell.ensures.driven h)

pub returns-in-Err-clause-answers : goal.returns-in-Err-clause-answers
returns-in-Err-clause-answers g c = answers_driven Letters (telling_sound told_by_letters) _ _ _ _ (none_answers letters_command (telling_reads told_by_letters) c.in-Err.status _ _ _ _ c.in-Err.ensures.none)

pub returns-in-Err-clause-driven : goal.returns-in-Err-clause-driven
returns-in-Err-clause-driven g c = λ h. absurd (never_both c.in-Err.status c.in-Err.ensures.none.one_of h)
