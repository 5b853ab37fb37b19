use Rattle.std.proofs.Common.{◌∙◌, subst}
use Rattle.rb_run.specs.Seen.{sink_over, source_over}
use Rattle.rb_bridge.specs.Crossing.{drives_over}
use Rattle.rb_bridge_top.specs.Answers.{Answers}
use Rattle.rb_program.proofs.Statuses.{is_memory, is_memory_only}
use Rattle.rb_bridge_top.proofs.Answered.{none-answers, report-answers}
use Rattle.rb_bridge_top.proofs.top.serve.Goals as goal

pub report-requires-clause-bridge : goal.report-requires-clause-bridge
report-requires-clause-bridge g c = c.in-Ok.ensures.bridge.bridge

pub report-requires-clause-listed : goal.report-requires-clause-listed
report-requires-clause-listed g c = c.in-Ok.ensures.bridge.listed

pub returns-in-Ok-clause-answers : goal.returns-in-Ok-clause-answers
returns-in-Ok-clause-answers g c = λ both plain.
    let P : g.row.K.Denot → Type 0 = λ k. Answers both c.report.result (source_over g.S.Source.left g.S.Source.faults c.args.input.now c.read_document.new.input)
    (sink_over g.K.Sink.held g.K.Sink.faults k c.report.new.output)
    (drives_over g.D.Drive.is_plain g.D.Drive.told c.args.left.now c.report.new.left_drive c.args.right.now c.report.new.right_drive) in
    subst P c.in-Ok.ensures.unwritten
    (report-answers both c.report.result _ _ _ c.in-Ok.bridge c.in-Ok.ensures.bridge
    (λ h. c.report.ensures.written.ended h both plain) (λ e. c.report.ensures.written.part e both plain) c.report.ensures.cause c.report.ensures.one_of)

pub returns-in-Err-clause-answers : goal.returns-in-Err-clause-answers
returns-in-Err-clause-answers g c = λ both plain. none-answers both c.in-Err.status _ _ _ c.in-Err.ensures.none

pub returns-in-Ok-clause-unwritten : goal.returns-in-Ok-clause-unwritten
returns-in-Ok-clause-unwritten g c h = (c.report.ensures.unopened (is_memory c.report.result c.report.ensures.one_of h)).0 ∙ c.in-Ok.ensures.unwritten

pub returns-in-Ok-clause-not_driven : goal.returns-in-Ok-clause-not_driven
returns-in-Ok-clause-not_driven g c h = (c.report.ensures.unopened (is_memory_only c.report.result c.report.ensures.one_of h)).1
