use Rattle.std.proofs.Common.{subst, sym}
use Rattle.rb_top.specs.{declared.form.Form.Form, Answers.{CommandAnswers, command_of}, Commands.group_command, Pages.page_text, Texts.generated_text}
use Rattle.rb_run.specs.Seen.{drive_over, sink_over, source_over}
use Rattle.rb_long_run.specs.Reports.{spelling_text}
use Rattle.rb_group_run.specs.declared.asked.Asked.{Asked}
use Rattle.rb_top.proofs.CommandAnswers.{not_two, of_two, sum_answers, text_answers}
use Rattle.rb_top.proofs.serving.serve.Goals as goal

pub returns-in-Run-clause-answers : goal.returns-in-Run-clause-answers
returns-in-Run-clause-answers g c =
    let P : Form → Type 0 = λ f. CommandAnswers (command_of f) c.run.result (source_over g.S.Source.left g.S.Source.faults c.args.input.now c.run.new.input)
    (sink_over g.K.Sink.held g.K.Sink.faults c.args.output.now c.run.new.output)
    (drive_over g.D.Drive.is_plain g.D.Drive.told c.args.drive.now c.run.new.drive) in
    subst P (sym c.in-Run.is) c.run.ensures.answers.answers

pub returns-in-Check-clause-answers : goal.returns-in-Check-clause-answers
returns-in-Check-clause-answers g c =
    let P : Form → Type 0 = λ f. CommandAnswers (command_of f) c.check.result (source_over g.S.Source.left g.S.Source.faults c.args.input.now c.check.new.input)
    (sink_over g.K.Sink.held g.K.Sink.faults c.args.output.now c.check.new.output)
    (drive_over g.D.Drive.is_plain g.D.Drive.told c.args.drive.now c.args.drive.now) in
    subst P (sym c.in-Check.is) (c.check.ensures.answers.answers (g.D.Drive.is_plain c.args.drive.now) (g.D.Drive.told c.args.drive.now))

pub returns-in-Gen-clause-answers : goal.returns-in-Gen-clause-answers
returns-in-Gen-clause-answers g c =
    let P : Form → Type 0 = λ f. CommandAnswers (command_of f) c.generate.result (source_over g.S.Source.left g.S.Source.faults c.args.input.now c.args.input.now)
    (sink_over g.K.Sink.held g.K.Sink.faults c.args.output.now c.generate.new.output)
    (drive_over g.D.Drive.is_plain g.D.Drive.told c.args.drive.now c.args.drive.now) in
    subst P (sym c.in-Gen.is)
    (text_answers (generated_text c.in-Gen.seed c.in-Gen.frames) c.generate.result _ _ _ _ (record {
      done = c.generate.ensures.done;
      part = c.generate.ensures.part;
      cause = c.generate.ensures.cause;
      one_of = c.generate.ensures.one_of;
    }))

pub returns-in-Stress-clause-answers : goal.returns-in-Stress-clause-answers
returns-in-Stress-clause-answers g c =
    let P : Form → Type 0 = λ f. CommandAnswers (command_of f) c.stress.result (source_over g.S.Source.left g.S.Source.faults c.args.input.now c.args.input.now)
    (sink_over g.K.Sink.held g.K.Sink.faults c.args.output.now c.stress.new.output)
    (drive_over g.D.Drive.is_plain g.D.Drive.told c.args.drive.now c.stress.new.drive) in
    subst P (sym c.in-Stress.is)
    (sum_answers c.in-Stress.seed c.in-Stress.frames c.stress.result _ _ _ c.stress.ensures.sums)

pub returns-in-Record-clause-answers : goal.returns-in-Record-clause-answers
returns-in-Record-clause-answers g c =
    let P : Form → Type 0 = λ f. CommandAnswers (command_of f) c.record.result (source_over g.S.Source.left g.S.Source.faults c.args.input.now c.record.new.input)
    (sink_over g.K.Sink.held g.K.Sink.faults c.args.output.now c.record.new.output)
    (drive_over g.D.Drive.is_plain g.D.Drive.told c.args.drive.now c.args.drive.now) in
    subst P (sym c.in-Record.is) (c.record.ensures.answers.answers (g.D.Drive.is_plain c.args.drive.now) (g.D.Drive.told c.args.drive.now))

pub returns-in-Replay-clause-answers : goal.returns-in-Replay-clause-answers
returns-in-Replay-clause-answers g c =
    let P : Form → Type 0 = λ f. CommandAnswers (command_of f) c.replay.result (source_over g.S.Source.left g.S.Source.faults c.args.input.now c.replay.new.input)
    (sink_over g.K.Sink.held g.K.Sink.faults c.args.output.now c.replay.new.output)
    (drive_over g.D.Drive.is_plain g.D.Drive.told c.args.drive.now c.args.drive.now) in
    subst P (sym c.in-Replay.is) (c.replay.ensures.answers.answers (g.D.Drive.is_plain c.args.drive.now) (g.D.Drive.told c.args.drive.now))

pub returns-in-Listen-clause-answers : goal.returns-in-Listen-clause-answers
returns-in-Listen-clause-answers g c =
    let P : Form → Type 0 = λ f. CommandAnswers (command_of f) c.listen.result (source_over g.S.Source.left g.S.Source.faults c.args.input.now c.listen.new.input)
    (sink_over g.K.Sink.held g.K.Sink.faults c.args.output.now c.listen.new.output)
    (drive_over g.D.Drive.is_plain g.D.Drive.told c.args.drive.now c.args.drive.now) in
    subst P (sym c.in-Listen.is) (c.listen.ensures.answers.answers (g.D.Drive.is_plain c.args.drive.now) (g.D.Drive.told c.args.drive.now))

pub returns-in-Spell-clause-answers : goal.returns-in-Spell-clause-answers
returns-in-Spell-clause-answers g c =
    let P : Form → Type 0 = λ f. CommandAnswers (command_of f) c.spell.result (source_over g.S.Source.left g.S.Source.faults c.args.input.now c.args.input.now)
    (sink_over g.K.Sink.held g.K.Sink.faults c.args.output.now c.spell.new.output)
    (drive_over g.D.Drive.is_plain g.D.Drive.told c.args.drive.now c.args.drive.now) in
    subst P (sym c.in-Spell.is)
    (text_answers (spelling_text c.in-Spell.letter.items) c.spell.result _ _ _ _ (record {
      done = c.spell.ensures.done;
      part = c.spell.ensures.part;
      cause = c.spell.ensures.cause;
      one_of = of_two c.spell.result c.spell.ensures.one_of;
    }))

pub returns-in-Spell-clause-unwritten : goal.returns-in-Spell-clause-unwritten
returns-in-Spell-clause-unwritten g c h = absurd (not_two c.spell.result c.spell.ensures.one_of h)

pub returns-in-Show-clause-answers : goal.returns-in-Show-clause-answers
returns-in-Show-clause-answers g c =
    let P : Form → Type 0 = λ f. CommandAnswers (command_of f) c.write_page.result (source_over g.S.Source.left g.S.Source.faults c.args.input.now c.args.input.now)
    (sink_over g.K.Sink.held g.K.Sink.faults c.args.output.now c.write_page.new.output)
    (drive_over g.D.Drive.is_plain g.D.Drive.told c.args.drive.now c.args.drive.now) in
    subst P (sym c.in-Show.is)
    (text_answers (page_text c.in-Show.flag) c.write_page.result _ _ _ _ (record {
      done = c.write_page.ensures.done;
      part = c.write_page.ensures.part;
      cause = c.write_page.ensures.cause;
      one_of = of_two c.write_page.result c.write_page.ensures.one_of;
    }))

pub returns-in-Show-clause-unwritten : goal.returns-in-Show-clause-unwritten
returns-in-Show-clause-unwritten g c h = absurd (not_two c.write_page.result c.write_page.ensures.one_of h)

pub returns-in-Letters-clause-answers : goal.returns-in-Letters-clause-answers
returns-in-Letters-clause-answers g c =
    let P : Form → Type 0 = λ f. CommandAnswers (command_of f) c.letters.result (source_over g.S.Source.left g.S.Source.faults c.args.input.now c.letters.new.input)
    (sink_over g.K.Sink.held g.K.Sink.faults c.args.output.now c.letters.new.output)
    (drive_over g.D.Drive.is_plain g.D.Drive.told c.args.drive.now c.letters.new.drive) in
    subst P (sym c.in-Letters.is) c.letters.ensures.answers.answers

pub returns-in-Group-clause-answers : goal.returns-in-Group-clause-answers
returns-in-Group-clause-answers g c =
    let P : Form → Type 0 = λ f. CommandAnswers (command_of f) c.group.result (source_over g.S.Source.left g.S.Source.faults c.args.input.now c.group.new.input)
    (sink_over g.K.Sink.held g.K.Sink.faults c.args.output.now c.group.new.output)
    (drive_over g.D.Drive.is_plain g.D.Drive.told c.args.drive.now c.group.new.drive) in
    let Q : Asked → Type 0 = λ a. CommandAnswers (group_command a.which a.members) c.group.result (source_over g.S.Source.left g.S.Source.faults c.args.input.now c.group.new.input) (sink_over g.K.Sink.held g.K.Sink.faults c.args.output.now c.group.new.output) (drive_over g.D.Drive.is_plain g.D.Drive.told c.args.drive.now c.group.new.drive) in
    subst P (sym c.in-Group.is) (subst Q c.asked_of.ensures c.group.ensures.answers.answers)
