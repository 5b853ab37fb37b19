use Rattle.std.proofs.Common.{◌≡◌, true, subst}
use Rattle.rb_run.specs.Seen.{drive_over, sink_over, source_over}
use Rattle.rb_top.specs.{declared.form.Form.Form, Answers.{Completes, Ends, FailsToWrite, IsUnread, Refuses, command_of}, Promise.KeepsItsPromise}
use Rattle.rb_top.proofs.{Completeness.{completes, is_sound}, OneForm.one_form, Promised.promised}
use Rattle.rb_top.proofs.top.run_robus.Goals as goal

pub returns-in-Some-clause-untouched : goal.returns-in-Some-clause-untouched
returns-in-Some-clause-untouched g c = record {
  unread = λ e. absurd (c.serve.ensures.answers.known e);
  without_input = λ form asked none.
      c.serve.ensures.without_input (let same = one_form c.args.words.now c.in-Some.form form c.in-Some.ensures.some asked in cc);
  unwritten = c.serve.ensures.unwritten;
  stress_with_breach = λ seed frames asked e.
      c.serve.ensures.stress_with_breach seed frames (one_form c.args.words.now c.in-Some.form _ c.in-Some.ensures.some asked) e;
  not_driven = c.serve.ensures.not_driven;
}

pub returns-in-Some-clause-ended : goal.returns-in-Some-clause-ended
returns-in-Some-clause-ended g c h form asked =
    let P : Form → Type 0 = λ f. Ends f c.serve.result (source_over g.S.Source.left g.S.Source.faults c.args.input.now c.serve.new.input)
    (sink_over g.K.Sink.held g.K.Sink.faults c.args.output.now c.serve.new.output)
    (drive_over g.D.Drive.is_plain g.D.Drive.told c.args.drive.now c.serve.new.drive) in
    subst P (one_form c.args.words.now c.in-Some.form form c.in-Some.ensures.some asked) (c.serve.ensures.answers.ended h)

pub returns-in-Some-clause-promise : goal.returns-in-Some-clause-promise
returns-in-Some-clause-promise g c plain h form asked =
    let is : g.D.Drive.is_plain c.args.drive.now ≡ true = plain in
    let P : Form → Type 0 = λ f. KeepsItsPromise f c.serve.result (source_over g.S.Source.left g.S.Source.faults c.args.input.now c.serve.new.input)
    (sink_over g.K.Sink.held g.K.Sink.faults c.args.output.now c.serve.new.output) in
    subst P (one_form c.args.words.now c.in-Some.form form c.in-Some.ensures.some asked)
    (promised c.in-Some.form c.serve.result _ _ _ is (c.serve.ensures.answers.ended h))

pub returns-in-Some-clause-refused : goal.returns-in-Some-clause-refused
returns-in-Some-clause-refused g c e form asked =
    let P : Form → Type 0 = λ f. Refuses f (source_over g.S.Source.left g.S.Source.faults c.args.input.now c.serve.new.input)
    (sink_over g.K.Sink.held g.K.Sink.faults c.args.output.now c.serve.new.output) in
    subst P (one_form c.args.words.now c.in-Some.form form c.in-Some.ensures.some asked) (c.serve.ensures.answers.refused e)

pub returns-in-Some-clause-unread : goal.returns-in-Some-clause-unread
returns-in-Some-clause-unread g c form asked =
    let P : Form → Type 0 = λ f. IsUnread f c.serve.result (source_over g.S.Source.left g.S.Source.faults c.args.input.now c.serve.new.input) in
    subst P (one_form c.args.words.now c.in-Some.form form c.in-Some.ensures.some asked) c.serve.ensures.answers.unread

pub returns-in-Some-clause-write_fault : goal.returns-in-Some-clause-write_fault
returns-in-Some-clause-write_fault g c e form asked =
    let P : Form → Type 0 = λ f. FailsToWrite f (source_over g.S.Source.left g.S.Source.faults c.args.input.now c.serve.new.input)
    (sink_over g.K.Sink.held g.K.Sink.faults c.args.output.now c.serve.new.output)
    (drive_over g.D.Drive.is_plain g.D.Drive.told c.args.drive.now c.serve.new.drive) in
    subst P (one_form c.args.words.now c.in-Some.form form c.in-Some.ensures.some asked) (c.serve.ensures.answers.failed e)

pub returns-in-Some-clause-complete : goal.returns-in-Some-clause-complete
returns-in-Some-clause-complete g c form asked =
    let P : Form → Type 0 = λ f. Completes f c.serve.result (source_over g.S.Source.left g.S.Source.faults c.args.input.now c.serve.new.input)
    (sink_over g.K.Sink.held g.K.Sink.faults c.args.output.now c.serve.new.output) in
    subst P (one_form c.args.words.now c.in-Some.form form c.in-Some.ensures.some asked)
    (completes (command_of c.in-Some.form) (is_sound c.in-Some.form) c.serve.result _ _ _ c.serve.ensures.answers)
