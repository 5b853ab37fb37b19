use Rattle.std.proofs.Common.{rules}
use Rattle.std.specs.Io.KnownBytes.{Appends}
use Rattle.rb_log.specs.Header.{header_of}
use Rattle.rb_record.specs.Recording.{WritesAll, WritesPart, timetable_of}
use Rattle.rb_record.proofs.Writing.{all-written, end-part, header-part, held-as, on-err, records-part}
use Rattle.rb_record.proofs.recording.record.Goals as goal

pub returns-in_err-write_header-clause-part : goal.returns-in_err-write_header-clause-part
returns-in_err-write_header-clause-part g c =
    on-err c.from_residual.result
    (header-part c.args.world.now.bus c.args.node (g.K.Sink.held c.args.output.now) (g.K.Sink.held c.write_header.new.output) c.requires.begin.lawful c.requires.begin.listed c.in_err-write_header.ensures.part)

pub returns-in_err-ending-clause-part : goal.returns-in_err-ending-clause-part
returns-in_err-ending-clause-part g c =
    let held = g.K.Sink.held c.args.output.now in
    let header =
    held-as g.K.Sink.held (λ since. Appends held since (header_of (timetable_of c.args.world.now.bus) c.args.node)) c.new-recorder.result.output.now c.write_header.new.output
    c.new-recorder.ensures.output c.in_ok-write_header.ensures.all in
    on-err c.from_residual-in_err-ending.result
    (held-as g.K.Sink.held (WritesPart c.args.world.now.bus c.args.node held) _ c.record_run.new.recorder.output.now (search rules)
    (records-part c.args.world.now.bus c.args.node held (g.K.Sink.held c.new-recorder.result.output.now) (g.K.Sink.held c.record_run.new.recorder.output.now) header c.in_err-ending.ensures.recorded))

pub returns-in_err-end-clause-part : goal.returns-in_err-end-clause-part
returns-in_err-end-clause-part g c =
    let held = g.K.Sink.held c.args.output.now in
    let header =
    held-as g.K.Sink.held (λ since. Appends held since (header_of (timetable_of c.args.world.now.bus) c.args.node)) c.new-recorder.result.output.now c.write_header.new.output
    c.new-recorder.ensures.output c.in_ok-write_header.ensures.all in
    on-err c.from_residual-in_err-end.result
    (held-as g.K.Sink.held (WritesPart c.args.world.now.bus c.args.node held) _ c.end.new.self.output.now (search rules)
    (end-part c.args.world.now.bus c.args.node c.record_run.new.world c.record_run.new.recorder.log c.record_run.new.recorder.waiting held
    (g.K.Sink.held c.new-recorder.result.output.now) (g.K.Sink.held c.record_run.new.recorder.output.now) (g.K.Sink.held c.end.new.self.output.now)
    header c.in_ok-ending.ensures.recorded c.in_err-end.ensures.writes.part))

pub returns-clause-all : goal.returns-clause-all
returns-clause-all g c =
    let held = g.K.Sink.held c.args.output.now in
    let header =
    held-as g.K.Sink.held (λ since. Appends held since (header_of (timetable_of c.args.world.now.bus) c.args.node)) c.new-recorder.result.output.now c.write_header.new.output
    c.new-recorder.ensures.output c.in_ok-write_header.ensures.all in
    held-as g.K.Sink.held (WritesAll c.args.world.now.bus c.args.node held) _ c.end.new.self.output.now (search rules)
    (all-written c.args.world.now.bus c.args.node c.record_run.new.world c.record_run.new.recorder.log c.record_run.new.recorder.waiting held
    (g.K.Sink.held c.new-recorder.result.output.now) (g.K.Sink.held c.record_run.new.recorder.output.now) (g.K.Sink.held c.end.new.self.output.now)
    header c.in_ok-ending.ensures.recorded c.in_ok-end.ensures.writes.all)
