use Rattle.std.proofs.Common.{◌≡◌, ◌≤◌}
use Rattle.std.specs.Prelude.{IsOk}
use Rattle.rb_record.specs.Recording.{IsRecordedSoFar}
use Rattle.rb_record.proofs.recording.record_run.Given as goal

abbrev pub invariant-loop-passed : goal.invariant-loop-passed
invariant-loop-passed g l = record {
  recorded : IsRecordedSoFar l.initial.world.bus l.node l.passed l.world l.recorder.log l.recorder.waiting (g.K.Sink.held l.initial.recorder.output.now) (g.K.Sink.held l.recorder.output.now);
  written : IsOk l.recorder.written;
  frames : l.recorder.frames ≡ l.initial.world.bus.frames;
  later : g.K.Sink.faults l.initial.recorder.output.now ≤ g.K.Sink.faults l.recorder.output.now;
  same_output : l.recorder.output.ghost_name ≡ l.initial.recorder.output.ghost_name;
  bus : l.world.bus ≡ l.initial.world.bus;
}
