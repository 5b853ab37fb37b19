-- the text written and what is due are the text of the whole log
use Rattle.std.proofs.Common.{◌≤◌, ◌^◌, length}
use Rattle.rb_base.specs.Nodes.{side_of}
use Rattle.rb_laws_logs.specs.Replays.{replay_text}
use Rattle.rb_replay.specs.{Advancing.Advances, Replaying.IsDue}
use Rattle.rb_replay.proofs.replaying.replay_at.Given as goal

abbrev pub invariant-events : goal.invariant-events
invariant-events g l = record {
  due : Advances (IsDue (side_of g.K.Kind.CODE) l.node l.name l.frames l.log.events)
      (replay_text l.fn.log.timetable.sizes l.fn.log.timetable.plan l.fn.log.node l.fn.log.events)
      (g.S.Sink.held l.initial.output) (g.S.Sink.held l.output);
  most : l.node.had ≤ 2 ^ 31;
  later : g.S.Sink.faults l.initial.output ≤ g.S.Sink.faults l.output;
}

abbrev pub decreases-events : goal.decreases-events
decreases-events g l = length l.log.events
