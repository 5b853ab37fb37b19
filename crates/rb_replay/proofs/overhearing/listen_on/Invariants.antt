-- what was written and what is due are all that was due at first
use Rattle.std.proofs.Common.{◌≤◌, List, ℕ, length}
use Rattle.rb_replay.specs.{Advancing.Advances, ListeningOn.IsDue}
use Rattle.rb_replay.proofs.overhearing.listen_on.Given as goal

abbrev pub invariant-events : goal.invariant-events
invariant-events g l = record {
  due : (due : List ℕ) → IsDue l.fn.listener l.fn.name l.fn.first l.fn.log.events due
      → Advances (IsDue l.listener l.name l.begun l.log.events) due (g.S.Sink.held l.initial.output) (g.S.Sink.held l.output);
  later : g.S.Sink.faults l.initial.output ≤ g.S.Sink.faults l.output;
}

abbrev pub decreases-events : goal.decreases-events
decreases-events g l = length l.log.events
