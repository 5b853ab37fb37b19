-- The latest and the earliest of the times so far.
use Rattle.std.proofs.Common.{◌≡◌, ◌≤◌, take}
use Rattle.rb_run.proofs.Spreads.{earliest_of, latest_of}
use Rattle.rb_run.proofs.counting.spread.Given as goal

abbrev pub invariant-loop-node : goal.invariant-loop-node
invariant-loop-node l = record {
  latest : l.latest ≡ latest_of l.initial.latest (take l.node-index l.nodes);
  earliest : l.earliest ≡ earliest_of l.initial.latest (take l.node-index l.nodes);
  order : l.earliest ≤ l.latest;
}
