use Rattle.std.proofs.Common.{◌≡◌, length}
use Rattle.rb_base.specs.Nodes.{side_of}
use Rattle.rb_world.specs.Calm.{AreRestless}
use Rattle.rb_world.proofs.calm.restless_nodes.Given as goal

-- The nodes so far.
abbrev pub invariant-loop-i : goal.invariant-loop-i
invariant-loop-i g l = record {
  each : AreRestless l.onsets l.sayings (side_of g.K.Kind.CODE) l.i l.nodes;
  len : length l.nodes ≡ 16;
}
