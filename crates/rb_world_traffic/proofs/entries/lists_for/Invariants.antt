use Rattle.rb_base.specs.Nodes.{other}
use Rattle.rb_rules.specs.Lawful.{kind_of}
use Rattle.rb_world_traffic.specs.Saying.{AreOfKind}
use Rattle.rb_world_traffic.proofs.entries.lists_for.Given as goal

abbrev pub invariant-loop-i : goal.invariant-loop-i
invariant-loop-i l = AreOfKind l.says (other (kind_of l.sender)) l.i l.senders l.lists.items
