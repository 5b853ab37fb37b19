use Rattle.rb_world_traffic.proofs.EntryLists.{AreSoFar}
use Rattle.rb_world_traffic.proofs.entries.numbers_to.Given as goal

abbrev pub invariant-loop-sender : goal.invariant-loop-sender
invariant-loop-sender l = AreSoFar l.says l.to l.sender l.items.items
