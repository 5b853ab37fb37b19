use Rattle.std.proofs.Common.{not, nat_lt, ◌&&◌}
use Rattle.rb_base.specs.Nodes.{has}
use Rattle.rb_world_book.specs.Waiting.{was_taken, was_unlike}
use Rattle.rb_world_book.proofs.Popped.{ArePassed}
use Rattle.rb_world_book.proofs.group.Group.stage_sets.Given as goal

abbrev pub invariant-loop-source : goal.invariant-loop-source
invariant-loop-source g l = record {
  taken : ArePassed (λ j. nat_lt j l.count && not (has l.self.lasting j)) l.left l.taken (was_taken l.receivers l.others.good l.others.told);
  unlike : ArePassed (λ j. nat_lt j l.count && not (has l.self.lasting j)) l.left l.unlike (was_unlike l.eps l.receivers l.others.good l.others.told);
}

abbrev pub decreases-loop-source : goal.decreases-loop-source
decreases-loop-source g l = l.left
