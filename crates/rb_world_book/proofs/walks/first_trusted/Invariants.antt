use Rattle.rb_world_book.proofs.Popped.{none_told}
use Rattle.rb_world_book.proofs.walks.first_trusted.Given as goal

abbrev pub invariant-loop-id : goal.invariant-loop-id
invariant-loop-id g l = none_told l.place l.count l.fn.good l.told l.left

abbrev pub decreases-loop-id : goal.decreases-loop-id
decreases-loop-id g l = l.left
