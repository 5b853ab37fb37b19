use Rattle.std.proofs.Common.{not}
use Rattle.rb_world_book.specs.Telling.{has_told, told_at}
use Rattle.rb_world_book.proofs.Popped.{ArePassed, is_below}
use Rattle.rb_world_book.proofs.walks.waiting_for.Given as goal

abbrev pub invariant-loop-id : goal.invariant-loop-id
invariant-loop-id g l = ArePassed (is_below l.count l.fn.good) l.left l.waiting (λ i. not (has_told l.milestone (told_at l.told i)))

abbrev pub decreases-loop-id : goal.decreases-loop-id
decreases-loop-id g l = l.left
