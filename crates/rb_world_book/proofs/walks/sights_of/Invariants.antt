use Rattle.rb_world_book.specs.Telling.{see_of, told_at}
use Rattle.rb_world_book.proofs.Sights.{KeptSoFar}
use Rattle.rb_world_book.proofs.walks.sights_of.Given as goal

abbrev pub invariant-loop-receiver : goal.invariant-loop-receiver
invariant-loop-receiver g l = KeptSoFar l.eps l.receivers l.left (λ i. see_of (told_at l.told i) l.source) l.sights

abbrev pub decreases-loop-receiver : goal.decreases-loop-receiver
decreases-loop-receiver g l = l.left
