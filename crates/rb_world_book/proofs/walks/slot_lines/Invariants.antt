use Rattle.std.proofs.Common.{[]}
use Rattle.rb_base.specs.Nodes.{has}
use Rattle.rb_world_book.specs.Waiting.{line_of}
use Rattle.rb_world_book.proofs.Popped.{HasFollowed}
use Rattle.rb_world_book.proofs.walks.slot_lines.Given as goal

abbrev pub invariant-loop-id : goal.invariant-loop-id
invariant-loop-id g l = HasFollowed (λ i t. line_of l.place (has l.fn.good i) t) l.count l.fn.good l.left l.told [] l.lines.items

abbrev pub decreases-loop-id : goal.decreases-loop-id
decreases-loop-id g l = l.left
