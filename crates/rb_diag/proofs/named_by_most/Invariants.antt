use Rattle.std.proofs.Common.{◌≡◌, ◌&&◌, get_or}
use Rattle.rb_base.specs.{Nodes.has, declared.values.Heard.TheVariants.Fault}
use Rattle.rb_base.proofs.SetLoops.{passing_below}
use Rattle.rb_diag.specs.Votes.{most_against}
use Rattle.rb_diag.proofs.named_by_most.Given as goal

-- The nodes so far.
abbrev pub invariant-loop-j : goal.invariant-loop-j
invariant-loop-j g l = l.named ≡ passing_below l.j (λ j. has l.trusted j && most_against l.senders (λ i. get_or l.vectors i Fault) j)
