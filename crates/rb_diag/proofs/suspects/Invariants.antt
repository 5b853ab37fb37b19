use Rattle.std.proofs.Common.{◌≡◌, ℕ, ◌&&◌, false, get_or}
use Rattle.rb_base.specs.{Counting.{count_if, numbers}, Nodes.has, declared.values.Heard.TheVariants.Fault}
use Rattle.rb_rules.specs.Conviction.{names}
use Rattle.rb_diag.proofs.suspects.Given as goal

-- no sender so far names a node that is not in the mask
abbrev pub invariant-loop-i : goal.invariant-loop-i
invariant-loop-i g l = (j : ℕ) → has l.named j ≡ false → count_if (λ i. has l.senders i && names j (get_or l.vectors i Fault)) (numbers l.i) ≡ 0
